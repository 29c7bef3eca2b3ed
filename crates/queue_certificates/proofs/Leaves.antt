-- What an instruction comes to from a leaf of a certificate that is accepted, and where an arrow leads.
use Rattle.std.proofs.Common.{ℕ, ◌<◌, ◌≤◌, ◌≡◌, inl, inr, Bool, true, Option, Some, None, List, [], ◌∷◌, length, refl, sym, ◌∙◌, ap, subst}
use Rattle.std.specs.Prelude.{map}
use Rattle.std.proofs.lemmas.Bool.{and_parts, ltb-true}
use Rattle.hart.specs.{HartState, advanced}
use Rattle.step_machine.specs.declared.events.Entry.{Entry}
use Rattle.step_machine.specs.Names.{HartOpeningValue, OpeningValue, access_of, number_read}
use Rattle.queue_certificates.specs.{View, AllCounts, ActsByCounts, kept_beside, Form, settled, KnownState, MeansAt, follow, instruction_at, loads_owned}
use Rattle.queue_certificates.specs.{next_received, next_told, loads_rest, tag_effect_of, QueueCertificate, queue_at, fields_at, tagged_at, own_of, HasFields}
use Rattle.queue_certificates.specs.{MeetsFields, SharesTold, MeansAll, part_of, state_at, told_beside, next_states, each_leads, arrow_leads, accepts, Arrow}
use Rattle.queue_certificates.proofs.Forms.{values_of}
use Rattle.queue_certificates.proofs.States.{means-arrow}
use Rattle.queue_certificates.proofs.Steps.{untold}
use Rattle.queue_certificates.proofs.Received.{none-follows}
use Rattle.queue_certificates.proofs.TagShares.{told-arrow}
use Rattle.queue_certificates.proofs.TagNext.{IsAmongTold}
use Rattle.queue_certificates.proofs.Told.{GoesTold, none-told, told-goes}
use Rattle.queue_certificates.proofs.Accepted.{fine, fine-tagged, past, OfHart, fields-received}

-- the states that may follow are those that would without fields and tags, or come of them
pub followed : (c : QueueCertificate) (h : ℕ) (code : List ℕ) (k : KnownState) (d : Form) (ts : List KnownState) → next_states c h code k d ≡ Some ts
    → (ks : List KnownState) × (follow (queue_at c) (length c.queues) (own_of c) (length c.harts) h k d (instruction_at code k.pc) ≡ Some ks)
followed c h code k d ts is =
    by (follow (queue_at c) (length c.queues) (own_of c) (length c.harts) h k d (instruction_at code k.pc)) refl
  where
    told : Option (List KnownState) → Option (List KnownState)
    told next = next_told (tagged_at c) (length c.tagged) (queue_at c) (length c.queues) (own_of c) (length c.harts) h k (instruction_at code k.pc) next

    received : Option (List KnownState) → Option (List KnownState)
    received next = next_received (queue_at c) (fields_at c) (length c.queues) h k (instruction_at code k.pc) next

    by : (ks : Option (List KnownState)) → follow (queue_at c) (length c.queues) (own_of c) (length c.harts) h k d (instruction_at code k.pc) ≡ ks
        → (ks : List KnownState) × (follow (queue_at c) (length c.queues) (own_of c) (length c.harts) h k d (instruction_at code k.pc) ≡ Some ks)
    by (Some ks) found = (ks, found)
    by None found = some (received None) refl
      where
        some : (ks : Option (List KnownState)) → received None ≡ ks
            → (ks : List KnownState) × (follow (queue_at c) (length c.queues) (own_of c) (length c.harts) h k d (instruction_at code k.pc) ≡ Some ks)
        some None none = absurd (none-told (tagged_at c) (length c.tagged) (queue_at c) (length c.queues) (own_of c) (length c.harts) h k
            (instruction_at code k.pc) ts (ap told (sym (ap received found ∙ none)) ∙ is))
        some (Some ks) got = absurd (none-follows (queue_at c) (fields_at c) (length c.queues) (own_of c) (length c.harts) h k
            (instruction_at code k.pc) ks got)

-- one of these states says all that is so, over one variable more than there are
abbrev pub IsAmongAll : QueueCertificate → (h : ℕ) → List ℕ → List KnownState → HartState → View → (cs us : AllCounts) → Type 0
IsAmongAll c h xs ks s m cs us = IsAmongTold (tagged_at c) (length c.tagged) (queue_at c) (length c.queues) (own_of c) (length c.harts) h xs ks s m cs us

arrow-means : (c : QueueCertificate) (h : ℕ) (ys : List ℕ) (k t : KnownState) (gs : List Form) (s : HartState) (m : View) (cs us : AllCounts)
    → arrow_leads (queue_at c) (length c.queues) (length c.tagged) k t gs ≡ true
    → MeansAt (queue_at c) (length c.queues) (own_of c h) h ys k s m cs → SharesTold c h ys k us → MeansAll c h t s m cs us
arrow-means c h ys k t gs s m cs us ok means told = (
  values_of (map (settled k.ranges) gs) ys,
  means-arrow (queue_at c) (length c.queues) (own_of c h) h (length c.tagged) ys k t gs s m cs ok means,
  told-arrow (tagged_at c) (length c.tagged) (queue_at c) (length c.queues) (own_of c) (length c.harts) h ys k t gs us means.ranges ok told,
)

-- a listed state to which an arrow leads, and of which is so what was checked of each arrow
pub record Led (c : QueueCertificate) (h : ℕ) (arrows : List Arrow) (z : HartState) (m : View) (cs us : AllCounts) : Type 0 where
  pub state : ℕ
  pub listed : state < length (part_of c h).states
  pub means : MeansAll c h (state_at c h state).known z m cs us
  pub passes : (all : List Arrow → Bool) (f : ℕ → Bool)
      → ((b : Arrow) (bs : List Arrow) → all (b ∷ bs) ≡ true → (f b.to ≡ true) × (all bs ≡ true)) → all arrows ≡ true → f state ≡ true

pub among-leads : (c : QueueCertificate) (h : ℕ) (xs : List ℕ) (ks : List KnownState) (arrows : List Arrow) (z : HartState) (m : View)
    (cs us : AllCounts) → each_leads c h ks arrows ≡ true → IsAmongAll c h xs ks z m cs us → Led c h arrows z m cs us
among-leads c h xs [] arrows z m cs us ok w = absurd w
among-leads c h xs (k ∷ ks) [] z m cs us ok w = absurd (cc)
among-leads c h xs (k ∷ ks) (a ∷ arrows) z m cs us ok (inl w) = let to = and_parts _ _ (and_parts _ _ ok).0 in record {
  state = a.to;
  listed = ltb-true a.to (length (part_of c h).states) to.0;
  means = arrow-means c h (w.0 ∷ xs) k (state_at c h a.to).known a.forms z m cs us to.1 w.1 w.2;
  passes = λ all f each passed. (each a arrows passed).0;
}
among-leads c h xs (k ∷ ks) (a ∷ arrows) z m cs us ok (inr w) =
    let later = among-leads c h xs ks arrows z m cs us (and_parts _ _ ok).1 w in record {
      state = later.state;
      listed = later.listed;
      means = later.means;
      passes = λ all f each passed. later.passes all f each (each a arrows passed).1;
    }

module _ (M : ℕ) (o : OpeningValue) (c : QueueCertificate) (ok : accepts o c ≡ true) (h : ℕ) (x : HartOpeningValue) (of : OfHart M o c ok h x)
    (s : HartState) (m : View) (cs us : AllCounts) (e : Entry)
    (acts : ActsByCounts M o (length c.queues) (queue_at c) (HasFields c) (MeetsFields c) h s m cs e) (knows : (kept_beside (told_beside c)).Knows h us m)
    (code : s.code ≡ x.code) (size : length s.registers ≡ length x.registers) where
  pub leaf-goes : (k : KnownState) (d : Form) (xs : List ℕ) (ts : List KnownState) → MeansAt (queue_at c) (length c.queues) (own_of c h) h xs k s m cs
      → SharesTold c h xs k us → next_states c h x.code k d ≡ Some ts
      → GoesTold (tagged_at c) (length c.tagged) (queue_at c) (length c.queues) (own_of c) (length c.harts) h
      (λ i. loads_owned (queue_at c) k i (instruction_at s.code s.pc))
      (λ t. loads_rest (tagged_at c) (queue_at c) (length c.queues) k t (instruction_at s.code s.pc))
      (λ t. tag_effect_of (tagged_at c) (length c.tagged) (queue_at c) (length c.queues) h t k (instruction_at s.code s.pc))
      xs ts m cs us (access_of e) (advanced s (number_read e))
  leaf-goes k d xs ts means told next = told-goes M o (queue_at c) (length c.queues) (own_of c) (length c.harts) h xs k s m cs e
      (untold M o (length c.queues) (queue_at c) (HasFields c) (MeetsFields c) h s m cs e acts) (subst (λ n. 32 ≤ n) (sym size) of.registers)
      (fine M o c ok) means (fields_at c) (fields-received M o c h s m cs e acts)
      (tagged_at c) (length c.tagged) us (fine-tagged M o c ok) knows told (past M o c ok) d ts (ap (λ ws. next_states c h ws k d) code ∙ next)
