-- What is accepted is certified: the states of a certificate are closed, and keep the protocol of each queue.
use Rattle.std.proofs.Common.{arith, ℕ, ◌-◌, ◌+◌, ◌*◌, ◌<◌, ◌≤◌, ◌≡◌, ◌≢◌, ◌==◌, ◌||◌, inl, inr, Bool, true, false, Option, Some, None, List, [], length}
use Rattle.std.proofs.Common.{get_or, refl, sym, ◌∙◌, ap, subst}
use Rattle.std.proofs.lemmas.Bool.{and_parts, or_cases, eqb-true, eq-eqb}
use Rattle.std.proofs.lemmas.Option.{get_or_from_slice_get}
use Rattle.std.proofs.lemmas.List.Elements.{All-get_or, All-from_get_or}
use Rattle.rv_decode.specs.declared.instruction.Instr.{Instr}
use Rattle.hart.specs.{HartState, advanced}
use Rattle.hart.specs.declared.status.Status.TheVariants as status
use Rattle.step_machine.specs.declared.events.Entry.{Entry}
use Rattle.step_machine.specs.Names.{HartOpeningValue, OpeningValue, Access, access_of, opening_byte, number_read}
use Rattle.store_buffers.specs.StoreBuffers.{LeavesByteBy}
use Rattle.queue_parties.specs.{Party, the_sender, the_receiver, all_at, IsInBytes}
use Rattle.queue_parties.proofs.Positions.{slot-within}
use Rattle.queue_parties.proofs.Parties.{Whose, mine as is_party, theirs as is_third, whose}
use Rattle.slot_queue.specs.{IsByteOf, slot_of, hart, party_of, after_access, KeepsAccess}
use Rattle.slots_that_tell.specs.Telling.{teller_hart, told_access, TellsAccess}
use Rattle.queue_certificates.specs.{LoadsRestOwned, View, AllCounts, view_then, ActsByCounts, IsSameFor, LoadsOwned, kept_beside, MeetsField, Form, KnownValue}
use Rattle.queue_certificates.specs.{KnownState, MeansAt, own_at, all_below, follow, instruction_at, loads_owned, effect_of, value_stored, Effect, Arrow}
use Rattle.queue_certificates.specs.{QueueCertificate, queue_at, start_at, part_of, own_of, state_at, no_hart, fields_at, field_of, HasFields, MeetsFields}
use Rattle.queue_certificates.specs.{IsOwnByte, AreFilled, IsAtState, next_states, arrows_fill, effect_sends, keeps_records, keeps_fields, Certifies}
use Rattle.queue_certificates.specs.{CertifiesLoads, all_lead, owns_loads, accepts, accepts_loads, tagged_at, SharesTold, told_beside, owns_rest, accepts_rest}
use Rattle.queue_certificates.specs.{party_in, loads_rest}
use Rattle.queue_certificates.specs.Filled.{Filled, no_field, is_filled_after, are_so, most_published, may_send}
use Rattle.queue_layouts.specs.Tagged.{slots_of}
use Rattle.queue_certificates.proofs.States.{at-below, means-frame, kept-number}
use Rattle.queue_certificates.proofs.Accesses.{hart-party}
use Rattle.queue_certificates.proofs.TagShares.{told-opens, told-frame}
use Rattle.queue_certificates.proofs.Accepted.{fine, fields-fine, fine-tagged, past, OfHart, of-hart, opens-means}
use Rattle.queue_certificates.proofs.AtLeaf.{at-leaf}
use Rattle.queue_certificates.proofs.Leaves.{followed, among-leads, leaf-goes}
use Rattle.queue_certificates.proofs.Steps.{nobody_told, nothing_sent, untold}
use Rattle.queue_certificates.proofs.Filled.{field-fits, so-at, sent-at}
use Rattle.queue_certificates.proofs.Effects.{published_then, Does, right-after}
use Rattle.queue_certificates.proofs.Sends.{state-does}
use Rattle.queue_certificates.proofs.Takes.{third-leaves, state-leaves}

module _ (M : ℕ) (o : OpeningValue) (c : QueueCertificate) (ok : accepts o c ≡ true) where
  -- ---- a step from a state of the certificate

  record Went (h : ℕ) (m : View) (cs us : AllCounts) (y : Access) (z : HartState) (owns rests : ℕ → Bool) : Type 0 where
    next : IsAtState c h z (view_then y m) (λ i. after_access (queue_at c i) (party_of (queue_at c i) h) y (cs i))
        (λ t. told_access (slots_of (tagged_at c t)) (party_in (tagged_at c t) h) y (us t))
    keeps : (i : ℕ) → i < length c.queues → KeepsAccess (queue_at c i) (party_of (queue_at c i) h) (cs i) y
    apart : (g x : ℕ) → g ≢ h → (j : ℕ) → j < length (own_of c g) → (own_at (own_of c g) j).at ≤ x
        → x < (own_at (own_of c g) j).at + (own_at (own_of c g) j).width → LeavesByteBy x y
    loads : (i : ℕ) → i < length c.queues → owns i ≡ true → (p : Party) → h ≡ hart (queue_at c i) p → LoadsOwned (queue_at c i) p (cs i) y
    sends : (i : ℕ) → i < length c.queues → HasFields c i → h ≡ (queue_at c i).sender → (k : ℕ) → (cs i).published ≤ k
        → k < (after_access (queue_at c i) (party_of (queue_at c i) h) y (cs i)).published → MeetsFields c i k m
    takes : (i : ℕ) → i < length c.queues → HasFields c i → h ≡ (queue_at c i).receiver → (x : ℕ)
        → IsInBytes (queue_at c i).slots ((queue_at c i).size * (queue_at c i).width) x → LeavesByteBy x y
    tells : (t : ℕ) → t < length c.tagged → TellsAccess (slots_of (tagged_at c t)) (party_in (tagged_at c t) h) (us t) y
    rest : (t : ℕ) → t < length c.tagged → rests t ≡ true → (p : Party) → h ≡ teller_hart (slots_of (tagged_at c t)) p
        → LoadsRestOwned (slots_of (tagged_at c t)) p (us t) y

  module _ (h : ℕ) (x : HartOpeningValue) (of : OfHart M o c ok h x) (s : HartState) (m : View) (cs us : AllCounts) (e : Entry)
      (acts : ActsByCounts M o (length c.queues) (queue_at c) (HasFields c) (MeetsFields c) h s m cs e) (knows : (kept_beside (told_beside c)).Knows h us m)
      (code : s.code ≡ x.code) (size : length s.registers ≡ length x.registers) where
    plain-acts : ActsByCounts M o (length c.queues) (queue_at c) nobody_told nothing_sent h s m cs e
    plain-acts = untold M o (length c.queues) (queue_at c) (HasFields c) (MeetsFields c) h s m cs e acts

    wide : 32 ≤ length s.registers
    wide = subst (λ n. 32 ≤ n) (sym size) of.registers

    -- ---- a case of a state

    module _ (k : KnownState) (d : Form) (arrows : List Arrow) (xs : List ℕ) (filled : List Filled)
        (means : MeansAt (queue_at c) (length c.queues) (own_of c h) h xs k s m cs) (right : AreFilled c h filled m cs) (ks : List KnownState)
        (found : follow (queue_at c) (length c.queues) (own_of c) (length c.harts) h k d (instruction_at s.code k.pc) ≡ Some ks)
        (keeps : (i : ℕ) → i < length c.queues → HasFields c i
        → keeps_records c h i (party_of (queue_at c i) h) (get_or filled i []) k d arrows (instruction_at s.code k.pc) ≡ true) where
      abbrev stored-as : ℕ → KnownValue
      stored-as i = value_stored (queue_at c) k (instruction_at s.code k.pc)

      -- the effect on a queue to which the hart sends
      record HasEffect (i : ℕ) : Type 0 where
        effect : Effect
        does : Does (queue_at c i) (cs i) k.ranges (stored-as i) m effect (access_of e) (advanced s (number_read e))
        may : may_send (queue_at c i).size (fields_at c i) (get_or filled i []) effect ≡ true
        fill : arrows_fill c h i arrows
            (is_filled_after k.ranges (queue_at c i) (fields_at c i) (stored-as i) (get_or filled i []) effect) ≡ true

      has-effect : (i : ℕ) → i < length c.queues → HasFields c i → h ≡ (queue_at c i).sender → HasEffect i
      has-effect i less told mine =
          by (effect_of (queue_at c) (length c.queues) i k d (instruction_at s.code k.pc)) refl
          (subst (λ t. keeps_records c h i t (get_or filled i []) k d arrows (instruction_at s.code k.pc) ≡ true)
          (hart-party (queue_at c i) (fine M o c ok i less).0 h the_sender mine) (keeps i less told))
        where
          by : (f : Option Effect) → effect_of (queue_at c) (length c.queues) i k d (instruction_at s.code k.pc) ≡ f
              → effect_sends c h i (get_or filled i []) k arrows (stored-as i) f ≡ true → HasEffect i
          by None is sends = absurd (cc)
          by (Some f) is sends =
              let parts = and_parts (may_send (queue_at c i).size (fields_at c i) (get_or filled i []) f)
              (arrows_fill c h i arrows (is_filled_after k.ranges (queue_at c i) (fields_at c i) (stored-as i) (get_or filled i []) f)) sends in
              record {
                effect = f;
                does = subst (λ g. ActsByCounts M o (length c.queues) (queue_at c) nobody_told nothing_sent g s m cs e
                    → MeansAt (queue_at c) (length c.queues) (own_of c g) g xs k s m cs
                    → follow (queue_at c) (length c.queues) (own_of c) (length c.harts) g k d (instruction_at s.code k.pc) ≡ Some ks
                    → Does (queue_at c i) (cs i) k.ranges (stored-as i) m f (access_of e) (advanced s (number_read e))) (sym mine)
                    (λ a w follows. state-does M o (queue_at c) (length c.queues) (own_of c) (length c.harts) i less xs k s m cs e a wide (fine M o c ok) w
                    (past M o c ok) d f ks follows is) plain-acts means found;
                may = parts.0;
                fill = parts.1;
              }

      -- what is published has its fields
      case-sends : (i : ℕ) → i < length c.queues → HasFields c i → h ≡ (queue_at c i).sender → (p : ℕ) → (cs i).published ≤ p
          → p < (after_access (queue_at c i) (party_of (queue_at c i) h) (access_of e) (cs i)).published → MeetsFields c i p m
      case-sends i less told mine p from below =
          let w = has-effect i less told mine in
          let upto : published_then (queue_at c i) (cs i) (access_of e) ≤ (cs i).published + most_published w.effect = w.does.upto in
          let under : p < published_then (queue_at c i) (cs i) (access_of e) =
          subst (λ t. p < (after_access (queue_at c i) t (access_of e) (cs i)).published)
          (hart-party (queue_at c i) (fine M o c ok i less).0 h the_sender mine) below in
          let place : (cs i).published + (p - (cs i).published) ≡ p = omega (arith, from) in
          All-from_get_or (MeetsField (queue_at c i) p m) (fields_at c i) no_field (λ j listed. subst
          (λ n. MeetsField (queue_at c i) n m (get_or (fields_at c i) j no_field)) place
          (right i less told mine (p - (cs i).published) j
          (sent-at (queue_at c i).size (fields_at c i) (get_or filled i []) w.effect w.may (p - (cs i).published) (omega (arith, from, under, upto)) j listed)))

      case-takes : (i : ℕ) → i < length c.queues → HasFields c i → h ≡ (queue_at c i).receiver → (y : ℕ)
          → IsInBytes (queue_at c i).slots ((queue_at c i).size * (queue_at c i).width) y → LeavesByteBy y (access_of e)
      case-takes i less told mine y in-slots = state-leaves M o c h i xs k s m cs e plain-acts wide (fine M o c ok) means y in-slots d ks found
          (subst (λ t. keeps_records c h i t (get_or filled i []) k d arrows (instruction_at s.code k.pc) ≡ true)
          (hart-party (queue_at c i) (fine M o c ok i less).0 h the_receiver mine) (keeps i less told))

      -- and what is right after it is so in the next state
      case-fills : (advanced s (number_read e)).status ≡ status.Running → (t : List Filled)
          → ((i : ℕ) (f : ℕ → ℕ → Bool) → arrows_fill c h i arrows f ≡ true → are_so (get_or t i []) f ≡ true)
          → AreFilled c h t (view_then (access_of e) m) (λ i. after_access (queue_at c i) (party_of (queue_at c i) h) (access_of e) (cs i))
      case-fills runs t so i less told mine n j yes-filled =
          let w = has-effect i less told mine in
          subst (λ r. MeetsField (queue_at c i) ((after_access (queue_at c i) r (access_of e) (cs i)).published + n)
          (view_then (access_of e) m) (field_of c i j))
          (sym (hart-party (queue_at c i) (fine M o c ok i less).0 h the_sender mine))
          (right-after (queue_at c i) (fine M o c ok i less).0 (fields_at c i) (fields-fine M o c ok i less) (queue_at c) (cs i) k.ranges (stored-as i) m
          (access_of e)
          (get_or filled i []) w.effect (w.does.done runs) (λ d j. right i less told mine d j) n j
          (so-at (queue_at c i).size (get_or t i []) (is_filled_after k.ranges (queue_at c i) (fields_at c i) (stored-as i) (get_or filled i []) w.effect)
          (so i (is_filled_after k.ranges (queue_at c i) (fields_at c i) (stored-as i) (get_or filled i []) w.effect) w.fill) n j yes-filled))

    -- at a leaf
    went : (owns rests : ℕ → Bool) (filled : List Filled) (k : KnownState) (d : Form) (arrows : List Arrow) (xs : List ℕ)
        → all_lead c h (next_states c h x.code k d) arrows ≡ true
        → ((i : ℕ) → owns i ≡ true → loads_owned (queue_at c) k i (instruction_at x.code k.pc) ≡ true)
        → ((j : ℕ) → rests j ≡ true → loads_rest (tagged_at c) (queue_at c) (length c.queues) k j (instruction_at x.code k.pc) ≡ true)
        → ((i : ℕ) → i < length c.queues → HasFields c i
        → keeps_records c h i (party_of (queue_at c i) h) (get_or filled i []) k d arrows (instruction_at x.code k.pc) ≡ true)
        → AreFilled c h filled m cs → MeansAt (queue_at c) (length c.queues) (own_of c h) h xs k s m cs → SharesTold c h xs k us
        → Went h m cs us (access_of e) (advanced s (number_read e)) owns rests
    went owns rests filled k d arrows xs leads owned rested keeps right means told = by (next_states c h x.code k d) refl leads
      where
        here : {A : Type 0} (f : Option Instr → A) → f (instruction_at x.code k.pc) ≡ f (instruction_at s.code k.pc)
        here f = ap (λ ws. f (instruction_at ws k.pc)) (sym code)

        -- the same of what the pc says
        said : (f : Option Instr → Bool) → f (instruction_at x.code k.pc) ≡ true → f (instruction_at s.code s.pc) ≡ true
        said f is = subst (λ ws. f (instruction_at ws s.pc) ≡ true) (sym code) (subst (λ n. f (instruction_at x.code n) ≡ true) (sym means.pc) is)

        by : (ts : Option (List KnownState)) → next_states c h x.code k d ≡ ts → all_lead c h ts arrows ≡ true
            → Went h m cs us (access_of e) (advanced s (number_read e)) owns rests
        by None may leads = absurd (cc)
        by (Some ts) may leads =
            let next = followed c h x.code k d ts may in
            let found : follow (queue_at c) (length c.queues) (own_of c) (length c.harts) h k d (instruction_at s.code k.pc) ≡ Some next.0 =
            sym (here (follow (queue_at c) (length c.queues) (own_of c) (length c.harts) h k d)) ∙ next.1 in
            let records : (i : ℕ) → i < length c.queues → HasFields c i
            → keeps_records c h i (party_of (queue_at c i) h) (get_or filled i []) k d arrows (instruction_at s.code k.pc) ≡ true =
            λ i less told. sym (here (keeps_records c h i (party_of (queue_at c i) h) (get_or filled i []) k d arrows)) ∙ keeps i less told in
            let g = leaf-goes M o c ok h x of s m cs us e acts knows code size k d xs ts means told may in
            record {
              next = λ runs. (let w = among-leads c h xs ts arrows (advanced s (number_read e)) (view_then (access_of e) m)
                  (λ i. after_access (queue_at c i) (party_of (queue_at c i) h) (access_of e) (cs i))
                  (λ j. told_access (slots_of (tagged_at c j)) (party_in (tagged_at c j) h) (access_of e) (us j)) leads (g.next runs) in (
                    w.state,
                    w.listed,
                    w.means,
                    case-fills k d arrows xs filled means right next.0 found records runs (state_at c h w.state).filled
                        (λ i f fill. w.passes (λ bs. arrows_fill c h i bs f) (λ n. are_so (get_or (state_at c h n).filled i []) f)
                        (λ b bs ok. and_parts _ _ ok) fill),
                  ));
              keeps = g.keeps;
              apart = g.apart;
              loads = λ i less own p mine. g.loads i less
                  (said (loads_owned (queue_at c) k i) (owned i own)) p mine;
              sends = case-sends k d arrows xs filled means right next.0 found records;
              takes = case-takes k d arrows xs filled means right next.0 found records;
              tells = g.tells;
              rest = λ j less is p mine. g.rest j less
                  (said (loads_rest (tagged_at c) (queue_at c) (length c.queues) k j) (rested j is)) p mine;
            }

  -- what is asked where a queue has fields
  asked : (i : ℕ) (b : Bool) → HasFields c i → ((length (fields_at c i) == 0) || b) ≡ true → b ≡ true
  asked i b told ok = grind (arith, or_cases, eqb-true)

  -- of a hart that acts
  abbrev Knows : (h : ℕ) → (us : AllCounts) → View → Type 0
  Knows h us m = (kept_beside (told_beside c)).Knows h us m

  goes-on : (owns rests : ℕ → Bool) (h : ℕ) (s : HartState) (m : View) (cs us : AllCounts) (e : Entry) → IsAtState c h s m cs us
      → ActsByCounts M o (length c.queues) (queue_at c) (HasFields c) (MeetsFields c) h s m cs e → Knows h us m
      → ((i : ℕ) → owns i ≡ true → accepts_loads o c i h ≡ true) → ((t : ℕ) → rests t ≡ true → accepts_rest o c t h ≡ true)
      → Went h m cs us (access_of e) (advanced s (number_read e)) owns rests
  goes-on owns rests h s m cs us e in' a knows owned rested =
      let w = in' a.can.running in
      let of = of-hart M o c ok h a.opens a.is in
      let opens = get_or_from_slice_get o.harts h a.opens no_hart a.is in
      let code : List ℕ = a.opens.code in
      let filled : List Filled = (state_at c h w.0).filled in
      let at = at-leaf c h s m cs w.2.0 (state_at c h w.0).known (state_at c h w.0).cases w.2.1 in
      went h a.opens of s m cs us e a knows a.code a.size owns rests filled at.known at.handed at.arrows at.numbers
      (at.passes (λ k d arrows. all_lead c h (next_states c h code k d) arrows) (of.closed w.0 w.1))
      (λ i own. at.passes (λ k d arrows. loads_owned (queue_at c) k i (instruction_at code k.pc))
      (at-below (length (part_of c h).states) (λ n. owns_loads c code i (state_at c h n).known (state_at c h n).cases)
      (subst (λ y. all_below (length (part_of c h).states)
      (λ n. owns_loads c y.code i (state_at c h n).known (state_at c h n).cases) ≡ true) opens (owned i own)) w.0 w.1))
      (λ t is. at.passes (λ k d arrows. loads_rest (tagged_at c) (queue_at c) (length c.queues) k t (instruction_at code k.pc))
      (at-below (length (part_of c h).states) (λ n. owns_rest c code t (state_at c h n).known (state_at c h n).cases)
      (subst (λ y. all_below (length (part_of c h).states)
      (λ n. owns_rest c y.code t (state_at c h n).known (state_at c h n).cases) ≡ true) opens (rested t is)) w.0 w.1))
      (λ i less told. at.passes
      (λ k d arrows. keeps_records c h i (party_of (queue_at c i) h) (get_or filled i []) k d arrows (instruction_at code k.pc))
      (asked i (keeps_fields c h code i (get_or filled i []) (state_at c h w.0).known (state_at c h w.0).cases) told
      (at-below (length c.queues) (λ i. (length (fields_at c i) == 0)
      || keeps_fields c h code i (get_or filled i []) (state_at c h w.0).known (state_at c h w.0).cases) (of.keeps w.0 w.1) i less)))
      w.3 at.means (at.told us w.2.2)

  abbrev none_owned : ℕ → Bool
  none_owned i = false

  goes : (h : ℕ) (s : HartState) (m : View) (cs us : AllCounts) (e : Entry) → IsAtState c h s m cs us
      → ActsByCounts M o (length c.queues) (queue_at c) (HasFields c) (MeetsFields c) h s m cs e → Knows h us m
      → Went h m cs us (access_of e) (advanced s (number_read e)) none_owned none_owned
  goes h s m cs us e in' a knows = goes-on none_owned none_owned h s m cs us e in' a knows (λ i no-way. absurd (cc)) (λ t no-way. absurd (cc))

  -- no other hart writes a hart's own bytes
  goes-apart : (h : ℕ) (s : HartState) (m : View) (cs us : AllCounts) (e : Entry) → IsAtState c h s m cs us
      → ActsByCounts M o (length c.queues) (queue_at c) (HasFields c) (MeetsFields c) h s m cs e → Knows h us m
      → (g x : ℕ) → g ≢ h → IsOwnByte c g x → LeavesByteBy x (access_of e)
  goes-apart h s m cs us e in' a knows g x far (inl own) = (goes h s m cs us e in' a knows).apart g x far own.0 own.1 own.2.0 own.2.1
  goes-apart h s m cs us e in' a knows g x far (inr sent) = by (whose (queue_at c sent.0).sender (queue_at c sent.0).receiver h)
    where
      by : Whose (queue_at c sent.0).sender (queue_at c sent.0).receiver h → LeavesByteBy x (access_of e)
      by (is_party the_sender at of) = absurd (far (sent.3 ∙ sym at))
      by (is_party the_receiver at of) = (goes h s m cs us e in' a knows).takes sent.0 sent.1 sent.2 at x sent.4
      by (is_third away none) = third-leaves (queue_at c sent.0) (cs sent.0) (access_of e) x
          (subst (λ t. KeepsAccess (queue_at c sent.0) t (cs sent.0) (access_of e)) none ((goes h s m cs us e in' a knows).keeps sent.0 sent.1)) sent.4

  -- a field's number is that of the slot's bytes
  field-frame : (i k j : ℕ) → i < length c.queues → (m n : View) → ((x : ℕ) → IsByteOf (queue_at c i) k x → n x ≡ m x)
      → MeetsField (queue_at c i) k m (field_of c i j) → MeetsField (queue_at c i) k n (field_of c i j)
  field-frame i k j less m n same meets = (
    meets.0,
    meets.1,
    kept-number m n (slot_of (queue_at c i) k + (field_of c i j).at) (field_of c i j).width (λ x low high. same x
        (omega (arith, low), (let f = field-fits (queue_at c i) (fields_at c i) (fields-fine M o c ok i less) j in omega (arith, high, f.0)))) ∙ meets.2,
  )

  filled-frame : (h : ℕ) (filled : List Filled) (m n : View) (cs ds : AllCounts) → AreFilled c h filled m cs
      → ((x : ℕ) → IsOwnByte c h x → n x ≡ m x) → ((i : ℕ) → i < length c.queues → IsSameFor (queue_at c i) h (cs i) (ds i)) → AreFilled c h filled n ds
  filled-frame h filled m n cs ds right bytes same i less told mine d j yes-filled =
      subst (λ k. MeetsField (queue_at c i) (k + d) n (field_of c i j)) (sym ((same i less).count the_sender mine))
      (field-frame i ((cs i).published + d) j less m n (λ x of. bytes x (inr (
        i,
        less,
        told,
        mine,
        slot-within (queue_at c i).slots (queue_at c i).width
            (queue_at c i).size (fine M o c ok i less).0.some ((cs i).published + d) x of,
      ))) (right i less told mine d j yes-filled))

  opens-filled : (h : ℕ) (x : HartOpeningValue) → OfHart M o c ok h x → (m : View) (cs : AllCounts)
      → AreFilled c h (state_at c h (part_of c h).first).filled m cs
  opens-filled h x of m cs i less told mine d j yes-filled = absurd (
      let none : are_so (get_or (state_at c h (part_of c h).first).filled i []) (λ d j. false) ≡ true =
      asked i (are_so (get_or (state_at c h (part_of c h).first).filled i []) (λ d j. false)) told
      (at-below (length c.queues) (λ i. (length (fields_at c i) == 0) || are_so (get_or (state_at c h (part_of c h).first).filled i []) (λ d j. false))
      of.unfilled i less) in
      let no-way : false ≡ true = so-at (queue_at c i).size (get_or (state_at c h (part_of c h).first).filled i []) (λ d j. false) none d j yes-filled in
      cc)

  pub accepted-certifies : Certifies M o c
  accepted-certifies = record {
    frame = λ h s m n cs ds us vs in' bytes same told runs. (let w = in' runs in (
      w.0,
      w.1,
      (
        w.2.0,
        means-frame (queue_at c) (length c.queues) (own_of c h) h w.2.0 (state_at c h w.0).known
            s m n cs ds w.2.1 (λ j x less low high. bytes x (inl (j, less, (low, high)))) same,
        told-frame (tagged_at c) (length c.tagged) (queue_at c) (length c.queues) (own_of c) (length c.harts) h w.2.0 (state_at c h w.0).known
            us vs w.2.2 told,
      ),
      filled-frame h (state_at c h w.0).filled m n cs ds w.3 bytes same,
    ));
    opens = λ h x is runs. (let of = of-hart M o c ok h x is in (
      (part_of c h).first,
      of.first,
      (
        (part_of c h).numbers,
        opens-means M o c ok h x (state_at c h (part_of c h).first).known (part_of c h).numbers of.opens,
        told-opens c h (state_at c h (part_of c h).first).known (part_of c h).numbers (fine-tagged M o c ok) of.told,
      ),
      opens-filled h x of (opening_byte o) (λ i. all_at (start_at c i)),
    ));
    steps = λ h s m cs us e in' a knows. (goes h s m cs us e in' a knows).next;
    writes = λ h s m cs us e in' a knows. (goes h s m cs us e in' a knows).keeps;
    keeps = λ h s m cs us e in' a knows. (goes h s m cs us e in' a knows).tells;
    apart = λ h s m cs us e in' a knows g x far own. goes-apart h s m cs us e in' a knows g x far own;
    record_frame = λ i k less told m n same sent. All-from_get_or (MeetsField (queue_at c i) k n) (fields_at c i) no_field
        (λ j listed. field-frame i k j less m n same (All-get_or (MeetsField (queue_at c i) k m) (fields_at c i) j no_field listed sent));
    publishes = λ h s m cs us e in' a knows i less told mine k from below. (goes h s m cs us e in' a knows).sends i less told mine k from below;
    takes = λ h s m cs us e in' a knows i less told mine k x of. (goes h s m cs us e in' a knows).takes i less told mine x
        (slot-within (queue_at c i).slots (queue_at c i).width (queue_at c i).size (fine M o c ok i less).0.some k x of);
  }

  pub accepted-loads : (i : ℕ) → i < length c.queues → (p : Party) → accepts_loads o c i (hart (queue_at c i) p) ≡ true → CertifiesLoads M o c i p
  accepted-loads i less p owned s m cs us e in' a knows =
      (goes-on (λ j. j == i) none_owned (hart (queue_at c i) p) s m cs us e in' a knows
      (λ j same. subst (λ n. accepts_loads o c n (hart (queue_at c i) p) ≡ true) (sym (eqb-true j i same)) owned) (λ t no-way. absurd (cc))).loads
      i less (eq-eqb i i refl) p refl

  -- and what a party loads of the slots of a queue with tags is of tags, or of owned slots
  pub accepted-rest : (t : ℕ) → t < length c.tagged → (p : Party) → accepts_rest o c t (teller_hart (slots_of (tagged_at c t)) p) ≡ true
      → (s : HartState) (m : View) (cs us : AllCounts) (e : Entry) → IsAtState c (teller_hart (slots_of (tagged_at c t)) p) s m cs us
      → ActsByCounts M o (length c.queues) (queue_at c) (HasFields c) (MeetsFields c) (teller_hart (slots_of (tagged_at c t)) p) s m cs e
      → Knows (teller_hart (slots_of (tagged_at c t)) p) us m → LoadsRestOwned (slots_of (tagged_at c t)) p (us t) (access_of e)
  accepted-rest t less p rested s m cs us e in' a knows =
      (goes-on none_owned (λ j. j == t) (teller_hart (slots_of (tagged_at c t)) p) s m cs us e in' a knows (λ i no-way. absurd (cc))
      (λ j same. subst (λ n. accepts_rest o c n (teller_hart (slots_of (tagged_at c t)) p) ≡ true) (sym (eqb-true j t same)) rested)).rest
      t less (eq-eqb t t refl) p refl
