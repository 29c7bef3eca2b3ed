-- What a leaf says of its instruction is so: that it moves the count, owns no more, or loads the other's index. Unless it stops the hart. So an entry of
-- a run does what the leaf of its instruction says.
use Rattle.std.proofs.Common.{ℕ, ◌+◌, ◌-◌, ◌<◌, ◌≤◌, ◌≡◌, ◌==◌, inl, inr, true, Option, Some, List, [], ◌∷◌, length, sym, ◌∙◌, ap, subst, arith, refl}
use Rattle.std.specs.Prelude.{nat_lt}
use Rattle.std.proofs.lemmas.Bool.{and_parts, eqb-true, ltb-true}
use Rattle.hart.specs.{HartState, register_value, address, load_width, advanced}
use Rattle.hart.specs.declared.status.Status.TheVariants as status
use Rattle.rv_decode.specs.declared.instruction.Instr.{Instr}
use Rattle.rv_decode.specs.declared.instruction.Instr.TheVariants.{Load}
use Rattle.step_machine.specs.declared.events.Entry.{Entry}
use Rattle.step_machine.specs.Names.{OpeningValue, load, access_of, number_read}
use Rattle.queue_parties.specs.Parties.{Party, other, count}
use Rattle.slot_queue.specs.{Queue, IsQueue, TellsFull, hart, party_of, index, end, after_access, counts_next}
use Rattle.queue_certificates.specs.{View, AllCounts, ActsByCounts, view_then, form_value, plus, minus, lifted, is_same, Bounds, fits_in, Form, Share}
use Rattle.queue_certificates.specs.{KnownState, MeansAt, share_at, addresses, is_look, is_one, is_whole, instruction_at, QueueCertificate, queue_at, own_of}
use Rattle.queue_certificates.specs.{SharesTold, HasFields, MeetsFields, accepts}
use Rattle.queue_certificates.proofs.{same-exactly, value-plus, value-lifted, value-below, fits-below, nobody_told, nothing_sent, untold, hart-party, Makes}
use Rattle.queue_certificates.proofs.{next-access, IsAmongAll, fine}
use Rattle.queue_certificates.proofs.Steps as steps
use Rattle.queue_progress.specs.{is_further, all_further, most_owned, looks, code_of, moves, follow_further, counts_at, LooksBy}
use Rattle.queue_progress.proofs.Rows.{Executes, Sees, Then, ThenTold}

further-value : (s t : Share) (y : ℕ) (xs : List ℕ) → is_further s t ≡ true → form_value s.own xs < form_value t.own (y ∷ xs)
further-value s t y xs ok =
    let parts = and_parts (nat_lt s.own.constant t.own.constant) (is_same 0 (plus (lifted s.own) (minus t.own (lifted s.own))) t.own) ok in
    let more : s.own.constant < t.own.constant = ltb-true s.own.constant t.own.constant parts.0 in
    let rest : ℕ = form_value (minus t.own (lifted s.own)) (y ∷ xs) in
    let some : t.own.constant - s.own.constant ≤ form_value (minus t.own (lifted s.own)) (y ∷ xs) = omega arith in
    let sum : form_value s.own xs + form_value (minus t.own (lifted s.own)) (y ∷ xs) ≡ form_value t.own (y ∷ xs) =
    ap (λ n. n + form_value (minus t.own (lifted s.own)) (y ∷ xs)) (sym (value-lifted s.own y xs))
    ∙ sym (value-plus (lifted s.own) (minus t.own (lifted s.own)) (y ∷ xs))
    ∙ same-exactly (plus (lifted s.own) (minus t.own (lifted s.own))) t.own (y ∷ xs) parts.1 in
    further (form_value s.own xs) (form_value t.own (y ∷ xs)) (form_value (minus t.own (lifted s.own)) (y ∷ xs)) (t.own.constant - s.own.constant)
    (omega (arith, more)) some sum
  where
    further : (a b d g : ℕ) → 0 < g → g ≤ d → a + d ≡ b → a < b
    further a b d g some less sum = omega (arith, some, less, sum)

-- n is the own count in whatever state follows: it has moved on
pub moved : (c : QueueCertificate) (h i n : ℕ) (s : Share) (xs : List ℕ) (ks : List KnownState) (z : HartState) (m : View) (cs us : AllCounts)
    → ((k : KnownState) (y : ℕ) → MeansAt (queue_at c) (length c.queues) (own_of c h) h (y ∷ xs) k z m cs → SharesTold c h (y ∷ xs) k us
    → n ≡ form_value (share_at k i).own (y ∷ xs))
    → all_further i s ks ≡ true → IsAmongAll c h xs ks z m cs us → form_value s.own xs < n
moved c h i n s xs [] z m cs us own ok w = absurd w
moved c h i n s xs (k ∷ ks) z m cs us own ok (inl w) = subst (λ n. form_value s.own xs < n) (sym (own k w.0 w.1 w.2))
    (further-value s (share_at k i) w.0 xs (and_parts (is_further s (share_at k i)) (all_further i s ks) ok).0)
moved c h i n s xs (k ∷ ks) z m cs us own ok (inr w) =
    moved c h i n s xs ks z m cs us own (and_parts (is_further s (share_at k i)) (all_further i s ks) ok).1 w

module _ (c : QueueCertificate) (h i : ℕ) (less : i < length c.queues) (p : Party) (mine : h ≡ hart (queue_at c i) p) where
  -- it owns no more
  pub owned : (K : ℕ) (xs : List ℕ) (k : KnownState) (s : HartState) (m : View) (cs : AllCounts)
      → MeansAt (queue_at c) (length c.queues) (own_of c h) h xs k s m cs → fits_in (most_owned i k) (Some K) ≡ true
      → end (queue_at c i) p (cs i) ≤ count p (cs i) + K
  owned K xs k s m cs means ok =
      let share = means.shares i less p mine in
      let few : form_value (share_at k i).owned xs ≤ K = fits-below (most_owned i k) (Some K) (form_value (share_at k i).owned xs) ok
      (λ n is. value-below k.ranges (share_at k i).owned xs n means.ranges is) in
      within (end (queue_at c i) p (cs i)) (count p (cs i)) (form_value (share_at k i).own xs) (form_value (share_at k i).owned xs) share.own share.upto few
    where
      within : (e n a b : ℕ) → n ≡ a → e ≡ a + b → b ≤ K → e ≤ n + K
      within e n a b own upto few = omega (arith, own, upto, few)

  -- it loads the other's index
  module _ (M : ℕ) (o : OpeningValue) (xs : List ℕ) (k : KnownState) (s : HartState) (m : View) (cs : AllCounts) (e : Entry)
      (acts : ActsByCounts M o (length c.queues) (queue_at c) nobody_told nothing_sent h s m cs e) (size : 32 ≤ length s.registers)
      (fine : (j : ℕ) → j < length c.queues → IsQueue (queue_at c j) × TellsFull (queue_at c j) × ((queue_at c j).index_width ≤ 4))
      (means : MeansAt (queue_at c) (length c.queues) (own_of c h) h xs k s m cs) where
    abbrev q : Queue
    q = queue_at c i

    seen-at : (b : Bounds) (a width v : ℕ) → is_look (queue_at c) h b width i ≡ true → b.low ≤ a → a ≤ b.high
        → load a width v ≡ load (index (queue_at c i) (other p)) (queue_at c i).index_width v
    seen-at b a width v ok low high =
        let parts = and_parts (is_one b) (is_whole q (party_of q h) other b.low width) ok in
        let one : b.low ≡ b.high = eqb-true b.low b.high parts.0 in
        let whole = and_parts (b.low == index q (other p)) (width == q.index_width)
        (subst (λ r. is_whole q r other b.low width ≡ true) (hart-party q (fine i less).0 h p mine) parts.1) in
        let here : b.low ≡ index q (other p) = eqb-true b.low (index q (other p)) whole.0 in
        ap (λ n. load n width v) (let at : a ≡ b.low = omega (arith, one, low, high) in at ∙ here)
        ∙ ap (λ n. load (index q (other p)) n v) (eqb-true width q.index_width whole.1)

    pub seen : looks c h i k (instruction_at s.code k.pc) ≡ true → (advanced s (number_read e)).status ≡ status.Running
        → access_of e ≡ load (index (queue_at c i) (other p)) (queue_at c i).index_width (number_read e)
    seen ok runs = by (instruction_at s.code s.pc) (next-access s e acts.can) (subst (λ n. looks c h i k (instruction_at s.code n) ≡ true) (sym means.pc) ok)
      where
        by : (j : Option Instr) → Makes s (number_read e) j (access_of e) (advanced s (number_read e)) → looks c h i k j ≡ true
            → access_of e ≡ load (index (queue_at c i) (other p)) (queue_at c i).index_width (number_read e)
        by (Some (Load op rd rs1 offset)) made ok = elim made [
          | inl stops ↦ absurd (stops.ends runs)
          | inr is ↦ (let at = steps.points M o (queue_at c) (length c.queues) (own_of c) (length c.harts) h xs k s m cs e acts size fine means rs1 offset in
              is ∙ seen-at (addresses (queue_at c) k rs1 offset) (address (register_value s.registers rs1) offset) (load_width op) (number_read e)
              ok at.0 at.1)
        ]
        by j made ok = absurd (cc)

-- ---- an entry of a run

module _ (B M : ℕ) (o : OpeningValue) (c : QueueCertificate) (ok : accepts o c ≡ true) (h i : ℕ) (less : i < length c.queues) (p : Party)
    (mine : h ≡ hart (queue_at c i) p) (xs : List ℕ) (k : KnownState) (d : Form) (s : HartState) (done : List Entry) (e : Entry)
    (at : Executes B M o c ok h xs k d s done e) where
  -- an instruction that moves the count, and runs on, is none that leaves it
  pub moves-on : moves c h (code_of o h) i k d ≡ true → count p (counts_next (queue_at c i) (counts_at c i done) e) ≡ count p (counts_at c i done) → ⊥
  moves-on goes stays =
      let on : form_value (share_at k i).own xs < count p (after_access (queue_at c i) (party_of (queue_at c i) h) (access_of e) (counts_at c i done)) =
      moved c h i
      (count p (after_access (queue_at c i) (party_of (queue_at c i) h) (access_of e) (counts_at c i done)))
      (share_at k i) xs at.following (advanced s (number_read e)) (view_then (access_of e) (Sees B M o c ok h done))
      (Then B M o c ok h done e) (ThenTold B M o c ok h done e) (λ k y means told. (means.shares i less p mine).own)
      (subst (λ ts. follow_further i (share_at k i) ts ≡ true) at.follow goes) at.among in
      let own : count p (counts_at c i done) ≡ form_value (share_at k i).own xs = (at.means.shares i less p mine).own in
      let same : count p (after_access (queue_at c i) (party_of (queue_at c i) h) (access_of e) (counts_at c i done)) ≡ count p (counts_at c i done) =
      ap (λ g. count p (after_access (queue_at c i) (party_of (queue_at c i) g) (access_of e) (counts_at c i done))) (sym at.acts.mine) ∙ stays in
      omega (arith, on, own, same)

  pub owns-few : (K : ℕ) → fits_in (most_owned i k) (Some K) ≡ true → end (queue_at c i) p (counts_at c i done) ≤ count p (counts_at c i done) + K
  owns-few K few = owned c h i less p mine K xs k s (Sees B M o c ok h done) (λ j. counts_at c j done) at.means few

  pub owns-many : (K : ℕ) → nat_lt K (share_at k i).owned.constant ≡ true → count p (counts_at c i done) + K < end (queue_at c i) p (counts_at c i done)
  owns-many K many =
      let share = at.means.shares i less p mine in
      let more : K < (share_at k i).owned.constant = ltb-true K (share_at k i).owned.constant many in
      let all : (share_at k i).owned.constant ≤ form_value (share_at k i).owned xs = omega arith in
      upto (end (queue_at c i) p (counts_at c i done)) (count p (counts_at c i done)) (form_value (share_at k i).own xs) (form_value (share_at k i).owned xs)
      (share_at k i).owned.constant share.own share.upto all more
    where
      upto : (n m a b z : ℕ) → m ≡ a → n ≡ a + b → z ≤ b → K < z → m + K < n
      upto n m a b z own end low more = omega (arith, own, end, low, more)

  pub looks-so : looks c h i k (instruction_at (code_of o h) k.pc) ≡ true → LooksBy (queue_at c i) p (access_of e)
  looks-so sees = subst (LooksBy (queue_at c i) p) (sym (seen c h i less p mine M o xs k s (Sees B M o c ok h done)
      (λ j. counts_at c j done) e
      (untold M o (length c.queues) (queue_at c) (HasFields c) (MeetsFields c) h s (Sees B M o c ok h done)
      (λ j. counts_at c j done) e
      at.acts) at.wide (fine M o c ok) at.means (subst (λ ws. looks c h i k (instruction_at ws k.pc) ≡ true) at.code sees) at.runs))
      (refl, refl)
