-- A row of instructions of a kind is no longer than the greatest of the ranks that fall along them: by induction over the row.
use Rattle.std.proofs.Common.{ℕ, zero, suc, ◌+◌, ◌<◌, ◌≤◌, ◌≡◌, ◌⊎◌, ◌&&◌, ◌||◌, inl, inr, if◌then◌else◌, Bool, true, false, Option, Some, None}
use Rattle.std.proofs.Common.{List, [], ◌∷◌, ◌++◌, take, length, get_or, refl, sym, ◌∙◌, ap, subst, arith, append_assoc}
use Rattle.std.specs.Prelude.{nat_lt, map}
use Rattle.std.proofs.lemmas.Bool.{and_parts, or_cases, ltb-true, cases_lt}
use Rattle.std.proofs.lemmas.Option.{get_or_from_slice_get}
use Rattle.hart.specs.{HartState, advanced}
use Rattle.hart.specs.declared.status.Status.TheVariants as status
use Rattle.step_machine.specs.declared.events.Entry.{Entry}
use Rattle.step_machine.specs.Names.{OpeningValue, history_of, access_of, hart_of, is_land, is_own, number_read, state_of, WellFormed}
use Rattle.step_machine.proofs.OwnRuns.{kept-front}
use Rattle.store_buffers.proofs.OwnEntries.{same_state, next_state, own_parts}
use Rattle.queue_certificates.specs.{View, AllCounts, view_then, ActsByCounts, IsSameFor, kept_beside}
use Rattle.queue_certificates.specs.Forms.{Form, form_value, number, lifted, substituted, differences, dot, raised, InRanges, most, settled}
use Rattle.queue_certificates.specs.{KnownState, MeansAt, each_leads, all_lead, arrow_leads, accepts, no_hart, next_states}
use Rattle.queue_certificates.specs.{QueueCertificate, queue_at, part_of, own_of, state_at, tagged_at, told_beside, HasFields, MeetsFields, IsKeptByte}
use Rattle.queue_certificates.specs.{SharesTold}
use Rattle.queue_certificates.specs.Cases.{Arrow, Cases, leaf, split, with_low, with_high, each_leaf}
use Rattle.queue_certificates.proofs.Every as every
use Rattle.queue_certificates.proofs.Facts.{more-dot}
use Rattle.queue_certificates.proofs.Forms.{less_at, values_of, value-lifted, value-number, value-raised, value-substituted}
use Rattle.queue_certificates.proofs.Bounds.{fits-below, value-below, value-settled}
use Rattle.queue_certificates.proofs.States.{at-below, exceeds, means-frame, means-high, means-low, means-arrow}
use Rattle.queue_certificates.proofs.TagShares.{told-low, told-high, told-arrow, told-frame}
use Rattle.queue_certificates.proofs.Accepted.{otherwise}
use Rattle.queue_certificates.proofs.{OfHart, of-hart, IsAmongAll, leaf-goes, sets, accepted_fields}
use Rattle.queue_progress.specs.{executed, EachAfter, code_of}
use Rattle.queue_progress.specs.Falling.{is_less, rank_at, each_ranked, all_fall, follow_fall, falls, are_below, are_ranks}
use Rattle.queue_progress.proofs.Rows.{Executes, GoesFirst, Sees, Counted, Told, Then, ThenTold}

-- ---- forms

pub less-value : (rs : List (Option ℕ)) (f g : Form) (xs : List ℕ) → InRanges rs xs → is_less rs f g ≡ true → form_value f xs < form_value g xs
less-value rs f g xs ranges ok =
    let rest : Form = record { constant = f.constant + 1; factors = differences f.factors g.factors } in
    let few : f.constant + 1 + dot (differences f.factors g.factors) xs ≤ g.constant =
    fits-below (most rs (record { constant = f.constant + 1; factors = differences f.factors g.factors })) (Some g.constant)
    (form_value (record { constant = f.constant + 1; factors = differences f.factors g.factors }) xs) ok
    (λ n is. value-below rs (record { constant = f.constant + 1; factors = differences f.factors g.factors }) xs n ranges is) in
    let more : dot f.factors xs ≤ dot g.factors xs + dot (differences f.factors g.factors) xs = more-dot f.factors g.factors xs in
    omega (arith, few, more)

values-settled : (rs : List (Option ℕ)) (gs : List Form) (xs : List ℕ) → InRanges rs xs → values_of (map (settled rs) gs) xs ≡ values_of gs xs
values-settled rs [] xs ranges = refl
values-settled rs (g ∷ gs) xs ranges =
    ap (λ n. n ∷ values_of (map (settled rs) gs) xs) (value-settled rs g xs ranges) ∙ ap (λ ns. form_value g xs ∷ ns) (values-settled rs gs xs ranges)

-- ---- leaves

module _ (c : QueueCertificate) (h : ℕ) (s : HartState) (m : View) (cs us : AllCounts) where
  -- the leaf at which a hart is that is in state k, and its rank there, which is the same number
  record AtRanked (xs : List ℕ) (r : Form) (k : KnownState) (t : Cases) : Type 0 where
    known : KnownState
    handed : Form
    arrows : List Arrow
    numbers : List ℕ
    rank : Form
    means : MeansAt (queue_at c) (length c.queues) (own_of c h) h numbers known s m cs
    told : SharesTold c h numbers known us
    value : form_value rank numbers ≡ form_value r xs
    passes : (f : KnownState → Form → List Arrow → Bool) → each_leaf f k t ≡ true → f known handed arrows ≡ true
    ranked : (f : Form → KnownState → Form → List Arrow → Bool) → each_ranked f r k t ≡ true → f rank known handed arrows ≡ true

  at-ranked : (xs : List ℕ) (r : Form) (k : KnownState) (t : Cases) → MeansAt (queue_at c) (length c.queues) (own_of c h) h xs k s m cs
      → SharesTold c h xs k us → AtRanked xs r k t
  at-ranked xs r k (leaf d arrows) means told = record {
    known = k;
    handed = d;
    arrows = arrows;
    numbers = xs;
    rank = r;
    means = means;
    told = told;
    value = refl;
    passes = λ f ok. ok;
    ranked = λ f ok. ok;
  }
  at-ranked xs r k (split j v low high) means told = elim (cases_lt v (get_or xs j 0)) [
    | inr under ↦ (let at = at-ranked xs r (with_low k j v) low (means-low (queue_at c) (length c.queues) (own_of c h) h xs k s m cs j v means under)
        (told-low (tagged_at c) (length c.tagged) (queue_at c) (length c.queues) (own_of c) (length c.harts) h xs k us j v means.ranges under told) in
        record {
          known = at.known;
          handed = at.handed;
          arrows = at.arrows;
          numbers = at.numbers;
          rank = at.rank;
          means = at.means;
          told = at.told;
          value = at.value;
          passes = λ f ok. at.passes f (and_parts _ _ ok).0;
          ranked = λ f ok. at.ranked f (and_parts _ _ ok).0;
        })
    | inl over ↦ (let at = at-ranked (less_at j (v + 1) xs) (raised j (v + 1) r) (with_high k j v) high
        (means-high (queue_at c) (length c.queues) (own_of c h) h xs k s m cs j v means over)
        (told-high (tagged_at c) (length c.tagged) (queue_at c) (length c.queues) (own_of c) (length c.harts) h xs k us j v means.ranges over told) in
        record {
          known = at.known;
          handed = at.handed;
          arrows = at.arrows;
          numbers = at.numbers;
          rank = at.rank;
          means = at.means;
          told = at.told;
          value = at.value ∙ value-raised r j (v + 1) xs (omega (arith, over)) (omega arith);
          passes = λ f ok. at.passes f
              (otherwise _ _ (exceeds (queue_at c) (length c.queues) (own_of c h) h k.ranges xs j v means.ranges over) (and_parts _ _ ok).1);
          ranked = λ f ok. at.ranked f
              (otherwise _ _ (exceeds (queue_at c) (length c.queues) (own_of c h) h k.ranges xs j v means.ranges over) (and_parts _ _ ok).1);
        })
  ]

-- ---- arrows

module _ (c : QueueCertificate) (h : ℕ) (ranks : List Form) (r : Form) (xs : List ℕ) (z : HartState) (m : View) (cs us : AllCounts) where
  -- a listed state at a lower rank
  record LedLower : Type 0 where
    state : ℕ
    listed : state < length (part_of c h).states
    numbers : List ℕ
    means : MeansAt (queue_at c) (length c.queues) (own_of c h) h numbers (state_at c h state).known z m cs
    told : SharesTold c h numbers (state_at c h state).known us
    low : form_value (rank_at ranks state) numbers < form_value r xs

  leads-lower : (ks : List KnownState) (arrows : List Arrow) → each_leads c h ks arrows ≡ true → IsAmongAll c h xs ks z m cs us
      → all_fall ranks r ks arrows ≡ true → LedLower
  leads-lower [] arrows ok w fall = absurd w
  leads-lower (k ∷ ks) [] ok w fall = absurd (cc)
  leads-lower (k ∷ ks) (a ∷ arrows) ok (inl w) fall =
      let to = and_parts _ _ (and_parts _ _ ok).0 in
      let less : form_value (substituted (rank_at ranks a.to) a.forms) (w.0 ∷ xs) < form_value (lifted r) (w.0 ∷ xs) =
      less-value k.ranges (substituted (rank_at ranks a.to) a.forms) (lifted r) (w.0 ∷ xs) w.1.ranges (and_parts _ _ fall).0 in
      let here : form_value (lifted r) (w.0 ∷ xs) ≡ form_value r xs = value-lifted r w.0 xs in
      let there : form_value (rank_at ranks a.to) (values_of (map (settled k.ranges) a.forms) (w.0 ∷ xs))
      ≡ form_value (substituted (rank_at ranks a.to) a.forms) (w.0 ∷ xs) =
      ap (form_value (rank_at ranks a.to)) (values-settled k.ranges a.forms (w.0 ∷ xs) w.1.ranges)
      ∙ sym (value-substituted (rank_at ranks a.to) a.forms (w.0 ∷ xs)) in
      record {
        state = a.to;
        listed = ltb-true a.to (length (part_of c h).states) to.0;
        numbers = values_of (map (settled k.ranges) a.forms) (w.0 ∷ xs);
        means = means-arrow (queue_at c) (length c.queues) (own_of c h) h (length c.tagged) (w.0 ∷ xs) k (state_at c h a.to).known a.forms z m cs to.1 w.1;
        told = told-arrow (tagged_at c) (length c.tagged) (queue_at c) (length c.queues) (own_of c) (length c.harts) h (w.0 ∷ xs) k
            (state_at c h a.to).known a.forms us w.1.ranges to.1 w.2;
        low = lower _ _ _ _ there less here;
      }
    where
      lower : (a b d e : ℕ) → a ≡ b → b < d → d ≡ e → a < e
      lower a b d e there less here = omega (arith, there, less, here)
  leads-lower (k ∷ ks) (a ∷ arrows) ok (inr w) fall = leads-lower ks arrows (and_parts _ _ ok).1 w (and_parts _ _ fall).1

first-leads : (c : QueueCertificate) (h : ℕ) (a : KnownState) (ks : List KnownState) (arrows : List Arrow)
    → each_leads c h (a ∷ ks) arrows ≡ true → each_leads c h (a ∷ []) arrows ≡ true
first-leads c h a ks [] ok = absurd (cc)
first-leads c h a ks (b ∷ bs) ok = ap (λ t. t && true) (and_parts (nat_lt b.to (length (part_of c h).states)
    && arrow_leads (queue_at c) (length c.queues) (length c.tagged) a (state_at c h b.to).known b.forms) (each_leads c h ks bs) ok).0

-- ---- rows

module _ (B M : ℕ) (o : OpeningValue) (c : QueueCertificate) (ok : accepts o c ≡ true) (h : ℕ) (other cut : KnownState → Form → Bool) (ranks : List Form)
    (fall : falls o c h other cut ranks ≡ true) (Is : List Entry → Entry → Type 0)
    (never : (xs : List ℕ) (k : KnownState) (d : Form) (s : HartState) (done : List Entry) (e : Entry) → Executes B M o c ok h xs k d s done e
    → other k d ≡ true → Is done e → ⊥)
    (goes-first : (xs : List ℕ) (k : KnownState) (d : Form) (s : HartState) (done : List Entry) (e : Entry) (at : Executes B M o c ok h xs k d s done e)
    → cut k d ≡ true → Is done e → GoesFirst B M o c ok h xs at.following s done e) where
  abbrev Seen : List Entry → View
  Seen done = Sees B M o c ok h done

  abbrev Own : List Entry → AllCounts
  Own done = Counted B M o c ok h done

  abbrev Tags : List Entry → AllCounts
  Tags done = Told B M o c ok h done

  -- a listed state whose rank is below r
  record IsBelow (r : ℕ) (done : List Entry) (s : HartState) : Type 0 where
    state : ℕ
    listed : state < length (part_of c h).states
    numbers : List ℕ
    means : MeansAt (queue_at c) (length c.queues) (own_of c h) h numbers (state_at c h state).known s (Seen done) (Own done)
    told : SharesTold c h numbers (state_at c h state).known (Tags done)
    low : form_value (rank_at ranks state) numbers < r

  -- a hart that runs is in such a state
  abbrev StaysBelow : ℕ → List Entry → Type 0
  StaysBelow r done = (s : HartState) → state_of M (history_of o done) h ≡ Some s → s.status ≡ status.Running → IsBelow r done s

  module _ (done : List Entry) (e : Entry) (run : WellFormed B M (history_of o (done ++ e ∷ []))) where
    holds : every.Holds (sets B M o c ok) done
    holds = every.holds (sets B M o c ok) done (kept-front B M o done (e ∷ []) run)

    still : (xs : List ℕ) (k : KnownState) (z : HartState) (m : View) (cs : AllCounts) → MeansAt (queue_at c) (length c.queues) (own_of c h) h xs k z m cs
        → ((x : ℕ) → IsKeptByte c h x → Seen (done ++ e ∷ []) x ≡ m x)
        → ((j : ℕ) → j < length c.queues → IsSameFor (queue_at c j) h (cs j) (Own (done ++ e ∷ []) j))
        → MeansAt (queue_at c) (length c.queues) (own_of c h) h xs k z (Seen (done ++ e ∷ [])) (Own (done ++ e ∷ []))
    still xs k z m cs means bytes same = means-frame (queue_at c) (length c.queues) (own_of c h) h xs k z m (Seen (done ++ e ∷ [])) cs
        (Own (done ++ e ∷ [])) means (λ j x short low high. bytes x (j, short, (low, high))) same

    told-still : (xs : List ℕ) (k : KnownState) (us : AllCounts) → SharesTold c h xs k us
        → (kept_beside (told_beside c)).IsSame h us (Tags (done ++ e ∷ [])) → SharesTold c h xs k (Tags (done ++ e ∷ []))
    told-still xs k us told same = told-frame (tagged_at c) (length c.tagged) (queue_at c) (length c.queues) (own_of c) (length c.harts) h xs k us
        (Tags (done ++ e ∷ [])) told same

    -- an entry that isn't the hart's own leaves its state, and its numbers
    left : (r : ℕ) → StaysBelow r done → is_own h e ≡ false → StaysBelow r (done ++ e ∷ [])
    left r below off z at runs =
        let w = below z (same_state M o done e h off z at) runs in
        record {
          state = w.state;
          listed = w.listed;
          numbers = w.numbers;
          means = still w.numbers (state_at c h w.state).known z (Seen done) (Own done) w.means
              (λ x kept. every.view_other (sets B M o c ok) done e run holds h x (inl kept) off)
              (every.counts_left (sets B M o c ok) done e run holds h off);
          told = told-still w.numbers (state_at c h w.state).known (Tags done) w.told (every.beside_left (sets B M o c ok) done e run holds h off);
          low = w.low;
        }

    -- its own is made from such a state
    record Here (r : ℕ) : Type 0 where
      state : HartState
      at : state_of M (history_of o done) h ≡ Some state
      acts : ActsByCounts M o (length c.queues) (queue_at c) (HasFields c) (MeetsFields c) h state (Seen done) (Own done) e
      below : IsBelow r done state

    here : (r : ℕ) → StaysBelow r done → hart_of e ≡ h → is_land e ≡ false → Here r
    here r below mine act =
        let k = every.state_known (sets B M o c ok) done e run holds h mine in
        let a = every.acts (sets B M o c ok) done e run holds h k.0 mine act k.1 in
        record { state = k.0; at = k.1; acts = a; below = below k.0 k.1 a.can.running }

    -- and where it is so, and the hart runs on, leads to a lower one
    module _ (r : ℕ) (w : Here (suc r)) (is : Is done e) (runs : (advanced w.state (number_read e)).status ≡ status.Running) where
      abbrev Lower : Form → List ℕ → Type 0
      Lower rank xs = LedLower c h ranks rank xs (advanced w.state (number_read e)) (view_then (access_of e) (Seen done))
          (Then B M o c ok h done e) (ThenTold B M o c ok h done e)

      of : OfHart M o c ok h w.acts.opens
      of = of-hart M o c ok h w.acts.opens w.acts.is

      opened : code_of o h ≡ w.acts.opens.code
      opened = ap (λ x. x.code) (get_or_from_slice_get o.harts h w.acts.opens no_hart w.acts.is)

      at-leaves : (rank : Form) (k : KnownState) (d : Form) (arrows : List Arrow) (xs : List ℕ)
          → MeansAt (queue_at c) (length c.queues) (own_of c h) h xs k w.state (Seen done) (Own done) → SharesTold c h xs k (Tags done)
          → (ts : Option (List KnownState)) → next_states c h w.acts.opens.code k d ≡ ts → all_lead c h ts arrows ≡ true
          → (other k d ≡ true) ⊎ (follow_fall ranks rank (cut k d) ts arrows ≡ true) → Lower rank xs
      at-leaves rank k d arrows xs means told None may leads kind = absurd (cc)
      at-leaves rank k d arrows xs means told (Some ts) may leads kind = by kind
        where
          among : IsAmongAll c h xs ts (advanced w.state (number_read e)) (view_then (access_of e) (Seen done)) (Then B M o c ok h done e)
              (ThenTold B M o c ok h done e)
          among = (leaf-goes M o c ok h w.acts.opens of w.state (Seen done) (Own done) (Tags done) e w.acts
              (every.knows_beside (sets B M o c ok) done holds h) w.acts.code w.acts.size k d xs ts means told may).next runs

          at : Executes B M o c ok h xs k d w.state done e
          at = record {
            acts = w.acts;
            wide = subst (λ n. 32 ≤ n) (sym w.acts.size) of.registers;
            code = opened ∙ sym w.acts.code;
            means = means;
            told = told;
            knows = every.knows_beside (sets B M o c ok) done holds h;
            following = ts;
            follow = ap (λ ws. next_states c h ws k d) opened ∙ may;
            runs = runs;
            among = among;
          }

          onward : (ks : List KnownState) → each_leads c h ks arrows ≡ true
              → IsAmongAll c h xs ks (advanced w.state (number_read e)) (view_then (access_of e) (Seen done)) (Then B M o c ok h done e)
              (ThenTold B M o c ok h done e)
              → all_fall ranks rank ks arrows ≡ true → Lower rank xs
          onward ks leads in-one under = leads-lower c h ranks rank xs (advanced w.state (number_read e)) (view_then (access_of e) (Seen done))
              (Then B M o c ok h done e) (ThenTold B M o c ok h done e) ks arrows leads in-one under

          along-first : (f : GoesFirst B M o c ok h xs ts w.state done e) → all_fall ranks rank (take 1 ts) arrows ≡ true → Lower rank xs
          along-first f under = onward (f.first ∷ [])
              (first-leads c h f.first f.others arrows (subst (λ ks. each_leads c h ks arrows ≡ true) f.are leads)) f.among
              (subst (λ ks. all_fall ranks rank (take 1 ks) arrows ≡ true) f.are under)

          under-by : (t : Bool) → cut k d ≡ t → all_fall ranks rank (if t then take 1 ts else ts) arrows ≡ true → Lower rank xs
          under-by false whole under = onward ts leads among under
          under-by true part under = along-first (goes-first xs k d w.state done e at part is) under

          by : (other k d ≡ true) ⊎ (all_fall ranks rank (if cut k d then take 1 ts else ts) arrows ≡ true) → Lower rank xs
          by (inl kind) = absurd (never xs k d w.state done e at kind is)
          by (inr under) = under-by (cut k d) refl under

      record Next : Type 0 where
        state : ℕ
        listed : state < length (part_of c h).states
        numbers : List ℕ
        means : MeansAt (queue_at c) (length c.queues) (own_of c h) h numbers (state_at c h state).known (advanced w.state (number_read e))
            (view_then (access_of e) (Seen done)) (Then B M o c ok h done e)
        told : SharesTold c h numbers (state_at c h state).known (ThenTold B M o c ok h done e)
        low : form_value (rank_at ranks state) numbers < r

      next : Next
      next =
          let leaf = at-ranked c h w.state (Seen done) (Own done) (Tags done) w.below.numbers (rank_at ranks w.below.state)
          (state_at c h w.below.state).known (state_at c h w.below.state).cases w.below.means w.below.told in
          let led = at-leaves leaf.rank leaf.known leaf.handed leaf.arrows leaf.numbers leaf.means leaf.told
          (next_states c h w.acts.opens.code leaf.known leaf.handed) refl
          (leaf.passes (λ k d arrows. all_lead c h (next_states c h w.acts.opens.code k d) arrows) (of.closed w.below.state w.below.listed))
          (or_cases (other leaf.known leaf.handed)
          (follow_fall ranks leaf.rank (cut leaf.known leaf.handed) (next_states c h w.acts.opens.code leaf.known leaf.handed) leaf.arrows)
          (subst (λ ws. (other leaf.known leaf.handed
          || follow_fall ranks leaf.rank (cut leaf.known leaf.handed) (next_states c h ws leaf.known leaf.handed) leaf.arrows) ≡ true) opened
          (leaf.ranked (λ rank k d arrows. other k d || follow_fall ranks rank (cut k d) (next_states c h (code_of o h) k d) arrows)
          (at-below (length (part_of c h).states) (λ n. each_ranked
          (λ rank k d arrows. other k d || follow_fall ranks rank (cut k d) (next_states c h (code_of o h) k d) arrows)
          (rank_at ranks n) (state_at c h n).known (state_at c h n).cases) fall w.below.state w.below.listed)))) in
          record {
            state = led.state;
            listed = led.listed;
            numbers = led.numbers;
            means = led.means;
            told = led.told;
            low = under _ _ _ led.low leaf.value w.below.low;
          }
        where
          under : (a b d : ℕ) → a < b → b ≡ d → d < suc r → a < r
          under a b d less same low = omega (arith, less, same, low)

    module _ (mine : hart_of e ≡ h) (act : is_land e ≡ false) (is : Is done e) where
      some : StaysBelow 0 done → ⊥
      some below = let w = here 0 below mine act in let low : form_value (rank_at ranks w.below.state) w.below.numbers < 0 = w.below.low in omega (arith, low)

      lower : (r : ℕ) → StaysBelow (suc r) done → StaysBelow r (done ++ e ∷ [])
      lower r below z at runs =
          let w = here (suc r) below mine act in
          let same : advanced w.state (number_read e) ≡ z = next_state M o done e h mine act w.state z w.at at in
          let found = next r w is (ap (λ y. y.status) same ∙ runs) in
          record {
            state = found.state;
            listed = found.listed;
            numbers = found.numbers;
            means = subst (λ y. MeansAt (queue_at c) (length c.queues) (own_of c h) h found.numbers (state_at c h found.state).known y
                (Seen (done ++ e ∷ [])) (Own (done ++ e ∷ []))) same
                (still found.numbers (state_at c h found.state).known (advanced w.state (number_read e)) (view_then (access_of e) (Seen done))
                (Then B M o c ok h done e) found.means (λ x kept. every.view_acted (sets B M o c ok) done e run holds h x mine act)
                (λ j short. every.counts_acted (sets B M o c ok) done e run holds h mine j));
            told = told-still found.numbers (state_at c h found.state).known (ThenTold B M o c ok h done e) found.told
                (every.beside_acted (sets B M o c ok) done e run holds h mine);
            low = found.low;
          }

  row-is : (row done : List Entry) (r : ℕ) → WellFormed B M (history_of o (done ++ row)) → StaysBelow r done → EachAfter h Is done row
      → executed h row ≤ r
  row-is [] done r run below each = omega arith
  row-is (e ∷ row) done r run below each = by (is_own h e) refl r below (λ n stays. row-is row (done ++ e ∷ []) n whole stays each.1)
    where
      whole : WellFormed B M (history_of o ((done ++ e ∷ []) ++ row))
      whole = subst (λ es. WellFormed B M (history_of o es)) (sym (append_assoc done (e ∷ []) row)) run

      front : WellFormed B M (history_of o (done ++ e ∷ []))
      front = kept-front B M o (done ++ e ∷ []) row whole

      by : (b : Bool) → is_own h e ≡ b → (r : ℕ) → StaysBelow r done
          → ((n : ℕ) → StaysBelow n (done ++ e ∷ []) → executed h row ≤ n) → (if b then 1 else 0) + executed h row ≤ r
      by false off r below later = let few : executed h row ≤ r = later r (left done e front r below off) in omega (arith, few)
      by true on zero below later = let mine = own_parts h e on in absurd (some done e front mine.0 mine.1 (each.0 on) below)
      by true on (suc r) below later = let mine = own_parts h e on in
          let few : executed h row ≤ r = later r (lower done e front mine.0 mine.1 (each.0 on) r below) in omega (arith, few)

  -- EVERY row of the kind, in every run
  pub row_falls : (N : ℕ) → are_below o c h ranks N ≡ true → (es row : List Entry)
      → WellFormed B M (history_of o (es ++ row)) → EachAfter h Is es row → executed h row ≤ N
  row_falls N under es row run each = row-is row es N run (λ s at runs. (
      let w = accepted_fields B M o c ok es (kept-front B M o es row run) h s at runs in
      record {
        state = w.0;
        listed = w.1;
        numbers = w.2.0;
        means = w.2.1;
        told = w.2.2;
        low = lowest _ _ (less-value (state_at c h w.0).known.ranges (rank_at ranks w.0) (number N) w.2.0 w.2.1.ranges
            (at-below (length (part_of c h).states) (λ n. is_less (state_at c h n).known.ranges (rank_at ranks n) (number N)) under w.0 w.1))
            (value-number N w.2.0);
      })) each
    where
      lowest : (a b : ℕ) → a < b → b ≡ N → a < N
      lowest a b less same = omega (arith, less, same)

module _ (B M : ℕ) (o : OpeningValue) (c : QueueCertificate) (ok : accepts o c ≡ true) (h : ℕ) (other cut : KnownState → Form → Bool)
    (Is : List Entry → Entry → Type 0)
    (never : (xs : List ℕ) (k : KnownState) (d : Form) (s : HartState) (done : List Entry) (e : Entry) → Executes B M o c ok h xs k d s done e
    → other k d ≡ true → Is done e → ⊥)
    (goes-first : (xs : List ℕ) (k : KnownState) (d : Form) (s : HartState) (done : List Entry) (e : Entry) (at : Executes B M o c ok h xs k d s done e)
    → cut k d ≡ true → Is done e → GoesFirst B M o c ok h xs at.following s done e) where
  pub bounded : (ranks : List Form) (N : ℕ) → are_ranks o c h other cut ranks N ≡ true → (es row : List Entry)
      → WellFormed B M (history_of o (es ++ row)) → EachAfter h Is es row → executed h row ≤ N
  bounded ranks N shown = let both = and_parts (falls o c h other cut ranks) (are_below o c h ranks N) shown in
      row_falls B M o c ok h other cut ranks both.0 Is never goes-first N both.1
