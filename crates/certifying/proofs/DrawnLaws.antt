-- What is answered where drawn runs are judged: it is one answer, and a run that is shown to break the protocol does.
use Rattle.std.proofs.Common.{arith, ◌≡◌, ℕ, zero, suc, ◌+◌, ◌&&◌, ◌<◌, Bool, true, false, List, [], ◌∷◌, ◌++◌, length, Some, None, refl, sym, ap, ap₂}
use Rattle.std.proofs.Common.{◌∙◌, subst, ◌⊎◌, inl, inr}
use Rattle.std.specs.Prelude.{Option, if◌then◌else◌}
use Rattle.std.specs.Option.{option_map}
use Rattle.std.proofs.lemmas.Bool.{and_parts, cases_lt, leb-true}
use Rattle.step_machine.specs.declared.events.Event.{Event}
use Rattle.step_machine.specs.Names.{OpeningValue, History, Run, history_of, at_opening, WellFormed}
use Rattle.step_machine.proofs.Happening.{no_hart}
use Rattle.step_machine.proofs.Running.{kept-at_opening, kept-run, opening_kept}
use Rattle.queue_parties.specs.Parties.{QueueCounts, all_at}
use Rattle.queue_layouts.specs.declared.AnyQueue.{AnyQueue}
use Rattle.queue_certificates.specs.Certificates.{QueueCertificate, queue_at, start_at, tagged_at, is_queue, opens_empty}
use Rattle.queue_checker.specs.declared.flaws.Flaw.{Flaw}
use Rattle.queue_checker.specs.declared.flaws.Flaw.TheVariants as flaw
use Rattle.queue_checker.specs.declared.flaws.QueueFlaw.{QueueFlaw}
use Rattle.queue_checker.specs.declared.flaws.TaggedFlaw.{TaggedFlaw}
use Rattle.queue_checker.specs.Flaws.{first_below, first_flaw, first_of, flaw_of_queue, flaw_of_tagged, hart_flaw, queue_flaw, tagged_flaw, unless}
use Rattle.queue_checker.proofs.FlawLaws.{no_queue_flaw}
use Rattle.drawn_runs.specs.Samples.{DrawnRuns}
use Rattle.ownership_runs.specs.declared.violations.Violation.{Violation}
use Rattle.ownership_runs.specs.declared.runs.Moved.{Moved}
use Rattle.ownership_runs.specs.{HasSlot, Keeps, first_ownership_violation, HasKeptRun, HasBrokenRun, IsFirstLoss, first_loss, LosesNothing, HasLoss}
use Rattle.ownership_runs.specs.declared.steps.Step.{Step}
use Rattle.ownership_runs.specs.{loss_after}
use Rattle.ownership_runs.specs.declared.losses.Loss.{Loss}
use Rattle.judged_runs.specs.Finding.{IsFirstFlawed}
use Rattle.ownership_runs.proofs.Judged.{moves-one, one-violation}
use Rattle.certifying.specs.Answers.{IsBrokenText, IsOtherText, IsTriedText, IsTrialAnswer, is_of_queue, tried_text}
use Rattle.certifying.specs.Kept.{AreSameAnswers, BreaksAndLoses, BreaksProtocol, LosesRecord}
use Rattle.certifying.specs.Lost.{IsRecordLost, NoneLost}
use Rattle.certifying.specs.Queues.{any_queue, any_start, queue_by, queue_count}
use Rattle.certifying.specs.Trials.{AllKeep, EndsBroken, IsBrokenBy, IsFirstBroken, IsOfTrial, IsTrialBroken, QueuesKeep, trial_schedule}
use Rattle.certifying.specs.declared.trials.Trial.{Trial}
use Rattle.certifying.specs.declared.trials.Trial.TheVariants as trial
use Rattle.certifying.specs.declared.judgement.Judgement.{Judgement}
use Rattle.certifying.specs.declared.judgement.Judgement.TheVariants as judgement
use Rattle.certifying.proofs.Numbers.{of_either}

-- what `ownership_runs` promises
pub record DrawnLaws : Type 0 where
  pub none : (q : AnyQueue) (c : QueueCounts) (es : List _) → HasSlot q → Keeps q c es → first_ownership_violation q c es ≡ None
  pub apart : (B M : ℕ) (o : OpeningValue) (q : AnyQueue) (start : QueueCounts) (events : List Event) (b : Violation) → HasSlot q
      → HasKeptRun B M o q start events → HasBrokenRun B M o q start events b → ⊥
  pub lost : (since : Option ℕ) (q : AnyQueue) (o : OpeningValue) (c : QueueCounts) (es : List _) (l : Loss) → HasSlot q → first_loss since q o c es ≡ Some l
      → IsFirstLoss since q o c es l
  pub lost_or_not : (B M : ℕ) (o : OpeningValue) (q : AnyQueue) (start : QueueCounts) (broken : Bool) (events : List Event) (l : Loss)
      → LosesNothing B M o q start broken events → HasLoss B M o q start broken events l → ⊥

-- ---- queues that open at their counts have slots

pub no_first : {A : Type 0} (a b : Option A) → first_of a b ≡ None → (a ≡ None) × (b ≡ None)
no_first None b e = (refl, e)
no_first (Some x) b e = (cc, cc)

holds-unless : {A : Type 0} (b : Bool) (a : A) → unless b a ≡ None → b ≡ true
holds-unless true a e = refl
holds-unless false a e = cc

pub none-below : {A : Type 0} (f : ℕ → Option A) (n i : ℕ) → first_below n f ≡ None → i < n → f i ≡ None
none-below f zero i none less = absurd (omega arith)
none-below f (suc n) i none less = at (first_below n f) (f n) refl refl none (none-below f n i)
  where
    at : (before here : Option _) → first_below n f ≡ before → f n ≡ here → first_of before here ≡ None
        → (first_below n f ≡ None → i < n → f i ≡ None) → f i ≡ None
    at None None before here e earlier = let rest = earlier before in grind arith
    at None (Some x) before here e earlier = cc
    at (Some x) here before is e earlier = cc

module _ (o : OpeningValue) (c : QueueCertificate) where
  abbrev pub SomeSlots : Type 0
  SomeSlots = (i : ℕ) → i < queue_count c → HasSlot (any_queue c i)

  one-of-queues : (i : ℕ) (f : Flaw) → flaw_of_queue o c i ≡ Some f → is_of_queue f ≡ true
  one-of-queues i f is = at (queue_flaw o c i) is
    where
      at : (why : Option QueueFlaw) → option_map (λ why. flaw.Queue i why) why ≡ Some f → is_of_queue f ≡ true
      at None none = cc
      at (Some why) some = let same : flaw.Queue i why ≡ f = cc in ap is_of_queue (sym same)

  one-of-tagged : (t : ℕ) (f : Flaw) → flaw_of_tagged o c t ≡ Some f → is_of_queue f ≡ true
  one-of-tagged t f is = at (tagged_flaw o c t) is
    where
      at : (why : Option TaggedFlaw) → option_map (λ why. flaw.Tagged t why) why ≡ Some f → is_of_queue f ≡ true
      at None none = cc
      at (Some why) some = let same : flaw.Tagged t why ≡ f = cc in ap is_of_queue (sym same)

  -- the first of flaws of queues is one
  module _ (at : ℕ → Option Flaw) (of_queues : (i : ℕ) (f : Flaw) → at i ≡ Some f → is_of_queue f ≡ true) where
    first-of-queues : (n : ℕ) (f : Flaw) → first_below n at ≡ Some f → is_of_queue f ≡ true
    first-of-queues zero f is = cc
    first-of-queues (suc n) f is = by (first-of-queues n f) (first_below n at) refl is
      where
        by : (first_below n at ≡ Some f → is_of_queue f ≡ true) → (before : Option Flaw) → first_below n at ≡ before → first_of before (at n) ≡ Some f
            → is_of_queue f ≡ true
        by earlier None before here = of_queues n f here
        by earlier (Some g) before here = earlier (before ∙ here)

  left : (a b : Bool) → (a && b) ≡ true → a ≡ true
  left a b ok = (and_parts a b ok).0

  some-slot : (i : ℕ) → (is_queue (queue_at c i) && opens_empty o (queue_at c i) (start_at c i)) ≡ true → HasSlot (queue_by c i None)
  some-slot i holds =
      leb-true 1 (queue_at c i).size
      ((and_parts _ _ (left _ _ (left _ _ (left _ _ (left _ _ (left _ _ (left _ _ (left _ _ (left _ _ holds))))))))).1)

  -- the second conjunct of `is_tagged`
  some-tagged-slot : (i t : ℕ) → flaw_of_tagged o c t ≡ None → HasSlot (queue_by c i (Some t))
  some-tagged-slot i t none =
      let tag = no_first _ _ (no_hart _ (tagged_flaw o c t) none) in
      let harts_and_slots = no_first _ _ (no_first _ _ (no_first _ _ (no_first _ _ (no_first _ _ (no_first _ _ (no_first _ _ tag.0).0).0).0).0).0).0 in
      leb-true 1 (tagged_at c t).size (holds-unless _ _ harts_and_slots.1)

  -- where the queues of both kinds have no flaw
  unflawed : first_below (length c.queues) (flaw_of_queue o c) ≡ None → first_below (length c.tagged) (flaw_of_tagged o c) ≡ None → SomeSlots
  unflawed none free = of_either c (λ (i : ℕ) (t : Option ℕ). HasSlot (queue_by c i t))
      (λ i less. some-slot i (no_queue_flaw o c i (none-below (flaw_of_queue o c) (length c.queues) i none less)))
      (λ t less. some-tagged-slot (length c.queues + t) t (none-below (flaw_of_tagged o c) (length c.tagged) t free less))

  pub all-sized : first_flaw o c ≡ None → SomeSlots
  all-sized none =
      let queues = (no_first _ _ none).0 in
      let either = no_first _ _ queues in unflawed either.0 either.1

  pub sized : (f : Flaw) → first_flaw o c ≡ Some f → is_of_queue f ≡ false → SomeSlots
  sized f first other = at (first_below (length c.queues) (flaw_of_queue o c)) (first_below (length c.tagged) (flaw_of_tagged o c)) refl refl first
    where
      at : (indexed tagged : Option Flaw) → first_below (length c.queues) (flaw_of_queue o c) ≡ indexed
          → first_below (length c.tagged) (flaw_of_tagged o c) ≡ tagged
          → first_of (first_of indexed tagged) (first_below (length o.harts) (hart_flaw o c)) ≡ Some f → SomeSlots
      at None None none free later = unflawed none free
      at None (Some g) none free is =
          let queue = first-of-queues (flaw_of_tagged o c) one-of-tagged (length c.tagged) f (free ∙ is) in absurd (cc)
      at (Some g) tagged some free is =
          let queue = first-of-queues (flaw_of_queue o c) one-of-queues (length c.queues) f (some ∙ is) in absurd (cc)

-- ---- what a trial is, queue by queue

module _ (d : DrawnRuns) (o : OpeningValue) (c : QueueCertificate) where
  pub keep-more : (first : ℕ) (moved : List Moved) (m : Moved) → QueuesKeep d o c first moved → AllKeep d o c (first + length moved) m
      → QueuesKeep d o c first (moved ++ m ∷ [])
  keep-more first [] m kept next = let same : first + 0 ≡ first = omega arith in (subst (λ (j : ℕ). AllKeep d o c j m) same next, tt)
  keep-more first (n ∷ moved) m kept next =
      let same : first + length (n ∷ moved) ≡ first + 1 + length moved = omega arith in
      (kept.0, keep-more (first + 1) moved m kept.1 (subst (λ (j : ℕ). AllKeep d o c j m) same next))

  pub is-broken : (i : ℕ) (part : List Event) (b : Violation) (moved : List Moved) (t : Trial) → IsTrialBroken d.B d.M o i part b t → i < queue_count c
      → length moved ≡ i → QueuesKeep d o c 0 moved → IsBrokenBy d o c i part b → EndsBroken d o c i part b → IsOfTrial d o c t
  is-broken i part b moved (trial.Kept kept) is inside earlier before told ends = absurd is
  is-broken i part b moved (trial.Broken j given violation steps) is inside earlier before told ends =
      rw (is.0, is.1, is.2) (record {
        inside = inside;
        moved = moved;
        earlier = earlier;
        kept = before;
        told = told;
        ends = ends;
        are_steps = is.3;
      })

-- ---- one answer

module _ (d : DrawnRuns) (o : OpeningValue) (c : QueueCertificate) where
  one-moved : (i : ℕ) (moved others : List Moved) → length moved ≡ length others → QueuesKeep d o c i moved → QueuesKeep d o c i others → moved ≡ others
  one-moved i [] [] same kept also = refl
  one-moved i [] (m ∷ others) same kept also = absurd (omega (arith, same))
  one-moved i (m ∷ moved) [] same kept also = absurd (omega (arith, same))
  one-moved i (m ∷ moved) (n ∷ others) same kept also =
      ap₂ (λ (x : Moved) (xs : List Moved). x ∷ xs)
      (moves-one d.B d.M o (any_queue c i) (all_at (any_start c i)) _ m n kept.0.counted also.0.counted)
      (one-moved (i + 1) moved others (omega (arith, same)) kept.1 also.1)

  one-tried : (f : Flaw) (text other : List ℕ) → IsTriedText d o c f text → IsTriedText d o c f other → text ≡ other
  one-tried f text other is also =
      let same : is.moved ≡ also.moved = one-moved 0 is.moved also.moved (is.count ∙ sym also.count) is.kept also.kept in
      is.text_is ∙ ap (tried_text d o c f) same ∙ sym also.text_is

  -- what is kept of the queue of a number
  kept-at : (first : ℕ) (moved : List Moved) (i : ℕ) → i < length moved → QueuesKeep d o c first moved → (m : Moved) × AllKeep d o c (first + i) m
  kept-at first [] i less kept = absurd (omega (arith, less))
  kept-at first (m ∷ moved) zero less kept = let same : first ≡ first + 0 = omega arith in (m, subst (λ (j : ℕ). AllKeep d o c j m) same kept.0)
  kept-at first (m ∷ moved) (suc i) less kept =
      let rest = kept-at (first + 1) moved i (omega (arith, less)) kept.1 in
      let same : first + 1 + i ≡ first + suc i = omega arith in (rest.0, subst (λ (j : ℕ). AllKeep d o c j rest.0) same rest.1)

  -- the run of this number is the first that breaks the protocol of a queue
  abbrev IsFirstOf : (i number : ℕ) → Violation → Type 0
  IsFirstOf i number flaw = IsFirstFlawed (HasKeptRun d.B d.M o (any_queue c i) (all_at (any_start c i)))
      (HasBrokenRun d.B d.M o (any_queue c i) (all_at (any_start c i))) (trial_schedule d o) 0 d.number number flaw

  module _ (laws : DrawnLaws) (some : SomeSlots o c) where
    -- no run breaks the protocol of a queue of which all keep it
    not-kept : (i : ℕ) (part : List Event) (b : Violation) (steps : List Step) → IsFirstBroken d o c i part b steps → (moved : List Moved) → i < length moved
        → QueuesKeep d o c 0 moved → ⊥
    not-kept i part b steps first moved less keep =
        let flawed = first.told.is_first in
        let all = kept-at 0 moved i less keep in
        let at : 0 + i ≡ i = omega arith in
        let kept : AllKeep d o c i all.0 = subst (λ (j : ℕ). AllKeep d o c j all.0) at all.1 in
        laws.apart d.B d.M o (any_queue c i) (all_at (any_start c i)) (trial_schedule d o first.told.number) first.told.flaw (some i first.inside)
        (kept.good first.told.number (omega arith) flawed.within) flawed.has

    never-both : (f : Flaw) (text : List ℕ) → IsTriedText d o c f text → (i : ℕ) (part : List Event) (b : Violation) (steps : List Step)
        → IsFirstBroken d o c i part b steps → ⊥
    never-both f text is i part b steps first =
        not-kept i part b steps first is.moved (subst (λ (n : ℕ). i < n) (sym is.count) first.inside) is.kept

    -- of two runs that are the first ones neither comes before the other, nor does one's queue
    not-before : (i j : ℕ) (part rest : List Event) (a b : Violation) (ss ts : List Step) → IsFirstBroken d o c i part a ss → IsFirstBroken d o c j rest b ts
        → i < j → ⊥
    not-before i j part rest a b ss ts is also less =
        not-kept i part a ss is also.moved (subst (λ (n : ℕ). i < n) (sym also.earlier) less) also.kept

    one-queue : (i j : ℕ) (part rest : List Event) (a b : Violation) (ss ts : List Step) → IsFirstBroken d o c i part a ss → IsFirstBroken d o c j rest b ts
        → i ≡ j
    one-queue i j part rest a b ss ts is also = elim (cases_lt i j) [
      | inl less ↦ absurd (not-before i j part rest a b ss ts is also less)
      | inr most ↦ elim (cases_lt j i) [
        | inl less ↦ absurd (not-before j i rest part b a ts ss also is less)
        | inr least ↦ omega (arith, most, least)
      ]
    ]

    module _ (i : ℕ) (inside : i < queue_count c) (part rest : List Event) (a b : Violation) where
      not-earlier : (m n : ℕ) (f g : Violation) → IsFirstOf i m f → IsFirstOf i n g → m < n → ⊥
      not-earlier m n f g is also less = laws.apart d.B d.M o (any_queue c i) (all_at (any_start c i)) (trial_schedule d o m) f (some i inside)
          (also.before m (omega arith) less) is.has

      one-flaw : (m n : ℕ) (f g : Violation) → IsFirstOf i m f → IsFirstOf i n g → f ≡ g
      one-flaw m n f g is also = elim (cases_lt m n) [
        | inl less ↦ absurd (not-earlier m n f g is also less)
        | inr most ↦ elim (cases_lt n m) [
          | inl less ↦ absurd (not-earlier n m g f also is less)
          | inr least ↦ (let same : n ≡ m = omega (arith, most, least) in
              one-violation d.B d.M o (any_queue c i) (all_at (any_start c i)) (trial_schedule d o m) f g is.has
              (subst (λ (k : ℕ). HasBrokenRun d.B d.M o (any_queue c i) (all_at (any_start c i)) (trial_schedule d o k) g) same also.has))
        ]
      ]

      -- what is shown of them is of one kind
      one-kind : IsBrokenBy d o c i part a → IsBrokenBy d o c i rest b → a.described ≡ b.described
      one-kind is also =
          let same = one-flaw is.number also.number is.flaw also.flaw is.is_first also.is_first in
          sym is.shown.alike.1 ∙ ap (λ (v : Violation). v.described) same ∙ also.shown.alike.1

    -- no run loses a record of a queue of which one does
    not-lost : (i : ℕ) (part : List Event) (l : Loss) (steps : List Step) → IsRecordLost d o c i true part l steps → NoneLost d o c i true → ⊥
    not-lost i part l steps is none =
        let flawed = is.told.is_first in
        laws.lost_or_not d.B d.M o (any_queue c i) (all_at (any_start c i)) true (trial_schedule d o is.told.number) is.told.flaw
        (none is.told.number (omega arith) flawed.within) flawed.has

    -- a store that is described, and a record lost, or not both
    not-other : (text other : List ℕ) → IsBrokenText d o c text → IsOtherText d o c other → ⊥
    not-other text other is also = by also.other
      where
        same : is.queue ≡ also.queue
        same = one-queue is.queue also.queue is.part also.part is.violation also.violation is.first_steps also.steps is.is_first also.is_first

        told : IsBrokenBy d o c is.queue also.part also.violation
        told = subst (λ (i : ℕ). IsBrokenBy d o c i also.part also.violation) (sym same) also.is_first.told

        kind : is.violation.described ≡ also.violation.described
        kind = one-kind is.queue is.is_first.inside is.part also.part is.violation also.violation is.is_first.told told

        by : (also.violation.described ≡ false) ⊎ NoneLost d o c also.queue true → ⊥
        by (inl off) = absurd (let no : true ≡ false = sym is.described ∙ kind ∙ off in cc)
        by (inr none) = not-lost is.queue is.lost_part is.loss is.steps is.is_lost (subst (λ (i : ℕ). NoneLost d o c i true) (sym same) none)

    -- ---- an answer after drawn runs

    abbrev IsOneOf : Flaw → List ℕ × Judgement → Type 0
    IsOneOf f answer = (IsTriedText d o c f answer.0 × (answer.1 ≡ judgement.NotShown)) ⊎ (IsBrokenText d o c answer.0 × (answer.1 ≡ judgement.Broken))
        ⊎ (IsOtherText d o c answer.0 × (answer.1 ≡ judgement.OtherProtocol))

    one-of : (f : Flaw) (answer : List ℕ × Judgement) → IsTrialAnswer d o c f answer → IsOneOf f answer
    one-of f (text, judgement.NotShown) is = inl (is, refl)
    one-of f (text, judgement.Broken) is = inr (inl (is, refl))
    one-of f (text, judgement.OtherProtocol) is = inr (inr (is, refl))
    one-of f (text, judgement.Kept) is = absurd is
    one-of f (text, judgement.ReadsNotShown) is = absurd is
    one-of f (text, judgement.ProgressNotShown) is = absurd is
    one-of f (text, judgement.AskedNotShown) is = absurd is

    pub one-trial : (f : Flaw) (a b : List ℕ × Judgement) → IsTrialAnswer d o c f a → IsTrialAnswer d o c f b → AreSameAnswers a b
    one-trial f a b is also = by (one-of f a is) (one-of f b also)
      where
        not-tried : (text : List ℕ) → IsTriedText d o c f text → (other : List ℕ) → IsBrokenText d o c other ⊎ IsOtherText d o c other → ⊥
        not-tried text tried other (inl broken) = never-both f text tried broken.queue broken.part broken.violation broken.first_steps broken.is_first
        not-tried text tried other (inr broken) = never-both f text tried broken.queue broken.part broken.violation broken.steps broken.is_first

        by : IsOneOf f a → IsOneOf f b → AreSameAnswers a b
        by (inl tried) (inl other) = (tried.1 ∙ sym other.1, λ shows. one-tried f a.0 b.0 tried.0 other.0)
        by (inl tried) (inr (inl broken)) = absurd (not-tried a.0 tried.0 b.0 (inl broken.0))
        by (inl tried) (inr (inr other)) = absurd (not-tried a.0 tried.0 b.0 (inr other.0))
        by (inr (inl broken)) (inl tried) = absurd (not-tried b.0 tried.0 a.0 (inl broken.0))
        by (inr (inr other)) (inl tried) = absurd (not-tried b.0 tried.0 a.0 (inr other.0))
        by (inr (inl broken)) (inr (inl other)) = (broken.1 ∙ sym other.1, λ none. absurd (none (inl broken.1)))
        by (inr (inr broken)) (inr (inr other)) = (broken.1 ∙ sym other.1, λ none. absurd (none (inr (inl broken.1))))
        by (inr (inl broken)) (inr (inr other)) = absurd (not-other a.0 b.0 broken.0 other.0)
        by (inr (inr other)) (inr (inl broken)) = absurd (not-other b.0 a.0 broken.0 other.0)

    -- ---- a run that breaks the protocol, and one that loses a record

    formed : (part : List Event) (t : History) → Run d.B d.M o part t → WellFormed d.B d.M (history_of o t.entries)
    formed part t run = subst (λ (x : OpeningValue). WellFormed d.B d.M (history_of x t.entries)) (opening_kept d.B d.M o part t run)
        (kept-run d.B d.M (at_opening o) part t (kept-at_opening d.B d.M o) run)

    -- the run of these events, of which this is the first violation
    breaks : (i : ℕ) → i < queue_count c → (part : List Event) (t : History) (b : Violation) → Run d.B d.M o part t
        → first_ownership_violation (any_queue c i) (all_at (any_start c i)) t.entries ≡ Some b → BreaksProtocol b.described o c
    breaks i inside part t b run first = record {
      B = d.B;
      M = d.M;
      entries = t.entries;
      legal = formed part t run;
      queue = i;
      inside = inside;
      breaks = λ keeps. (let none : first_ownership_violation (any_queue c i) (all_at (any_start c i)) t.entries ≡ None =
          laws.none (any_queue c i) (all_at (any_start c i)) t.entries (some i inside) keeps in
          absurd (cc));
      violation = b;
      first = first;
      by = refl;
    }

    pub loses : (i : ℕ) → i < queue_count c → (part : List Event) (l : Loss) (steps : List Step) → IsRecordLost d o c i false part l steps → LosesRecord o c i
    loses i inside part l steps is =
        let has = is.told.shown.has in
        record {
          B = d.B;
          M = d.M;
          entries = has.history.entries;
          legal = formed part has.history has.run;
          loss = l;
          first = laws.lost None (any_queue c i) o (all_at (any_start c i)) has.history.entries l (some i inside) has.first;
        }

    -- it breaks the protocol first by a store that is described, and then loses a record
    both : (i : ℕ) → i < queue_count c → (part : List Event) (t : History) (l : Loss) → Run d.B d.M o part t → (x : Option Violation)
        → first_ownership_violation (any_queue c i) (all_at (any_start c i)) t.entries ≡ x
        → loss_after (any_queue c i) o (all_at (any_start c i)) t.entries x ≡ Some l → BreaksAndLoses o c
    unfolding breaks
    both i inside part t l run None none lost = cc
    both i inside part t l run (Some b) first lost = at b.described refl lost
      where
        at : (described : Bool) → b.described ≡ described
            → (if described then first_loss (Some b.place) (any_queue c i) o (all_at (any_start c i)) t.entries else None) ≡ Some l → BreaksAndLoses o c
        at false off none = cc
        at true on found = record {
          breaks = record {
            B = d.B;
            M = d.M;
            entries = t.entries;
            legal = formed part t run;
            queue = i;
            inside = inside;
            breaks = (breaks i inside part t b run first).breaks;
            violation = b;
            first = first;
            by = on;
          };
          loss = l;
          loses = laws.lost (Some b.place) (any_queue c i) o (all_at (any_start c i)) t.entries l (some i inside) found;
        }

    pub breaks-and-loses : (text : List ℕ) → IsBrokenText d o c text → BreaksAndLoses o c
    breaks-and-loses text is =
        let has = is.is_lost.told.shown.has in
        both is.queue is.is_first.inside is.lost_part has.history is.loss has.run
        (first_ownership_violation (any_queue c is.queue) (all_at (any_start c is.queue)) has.history.entries) refl has.first

    pub breaks-otherwise : (text : List ℕ) → IsOtherText d o c text → BreaksProtocol false o c ⊎ BreaksProtocol true o c
    breaks-otherwise text is =
        let has = is.is_first.told.shown.has in
        at is.violation.described (breaks is.queue is.is_first.inside is.part has.history is.violation has.run has.first)
      where
        at : (described : Bool) → BreaksProtocol described o c → BreaksProtocol false o c ⊎ BreaksProtocol true o c
        at false b = inl b
        at true b = inr b
