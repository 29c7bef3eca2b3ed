-- What the writer writes is a schedule of its events.
use Rattle.std.proofs.Common.{◌≡◌, ℕ, ◌+◌, ◌^◌, ◌<◌, ◌≤◌, Bool, false, List, [], ◌∷◌, ◌++◌, length, replicate, refl, sym, ap, subst, ◌∙◌, inl, inr}
use Rattle.std.proofs.Common.{append_assoc, length-append, arith}
use Rattle.std.specs.List.{AllByRecursion}
use Rattle.std.specs.Fmt.{decimal}
use Rattle.std.proofs.lemmas.Bool.{cases_lt, lt-ltb, le-ltb, ne_eqb}
use Rattle.std.proofs.lemmas.List.{append-nil, length-replicate}
use Rattle.std.proofs.lemmas.List.Elements.{recursion_from_All}
use Rattle.step_machine.specs.declared.events.Event.{Event}
use Rattle.texts.specs.declared.pieces.Separators.TheVariants.{BlanksAndLineEnds}
use Rattle.texts.specs.{separates, pieces, numeral, NonePass, Stand, Repetition, repetitions_of, expanded}
use Rattle.texts.proofs.{decimal_numeral, none-append, split_none, split_stop, is_low, Solid, none_of, decimal_solid, expanded-runs_of, all-runs_of}
use Rattle.recorder.specs.{letter, hart_of_event, numbers, token, IsPieceOf, OfHarts, IsTokensOf, EndsLine, IsPlainOf, head, is_same, repetition_text}
use Rattle.recorder.specs.{tokens_text, schedule_tokens, canon}
use Rattle.step_machine.specs.declared.events.Event.TheVariants.{Act, Land}
use Rattle.recorder.specs.Versions.{plain, IsScheduleOf}
use Rattle.recorder.proofs.Runs.{decides}

-- ---- the runs of events of 64 harts

-- a run of one of 64 harts, of one event at least
abbrev pub IsFit : Repetition Event → Type 0
IsFit run = (hart_of_event run.0 < 64) × (0 < run.1)

abbrev AreFit : List (Repetition Event) → Type 0
AreFit runs = AllByRecursion IsFit runs

AreFit-runs_of : (events : List Event) → OfHarts events → AreFit (repetitions_of is_same events)
AreFit-runs_of events harts =
    all-runs_of is_same decides (λ (e : Event). hart_of_event e < 64) events (recursion_from_All (λ (e : Event). hart_of_event e < 64) events harts)

-- ---- a token is one piece

abbrev parts : ℕ → Bool
parts byte = separates BlanksAndLineEnds byte

parts_none : (c : ℕ) → 33 ≤ c → parts c ≡ false
parts_none c high = grind (arith, ne_eqb)

after_letter : (event : Event) (rest : List ℕ) → NonePass is_low rest → Solid (letter event ∷ rest)
after_letter event rest none = grind arith

token-more : (run : Repetition Event) → 1 < run.1 → repetition_text run ≡ letter run.0 ∷ (decimal (hart_of_event run.0) ++ 42 ∷ decimal run.1)
token-more run more = rw (lt-ltb 1 run.1 more) refl

token-one : (run : Repetition Event) → run.1 ≤ 1 → repetition_text run ≡ letter run.0 ∷ decimal (hart_of_event run.0)
token-one run one = rw (le-ltb 1 run.1 one) (ap (λ (word : List ℕ). letter run.0 ∷ word) (append-nil (decimal (hart_of_event run.0))))

abbrev pub IsToken : Repetition Event → List ℕ → Type 0
IsToken run word = token.Says word run × Solid word

after_letter_said : (event : Event) (text : List ℕ) (times : ℕ) → numbers.Says text (hart_of_event event, times)
    → token.Says (letter event ∷ text) (event, times)
unfolding token
after_letter_said (Act hart) text times says = inl ((hart, times), (text, refl, says), refl)
after_letter_said (Land hart) text times says = inr ((hart, times), (text, refl, says), refl)

-- a run's token spells its event and how often it stands, and nothing in it parts pieces
pub token_fits : (run : Repetition Event) → IsFit run → run.1 < 2 ^ 32 → IsToken run (repetition_text run)
unfolding numbers
token_fits run fit small =
    elim (cases_lt 1 run.1) [
      | inl more ↦ subst (IsToken run) (sym (token-more run more)) (repeats more)
      | inr one ↦ subst (IsToken run) (sym (token-one run one)) (comes_once one)
    ]
  where
    hart : (numeral 10).Says (decimal (hart_of_event run.0)) (hart_of_event run.0)
    hart = decimal_numeral (hart_of_event run.0) (omega (arith, fit.0))

    printed : NonePass is_low (decimal (hart_of_event run.0))
    printed = (decimal_solid (hart_of_event run.0) (omega (arith, fit.0))).1

    repeats : 1 < run.1 → IsToken run (letter run.0 ∷ (decimal (hart_of_event run.0) ++ 42 ∷ decimal run.1))
    repeats more = (
      after_letter_said run.0 (decimal (hart_of_event run.0) ++ 42 ∷ decimal run.1) run.1
          (inl (decimal (hart_of_event run.0), decimal run.1, refl, hart, decimal_numeral run.1 small)),
      after_letter run.0 (decimal (hart_of_event run.0) ++ 42 ∷ decimal run.1)
          (none-append is_low (decimal (hart_of_event run.0)) (42 ∷ decimal run.1) printed (refl, (decimal_solid run.1 (omega arith)).1)),
    )

    comes_once : run.1 ≤ 1 → IsToken run (letter run.0 ∷ decimal (hart_of_event run.0))
    comes_once one =
        let times : 1 ≡ run.1 = omega (arith, fit.1) in (
          subst (λ (n : ℕ). token.Says (letter run.0 ∷ decimal (hart_of_event run.0)) (run.0, n)) times
              (after_letter_said run.0 (decimal (hart_of_event run.0)) 1 (inr (hart_of_event run.0, hart, refl))),
          after_letter run.0 (decimal (hart_of_event run.0)) printed,
        )

-- ---- the tokens of runs stand for their events

-- a text ends with nothing, or with a separator: what follows its last token is tail, which stands for no event
module _ (end : List ℕ) (tail : List (List ℕ)) (none : Stand IsPieceOf tail [])
    (ends : (word : List ℕ) → NonePass parts word → pieces BlanksAndLineEnds (word ++ end) ≡ word ∷ tail) where
  text_stands : (runs : List (Repetition Event)) → AreFit runs → length (expanded runs) ≤ 1048576
      → Stand IsPieceOf (pieces BlanksAndLineEnds (tokens_text runs ++ end)) (expanded runs)
  text_stands [] fit few = rw (ends [] tt) ([], [], refl, refl, none)
  text_stands (run ∷ []) fit few =
      let fits = token_fits run fit.0 (omega (arith, length-append (replicate run.1 run.0) [], length-replicate run.1 run.0)) in
      subst (λ (ps : List (List ℕ)). Stand IsPieceOf ps (expanded (run ∷ [])))
      (sym (ends (repetition_text run) (none_of parts parts_none (repetition_text run) fits.1.1)))
      (replicate run.1 run.0, [], (run.0, run.1, fits.0, fit.0.0, fit.0.1, refl), refl, none)
  text_stands (run ∷ next ∷ runs) fit few =
      let total : length (expanded (run ∷ next ∷ runs)) ≡ run.1 + length (expanded (next ∷ runs)) =
      omega (arith, length-append (replicate run.1 run.0) (expanded (next ∷ runs)), length-replicate run.1 run.0) in
      let fits = token_fits run fit.0 (omega arith) in
      let rest = tokens_text (next ∷ runs) ++ end in
      let first = split_stop parts (repetition_text run) 32 rest (none_of parts parts_none (repetition_text run) fits.1.1) refl in
      subst (λ (ps : List (List ℕ)). Stand IsPieceOf ps (expanded (run ∷ next ∷ runs)))
      (sym (ap (pieces BlanksAndLineEnds) (append_assoc (repetition_text run) (32 ∷ tokens_text (next ∷ runs)) end) ∙ first))
      (replicate run.1 run.0, expanded (next ∷ runs), (run.0, run.1, fits.0, fit.0.0, fit.0.1, refl), refl, text_stands (next ∷ runs) fit.1 (omega arith))

  events_again : (events : List Event) → OfHarts events → length events ≤ 1048576 → IsTokensOf (schedule_tokens events ++ end) events
  unfolding schedule_tokens
  events_again events harts few =
      let same = expanded-runs_of is_same decides events in
      let stand = text_stands (repetitions_of is_same events) (AreFit-runs_of events harts) (rw same few) in
      (subst (Stand IsPieceOf (pieces BlanksAndLineEnds (tokens_text (repetitions_of is_same events) ++ end))) same stand, few)

-- an empty piece, as after the last separator, or where there is no text
empty_stands : Stand IsPieceOf ([] ∷ []) []
empty_stands = ([], [], refl, refl, refl)

-- The tokens that are written for some events, and a line end, stand for these events.
pub tokens_again : (events : List Event) → OfHarts events → length events ≤ 1048576 → IsTokensOf (schedule_tokens events ++ 10 ∷ []) events
tokens_again events harts few = events_again (10 ∷ []) ([] ∷ []) empty_stands (λ word none. split_stop parts word 10 [] none refl) events harts few

-- And so do the tokens alone.
pub tokens_alone : (events : List Event) → OfHarts events → length events ≤ 1048576 → IsTokensOf (schedule_tokens events) events
tokens_alone events harts few =
    subst (λ (text : List ℕ). IsTokensOf text events) (append-nil (schedule_tokens events))
    (events_again [] [] refl (λ word none. rw (append-nil word) (split_none parts word none)) events harts few)

-- ---- with the head line

pub ends_by_lf : (rest : List ℕ) → EndsLine (10 ∷ rest)
ends_by_lf rest = grind arith

pub canon-again : (events : List Event) → OfHarts events → length events ≤ 1048576 → IsPlainOf (canon events) events
unfolding canon
canon-again [] harts few = (10 ∷ [], refl, refl, (([], [], refl, refl, empty_stands), few))
canon-again (event ∷ events) harts few =
    let tokens = tokens_again (event ∷ events) harts few in (
      10 ∷ (schedule_tokens (event ∷ events) ++ 10 ∷ []),
      refl,
      ends_by_lf (schedule_tokens (event ∷ events) ++ 10 ∷ []),
      (([], event ∷ events, refl, refl, tokens.0), few),
    )

-- ---- what the writer has written

pub canon-none : (events : List Event) → length events ≡ 0 → canon events ≡ head ++ 10 ∷ []
unfolding canon
canon-none events none = grind arith

pub canon-some : (events : List Event) → (length events ≡ 0 → ⊥) → canon events ≡ head ++ 10 ∷ (schedule_tokens events ++ 10 ∷ [])
unfolding canon
canon-some events some = grind arith

pub written_again : (text : List ℕ) (events : List Event) → OfHarts events → length events ≤ 1048576 → text ≡ canon events → IsScheduleOf text events
written_again text events harts few is = (plain events, subst (λ (t : List ℕ). IsPlainOf t events) (sym is) (canon-again events harts few), refl)
