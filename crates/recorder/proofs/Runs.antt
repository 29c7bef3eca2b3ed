-- Runs of events, and the text of their tokens.
use Rattle.std.proofs.Common.{arith, ◌≡◌, ℕ, List, [], ◌∷◌, ◌++◌, None, refl, sym, eq-eqb, append_assoc}
use Rattle.std.specs.Prelude.{Decides}
use Rattle.std.specs.List.{slice_get}
use Rattle.std.proofs.lemmas.Bool.{eqb-true}
use Rattle.step_machine.specs.declared.events.Event.{Event}
use Rattle.texts.specs.Runs.{Repetition, with_repetition, repetitions_of}
use Rattle.recorder.specs.Writing.{is_same, repetition_text, tokens_text, schedule_tokens}

pub decides : (a b : Event) → Decides (is_same a b) (a ≡ b)
decides a b = grind (arith, eqb-true, eq-eqb)

-- a token that others follow
abbrev pub token_before : Repetition Event → List ℕ
token_before run = repetition_text run ++ 32 ∷ []

pub before_others : (run next : Repetition Event) (runs : List (Repetition Event))
    → tokens_text (run ∷ next ∷ runs) ≡ token_before run ++ tokens_text (next ∷ runs)
before_others run next runs = sym (append_assoc (repetition_text run) (32 ∷ []) (tokens_text (next ∷ runs)))

-- what is still to be written: the run that goes on, and the runs of the rest
abbrev pub to_write : Event → ℕ → List Event → List ℕ
to_write event times rest = tokens_text (with_repetition is_same (event, times) (repetitions_of is_same rest))

pub tokens-none : (events : List Event) → slice_get events 0 ≡ None → schedule_tokens events ≡ []
unfolding schedule_tokens repetitions_of
tokens-none [] none = refl
tokens-none (event ∷ events) none = absurd cc
