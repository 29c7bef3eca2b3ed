use Rattle.std.proofs.Common.{◌≡◌, ℕ, Bool, true, false, List, [], ◌∷◌, ◌++◌, drop, Option, Some, Result, sym, ap, subst, ◌∙◌, arith}
use Rattle.std.specs.Prelude.{MatchOption, MatchBool, position}
use Rattle.std.specs.List.{slice_get}
use Rattle.std.specs.Str.Lines.{lines}
use Rattle.step_machine.specs.History.{History}
use Rattle.step_machine.specs.declared.events.Event.{Event}
use Rattle.step_machine.specs.declared.events.Outcome.{Outcome}
use Rattle.step_machine.proofs.Running.{happens-one, run-one}
use Rattle.litmus.specs.LitmusTests.{LitmusTest}
use Rattle.recorder.specs.{events_of_schedule, outcome_line}
use Rattle.engine_support.specs.declared.fault.Refusal.{Refusal}
use Rattle.engine_support.specs.{AreOneAnswer, Output, AnswersEvents}
use Rattle.engine_support.proofs.{alike_by_schedule, one_made, equal_alike}
use Rattle.debugger.proofs.laws.one_debug.Goals as goal
use Rattle.debugger.specs.{Command, Source, Schedule, User, Past, DebuggerState, TakesEvent, GoesBackBy, debugger_at_opening, command_of, Breaks, DoesEvent}
use Rattle.debugger.specs.{DoesAll, DoesCommand, DoesNext, Toggled, is_point, stop_before, DoesLine, IsDebugAnswer, IsTranscript, Transcript, quits}
use Rattle.debugger.specs.declared.debug.command.Command.TheVariants as command

-- What a user's lines print is one text.

-- ---- each case of a choice

by_option : {X : Type 0} (o : Option X) {P p : Type 0} {Q q : X → Type 0} (Same : Type 0) → MatchOption o P Q
    → MatchOption o p q → (P → p → Same) → ((x : X) → Q x → q x → Same) → Same
by_option o Same a b on_none on_some = grind arith

by_bool : (t : Bool) {P p Q q : Type 0} (Same : Type 0) → MatchBool t P Q → MatchBool t p q → (P → p → Same) → (Q → q → Same) → Same
by_bool t Same a b on_true on_false = grind arith

-- ---- sessions and walks

same_past : (x y : Past) → x.opening ≡ y.opening → x.events ≡ y.events → x.history ≡ y.history → x ≡ y
same_past x y opening events history = λ i. record { opening = opening i; events = events i; history = history i }

same_way : (x y : DebuggerState) → x.past ≡ y.past → x.schedule ≡ y.schedule → x.sources ≡ y.sources → x.place ≡ y.place → x ≡ y
same_way x y past schedule sources place = λ i. record { past = past i; schedule = schedule i; sources = sources i; place = place i }

one_way : (B M : ℕ) (old : DebuggerState) (ev : Event) (source : Source) (o p : Outcome) (x y : DebuggerState)
    → TakesEvent B M old ev source o x → TakesEvent B M old ev source p y → (o ≡ p) × (x ≡ y)
one_way B M old ev source o p x y a b = grind (arith, happens-one, same_past, same_way)

one_way_back : (B M : ℕ) (old : DebuggerState) (k : ℕ) (x y : DebuggerState) → GoesBackBy B M old k x → GoesBackBy B M old k y → x ≡ y
one_way_back B M old k x y a b = grind (arith, run-one, same_past, same_way)

-- ---- commands

-- a text and a debugger
abbrev AreSame : (s t : List ℕ) (x y : DebuggerState) → Type 0
AreSame s t x y = (s ≡ t) × (x ≡ y)

-- a text, a debugger and breakpoints
abbrev AreAlike : (s t : List ℕ) (x y : DebuggerState) (p q : List (ℕ × ℕ)) → Type 0
AreAlike s t x y p q = (s ≡ t) × (x ≡ y) × (p ≡ q)

one_toggled : (hart pc : ℕ) (old x y : List (ℕ × ℕ)) → Toggled hart pc old x → Toggled hart pc old y → x ≡ y
one_toggled hart pc old x y a b = by_option (position (is_point hart pc) old) (x ≡ y) a b (λ e f. e ∙ sym f) (λ at e f. e ∙ sym f)

one_breaks : (h : History) (hart pc : ℕ) (old x y : List (ℕ × ℕ)) (s t : List ℕ) → Breaks h hart pc old x s → Breaks h hart pc old y t → (s ≡ t) × (x ≡ y)
one_breaks h hart pc old x y s t a b = grind (arith, by_bool, one_toggled)

module _ (B M : ℕ) where
  one_does : (old : DebuggerState) (ev : Event) (source : Source) (s t : List ℕ) (x y : DebuggerState)
      → DoesEvent B M old ev source s x → DoesEvent B M old ev source t y → AreSame s t x y
  one_does old ev source s t x y a b =
      let same = one_way B M old ev source a.0 b.0 x y a.1 b.1 in
      (a.2 ∙ ap (outcome_line ev) same.0 ∙ sym b.2, same.1)

  one_next : (old : DebuggerState) (s t : List ℕ) (x y : DebuggerState) → DoesNext B M old s x → DoesNext B M old t y → AreSame s t x y
  one_next old s t x y a b =
      by_option (slice_get old.schedule old.place) (AreSame s t x y) a b (λ e f. (e.0 ∙ sym f.0, e.1 ∙ sym f.1)) (λ ev. one_does old ev Schedule s t x y)

  one_all : (points : List (ℕ × ℕ)) (evs : List Event) (first : Bool) (old : DebuggerState) (s t : List ℕ) (x y : DebuggerState)
      → DoesAll B M points evs first old s x → DoesAll B M points evs first old t y → AreSame s t x y
  one_all points [] first old s t x y a b = (a.0 ∙ sym b.0, a.1 ∙ sym b.1)
  one_all points (ev ∷ evs) first old s t x y a b =
      by_option (stop_before M points first old.past.history ev) (AreSame s t x y) a b
      (λ e f. let here = one_does old ev Schedule e.0 f.0 e.1 f.1 e.3 f.3 in
      let following = one_all points evs false e.1 e.2 f.2 x y e.5 (subst (λ (w : DebuggerState). DoesAll B M points evs false w f.2 y) (sym here.1) f.5) in
      (e.4 ∙ ap (λ (line : List ℕ). line ++ e.2) here.0 ∙ ap (λ (later : List ℕ). f.0 ++ later) following.0 ∙ sym f.4, following.1))
      (λ point e f. (e.0 ∙ sym f.0, e.1 ∙ sym f.1))

  one_answers : (asked : Command) (old x y : DebuggerState) (points p q : List (ℕ × ℕ)) (s t : List ℕ)
      → DoesCommand B M asked old x points p s → DoesCommand B M asked old y points q t → AreAlike s t x y p q
  one_answers command.Step old x y points p q s t a b = let same = one_next old s t x y a.0 b.0 in (same.0, same.1, a.1 ∙ sym b.1)
  one_answers command.Go old x y points p q s t a b =
      let same = one_all points (drop old.place old.schedule) true old s t x y a.0 b.0 in
      (same.0, same.1, a.1 ∙ sym b.1)
  one_answers (command.Give ev) old x y points p q s t a b = let same = one_does old ev User s t x y a.0 b.0 in (same.0, same.1, a.1 ∙ sym b.1)
  one_answers (command.Break hart pc) old x y points p q s t a b =
      let same = one_breaks old.past.history hart pc points p q s t a.0 b.0 in (same.0, a.1 ∙ sym b.1, same.1)
  one_answers (command.Back k) old x y points p q s t a b = (a.1 ∙ sym b.1, one_way_back B M old k x y a.0 b.0, a.2 ∙ sym b.2)
  one_answers other old x y points p q s t a b = (a.0.0 ∙ sym b.0.0, a.0.1 ∙ sym b.0.1, a.1 ∙ sym b.1)

  -- ---- lines

  one_line : (line : List ℕ) (old x y : DebuggerState) (points p q : List (ℕ × ℕ)) (s t : List ℕ)
      → DoesLine B M line old x points p s → DoesLine B M line old y points q t → AreAlike s t x y p q
  one_line line old x y points p q s t a b =
      by_option (command_of line) (AreAlike s t x y p q) a b
      (λ e f. (e.0 ∙ sym f.0, e.1 ∙ sym f.1, e.2 ∙ sym f.2)) (λ asked. one_answers asked old x y points p q s t)

  one_transcript : (ls : List (List ℕ)) (old : DebuggerState) (points : List (ℕ × ℕ)) (s t : List ℕ)
      → Transcript B M ls old points s → Transcript B M ls old points t → s ≡ t
  one_transcript [] old points s t a b = a ∙ sym b
  one_transcript (line ∷ ls) old points s t a b =
      by_bool (quits (command_of line)) (s ≡ t) a b (λ e f. e ∙ sym f)
      (λ e f. let here = one_line line old e.1 f.1 points e.2 f.2 e.0 f.0 e.4 f.4 in
      let moved = subst (λ (left : List (ℕ × ℕ)). Transcript B M ls e.1 left f.3) (sym here.2)
      (subst (λ (w : DebuggerState). Transcript B M ls w f.2 f.3) (sym here.1) f.6) in
      e.5 ∙ ap (λ (text : List ℕ). text ++ e.3) here.0 ∙ ap (λ (later : List ℕ). f.0 ++ later) (one_transcript ls e.1 e.2 e.3 f.3 e.6 moved) ∙ sym f.5)

  -- of a test, its events and a user's lines
  one_transcript_of : (input : List ℕ) (test : LitmusTest) (events : List Event) (a b : Output)
      → IsTranscript B M (Some input) test events a → IsTranscript B M (Some input) test events b → a ≡ b
  one_transcript_of input test events a b is other =
      let same = one_transcript (lines input) (debugger_at_opening test.opening events) [] a.0 b.0 is other in
      λ i. (same i, tt)

  -- ---- an answer

  pub one_debug : (input file schedule : List ℕ) (a b : Result Output Refusal)
      → IsDebugAnswer B M (Some input) (Some file) (Some schedule) a → IsDebugAnswer B M (Some input) (Some file) (Some schedule) b → AreOneAnswer a b
  one_debug input = alike_by_schedule AreOneAnswer (λ r s e. e) (AnswersEvents (IsTranscript B M (Some input)))
      (λ q parsed a b is other. equal_alike a b
      (one_made (IsTranscript B M (Some input) q (events_of_schedule parsed)) (one_transcript_of input q (events_of_schedule parsed)) a b is other))

pub returns : goal.returns
returns c = one_debug
