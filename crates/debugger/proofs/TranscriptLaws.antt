-- A user's lines, read one by one.
use Rattle.std.proofs.Common.{◌≡◌, ℕ, Bool, true, false, List, [], ◌∷◌, ◌++◌, Option, Some, None, Result, Ok, Err, refl, sym, ap, subst, ◌∙◌, ◌⊎◌, inl}
use Rattle.std.proofs.Common.{inr, arith}
use Rattle.std.specs.Prelude.{IfSome, IfOk, IfErr, OnOk, MatchBool}
use Rattle.std.specs.Result.{result_and}
use Rattle.std.specs.String.{string_bytes}
use Rattle.std.specs.declared.string.String.{String}
use Rattle.std.specs.Global.{Global}
use Rattle.std.specs.Str.Lines.{lines}
use Rattle.std.specs.Io.KnownBytes.{Appends}
use Rattle.std.proofs.lemmas.List.{append-nil, append_assoc}
use Rattle.litmus.specs.LitmusTests.{LitmusTest}
use Rattle.step_machine.specs.declared.events.Event.{Event}
use Rattle.recorder.specs.Versions.{events_of_schedule}
use Rattle.debugger.specs.{DebuggerState, debugger_at_opening, command_of, Command, DoesLine, DoesAsked, EndsInteractive, IsDebugAnswer, IsDebugFront}
use Rattle.debugger.specs.{IsDebugSome, IsTranscript, OnRefused, OnStopped, OnUnwritten, Prints, PrintsFront, PrintsSome, Transcript, quits, AsksNext}
use Rattle.debugger.specs.{IsNextLine, IsFailure, IsAtStart}
use Rattle.engine_support.specs.declared.fault.Fault.{Fault}
use Rattle.engine_support.specs.declared.fault.Fault.TheVariants.{ReadFailed, WriteFailed, NoMemory, Refused}
use Rattle.engine_support.specs.{FindsUpToReads, IsEndOf, text_and_value, Output, AnswersEvents, ByEvents}
use Rattle.engine_support.proofs.{appends_more, appends_nothing, stopped, made_both, refused_both}

-- ---- what a writer holds, where that is known

-- the writer has got an output of which this holds
abbrev pub Printed : (old new : Option (List ℕ)) → (List ℕ → Type 0) → Type 0
Printed old new Holds = (out : List ℕ) × Appends old new out × Holds out

-- ---- a conversation, line by line

on_true : (b : Bool) (P Q : Type 0) → b ≡ true → P → MatchBool b P Q
on_true b P Q e p = grind arith

on_false : (b : Bool) (P Q : Type 0) → b ≡ false → Q → MatchBool b P Q
on_false b P Q e q = grind arith

-- where the input is known, its lines are these and then those that are left of it
abbrev AreDone : (input left : Option (List ℕ)) → List (List ℕ) → Type 0
AreDone None left done = Unit {0}
AreDone (Some bytes) None done = ⊥
AreDone (Some bytes) (Some rest) done = lines bytes ≡ done ++ lines rest

-- Some lines of the input were answered, and the writer has got what they print. They led from one debugger
-- to another: what any lines print there comes after it.
pub record Talked (B M : ℕ) (input left old new : Option (List ℕ)) (start now : DebuggerState) (points : List (ℕ × ℕ)) : Type 0 where
  done : List (List ℕ)
  so_far : List ℕ
  are_done : AreDone input left done
  appends : Appends old new so_far
  leads : (more : List (List ℕ)) (later : List ℕ) → Transcript B M more now points later → Transcript B M (done ++ more) start [] (so_far ++ later)

pub talked_nothing : (B M : ℕ) (input known : Option (List ℕ)) (start : DebuggerState) → Talked B M input input known known start start []
talked_nothing B M input known start = record {
  done = [];
  so_far = [];
  are_done = none_done input;
  appends = appends_nothing known;
  leads = λ more later talks. talks;
}
  where
    none_done : (input : Option (List ℕ)) → AreDone input input []
    none_done None = tt
    none_done (Some bytes) = refl

module _ {B M : ℕ} {input left old new : Option (List ℕ)} {start now : DebuggerState} {points : List (ℕ × ℕ)}
    (t : Talked B M input left old new start now points) where
  -- the lines that are left print no more
  ends : (more : List (List ℕ)) → IfSome left (λ rest. lines rest ≡ more) → Transcript B M more now points [] → Printed old new (Prints B M input start [])
  ends more are talks = (t.so_far ++ [], rw append-nil t.appends, at input left t.are_done are)
    where
      at : (input left : Option (List ℕ)) → AreDone input left t.done → IfSome left (λ rest. lines rest ≡ more) → Prints B M input start [] (t.so_far ++ [])
      at None left done are = (t.done ++ more, t.leads more [] talks)
      at (Some bytes) None done are = absurd done
      at (Some bytes) (Some rest) done are = rw (done, are) (t.leads more [] talks)

  -- what the lines print that were answered
  pub talked_so_far : Printed old new (PrintsFront B M input start [])
  talked_so_far = (t.so_far ++ [], rw append-nil t.appends, at input left t.are_done)
    where
      at : (input left : Option (List ℕ)) → AreDone input left t.done → PrintsFront B M input start [] (t.so_far ++ [])
      at None left done = (t.done ++ [], t.leads [] [] refl)
      at (Some bytes) None done = absurd done
      at (Some bytes) (Some rest) done = (t.done ++ [], lines rest, rw append-nil done, t.leads [] [] refl)

  -- ---- what was asked for next

  -- it ends the transcript
  pub talked_enough : (next : Option (List ℕ)) (asked : Option Command) → AsksNext left next asked → quits asked ≡ true
      → Printed old new (Prints B M input start [])
  talked_enough next asked (inl (none, end)) quit = ends [] none refl
  talked_enough next asked (inr (line, asks, is)) quit =
      let here = at left next is in ends (line ∷ here.0) here.1 (on_true (quits (command_of line)) _ _ (ap quits (sym asks) ∙ quit) refl)
    where
      at : (left next : Option (List ℕ)) → IsNextLine left next line → (others : List (List ℕ)) × IfSome left (λ rest. lines rest ≡ line ∷ others)
      at None next is = ([], tt)
      at (Some bytes) None is = absurd is
      at (Some bytes) (Some rest) is = (lines rest, is)

  module _ (next : Option (List ℕ)) (asked : Option Command) (asks : AsksNext left next asked) (goes : quits asked ≡ false) where
    -- a line asked for it
    asked_line : (line : List ℕ) × (asked ≡ command_of line) × IsNextLine left next line
    asked_line = at asks
      where
        at : AsksNext left next asked → (line : List ℕ) × (asked ≡ command_of line) × IsNextLine left next line
        at (inl (none, end)) = absurd (let quit : quits asked ≡ true = ap quits end in cc)
        at (inr by_line) = by_line

    -- what it prints, in a transcript whose other lines go on from there
    prints : (then : DebuggerState) (others : List (ℕ × ℕ)) (text : List ℕ) → DoesAsked B M asked now then points others text
        → (more : List (List ℕ)) (later : List ℕ) → Transcript B M more then others later
        → Transcript B M (t.done ++ asked_line.0 ∷ more) start [] (t.so_far ++ (text ++ later))
    prints then others text answers more later talks =
        let answers_line : DoesLine B M asked_line.0 now then points others text =
        subst (λ (o : Option Command). DoesAsked B M o now then points others text) asked_line.1 answers in
        t.leads (asked_line.0 ∷ more) (text ++ later)
        (on_false (quits (command_of asked_line.0)) _ _ (ap quits (sym asked_line.1) ∙ goes) (text, then, others, later, answers_line, refl, talks))

    -- it is answered, whether the writer takes what it prints or not
    pub talked_some : (then : DebuggerState) (others : List (ℕ × ℕ)) (text : List ℕ) → DoesAsked B M asked now then points others text
        → (out : List ℕ) × PrintsSome B M input start [] out
    talked_some then others text answers =
        (t.so_far ++ (text ++ []), at input left next t.are_done asked_line.2 (prints then others text answers [] [] refl))
      where
        at : (input left next : Option (List ℕ)) → AreDone input left t.done → IsNextLine left next asked_line.0
            → Transcript B M (t.done ++ asked_line.0 ∷ []) start [] (t.so_far ++ (text ++ [])) → PrintsSome B M input start [] (t.so_far ++ (text ++ []))
        at None left next done is talks = (t.done, asked_line.0, talks)
        at (Some bytes) None next done is talks = absurd done
        at (Some bytes) (Some rest) None done is talks = absurd is
        at (Some bytes) (Some rest) (Some later) done is talks =
            (t.done, asked_line.0, lines later, done ∙ ap (λ (ls : List (List ℕ)). t.done ++ ls) is, talks)

    -- it is answered, and the writer has got what it prints
    pub talked_on : (newer : Option (List ℕ)) (then : DebuggerState) (others : List (ℕ × ℕ)) (text : List ℕ) → DoesAsked B M asked now then points others text
        → Appends new newer text → Talked B M input next old newer start then others
    talked_on newer then others text answers appends = record {
      done = t.done ++ asked_line.0 ∷ [];
      so_far = t.so_far ++ text;
      are_done = at input left next t.are_done asked_line.2;
      appends = appends_more old new newer t.so_far text t.appends appends;
      leads = λ more later talks. rw (append_assoc t.done (asked_line.0 ∷ []) more, append_assoc t.so_far text later)
          (prints then others text answers more later talks);
    }
      where
        at : (input left next : Option (List ℕ)) → AreDone input left t.done → IsNextLine left next asked_line.0
            → AreDone input next (t.done ++ asked_line.0 ∷ [])
        at None left next done is = tt
        at (Some bytes) None next done is = absurd done
        at (Some bytes) (Some rest) None done is = absurd is
        at (Some bytes) (Some rest) (Some later) done is =
            done ∙ ap (λ (ls : List (List ℕ)). t.done ++ ls) is ∙ sym (append_assoc t.done (asked_line.0 ∷ []) (lines later))

-- ---- a reply

-- what was answered is written, or a write failed
pub replied : {W : Type 0} (B M : ℕ) (asked : Option Command) (old kept : DebuggerState) (points others : List (ℕ × ℕ)) (made : String Global × Unit {0})
    (written : Result (Unit {0}) Fault) (result : Result DebuggerState Fault) (contents : W → Option (List ℕ)) (before after : W) (text : List ℕ)
    → result ≡ result_and written (Ok kept) → IsEndOf text_and_value (Ok made) written contents before after → string_bytes made.0 ≡ text
    → DoesAsked B M asked old kept points others text
    → IfOk result (λ new. (text : List ℕ) × DoesAsked B M asked old new points others text × Appends (contents before) (contents after) text)
    × IfErr result IsFailure × OnStopped result (after ≡ before)
    × OnUnwritten result ((new : DebuggerState) × (left : List (ℕ × ℕ)) × (text : List ℕ) × DoesAsked B M asked old new points left text)
replied B M asked old kept points others made (Ok v) result contents before after text is end whole answers =
    rw is ((text, answers, subst (Appends (contents before) (contents after)) whole end.1), tt, tt, tt)
replied B M asked old kept points others made (Err WriteFailed) result contents before after text is end whole answers =
    rw is (tt, tt, tt, (kept, others, text, answers))
replied B M asked old kept points others made (Err other) result contents before after text is end whole answers = absurd end

-- ---- the whole command

module _ (B M : ℕ) (first second input : Option (List ℕ)) {W : Type 0} (contents : W → Option (List ℕ)) where
  abbrev Ends : Result (Unit {0}) Fault → (old new : W) → Type 0
  Ends result old new = EndsInteractive (IsDebugAnswer B M input first second) result contents old new

  -- a debugger stands at the opening of what the readers give
  abbrev Opens : DebuggerState → Type 0
  Opens debugger = ByEvents IsAtStart first second (Ok debugger)

  -- what holds of the debugger that is opened answers the inputs
  opened : (P : LitmusTest → List Event → Output → Type 0) (debugger : DebuggerState) (answer : Output)
      → ((test : LitmusTest) (events : List Event) → debugger ≡ debugger_at_opening test.opening events → P test events answer)
      → Opens debugger → ByEvents P first second (Ok answer)
  opened P debugger answer holds =
      made_both first second (AnswersEvents IsAtStart) (AnswersEvents P) debugger (Ok answer) (λ test given. holds test (events_of_schedule given))

  -- a transcript that is over ends the command
  pub transcribed : (result : Result (Unit {0}) Fault) (debugger : DebuggerState) (old new : W) → Opens debugger
      → OnOk result (Printed (contents old) (contents new) (Prints B M input debugger [])) → IfErr result IsFailure → Ends result old new
  transcribed (Ok x) debugger old new opens (out, appends, prints) failed = (
    out,
    opened (IsTranscript B M input) debugger (out, x)
        (λ test events set. subst (λ (w : DebuggerState). Prints B M input w [] out) set prints) opens,
    appends,
  )
  transcribed (Err (Refused refusal)) debugger old new opens printed failed = absurd failed
  transcribed other debugger old new opens printed failed = tt

  -- and so does a fault before it begins
  pub not_begun : {X : Type 0} (view : X → DebuggerState) (result : Result (Unit {0}) Fault) (fault : Fault) (old : W) → result ≡ Err fault
      → FindsUpToReads (ByEvents IsAtStart first second) view (Err fault) → Ends result old old
  not_begun view result (Refused refusal) old is finds =
      rw is (
        refused_both first second (AnswersEvents IsAtStart) (AnswersEvents (IsTranscript B M input)) refusal (λ test given none. none) finds,
        refl,
      )
  not_begun view result other old is finds = rw is tt

  pub not_unwritten : {X : Type 0} (view : X → DebuggerState) (result : Result (Unit {0}) Fault) (fault : Fault) (P : Type 0) → result ≡ Err fault
      → FindsUpToReads (ByEvents IsAtStart first second) view (Err fault) → OnUnwritten result P
  not_unwritten view result WriteFailed P is finds = absurd finds
  not_unwritten view result other P is finds = rw is tt

  -- where a write failed, the first lines print what was to be written
  pub unwritten_begun : (result : Result (Unit {0}) Fault) (debugger : DebuggerState) → Opens debugger
      → OnUnwritten result ((out : List ℕ) × PrintsSome B M input debugger [] out)
      → OnUnwritten result ((out : List ℕ) × IsDebugSome B M input first second (Ok (out, tt)))
  unwritten_begun (Err WriteFailed) debugger opens (out, prints) = (
    out,
    opened (λ test events answer. PrintsSome B M input (debugger_at_opening test.opening events) [] answer.0) debugger (out, tt)
        (λ test events set. subst (λ (w : DebuggerState). PrintsSome B M input w [] out) set prints) opens,
  )
  unwritten_begun other debugger opens prints = tt

  -- what was written where it stops: nothing, or what the first lines print
  abbrev Left : (old new : W) → Type 0
  Left old new = Printed (contents old) (contents new) (λ out. (out ≡ []) ⊎ IsDebugFront B M input first second (Ok (out, tt)))

  left_of : (debugger : DebuggerState) (old new : W) → Opens debugger → Printed (contents old) (contents new) (PrintsFront B M input debugger []) → Left old new
  left_of debugger old new opens (out, appends, prints) = (
    out,
    appends,
    inr (opened (λ test events answer. PrintsFront B M input (debugger_at_opening test.opening events) [] answer.0) debugger (out, tt)
        (λ test events set. subst (λ (w : DebuggerState). PrintsFront B M input w [] out) set prints) opens),
  )

  pub left_begun : (result : Result (Unit {0}) Fault) (debugger : DebuggerState) (old new : W) → Opens debugger
      → OnStopped result (Printed (contents old) (contents new) (PrintsFront B M input debugger [])) → OnStopped result (Left old new)
  left_begun (Err ReadFailed) debugger old new opens printed = left_of debugger old new opens printed
  left_begun (Err NoMemory) debugger old new opens printed = left_of debugger old new opens printed
  left_begun other debugger old new opens printed = tt

  pub left_nothing : (result : Result (Unit {0}) Fault) (old : W) → OnStopped result (Left old old)
  left_nothing result old = stopped result _ ([], appends_nothing (contents old), inl refl)

-- answering lines refuses nothing
pub not_refused : (result : Result (Unit {0}) Fault) (P : Type 0) → IfErr result IsFailure → OnRefused result P
not_refused result P failed = grind arith
