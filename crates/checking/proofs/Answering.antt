-- What answers a test and records, from what was judged and written.
use Rattle.std.proofs.Common.{◌≡◌, ℕ, ◌++◌, Bool, List, [], Option, Some, None, Result, Ok, Err, refl, sym, ap, subst, ◌∙◌, ◌⊎◌, inl, inr, arith}
use Rattle.std.proofs.Common.{append_assoc}
use Rattle.std.specs.Prelude.{◌==◌, IfErr, IfOk}
use Rattle.std.specs.Io.KnownBytes.{Appends}
use Rattle.std.proofs.lemmas.List.{append-nil}
use Rattle.litmus.specs.LitmusTests.{LitmusTest}
use Rattle.engine_support.specs.declared.fault.Fault.{Fault}
use Rattle.engine_support.specs.declared.fault.Fault.TheVariants.{ReadFailed, WriteFailed, NoMemory, Refused}
use Rattle.engine_support.specs.declared.fault.Refusal.{Refusal}
use Rattle.engine_support.specs.{Reads, tests, whole_lines, read, refused, EndsInteractive, OnStopped, OnUnwritten, IsFailure, FindsUpToReads}
use Rattle.checking.specs.{Tally, texts_in, Judged, IsTextJudged, judgement_line, judgement_lines, IsOutcomeTable, IsCheckAnswer, IsChecked, IsCheckFront}
use Rattle.checking.specs.{IsFront, OfLines, AllWritten, OneWritten, SomeWritten, IsTallyOfTexts, TalliesText}
use Rattle.engine_support.proofs.Written.{appends_more, appends_nothing}

-- ---- a text

pub written_by : (B M : ℕ) (test : LitmusTest) (text : List ℕ) (old new : Tally) (before after : Option (List ℕ)) (answer : Judged) (line : List ℕ)
    → IsTextJudged B M test text answer → TalliesText answer old new → line ≡ judgement_line new.judged answer
    → Appends before after line → OneWritten B M test text old new before after
written_by B M test text old new before after answer line is tallies written appends = record {
  answer = answer;
  is = is;
  tallied = tallies;
  appends = subst (λ (out : List ℕ). Appends before after out) (written ∙ ap (λ (n : ℕ). judgement_line n answer) tallies.judged_are) appends;
}

-- ---- all texts, and the table

module _ (B M : ℕ) (test : LitmusTest) (tally : Tally) (before mid : Option (List ℕ)) where
  all_front : (lines : List (List ℕ)) (all : AllWritten B M test lines tally before mid) → IsFront B M lines test (judgement_lines 1 all.answers)
  all_front lines all = record {
    done = texts_in lines;
    rest = [];
    texts = sym (append-nil (texts_in lines));
    answers = all.answers;
    are = all.are;
    text = refl;
  }

  pub all_written : (input : Option (List ℕ)) → OfLines input (λ lines. AllWritten B M test lines tally before mid) → SomeWritten B M test input before mid
  all_written None (lines, all) = (judgement_lines 1 all.answers, all.appends, (lines, all_front lines all))
  all_written (Some bytes) all = (judgement_lines 1 all.answers, all.appends, all_front (whole_lines bytes) all)

  pub all_checked : (input : Option (List ℕ)) → OfLines input (λ lines. AllWritten B M test lines tally before mid)
      → (after : Option (List ℕ)) (text : List ℕ) (good : Bool)
      → ((answers : List Judged) → IsTallyOfTexts answers tally → IsOutcomeTable test answers text) → good ≡ (tally.refused == 0) → Appends mid after text
      → (out : List ℕ) × Appends before after out × OfLines input (λ lines. IsChecked B M lines test (out, good))
  all_checked input reports after text good tabled judged appends = at input reports
    where
      checked : (lines : List (List ℕ)) (all : AllWritten B M test lines tally before mid)
          → IsChecked B M lines test (judgement_lines 1 all.answers ++ text, good)
      checked lines all = record {
        answers = all.answers;
        are = all.are;
        table = text;
        tabled = tabled all.answers all.tallied;
        text = refl;
        good = judged ∙ ap (λ (n : ℕ). n == 0) all.tallied.refused_are;
      }

      at : (input : Option (List ℕ)) → OfLines input (λ lines. AllWritten B M test lines tally before mid)
          → (out : List ℕ) × Appends before after out × OfLines input (λ lines. IsChecked B M lines test (out, good))
      at None (lines, all) = (
        judgement_lines 1 all.answers ++ text,
        appends_more before mid after (judgement_lines 1 all.answers) text all.appends appends,
        (lines, checked lines all),
      )
      at (Some bytes) all = (
        judgement_lines 1 all.answers ++ text,
        appends_more before mid after (judgement_lines 1 all.answers) text all.appends appends,
        checked (whole_lines bytes) all,
      )

-- nothing was written yet
pub none_written : (B M : ℕ) (test : LitmusTest) (input known : Option (List ℕ)) → SomeWritten B M test input known known
none_written B M test input known = ([], appends_nothing known, at input)
  where
    front : (lines : List (List ℕ)) → IsFront B M lines test []
    front lines = record { done = []; rest = texts_in lines; texts = refl; answers = []; are = refl; text = refl }

    at : (input : Option (List ℕ)) → OfLines input (λ lines. IsFront B M lines test [])
    at None = ([], front [])
    at (Some bytes) = front (whole_lines bytes)

-- ---- the whole

module _ (B M : ℕ) (input known : Option (List ℕ)) {W : Type 0} (contents : W → Option (List ℕ)) where
  abbrev Answers : Result (List ℕ × Bool) Refusal → Type 0
  Answers = IsCheckAnswer B M input known

  abbrev Fronts : List ℕ → Type 0
  Fronts out = IsCheckFront B M input known (Ok out)

  module _ (test : LitmusTest) (is_test : Reads tests known (Ok test)) where
    front_of : (out : List ℕ) → OfLines input (λ lines. IsFront B M lines test out) → Fronts out
    front_of out is = read test (Ok out) is_test is

    pub ends_checked : (result : Result Bool Fault) (old new : W) → IfErr result IsFailure
        → IfOk result (λ good. (out : List ℕ) × Appends (contents old) (contents new) out × OfLines input (λ lines. IsChecked B M lines test (out, good)))
        → EndsInteractive Answers result contents old new
    ends_checked (Ok good) old new fails (out, appends, is) =
        (out, read test (Ok (out, good)) is_test is, appends)
    ends_checked (Err (Refused r)) old new fails checked = absurd fails
    ends_checked (Err ReadFailed) old new fails checked = tt
    ends_checked (Err WriteFailed) old new fails checked = tt
    ends_checked (Err NoMemory) old new fails checked = tt

    pub left_checked : (result : Result Bool Fault) (before after : Option (List ℕ)) → OnStopped result (SomeWritten B M test input before after)
        → OnStopped result ((out : List ℕ) × Appends before after out × ((out ≡ []) ⊎ Fronts out))
    left_checked (Ok good) before after is = tt
    left_checked (Err (Refused r)) before after is = tt
    left_checked (Err WriteFailed) before after is = tt
    left_checked (Err ReadFailed) before after (out, appends, is) = (out, appends, inr (front_of out is))
    left_checked (Err NoMemory) before after (out, appends, is) = (out, appends, inr (front_of out is))

    pub unwritten_checked : (result : Result Bool Fault) → OnUnwritten result ((out : List ℕ) × OfLines input (λ lines. IsFront B M lines test out))
        → OnUnwritten result ((out : List ℕ) × Fronts out)
    unwritten_checked (Ok good) is = tt
    unwritten_checked (Err (Refused r)) is = tt
    unwritten_checked (Err ReadFailed) is = tt
    unwritten_checked (Err NoMemory) is = tt
    unwritten_checked (Err WriteFailed) (out, is) = (out, front_of out is)

  -- no test was read
  module _ (result : Result Bool Fault) (fault : Fault) (is : result ≡ Err fault)
      (found : FindsUpToReads (Reads tests known) (λ (test : LitmusTest). test) (Err fault)) where
    pub ends_refused : (old : W) → EndsInteractive Answers result contents old old
    ends_refused old = rw is (at fault found)
      where
        at : (f : Fault) → FindsUpToReads (Reads tests known) (λ (test : LitmusTest). test) (Err f) → EndsInteractive Answers (Err f) contents old old
        at (Refused r) bad = (refused r bad, refl)
        at ReadFailed bad = tt
        at NoMemory bad = tt
        at WriteFailed bad = tt

    pub unwritten_refused : (P : Type 0) → OnUnwritten result P
    unwritten_refused P = rw is (at fault found)
      where
        at : (f : Fault) → FindsUpToReads (Reads tests known) (λ (test : LitmusTest). test) (Err f) → OnUnwritten {V = Bool} (Err f) P
        at (Refused r) bad = tt
        at ReadFailed bad = tt
        at NoMemory bad = tt
        at WriteFailed bad = absurd bad

pub nothing_left : (result : Result Bool Fault) (known : Option (List ℕ)) (Q : List ℕ → Type 0)
    → OnStopped result ((out : List ℕ) × Appends known known out × ((out ≡ []) ⊎ Q out))
nothing_left (Ok good) known Q = tt
nothing_left (Err (Refused r)) known Q = tt
nothing_left (Err WriteFailed) known Q = tt
nothing_left (Err ReadFailed) known Q = ([], appends_nothing known, inl refl)
nothing_left (Err NoMemory) known Q = ([], appends_nothing known, inl refl)

-- ---- a text that was written in two parts

pub two_written : (old a b s1 s2 : List ℕ) → s1 ≡ old ++ a → s2 ≡ s1 ++ b → s2 ≡ old ++ (a ++ b)
two_written old a b s1 s2 e f = grind (arith, append_assoc)
