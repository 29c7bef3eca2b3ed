-- Records that are judged as they are read.
use Rattle.std.proofs.Common.{arith, ◌≡◌, ℕ, ◌+◌, ◌<◌, ◌≤◌, true, false, List, [], ◌∷◌, ◌++◌, length, length-append, Option, Some, None, refl, sym, ap, subst}
use Rattle.std.proofs.Common.{◌∙◌, append_assoc, inl, take_all}
use Rattle.std.specs.Prelude.{IfSome}
use Rattle.std.specs.Io.BufRead.{take_through, drop_through, DropsThrough}
use Rattle.std.specs.Io.KnownBytes.{Appends}
use Rattle.std.proofs.lemmas.List.{append-nil}
use Rattle.litmus.specs.LitmusTests.{LitmusTest}
use Rattle.engine_support.proofs.{appends_more, appends_nothing, no_byte, first_whole}
use Rattle.checking.specs.{Tally, begins_record, is_left_out, unless_blank, texts_in, Judged, IsTextJudged, AreTextsJudged, judgement_line, judgement_lines}
use Rattle.checking.specs.{IsFront, OfLines, IsHeld, AllWritten, Closes, OneWritten, SomeWritten, TakesLine, HasRoomForText, IsTallyOfTexts, judged, left_out}
use Rattle.checking.specs.{belongs, begins}
use Rattle.engine_support.specs.Inputs.{kept_of, whole_lines}
use Rattle.checking.proofs.TallyLaws.{has_room, tally_more}
use Rattle.checking.proofs.TextLaws.{begins_kept, texts_from, text_ends, text_goes_on, text_is_last, held_judged, held_kept, held_left_out}

-- ---- one text more

judged_more : (B M : ℕ) (test : LitmusTest) (texts : List (List ℕ)) (answers : List Judged) (text : List ℕ) (answer : Judged)
    → AreTextsJudged B M test texts answers → IsTextJudged B M test text answer → AreTextsJudged B M test (texts ++ text ∷ []) (answers ++ answer ∷ [])
judged_more B M test [] answers text answer is one = (answer, [], ap (λ (list : List Judged). list ++ answer ∷ []) is, one, refl)
judged_more B M test (first ∷ texts) answers text answer is one =
    (is.0, is.1 ++ answer ∷ [], ap (λ (list : List Judged). list ++ answer ∷ []) is.2, is.3, judged_more B M test texts is.1 text answer is.4 one)

judgement_lines_more : (number : ℕ) (answers : List Judged) (answer : Judged)
    → judgement_lines number (answers ++ answer ∷ []) ≡ judgement_lines number answers ++ judgement_line (number + length answers) answer
judgement_lines_more number [] answer =
    let same : number ≡ number + 0 = omega arith in
    append-nil (judgement_line number answer) ∙ ap (λ (k : ℕ). judgement_line k answer) same
judgement_lines_more number (first ∷ answers) answer =
    let same : number + 1 + length answers ≡ number + length (first ∷ answers) = omega arith in
    ap (λ (rest : List ℕ). judgement_line number first ++ rest)
    (judgement_lines_more (number + 1) answers answer ∙ ap (λ (k : ℕ). judgement_lines (number + 1) answers ++ judgement_line k answer) same)
    ∙ sym (append_assoc (judgement_line number first) (judgement_lines (number + 1) answers) (judgement_line (number + length (first ∷ answers)) answer))

-- ---- line by line

-- where the input is known, its lines are these and then those that are left of it
abbrev AreDone : (input left : Option (List ℕ)) → List (List ℕ) → Type 0
AreDone None left done = Unit {0}
AreDone (Some bytes) None done = ⊥
AreDone (Some bytes) (Some rest) done = whole_lines bytes ≡ done ++ whole_lines rest

-- what was read next of what was left
abbrev pub IsNext : (left next : Option (List ℕ)) → (line : List ℕ) → Type 0
IsNext left next line = IfSome left (λ bytes. line ≡ take_through 10 bytes) × DropsThrough left next 10

-- the line of which this was kept: what was read is as much as anyone knows where the input isn't known
pub whole_of : (left : Option (List ℕ)) → (kept : List ℕ) → List ℕ
whole_of None kept = kept
whole_of (Some bytes) kept = take_through 10 bytes

pub next_whole : (left next : Option (List ℕ)) (kept : List ℕ) → IfSome left (λ bytes. kept ≡ kept_of (take_through 10 bytes)) → DropsThrough left next 10
    → length kept ≤ 1048577 → IsNext left next (whole_of left kept) × (kept_of (whole_of left kept) ≡ kept)
unfolding whole_of
next_whole None next kept is drops few = ((tt, drops), take_all 1048577 kept few)
next_whole (Some bytes) next kept is drops few = ((refl, drops), sym is)

-- Some lines of the input were read. The texts in them were judged, except the last one, of which this is
-- held: the writer has got a line for each.
pub record Going (B M : ℕ) (test : LitmusTest) (input left before after : Option (List ℕ)) (held : List ℕ) (tally : Tally) (count : ℕ) : Type 0 where
  done : List (List ℕ)
  text : List ℕ
  closed : List (List ℕ)
  answers : List Judged
  are_done : AreDone input left done
  cut : (more : List (List ℕ)) → texts_in (done ++ more) ≡ closed ++ texts_from text more
  holds : IsHeld text held
  are : AreTextsJudged B M test closed answers
  tallied : IsTallyOfTexts answers tally
  appends : Appends before after (judgement_lines 1 answers)
  few : length answers ≤ count

pub going_nothing : (B M : ℕ) (test : LitmusTest) (input known : Option (List ℕ)) (tally : Tally) → IsTallyOfTexts [] tally
    → Going B M test input input known known [] tally 0
unfolding texts_in
going_nothing B M test input known tally is = record {
  done = [];
  text = [];
  closed = [];
  answers = [];
  are_done = none_done input;
  cut = λ more. refl;
  holds = inl refl;
  are = refl;
  tallied = is;
  appends = appends_nothing known;
  few = omega arith;
}
  where
    none_done : (input : Option (List ℕ)) → AreDone input input []
    none_done None = tt
    none_done (Some bytes) = refl

module _ {B M : ℕ} {test : LitmusTest} {input left before after : Option (List ℕ)} {held : List ℕ} {tally : Tally} {count : ℕ}
    (t : Going B M test input left before after held tally count) where
  -- there is room for one more
  pub going_room : count < 18446744073709551615 → HasRoomForText tally
  going_room few = has_room t.answers tally t.tallied (omega (arith, t.few, few))

  -- the lines of the first texts were written
  pub going_so_far : SomeWritten B M test input before after
  going_so_far = (judgement_lines 1 t.answers, t.appends, at input left t.are_done)
    where
      front : (lines more : List (List ℕ)) → lines ≡ t.done ++ more → IsFront B M lines test (judgement_lines 1 t.answers)
      front lines more is = record {
        done = t.closed;
        rest = texts_from t.text more;
        texts = ap texts_in is ∙ t.cut more;
        answers = t.answers;
        are = t.are;
        text = refl;
      }

      at : (input left : Option (List ℕ)) → AreDone input left t.done → OfLines input (λ lines. IsFront B M lines test (judgement_lines 1 t.answers))
      at None left is = (t.done ++ [], front (t.done ++ []) [] refl)
      at (Some bytes) None is = absurd is
      at (Some bytes) (Some rest) is = front (whole_lines bytes) (whole_lines rest) is

  -- the text that was read was judged
  written_more : (new : Tally) (later : Option (List ℕ)) → OneWritten B M test held tally new after later
      → (more : List Judged) × AreTextsJudged B M test (t.closed ++ t.text ∷ []) more × IsTallyOfTexts more new
      × Appends before later (judgement_lines 1 more) × (length more ≤ count + 1)
  written_more new later is =
      let number : tally.judged + 1 ≡ 1 + length t.answers = omega (arith, t.tallied.judged_are) in
      let counted = length-append t.answers (is.answer ∷ []) in (
        t.answers ++ is.answer ∷ [],
        judged_more B M test t.closed t.answers t.text is.answer t.are (held_judged B M test t.text held is.answer t.holds is.is),
        tally_more t.answers is.answer tally new t.tallied is.tallied,
        subst (λ (out : List ℕ). Appends before later out)
            (ap (λ (k : ℕ). judgement_lines 1 t.answers ++ judgement_line k is.answer) number ∙ sym (judgement_lines_more 1 t.answers is.answer))
            (appends_more before after later (judgement_lines 1 t.answers) (judgement_line (tally.judged + 1) is.answer) t.appends is.appends),
        omega (arith, counted, t.few),
      )

  -- or left out where a record follows
  closed_more : (new : Tally) (later : Option (List ℕ)) → Closes B M test held tally new after later
      → (more : List Judged) × AreTextsJudged B M test (t.closed ++ unless_blank t.text) more × IsTallyOfTexts more new
      × Appends before later (judgement_lines 1 more) × (length more ≤ count + 1)
  closed_more new later (left_out blank same stays) =
      let is_blank : is_left_out t.text ≡ true = sym (held_left_out t.text held t.holds) ∙ blank in (
        t.answers,
        rw (is_blank, append-nil t.closed) t.are,
        subst (IsTallyOfTexts t.answers) (sym same) t.tallied,
        subst (λ (known : Option (List ℕ)). Appends before known (judgement_lines 1 t.answers)) (sym stays) t.appends,
        omega (arith, t.few),
      )
  closed_more new later (judged not_blank is) =
      let is_text : is_left_out t.text ≡ false = sym (held_left_out t.text held t.holds) ∙ not_blank in
      let more = written_more new later is in (more.0, rw is_text more.1, more.2, more.3, more.4)

  -- the input has ended, and all texts are judged
  pub going_ended : (next : Option (List ℕ)) (line : List ℕ) → IsNext left next line → line ≡ [] → (new : Tally) (later : Option (List ℕ))
      → OneWritten B M test held tally new after later → OfLines input (λ lines. AllWritten B M test lines new before later)
  going_ended next line is_next none new later is_last = at input left t.are_done is_next.0
    where
      all : (lines : List (List ℕ)) → lines ≡ t.done ++ [] → AllWritten B M test lines new before later
      all lines is =
          let more = written_more new later is_last in record {
            answers = more.0;
            are = subst (λ (texts : List (List ℕ)). AreTextsJudged B M test texts more.0)
                (sym (ap texts_in is ∙ t.cut [] ∙ ap (λ (last : List (List ℕ)). t.closed ++ last) (text_is_last t.text))) more.1;
            tallied = more.2;
            appends = more.3;
          }

      at : (input left : Option (List ℕ)) → AreDone input left t.done → IfSome left (λ bytes. line ≡ take_through 10 bytes)
          → OfLines input (λ lines. AllWritten B M test lines new before later)
      at None left is first = (t.done ++ [], all (t.done ++ []) refl)
      at (Some bytes) None is first = absurd is
      at (Some bytes) (Some rest) is first =
          let ended = no_byte rest (sym first ∙ none) in
          all (whole_lines bytes) (is ∙ ap (λ (xs : List ℕ). t.done ++ whole_lines xs) ended)

  module _ (next : Option (List ℕ)) (line : List ℕ) (is_next : IsNext left next line) (some : line ≡ [] → ⊥) where
    -- one line more was read
    one_done : AreDone input next (t.done ++ line ∷ [])
    one_done = at input left t.are_done is_next.0 is_next.1
      where
        at : (input left : Option (List ℕ)) → AreDone input left t.done → IfSome left (λ bytes. line ≡ take_through 10 bytes) → DropsThrough left next 10
            → AreDone input next (t.done ++ line ∷ [])
        at None left is first drops = tt
        at (Some bytes) None is first drops = absurd is
        at (Some bytes) (Some []) is first drops = absurd (some first)
        at (Some bytes) (Some (byte ∷ rest)) is first drops =
            rw drops
            (is ∙ ap (λ (lines : List (List ℕ)). t.done ++ lines) (first_whole byte rest)
            ∙ ap (λ (l : List ℕ). t.done ++ l ∷ whole_lines (drop_through 10 (byte ∷ rest))) (sym first)
            ∙ sym (append_assoc t.done (line ∷ []) (whole_lines (drop_through 10 (byte ∷ rest)))))

    -- it belongs to the text
    going_on : begins_record line ≡ false → (new : List ℕ) → ((whole : List ℕ) → IsHeld whole held → IsHeld (whole ++ line) new)
        → Going B M test input next before after new tally (count + 1)
    going_on other new held_more = record {
      done = t.done ++ line ∷ [];
      text = t.text ++ line;
      closed = t.closed;
      answers = t.answers;
      are_done = one_done;
      cut = λ more. ap texts_in (append_assoc t.done (line ∷ []) more) ∙ t.cut (line ∷ more)
          ∙ ap (λ (texts : List (List ℕ)). t.closed ++ texts) (text_goes_on t.text line more other);
      holds = held_more t.text t.holds;
      are = t.are;
      tallied = t.tallied;
      appends = t.appends;
      few = omega (arith, t.few);
    }

    -- or it begins a record, and the text is closed
    going_anew : begins_record line ≡ true → (newer : Tally) (later : Option (List ℕ)) → Closes B M test held tally newer after later
        → (new : List ℕ) → IsHeld line new → Going B M test input next before later new newer (count + 1)
    going_anew at_head newer later closes new is_held =
        let more = closed_more newer later closes in record {
          done = t.done ++ line ∷ [];
          text = line;
          closed = t.closed ++ unless_blank t.text;
          answers = more.0;
          are_done = one_done;
          cut = λ rest. ap texts_in (append_assoc t.done (line ∷ []) rest) ∙ t.cut (line ∷ rest)
              ∙ ap (λ (texts : List (List ℕ)). t.closed ++ texts) (text_ends t.text line rest at_head)
              ∙ sym (append_assoc t.closed (unless_blank t.text) (texts_from line rest));
          holds = is_held;
          are = more.1;
          tallied = more.2;
          appends = more.3;
          few = more.4;
        }

    -- either way what is kept of it was taken
    pub going_line : (new : List ℕ) (newer : Tally) (later : Option (List ℕ)) → TakesLine B M test (kept_of line) held new tally newer after later
        → Going B M test input next before later new newer (count + 1)
    going_line new newer later (belongs other held_more same stays) =
        rw (same, stays) (going_on (sym (begins_kept line) ∙ other) new (λ whole is. held_kept line whole new (held_more whole is)))
    going_line new newer later (begins at_head closes is) =
        going_anew (sym (begins_kept line) ∙ at_head) newer later closes new (held_kept line [] new (inl is))
