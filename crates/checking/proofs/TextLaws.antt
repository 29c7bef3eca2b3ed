-- The texts in an input, line by line.
use Rattle.std.proofs.Common.{arith, ◌≡◌, ℕ, zero, suc, ◌-◌, ◌<◌, ◌==◌, true, false, List, [], ◌∷◌, ◌++◌, length, take, drop, Option, Some, None, length-append}
use Rattle.std.proofs.Common.{refl, sym, ap, subst, ◌∙◌, ◌⊎◌, ◌≤◌, append_assoc, inl, inr, lit≤, take_all, take-take, ◌+◌}
use Rattle.std.specs.Prelude.{nat_eq, nat_le, position}
use Rattle.std.specs.List.{list_all}
use Rattle.std.specs.Str.Lines.{lines, strip_carriage_return}
use Rattle.texts.specs.Pieces.{is_blank}
use Rattle.texts.proofs.PieceLaws.{lines_found, lines_whole, position_is}
use Rattle.std.proofs.Math.Bool.{and-false}
use Rattle.std.proofs.lemmas.Bool.{cases_Bool, cases_lt, eqb-true, lt-leb, lt-ltb, le-ltb}
use Rattle.std.proofs.lemmas.List.{append-nil, drop-take, length-take-le}
use Rattle.step_machine.proofs.Placing.{and_left}
use Rattle.litmus.specs.LitmusTests.{LitmusTest}
use Rattle.recorder.specs.{ends_line, has_head}
use Rattle.engine_support.specs.Inputs.{kept_of}
use Rattle.engine_support.proofs.Judging.{judged-large}
use Rattle.checking.specs.{are_blank_lines, begins_record, before_record, records_in, is_left_out, texts_with, unless_blank, Judged, IsTextJudged, record_of}
use Rattle.checking.specs.{none, record_is, held_with, IsHeld, events_on, line_holding}

-- ---- a line more

-- the texts in a text that is being read, and in the lines after it
abbrev pub texts_from : (text : List ℕ) → (lines : List (List ℕ)) → List (List ℕ)
texts_from text lines = texts_with (text ++ before_record lines) (records_in lines)

-- a line at which a record begins has a byte that is no blank
begins_by : (line : List ℕ) → begins_record line ≡ true → (rest : List ℕ) × (line ≡ 122 ∷ rest)
unfolding has_head
begins_by [] e = absurd cc
begins_by (byte ∷ rest) e =
    let whole = and_left _ _ e in
    (rest, ap (λ (b : ℕ). b ∷ rest) (sym (eqb-true 122 byte (and_left (nat_eq 122 byte) _ whole))))

-- the first line keeps its first byte, which is no CR
strip_keeps : (ys : List ℕ) → list_all is_blank (strip_carriage_return (122 ∷ ys)) ≡ false
strip_keeps [] = refl
strip_keeps (y ∷ ys) =
    let less : length (122 ∷ y ∷ ys) - 1 ≡ suc (length ys) = omega arith in
    grind (arith, cases_Bool, less)

not_blank : (ys : List ℕ) → are_blank_lines (122 ∷ ys) ≡ false
unfolding are_blank_lines
not_blank ys = at (position (λ byte. byte == 10) (122 ∷ ys)) refl
  where
    at : (found : Option ℕ) → position (λ byte. byte == 10) (122 ∷ ys) ≡ found → list_all (list_all is_blank) (lines (122 ∷ ys)) ≡ false
    at None missing = rw (lines_whole (122 ∷ ys) missing (omega arith)) refl
    at (Some zero) found = let place = position_is (λ byte. byte == 10) (122 ∷ ys) zero found in absurd (omega (arith, place.1))
    at (Some (suc i)) found = rw (lines_found (122 ∷ ys) (suc i) found, strip_keeps (take i ys)) refl

not_left_out : (line more : List ℕ) → begins_record line ≡ true → is_left_out (line ++ more) ≡ false
not_left_out line more e =
    let (rest, is) = begins_by line e in
    rw is (rw (not_blank (rest ++ more)) (and-false (nat_le (length ((122 ∷ rest) ++ more)) 1048576)))

-- a text that is not left out stands before any records
texts_kept : (text : List ℕ) (records : List (List ℕ)) → is_left_out text ≡ false → texts_with text records ≡ text ∷ records
texts_kept text [] e = refl
texts_kept text (first ∷ others) e = rw e refl

-- where a record begins, the line before ended the text
pub text_ends : (text line : List ℕ) (lines : List (List ℕ)) → begins_record line ≡ true
    → texts_from text (line ∷ lines) ≡ unless_blank text ++ texts_from line lines
text_ends text line lines begins =
    rw (begins, append-nil text, texts_kept (line ++ before_record lines) (records_in lines) (not_left_out line (before_record lines) begins)) refl

-- any other line belongs to it
pub text_goes_on : (text line : List ℕ) (lines : List (List ℕ)) → begins_record line ≡ false → texts_from text (line ∷ lines) ≡ texts_from (text ++ line) lines
text_goes_on text line lines other = rw (other, append_assoc text line (before_record lines)) refl

-- at the end it is a text, whatever it is
pub text_is_last : (text : List ℕ) → texts_from text [] ≡ text ∷ []
text_is_last text = ap (λ (last : List ℕ). last ∷ []) (append-nil text)

-- ---- a line of which a front is kept

ends_kept : (n : ℕ) (rest : List ℕ) → ends_line (take (suc (suc n)) rest) ≡ ends_line rest
ends_kept n [] = refl
ends_kept n (byte ∷ []) = refl
ends_kept n (byte ∷ next ∷ rest) = refl

-- a record begins at the line exactly where one begins at what is kept
pub begins_kept : (line : List ℕ) → begins_record (kept_of line) ≡ begins_record line
unfolding has_head
begins_kept line =
    let front : take 15 (take 1048577 line) ≡ take 15 line = take-take 15 1048577 line (lit≤ tt) in
    let back : drop 15 (take 1048577 line) ≡ take 1048562 (drop 15 line) = drop-take 15 1048562 line in
    rw (front, back, ends_kept 1048560 (drop 15 line)) refl

-- what is held of a text with what is kept of a line is held of it with the line
pub held_kept : (line whole held : List ℕ) → IsHeld (whole ++ kept_of line) held → IsHeld (whole ++ line) held
held_kept line whole held is = at (cases_lt 1048577 (length line)) is
  where
    at : (1048577 < length line) ⊎ (length line ≤ 1048577) → IsHeld (whole ++ kept_of line) held → IsHeld (whole ++ line) held
    at (inr short) is = subst (λ (xs : List ℕ). IsHeld (whole ++ xs) held) (take_all 1048577 line short) is
    at (inl long) (inl same) =
        let kept = length-take-le 1048577 line (omega arith) in
        let most = ap length same ∙ length-append whole (take 1048577 line) in
        inr (omega (arith, kept, most), omega (arith, long, length-append whole line))
    at (inl long) (inr (much, more)) = inr (much, omega (arith, long, length-append whole line))

-- ---- what is held of a text

pub held_more : (line whole held : List ℕ) → IsHeld whole held → IsHeld (whole ++ line) (held_with held line)
held_more line whole held is = grind (arith, length-append, cases_Bool)

pub held_left_out : (text held : List ℕ) → IsHeld text held → is_left_out held ≡ is_left_out text
held_left_out text held (inl same) = ap is_left_out same
held_left_out text held (inr (long, longer)) = rw (lt-leb (length held) 1048576 long, lt-leb (length text) 1048576 longer) refl

pub held_judged : (B M : ℕ) (test : LitmusTest) (text held : List ℕ) (answer : Judged) → IsHeld text held
    → IsTextJudged B M test held answer → IsTextJudged B M test text answer
held_judged B M test text held answer (inl same) is = subst (λ (xs : List ℕ). IsTextJudged B M test xs answer) same is
held_judged B M test text held answer (inr (long, longer)) (none refusal refused) =
    none refusal (judged-large record_of text longer ∙ sym (judged-large record_of held long) ∙ refused)
held_judged B M test text held answer (inr (long, longer)) (record_is steps other accepted judged) = absurd (omega (arith, long, accepted.few))

-- ---- the line on which an event stands, line by line

-- it is this one
pub stands_here : (event line place : ℕ) (rest others : List (List ℕ)) (bytes : List ℕ) → rest ≡ bytes ∷ others → event < events_on bytes
    → line_holding event rest + line ≡ place → line ≡ place
stands_here event line place rest others bytes is below so_far =
    let e = rw (is, lt-ltb event (events_on bytes) below) at so_far in omega (arith, e)

-- or a later one
pub stands_later : (event line place : ℕ) (rest others : List (List ℕ)) (bytes : List ℕ) → rest ≡ bytes ∷ others → events_on bytes ≤ event
    → line_holding event rest + line ≡ place → line_holding (event - events_on bytes) others + (line + 1) ≡ place
stands_later event line place rest others bytes is past so_far =
    let e = rw (is, le-ltb event (events_on bytes) past) at so_far in omega (arith, e)

-- or none is left
pub stands_nowhere : (event line place : ℕ) (rest : List (List ℕ)) → rest ≡ [] → line_holding event rest + line ≡ place → line ≡ place
stands_nowhere event line place rest is so_far = let e = rw is at so_far in omega (arith, e)
