-- The first line of an input, which ends through its first LF, and what is left after it.
use Rattle.std.proofs.Common.{◌≡◌, ℕ, ◌+◌, ◌<◌, Bool, true, false, List, [], ◌∷◌, length, take, drop, Option, Some, None, ◌||◌, refl, sym, ap, ◌∙◌, inl}
use Rattle.std.proofs.Common.{inr, arith, take_all}
use Rattle.std.specs.Prelude.{position, if◌then◌else◌, IfSome}
use Rattle.std.specs.List.{concat, list_any, position_or_len}
use Rattle.std.specs.Str.Lines.{lines, strip_carriage_return}
use Rattle.std.specs.Io.BufRead.{take_through, drop_through, DropsThrough}
use Rattle.std.proofs.lemmas.Bool.{cases_Bool, lt-ltb}
use Rattle.std.proofs.lemmas.List.{drop_all, take-take, length-take-le}
use Rattle.texts.proofs.PieceLaws.{position_is, position_past, lines_found, lines_whole}
use Rattle.litmus_reader.specs.Marks.{is_line_feed}
use Rattle.engine_support.specs.Inputs.{whole_lines}
use Rattle.engine_support.proofs.{first_whole, joined_whole, no_byte}
use Rattle.debugger.specs.{command_of, Leaves, after_last, is_last, quits, left_unread, Command, Quit, AsksNext, TakesAsking}

abbrev line_len : List ℕ → ℕ
line_len bytes = position_or_len is_line_feed bytes

through_is : (bytes : List ℕ) → (take_through 10 bytes ≡ take (line_len bytes + 1) bytes)
    × (drop_through 10 bytes ≡ drop (line_len bytes + 1) bytes) × (line_len (take_through 10 bytes) ≡ line_len bytes)
through_is [] = (refl, refl, refl)
through_is (byte ∷ bytes) = grind (arith, cases_Bool, through_is bytes)

position_at : (bytes : List ℕ) (i : ℕ) → line_len bytes ≡ i → i < length bytes → position is_line_feed bytes ≡ Some i
position_at bytes i is within = rw is (rw (lt-ltb i (length bytes) within) refl)

-- the first line of some bytes, of which there is one: it depends on the bytes through its end alone
pub record FirstLine (all : List ℕ) : Type 0 where
  line : List ℕ
  alone : lines (take_through 10 all) ≡ line ∷ []
  is_first : lines all ≡ line ∷ lines (drop_through 10 all)

pub first_line_of : (byte : ℕ) (bytes : List ℕ) → FirstLine (byte ∷ bytes)
first_line_of byte bytes = at (position is_line_feed (byte ∷ bytes)) refl
  where
    at : (o : Option ℕ) → position is_line_feed (byte ∷ bytes) ≡ o → FirstLine (byte ∷ bytes)
    at (Some i) found =
        let all = byte ∷ bytes in
        let through = take_through 10 all in
        let place = position_is is_line_feed all i found in
        let within : i < length all = rw (← place.1) place.0 in
        let is = through_is all in
        let front : through ≡ take (i + 1) all = is.0 ∙ ap (λ (k : ℕ). take (k + 1) all) place.1 in
        let back : drop_through 10 all ≡ drop (i + 1) all = is.1 ∙ ap (λ (k : ℕ). drop (k + 1) all) place.1 in
        let long : length through ≡ i + 1 = ap length front ∙ length-take-le (i + 1) all (omega arith) in
        let again : position is_line_feed through ≡ Some i = position_at through i (is.2 ∙ place.1) (omega arith) in
        let same : take i through ≡ take i all = ap (take i) front ∙ take-take i (i + 1) all (omega arith) in
        let over : drop (i + 1) through ≡ [] = drop_all (i + 1) through (omega arith) in
        record {
          line = strip_carriage_return (take i all);
          alone = lines_found through i again ∙ ap (λ (l : List ℕ). strip_carriage_return l ∷ lines (drop (i + 1) through)) same
              ∙ ap (λ (rest : List ℕ). strip_carriage_return (take i all) ∷ lines rest) over;
          is_first = lines_found all i found ∙ ap (λ (rest : List ℕ). strip_carriage_return (take i all) ∷ lines rest) (sym back);
        }
    at None none =
        let all = byte ∷ bytes in
        let past = position_past is_line_feed all none in
        let is = through_is all in
        let front : take_through 10 all ≡ all = is.0 ∙ take_all (line_len all + 1) all (omega arith) in
        let back : drop_through 10 all ≡ [] = is.1 ∙ drop_all (line_len all + 1) all (omega arith) in
        let whole : lines all ≡ all ∷ [] = lines_whole all none (omega arith) in
        record {
          line = all;
          alone = ap lines front ∙ whole;
          is_first = whole ∙ ap (λ (rest : List ℕ). all ∷ lines rest) (sym back);
        }

-- ---- what the next line asks for

-- what was read through the first LF is nothing, so the input has ended
pub asks_end : (old new : Option (List ℕ)) (read text : List ℕ) → IfSome old (λ bytes. read ≡ take_through 10 bytes) → DropsThrough old new 10
    → text ≡ read → text ≡ [] → AsksNext old new (Some Quit) × TakesAsking old new (Some Quit)
unfolding left_unread
asks_end None new read text is drops whole none = (inl (tt, refl), tt)
asks_end (Some bytes) new read text is drops whole none =
    let ended = no_byte bytes (sym is ∙ sym whole ∙ none) in
    (inl (ap lines ended, refl), rw drops (rw ended refl))

or_none : (b : Bool) → (b || false) ≡ b
or_none true = refl
or_none false = refl

-- the line is the last one exactly where it asks to quit
last_is : (whole line : List ℕ) (asked : Option Command) → lines whole ≡ line ∷ [] → asked ≡ command_of line → is_last whole ≡ quits asked
last_is whole line asked alone same =
    ap (list_any (λ (l : List ℕ). quits (command_of l))) alone ∙ or_none (quits (command_of line)) ∙ ap quits (sym same)

-- or it is the next line
pub asks_line : (old new : Option (List ℕ)) (read text line : List ℕ) (others : List (List ℕ)) (asked : Option Command)
    → IfSome old (λ bytes. read ≡ take_through 10 bytes) → DropsThrough old new 10 → text ≡ read → lines text ≡ line ∷ others → asked ≡ command_of line
    → AsksNext old new asked × TakesAsking old new asked
unfolding left_unread
asks_line None new read text line others asked is drops whole says asks = (inr (line, asks, tt), tt)
asks_line (Some []) new read text line others asked is drops whole says asks =
    let none : lines [] ≡ line ∷ others = ap lines (sym is ∙ sym whole) ∙ says in
    absurd cc
asks_line (Some (byte ∷ bytes)) new read text line others asked is drops whole says asks =
    let first = first_line_of byte bytes in
    let rest = drop_through 10 (byte ∷ bytes) in
    let one : first.line ∷ [] ≡ line ∷ others = sym first.alone ∙ ap lines (sym is ∙ sym whole) ∙ says in
    let here : line ≡ first.line = cc in
    let same : asked ≡ command_of first.line = asks ∙ ap command_of here in
    rw drops (
      inr (first.line, same, first.is_first),
      ap after_last (first_whole byte bytes)
          ∙ ap (λ (b : Bool). if b then concat (whole_lines rest) else after_last (whole_lines rest))
          (last_is (take_through 10 (byte ∷ bytes)) first.line asked first.alone same)
          ∙ ap (λ (xs : List ℕ). if quits asked then xs else after_last (whole_lines rest)) (joined_whole rest),
    )

-- ---- what is left of the input

-- an input leaves what these bytes of it leave
pub LeavesAs : (input left : Option (List ℕ)) → Type 0
LeavesAs None left = Unit {0}
LeavesAs (Some bytes) None = ⊥
LeavesAs (Some bytes) (Some rest) = left_unread bytes ≡ left_unread rest

pub leaves_itself : (input : Option (List ℕ)) → LeavesAs input input
unfolding LeavesAs
leaves_itself None = tt
leaves_itself (Some bytes) = refl

-- a line was taken that goes on
pub leaves_on : (input left next : Option (List ℕ)) (asked : Option Command) → LeavesAs input left → TakesAsking left next asked → quits asked ≡ false
    → LeavesAs input next
unfolding LeavesAs
leaves_on None left next asked same takes goes = tt
leaves_on (Some bytes) None next asked same takes goes = absurd same
leaves_on (Some bytes) (Some rest) None asked same takes goes = absurd takes
leaves_on (Some bytes) (Some rest) (Some later) asked same takes goes = same ∙ takes ∙ ap (λ (b : Bool). if b then later else left_unread later) goes

-- or one that quits
pub leaves_here : (input left next : Option (List ℕ)) (asked : Option Command) → LeavesAs input left → TakesAsking left next asked → quits asked ≡ true
    → Leaves input next
unfolding LeavesAs
leaves_here None left next asked same takes quit = tt
leaves_here (Some bytes) None next asked same takes quit = absurd same
leaves_here (Some bytes) (Some rest) None asked same takes quit = absurd takes
leaves_here (Some bytes) (Some rest) (Some later) asked same takes quit =
    ap Some (sym (same ∙ takes ∙ ap (λ (b : Bool). if b then later else left_unread later) quit))
