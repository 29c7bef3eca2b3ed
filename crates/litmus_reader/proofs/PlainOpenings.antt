-- Each test of a text opens plainly.
use Rattle.std.proofs.Common.{◌≡◌, ℕ, zero, suc, ◌+◌, ◌*◌, ◌<◌, ◌≤◌, Bool, List, [], ◌∷◌, length, map, get_or, All, Option, Some, None, sym, ap, subst, ◌∙◌}
use Rattle.std.proofs.Common.{inl, inr, length-append, arith, ℤ, ◌^◌, refl}
use Rattle.std.proofs.lemmas.Bool.{cases_Bool, ltb-true}
use Rattle.std.specs.List.{AllByRecursion}
use Rattle.std.proofs.lemmas.List.{length-map}
use Rattle.std.proofs.lemmas.List.Elements.{recursion_from_All, All-head, All-tail}
use Rattle.rv_decode.specs.{meaning, IsWord}
use Rattle.assembler.specs.Drafts.{word_count}
use Rattle.step_machine.specs.History.{HartOpeningValue}
use Rattle.litmus.specs.LitmusTests.{LitmusTest}
use Rattle.litmus_tokens.specs.Names.{word_from, a_word}
use Rattle.litmus_tokens.specs.Assignments.{NamedLocation, NamedValue, AssignmentValue, value, item as an_item}
use Rattle.litmus_tokens.specs.Assignments.NamedValue.{number, address_of}
use Rattle.litmus_reader.specs.{Names, AreItems, IsAt, last_put, is_register, is_location, IsFirstValue, AreRegisters, AreFirstWords, IsPlainHart}
use Rattle.litmus_reader.specs.{IsPlainOpening, Cells, IsTable, hart_content, AreHarts, HasPlainCode, IsTestOf, IsPlainCode}
use Rattle.std.proofs.lemmas.List.Splits.{length-slice_split}
use Rattle.texts.specs.{pieces, is_byte}
use Rattle.texts.specs.declared.pieces.Separators.TheVariants.{Byte}
use Rattle.litmus_reader.specs.Openings.AreItems.{none, empty, item}
use Rattle.litmus_reader.proofs.FirstAppearances.{at_any}
use Rattle.litmus_reader.proofs.TableLaws.{lines_size}
use Rattle.rv_decode.specs.declared.instruction.Instr.{Instr}
use Rattle.rv_decode.proofs.Meanings.{meaning_iff}
use Rattle.rv_decode.proofs.PlainWords.{one_plain_word}

-- ---- values

-- the value is a word, if it is a number
abbrev IsSmall : NamedValue → Type 0
IsSmall (number n) = IsWord n
IsSmall (address_of name) = Unit {0}

word_small : (z : ℤ) (n : ℕ) → word_from z ≡ Some n → IsWord n
word_small z n is = grind (arith, ltb-true)

value_small : (text : List ℕ) (v : NamedValue) → value.Says text v → IsSmall v
unfolding value a_word
value_small text v (inl (name, says, made)) = subst IsSmall made tt
value_small text v (inr (n, (z, says, is), made)) = subst IsSmall made (word_small z n is)

item_small : (text : List ℕ) (assignment : AssignmentValue) → an_item.Says text assignment → IsSmall assignment.1
unfolding an_item
item_small text assignment (inl (left, right, whole, place, says)) = value_small right assignment.1 says
item_small text assignment (inr (at, declared, made)) = subst (λ (e : AssignmentValue). IsSmall e.1) made (omega arith)

abbrev AreSmall : List AssignmentValue → Type 0
AreSmall assignments = AllByRecursion (λ (assignment : AssignmentValue). IsSmall assignment.1) assignments

items_small : (parts : List (List ℕ)) (assignments : List AssignmentValue) → AreItems parts assignments → AreSmall assignments
items_small parts assignments none = tt
items_small parts assignments (empty part others rest blank are) = items_small others rest are
items_small parts assignments (item part others assignment rest is are) = (item_small part assignment is, items_small others rest are)

abbrev IfSmall : Option NamedValue → Type 0
IfSmall None = Unit {0}
IfSmall (Some v) = IsSmall v

put_small : (is_there : NamedLocation → Bool) (assignments : List AssignmentValue) → AreSmall assignments → IfSmall (last_put is_there assignments)
put_small is_there [] all = tt
put_small is_there (assignment ∷ assignments) all = grind (arith, cases_Bool, put_small is_there assignments all.1)

address_small : (names : Names) (name : List ℕ) (index word : ℕ) → length names ≤ 1024 → IsAt names name index → word ≡ 4 * index → IsWord word
address_small names name index word few (above, below, whole, at) is =
    let total : length names ≡ length above + suc (length below) = ap length whole ∙ length-append above (name ∷ below) in
    omega arith

first_small : (names : Names) (put : Option NamedValue) (word : ℕ) → length names ≤ 1024 → IfSmall put → IsFirstValue names put word → IsWord word
first_small names None word few small is = omega (arith, is)
first_small names (Some (number n)) word few small is = omega (arith, is, small)
first_small names (Some (address_of name)) word few small (index, at, is) = address_small names name index word few at is

-- ---- a list of words, by index

all_from : (xs : List ℕ) → ((i : ℕ) → i < length xs → IsWord (get_or xs i 0)) → AllByRecursion IsWord xs
all_from [] each = tt
all_from (x ∷ xs) each = (each 0 (omega arith), all_from xs (λ i less. each (suc i) (omega (arith, less))))

registers-small : (names : Names) (assignments : List AssignmentValue) (hart : ℕ) (registers : List ℕ) → length names ≤ 1024 → AreSmall assignments
    → AreRegisters names assignments hart registers → AllByRecursion IsWord registers
registers-small names assignments hart registers few small are = all_from registers each
  where
    each : (i : ℕ) → i < length registers → IsWord (get_or registers i 0)
    each zero less = omega (arith, are.zero)
    each (suc i) less = first_small names (last_put (is_register hart (suc i)) assignments) (get_or registers (suc i) 0) few
        (put_small (is_register hart (suc i)) assignments small) (are.others (suc i) (omega arith) (omega (arith, less, are.count)))

words-small : (names : Names) (assignments : List AssignmentValue) (words : List ℕ) → length names ≤ 1024 → AreSmall assignments
    → AreFirstWords names assignments words → AllByRecursion IsWord words
words-small names assignments words few small are = all_from words each
  where
    each : (i : ℕ) → i < length words → IsWord (get_or words i 0)
    each i less =
        let (name, at) = at_any names i (omega (arith, less, are.count)) in
        first_small names (last_put (is_location name) assignments) (get_or words i 0) few
        (put_small (is_location name) assignments small) (are.values i name at)

-- ---- harts

plain_harts : (names : Names) (assignments : List AssignmentValue) (rows : List Cells) (hart : ℕ) (harts : List HartOpeningValue) → length names ≤ 1024
    → AreSmall assignments → AreHarts names assignments rows hart (map hart_content harts) → All HasPlainCode harts → AllByRecursion IsPlainHart harts
plain_harts names assignments rows hart [] few small are are_plain = tt
plain_harts names assignments rows hart (first ∷ others) few small ((all, instrs, lines, made, meant), registers, inbox, further) are_plain =
    let long : length instrs ≡ word_count all = lines_size all 0 all instrs made.placed in
    let same : length first.code ≡ length instrs = sym (length-map first.code meaning) ∙ (ap length meant ∙ length-map instrs Some) in (
      record {
        short = omega (arith, long, same, made.few);
        code = recursion_from_All IsWord first.code (All-head HasPlainCode first others are_plain).1;
        count = registers.count;
        zero = registers.zero;
        registers = registers-small names assignments hart first.registers few small registers;
        inbox = inbox;
      },
      plain_harts names assignments rows (hart + 1) others few small further (All-tail HasPlainCode first others are_plain),
    )

-- ---- a test

some_hart : (table : List ℕ) (harts : ℕ) (rows : List Cells) → IsTable table harts rows → 1 ≤ harts
some_hart table harts rows is =
    omega (arith, ap length is.row.5, length-slice_split (is_byte 124) is.row.0, is.counted)

pub plain_opening : (text : List ℕ) (test : LitmusTest) → IsTestOf text test → IsPlainOpening test.opening
unfolding IsTestOf
plain_opening text test (is, are_plain) =
    let harts : length (map hart_content test.opening.harts) ≡ length test.opening.harts = length-map test.opening.harts hart_content in
    let small : AreSmall is.assignments = items_small (pieces (Byte 59) is.init) is.assignments is.items in
    let few : length test.names ≤ 1024 = is.few in
    record {
      some_hart = omega (arith, harts, some_hart is.table (length (map hart_content test.opening.harts)) is.rows is.tabled);
      few = omega (arith, harts, is.tabled.few);
      harts = plain_harts test.names is.assignments is.rows 0 test.opening.harts few small is.harts are_plain;
      locations = omega (arith, few, is.first_words.count);
      words = words-small test.names is.assignments test.opening.words few small is.first_words;
    }

-- ---- plain code is determined by its instructions

pub one_code : (a b : List ℕ) (instrs : List Instr) → IsPlainCode a → IsPlainCode b → map meaning a ≡ map Some instrs → map meaning b ≡ map Some instrs → a ≡ b
one_code [] [] instrs p q m n = refl
one_code (x ∷ xs) (y ∷ ys) (i ∷ instrs) p q m n =
    let first : meaning x ≡ Some i = cc in
    let second : meaning y ≡ Some i = cc in
    let rest : map meaning xs ≡ map Some instrs = cc in
    let others : map meaning ys ≡ map Some instrs = cc in
    let below : ℕ → Type 0 = λ w. w < 2 ^ 32 in
    let here : x ≡ y =
    one_plain_word i x y
    (All-head below x xs p.1, (meaning_iff x i).0 first, rw first at p.0.0)
    (All-head below y ys q.1, (meaning_iff y i).0 second, rw second at q.0.0) in
    rw (here, one_code xs ys instrs (p.0.1, All-tail below x xs p.1) (q.0.1, All-tail below y ys q.1) rest others) refl
one_code z other u p q m n = absurd cc
