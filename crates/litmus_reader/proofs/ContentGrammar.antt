-- The reading of a text answers the test that its grammar says, and no other text has one.
use Rattle.std.proofs.Common.{◌≡◌, ℕ, suc, ◌+◌, ◌<◌, ◌≤◌, List, [], ◌∷◌, ◌++◌, length, map, All, Option, Some, Ok, refl, sym, ap, subst, ◌∙◌, arith}
use Rattle.std.specs.List.{slice_index_or}
use Rattle.std.proofs.lemmas.List.{length-map}
use Rattle.texts.specs.{before, after, is_byte, pieces}
use Rattle.texts.proofs.ResultLaws.{bind_ok, ok_is}
use Rattle.litmus_tokens.specs.Cleaning.{cleaned_text}
use Rattle.litmus_tokens.specs.Assignments.{AssignmentValue}
use Rattle.litmus_tokens.proofs.CommentLaws.{is_cleaned, only_cleaned}
use Rattle.litmus_reader.specs.declared.marks.Mark.TheVariants as mark
use Rattle.litmus_reader.specs.{before_line, from_line, after_header, after_brace, Names, InitItems, items_at, no_items, pieces_added, Code, Column, table_at}
use Rattle.litmus_reader.specs.{codes_of, HartContent, Content, with_registers, content, content_below, content_after, content_at, test_at, names_in, each_once}
use Rattle.litmus_reader.specs.{AreRegisters, IsHartThere, Cells, IsTable, atoms_in, AreKnown, AreHarts, IsContent}
use Rattle.litmus_reader.specs.Values.{Values, values_at, padded}
use Rattle.litmus_reader.specs.Condition.{Condition, condition_in}
use Rattle.litmus_reader.proofs.FirstAppearances.{Distinct, once_distinct, met, met-once, fewer}
use Rattle.litmus_reader.proofs.HeadingLaws.{init-some}
use Rattle.litmus_reader.proofs.LayoutLaws.{layout_found, layout_only}
use Rattle.litmus_reader.proofs.ItemLaws.{items_found, items_only}
use Rattle.litmus_reader.proofs.FirstValueLaws.{AreFirst, values_found, values_only, registers_one, words_one}
use Rattle.litmus_reader.proofs.ColumnLaws.{AreCodes, table_found, table_only}
use Rattle.litmus_reader.proofs.ConditionLaws.{AskOf, condition_found, condition_only}
use Rattle.texts.specs.declared.pieces.Separators.TheVariants.{Byte}

-- ---- harts: their code beside their registers

-- the registers of all harts from this one on
abbrev AreAllRegisters : Names → List AssignmentValue → (hart : ℕ) → List (List ℕ) → Type 0
AreAllRegisters names assignments hart [] = Unit {0}
AreAllRegisters names assignments hart (first ∷ others) = AreRegisters names assignments hart first × AreAllRegisters names assignments (hart + 1) others

all_registers : (names : Names) (assignments : List AssignmentValue) (hart : ℕ) (registers : List (List ℕ))
    → ((i j : ℕ) → j ≡ hart + i → i < length registers → AreRegisters names assignments j (slice_index_or registers i []))
    → AreAllRegisters names assignments hart registers
all_registers names assignments hart [] each = tt
all_registers names assignments hart (first ∷ others) each = (
  each 0 hart (omega arith) (omega arith),
  all_registers names assignments (hart + 1) others (λ i j at less. each (suc i) j (omega (arith, at)) (omega (arith, less))),
)

first_registers : (harts : ℕ) (names : Names) (assignments : List AssignmentValue) (values : Values) → AreFirst harts assignments names values
    → AreAllRegisters names assignments 0 values.registers
first_registers harts names assignments values first = all_registers names assignments 0 values.registers (λ i j at less.
    let same : j ≡ i = omega (arith, at) in rw same (first.registers i (omega (arith, less, first.count))))

harts_found : (names : Names) (assignments : List AssignmentValue) (rows : List Cells) (hart : ℕ) (codes : List Code)
    (registers : List (List ℕ)) → AreCodes rows hart codes → AreAllRegisters names assignments hart registers
    → AreHarts names assignments rows hart (with_registers codes registers)
harts_found names assignments rows hart (code ∷ codes) (first ∷ registers) are all =
    (are.0, all.0, refl, harts_found names assignments rows (hart + 1) codes registers are.1 all.1)
harts_found names assignments rows hart x y are all = tt

length-with : (codes : List Code) (registers : List (List ℕ)) → length registers ≡ length codes → length (with_registers codes registers) ≡ length codes
length-with [] registers same = refl
length-with (code ∷ codes) [] same = absurd (omega (arith, same))
length-with (code ∷ codes) (first ∷ registers) same = ap suc (length-with codes registers (omega (arith, same)))

abbrev code_of : HartContent → Code
code_of hart = hart.code

codes_found : (names : Names) (assignments : List AssignmentValue) (rows : List Cells) (hart : ℕ) (harts : List HartContent)
    → AreHarts names assignments rows hart harts → AreCodes rows hart (map code_of harts)
codes_found names assignments rows hart [] are = tt
codes_found names assignments rows hart (first ∷ others) are = (are.0, codes_found names assignments rows (hart + 1) others are.3)

one_hart : (first : HartContent) (registers : List ℕ) → first.inbox ≡ [] → first.registers ≡ registers
    → record { code = first.code; registers = registers; inbox = [] } ≡ first
one_hart first registers empty same = rw (← empty, ← same) refl

harts_only : (names : Names) (assignments : List AssignmentValue) (rows : List Cells) (hart : ℕ) (harts : List HartContent)
    (registers : List (List ℕ)) → Distinct names → length registers ≡ length harts → AreHarts names assignments rows hart harts
    → AreAllRegisters names assignments hart registers → with_registers (map code_of harts) registers ≡ harts
harts_only names assignments rows hart [] registers distinct same are all = refl
harts_only names assignments rows hart (first ∷ others) [] distinct same are all = absurd (omega (arith, same))
harts_only names assignments rows hart (first ∷ others) (next ∷ registers) distinct same are all =
    rw (one_hart first next are.2 (registers_one names assignments hart first.registers next distinct are.1 all.0)) (
    ap (λ (hs : List HartContent). first ∷ hs) (harts_only names assignments rows (hart + 1) others registers distinct (omega (arith, same)) are.3 all.1))

-- ---- the whole, from its reading

record Below (resolved_items : InitItems) (codes : List Code) (o : Option (List ℕ)) (whole : Content) : Type 0 where
  values : Values
  condition : Condition
  text : List ℕ
  assignment : values_at (length codes) resolved_items ≡ Ok values
  begins : o ≡ Some text
  asks : condition_in (length codes) resolved_items.names text ≡ Ok condition
  is : content codes values condition ≡ whole

below_of : (resolved_items : InitItems) (codes : List Code) (o : Option (List ℕ)) (whole : Content)
    → content_below resolved_items codes o ≡ Ok whole → Below resolved_items codes o whole
unfolding content_below
below_of resolved_items codes o whole e = grind (arith, bind_ok, ok_is)

record Following (resolved_items : InitItems) (text : List ℕ) (whole : Content) : Type 0 where
  columns : List Column
  codes : List Code
  rows : table_at (before_line mark.Condition text) ≡ Ok columns
  placed : codes_of columns ≡ Ok codes
  below : Below resolved_items codes (from_line mark.Condition text) whole

after_of : (resolved_items : InitItems) (text : List ℕ) (whole : Content) → content_after resolved_items text ≡ Ok whole → Following resolved_items text whole
unfolding content_after
after_of resolved_items text whole e = grind (arith, bind_ok, below_of)

record Read (text : List ℕ) (whole : Content) : Type 0 where
  below : List ℕ
  inner : List ℕ
  resolved_items : InitItems
  rest : List ℕ
  headed : after_header text ≡ Ok below
  braced : after_brace below ≡ Ok inner
  items : pieces_added no_items (pieces (Byte 59) (before (is_byte 125) inner)) ≡ Ok resolved_items
  closed : after (is_byte 125) inner ≡ Some rest
  following : Following resolved_items rest whole

read_of : (text : List ℕ) (whole : Content) → content_at text ≡ Ok whole → Read text whole
unfolding content_at items_at
read_of text whole e = grind (arith, bind_ok, init-some, after_of)

pub content_found : (text : List ℕ) (whole : Content) → test_at text ≡ Ok whole → IsContent text whole
unfolding test_at
content_found text whole e =
    let read = read_of (cleaned_text text) whole e in
    let following = read.following in
    let below = following.below in
    let harts = length following.codes in
    let items = items_found (pieces (Byte 59) (before (is_byte 125) read.inner)) read.resolved_items read.items in
    let table = table_found (before_line mark.Condition read.rest) following.columns following.codes following.rows following.placed in
    let asks = condition_found harts read.resolved_items.names below.text below.condition below.asks in
    let more = names_in (atoms_in asks.words) in
    let names = ap (λ (ns : Names). met ns more) items.2.names ∙ met-once (names_in items.0) more in
    let first = subst (λ (ns : Names). AreFirst harts items.0 ns below.values) (sym asks.named)
    (values_found harts items.0 read.resolved_items more below.values items.2
    (subst Distinct (sym names) (once_distinct (names_in items.0 ++ more))) below.assignment) in
    let count : length (with_registers following.codes below.values.registers) ≡ harts = length-with following.codes below.values.registers first.count in
    subst (IsContent text) below.is (record {
      clean = cleaned_text text;
      init = before (is_byte 125) read.inner;
      table = before_line mark.Condition read.rest;
      condition_text = below.text;
      assignments = items.0;
      rows = table.0;
      tokens = asks.words;
      known = asks.known;
      cleaned = is_cleaned text;
      laid_out = layout_found (cleaned_text text) read.below read.inner read.rest below.text read.headed read.braced read.closed below.begins;
      items = items.1;
      tabled = subst (λ (n : ℕ). IsTable (before_line mark.Condition read.rest) n table.0) (sym count) table.1;
      harts = harts_found below.condition.names items.0 table.0 0 following.codes below.values.registers table.2
          (first_registers harts below.condition.names items.0 below.values first);
      there = subst (λ (n : ℕ). All (IsHartThere n) items.0) (sym count) first.there;
      quantified = asks.asks;
      named = asks.named ∙ names;
      few = asks.few items.2.few;
      first_words = first.words;
      all_known = subst (λ (n : ℕ). AreKnown n below.condition.names asks.words asks.known) (sym count) asks.all;
      condition = asks.stands;
    })

-- ---- and back

pub content_only : (text : List ℕ) (whole : Content) → IsContent text whole → test_at text ≡ Ok whole
unfolding test_at content_at content_after content_below items_at
content_only text whole is =
    let harts = length whole.harts in
    let more = names_in (atoms_in is.tokens) in
    let clean : cleaned_text text ≡ is.clean = only_cleaned text is.clean is.cleaned in
    let laying = layout_only is.clean is.init is.table is.condition_text is.laid_out in
    let named : met (each_once (names_in is.assignments)) more ≡ whole.names = met-once (names_in is.assignments) more ∙ sym is.named in
    let front : length (each_once (names_in is.assignments)) ≤ 1024 =
    omega (arith, is.few, ap length named, fewer (each_once (names_in is.assignments)) more) in
    let items = items_only (pieces (Byte 59) is.init) is.assignments is.items front in
    let names : met items.0.names more ≡ whole.names = ap (λ (ns : Names). met ns more) items.2.names ∙ named in
    let distinct : Distinct whole.names = subst Distinct (sym is.named) (once_distinct (names_in is.assignments ++ more)) in
    let codes = map code_of whole.harts in
    let count : length codes ≡ harts = length-map whole.harts code_of in
    let table =
    table_only is.table is.rows codes (subst (λ (n : ℕ). IsTable is.table n is.rows) (sym count) is.tabled)
    (codes_found whole.names is.assignments is.rows 0 whole.harts is.harts) in
    let assignment = values_only harts is.assignments items.0 items.2 is.there in
    let values = assignment.0 in
    let first = subst (λ (ns : Names). AreFirst harts is.assignments ns values) names
    (values_found harts is.assignments items.0 more values items.2 (subst Distinct (sym names) distinct) assignment.1) in
    let same_harts : with_registers codes values.registers ≡ whole.harts =
    harts_only whole.names is.assignments is.rows 0 whole.harts values.registers distinct first.count is.harts
    (first_registers harts whole.names is.assignments values first) in
    let same_words : padded (length whole.names) values.words ≡ whole.words =
    words_one whole.names is.assignments _ whole.words distinct first.words is.first_words in
    let asks = condition_only harts items.0.names is.condition_text whole.quantifier is.tokens is.known whole.condition is.quantified
    (subst (AskOf harts is.tokens is.known) (sym names) (distinct, is.few, is.all_known)) is.condition in
    rw (
      clean,
      laying.headed,
      laying.braced,
      laying.opened,
      items.1,
      laying.closed,
      laying.above,
      table.1,
      table.2,
      count,
      assignment.1,
      laying.asks,
      asks,
      names,
      same_harts,
      same_words,
    ) refl
