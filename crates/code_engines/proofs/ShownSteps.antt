-- The steps text of an opening, read as a steps text, is that opening.
use Rattle.std.proofs.Common.{◌≡◌, ℕ, zero, suc, ◌+◌, ◌*◌, ◌-◌, ◌/◌, ◌<◌, ◌≤◌, eqb, ltb, false, List, [], ◌∷◌, ◌++◌, length, map, set, drop, refl, sym, ap}
use Rattle.std.proofs.Common.{subst, ◌∙◌, inr, append_assoc, length-append, arith, leb, get_or, Ok}
use Rattle.std.specs.Prelude.{codes, replicate}
use Rattle.std.specs.List.{AllByRecursion, AllZip, flat_map, slice_index_or}
use Rattle.std.specs.Char.{digit_value}
use Rattle.std.specs.Fmt.{decimal}
use Rattle.std.specs.Str.Lines.{lines}
use Rattle.std.specs.Str.Parse.{AllDigits}
use Rattle.std.proofs.Math.Seq.{set-append_seam}
use Rattle.std.proofs.lemmas.Bool.{ne_eqb}
use Rattle.std.proofs.lemmas.List.{append-nil, drop-replicate}
use Rattle.std.proofs.lemmas.List.Splits.{length-slice_split}
use Rattle.texts.specs.{is_byte, NonePass, IsHexWord, hex_word, Written, word_text, row_text}
use Rattle.texts.specs.Rows.Written.{plain, number}
use Rattle.texts.proofs.{split_stop, lines_of_parts-cons, is_low, Solid, solid_by_test, decimal_solid, decimal_says, AreSolid, row-again, row_none, line-stays}
use Rattle.texts.proofs.HexWords.{hex_word-said}
use Rattle.step_machine.specs.History.{HartOpeningValue, OpeningValue}
use Rattle.step_machine.specs.declared.events.Event.{Event}
use Rattle.litmus_reader.specs.Openings.{IsPlainHart, IsPlainOpening}
use Rattle.rv_decode.specs.Word.{IsWord}
use Rattle.engine_support.specs.OpeningTexts.{numbered, code_line, register_line, registers_text, hart_steps, word_line, steps_text}
use Rattle.code_engines.specs.ScriptValue.{ScriptValue, no_script, script_from, Statement, hart, reg, word, steps, register_set, with_statement, MayCome}
use Rattle.code_engines.specs.StepsText.{LineSays, LinesDescribe, Describes}
use Rattle.std.proofs.lemmas.Bool.Decides.{nat_tests}
use Rattle.code_engines.specs.StepsReading.{three_numbers, with_register}

-- ---- texts that lead from one script to another

-- what follows the text is read from the second one
abbrev Leads : ScriptValue → List ℕ → ScriptValue → Type 0
Leads t text u = (rest : List ℕ) (end : ScriptValue) → LinesDescribe u (lines rest) end → LinesDescribe t (lines (text ++ rest)) end

leads_on : (t u v : ScriptValue) (first second : List ℕ) → Leads t first u → Leads u second v → Leads t (first ++ second) v
leads_on t u v first second a b rest end tells =
    subst (λ (bytes : List ℕ). LinesDescribe t (lines bytes) end) (sym (append_assoc first second rest)) (a (second ++ rest) end (b rest end tells))

line_before : (line rest : List ℕ) → NonePass (is_byte 10) line → NonePass (is_byte 13) line → lines (line ++ 10 ∷ rest) ≡ line ∷ lines rest
line_before line rest feed return = grind (arith, eqb, split_stop, lines_of_parts-cons, length-slice_split, line-stays)

-- a line of words that says what may come
row-leads : (t : ScriptValue) (s : Statement) (row : List Written) → AreSolid row → LineSays (row_text row) s → MayCome t s
    → Leads t (row_text row ++ 10 ∷ []) (with_statement t s)
row-leads t s row solid parsed may rest end tells =
    let line = row_text row in
    let first : lines ((line ++ 10 ∷ []) ++ rest) ≡ line ∷ lines rest =
    ap (λ (bytes : List ℕ). lines bytes) (append_assoc line (10 ∷ []) rest)
    ∙ line_before line rest (row_none 10 (omega arith) row solid) (row_none 13 (omega arith) row solid) in
    subst (λ (read : List (List ℕ)). LinesDescribe t read end) (sym first) (inr (s, parsed, may, tells))

-- ---- a hart's code

low_no_digit : (c : ℕ) → digit_value c < 16 → is_low c ≡ false
low_no_digit c digit = grind (arith, ltb)

digits_solid : (ds : List ℕ) → AllDigits 16 ds → NonePass is_low ds
digits_solid [] all = tt
digits_solid (d ∷ ds) all = (low_no_digit d all.0, digits_solid ds all.1)

hex_solid : (w : ℕ) → IsWord w → Solid (hex_word w)
hex_solid w small = let parsed = hex_word-said w small in (parsed.1.0.0, digits_solid (hex_word w) parsed.1.0.1)

abbrev code_words : List ℕ → List Written
code_words [] = []
code_words (w ∷ code) = plain (hex_word w) ∷ code_words code

abbrev code_row : List ℕ → List Written
code_row code = plain (codes "hart") ∷ code_words code

code_text : (first : List ℕ) (code : List ℕ) → row_text (plain first ∷ code_words code) ≡ first ++ flat_map (λ w. 32 ∷ hex_word w) code
code_text first [] = sym (append-nil first)
code_text first (w ∷ code) = ap (λ (rest : List ℕ). first ++ 32 ∷ rest) (code_text (hex_word w) code)

code_solid : (code : List ℕ) → AllByRecursion IsWord code → AreSolid (code_words code)
code_solid [] all = tt
code_solid (w ∷ code) all = (hex_solid w all.0, code_solid code all.1)

code_parsed : (code : List ℕ) → AllByRecursion IsWord code → AllZip IsHexWord (map word_text (code_words code)) code
code_parsed [] all = tt
code_parsed (w ∷ code) all = (hex_word-said w all.0, code_parsed code all.1)

-- ---- harts that are added

abbrev with_harts : List HartOpeningValue → (words : List ℕ) → ScriptValue
with_harts harts words = record { harts = harts; words = words; events = [] }

abbrev hart_with : (code registers : List ℕ) → HartOpeningValue
hart_with code registers = record { code = code; registers = registers; inbox = [] }

-- the last hart so far has these registers
abbrev and_last : List HartOpeningValue → (code registers words : List ℕ) → ScriptValue
and_last front code registers words = with_harts (front ++ hart_with code registers ∷ []) words

code_leads : (front : List HartOpeningValue) (code words : List ℕ) → length front < 64 → length code ≤ 4096 → AllByRecursion IsWord code
    → Leads (with_harts front words) (code_line code) (and_last front code (replicate 32 0) words)
code_leads front code words room short all =
    let solid : AreSolid (code_row code) = (solid_by_test (codes "hart") refl, code_solid code all) in
    let says : LineSays (row_text (code_row code)) (hart code) =
    (map word_text (code_words code), row-again (code_row code) solid, code_parsed code all) in
    subst (λ (text : List ℕ). Leads (with_harts front words) (text ++ 10 ∷ []) (and_last front code (replicate 32 0) words))
    (code_text (codes "hart") code) (row-leads (with_harts front words) (hart code) (code_row code) solid says (room, short))

-- ---- registers

abbrev register_row : (h n v : ℕ) → List Written
register_row h n v = plain (codes "reg") ∷ number h ∷ number n ∷ number v ∷ []

register_text : (h n v : ℕ) → row_text (register_row h n (suc v)) ++ 10 ∷ [] ≡ register_line h n (suc v)
register_text h n v = rw (ne_eqb (suc v) 0 (λ same. omega (arith, same))) (simp append_assoc)

last_set : (front : List HartOpeningValue) (x : HartOpeningValue) (n v : ℕ)
    → register_set (front ++ x ∷ []) (length front) n v ≡ front ++ (record x { registers = set x.registers n v }) ∷ []
last_set [] x n v = refl
last_set (first ∷ front) x n v = ap (λ (harts : List HartOpeningValue). first ∷ harts) (last_set front x n v)

-- one more of a list that is 0 from there on
one_set : (done : List ℕ) (n m v : ℕ) → n ≡ length done → set (done ++ replicate (suc m) 0) n v ≡ (done ++ v ∷ []) ++ replicate m 0
one_set done n m v at = grind (arith, append_assoc, set-append_seam)

register_leads : (front : List HartOpeningValue) (code words done : List ℕ) (n m v : ℕ) → length front < 64 → n ≡ length done → 1 ≤ n → n < 32 → IsWord v
    → Leads (and_last front code (done ++ replicate (suc m) 0) words) (register_line (length front) n v)
    (and_last front code ((done ++ v ∷ []) ++ replicate m 0) words)
register_leads front code words done n m zero room at some below small =
    subst (λ (registers : List ℕ). Leads (and_last front code (done ++ replicate (suc m) 0) words) [] (and_last front code registers words))
    (sym (append_assoc done (0 ∷ []) (replicate m 0))) (λ rest end tells. tells)
register_leads front code words done n m (suc v) room at some below small =
    let h = length front in
    let row = register_row h n (suc v) in
    let before = done ++ replicate (suc m) 0 in
    let t = and_last front code before words in
    let solid : AreSolid row =
    (solid_by_test (codes "reg") refl, (decimal_solid h (omega arith), (decimal_solid n (omega arith), (decimal_solid (suc v) (omega (arith, small)), tt)))) in
    let says : LineSays (row_text row) (reg h n (suc v)) =
    (decimal h, decimal n, decimal (suc v), row-again row solid, decimal_says h (omega arith), decimal_says n (omega arith), decimal_says (suc v) small) in
    let may : MayCome t (reg h n (suc v)) = (omega (arith, length-append front (hart_with code before ∷ [])), some, below) in
    let harts = last_set front (hart_with code before) n (suc v)
    ∙ ap (λ (registers : List ℕ). front ++ hart_with code registers ∷ []) (one_set done n m (suc v) at) in
    let led : Leads t (row_text row ++ 10 ∷ []) (with_statement t (reg h n (suc v))) = row-leads t (reg h n (suc v)) row solid says may in
    subst (λ (text : List ℕ). Leads t text (and_last front code ((done ++ suc v ∷ []) ++ replicate m 0) words)) (register_text h n v)
    (subst (λ (after : List HartOpeningValue). Leads t (row_text row ++ 10 ∷ []) (with_harts after words)) harts led)

-- the registers from n on
registers_lead : (front : List HartOpeningValue) (code words done left all : List ℕ) (n : ℕ) → length front < 64 → n ≡ length done → 1 ≤ n
    → n + length left ≡ 32 → AllByRecursion IsWord left → all ≡ done ++ left
    → Leads (and_last front code (done ++ replicate (length left) 0) words) (numbered (register_line (length front)) n left) (and_last front code all words)
registers_lead front code words done [] all n room at some sum small whole =
    subst (λ (registers : List ℕ). Leads (and_last front code (done ++ []) words) [] (and_last front code registers words))
    (sym whole) (λ rest end tells. tells)
registers_lead front code words done (v ∷ left) all n room at some sum small whole =
    leads_on (and_last front code (done ++ replicate (suc (length left)) 0) words) (and_last front code ((done ++ v ∷ []) ++ replicate (length left) 0) words)
    (and_last front code all words) (register_line (length front) n v) (numbered (register_line (length front)) (n + 1) left)
    (register_leads front code words done n (length left) v room at some (omega (arith, sum)) small.0)
    (registers_lead front code words (done ++ v ∷ []) left all (n + 1) room (omega (arith, length-append done (v ∷ []))) (omega arith)
    (omega (arith, sum)) small.1 (whole ∙ sym (append_assoc done (v ∷ []) left)))

all_registers : (front : List HartOpeningValue) (code words registers : List ℕ) → length front < 64 → length registers ≡ 32 → slice_index_or registers 0 0 ≡ 0
    → AllByRecursion IsWord registers
    → Leads (and_last front code (replicate 32 0) words) (registers_text (length front) registers) (and_last front code registers words)
all_registers front code words [] room count none small = absurd (omega (arith, count))
all_registers front code words (suc v ∷ left) room count none small = absurd (omega (arith, none))
all_registers front code words (zero ∷ left) room count none small =
    let rest : length left ≡ 31 = omega (arith, count) in
    subst (λ (k : ℕ). Leads (and_last front code (0 ∷ replicate k 0) words) (numbered (register_line (length front)) 1 left)
    (and_last front code (0 ∷ left) words)) rest
    (registers_lead front code words (0 ∷ []) left (0 ∷ left) 1 room refl (omega arith) (omega arith) small.1 refl)

-- ---- harts

hart_leads : (front : List HartOpeningValue) (x : HartOpeningValue) (words : List ℕ) → length front < 64 → IsPlainHart x
    → Leads (with_harts front words) (hart_steps (length front) x) (with_harts (front ++ x ∷ []) words)
hart_leads front x words room is =
    subst (λ (inbox : List ℕ). Leads (with_harts front words) (hart_steps (length front) x)
    (with_harts (front ++ (record { code = x.code; registers = x.registers; inbox = inbox }) ∷ []) words)) (sym is.inbox)
    (leads_on (with_harts front words) (and_last front x.code (replicate 32 0) words) (and_last front x.code x.registers words)
    (code_line x.code) (registers_text (length front) x.registers) (code_leads front x.code words room is.short is.code)
    (all_registers front x.code words x.registers room is.count is.zero is.registers))

harts_lead : (front left all : List HartOpeningValue) (words : List ℕ) (h : ℕ) → h ≡ length front → h + length left ≤ 64 → AllByRecursion IsPlainHart left
    → all ≡ front ++ left → Leads (with_harts front words) (numbered hart_steps h left) (with_harts all words)
harts_lead front [] all words h at few are whole =
    subst (λ (harts : List HartOpeningValue). Leads (with_harts front words) [] (with_harts harts words))
    (sym (whole ∙ append-nil front)) (λ rest end tells. tells)
harts_lead front (x ∷ left) all words h at few are whole =
    leads_on (with_harts front words) (with_harts (front ++ x ∷ []) words) (with_harts all words) (hart_steps h x) (numbered hart_steps (h + 1) left)
    (subst (λ (k : ℕ). Leads (with_harts front words) (hart_steps k x) (with_harts (front ++ x ∷ []) words)) (sym at)
    (hart_leads front x words (omega (arith, at, few)) are.0))
    (harts_lead (front ++ x ∷ []) left all words (h + 1) (omega (arith, at, length-append front (x ∷ []))) (omega (arith, few)) are.1
    (whole ∙ sym (append_assoc front (x ∷ []) left)))

-- ---- words of memory

abbrev word_row : (a v : ℕ) → List Written
word_row a v = plain (codes "word") ∷ number a ∷ number v ∷ []

word_text_is : (place v : ℕ) → row_text (word_row (4 * place) (suc v)) ++ 10 ∷ [] ≡ word_line place (suc v)
word_text_is place v = rw (ne_eqb (suc v) 0 (λ same. omega (arith, same))) (simp append_assoc)

word_leads : (harts : List HartOpeningValue) (done : List ℕ) (place k v : ℕ) → place ≡ length done → place < 1024 → IsWord v
    → Leads (with_harts harts (done ++ replicate (suc k) 0)) (word_line place v) (with_harts harts ((done ++ v ∷ []) ++ replicate k 0))
word_leads harts done place k zero at few small =
    subst (λ (words : List ℕ). Leads (with_harts harts (done ++ replicate (suc k) 0)) [] (with_harts harts words))
    (sym (append_assoc done (0 ∷ []) (replicate k 0))) (λ rest end tells. tells)
word_leads harts done place k (suc v) at few small =
    let a = 4 * place in
    let row = word_row a (suc v) in
    let before = done ++ replicate (suc k) 0 in
    let t = with_harts harts before in
    let solid : AreSolid row = (solid_by_test (codes "word") refl, (decimal_solid a (omega arith), (decimal_solid (suc v) (omega (arith, small)), tt))) in
    let says : LineSays (row_text row) (word a (suc v)) =
    (decimal a, decimal (suc v), row-again row solid, decimal_says a (omega arith), decimal_says (suc v) small) in
    let long : length before ≡ length done + suc (length (replicate k 0)) = length-append done (replicate (suc k) 0) in
    let may : MayCome t (word a (suc v)) = (omega arith, omega (arith, long, at)) in
    let there : a / 4 ≡ place = omega arith in
    let words : set before (a / 4) (suc v) ≡ (done ++ suc v ∷ []) ++ replicate k 0 =
    ap (λ (i : ℕ). set before i (suc v)) there ∙ one_set done place k (suc v) at in
    let led : Leads t (row_text row ++ 10 ∷ []) (with_statement t (word a (suc v))) = row-leads t (word a (suc v)) row solid says may in
    subst (λ (text : List ℕ). Leads t text (with_harts harts ((done ++ suc v ∷ []) ++ replicate k 0))) (word_text_is place v)
    (subst (λ (after : List ℕ). Leads t (row_text row ++ 10 ∷ []) (with_harts harts after)) words led)

-- the words from a place on; k are left in memory, of which m stay 0
words_lead : (harts : List HartOpeningValue) (done left all : List ℕ) (place k m : ℕ) → place ≡ length done → place + length left ≤ 1024
    → k ≡ length left + m → AllByRecursion IsWord left → all ≡ done ++ left
    → Leads (with_harts harts (done ++ replicate k 0)) (numbered word_line place left) (with_harts harts (all ++ replicate m 0))
words_lead harts done [] all place k m at few room small whole =
    let same : k ≡ m = omega (arith, room) in
    let words : done ++ replicate k 0 ≡ all ++ replicate m 0 =
    ap (λ (n : ℕ). done ++ replicate n 0) same ∙ ap (λ (xs : List ℕ). xs ++ replicate m 0) (sym (whole ∙ append-nil done)) in
    subst (λ (after : List ℕ). Leads (with_harts harts (done ++ replicate k 0)) [] (with_harts harts after)) words (λ rest end tells. tells)
words_lead harts done (v ∷ left) all place zero m at few room small whole = absurd (omega (arith, room))
words_lead harts done (v ∷ left) all place (suc k) m at few room small whole =
    leads_on (with_harts harts (done ++ replicate (suc k) 0)) (with_harts harts ((done ++ v ∷ []) ++ replicate k 0)) (with_harts harts (all ++ replicate m 0))
    (word_line place v) (numbered word_line (place + 1) left) (word_leads harts done place k v at (omega (arith, few)) small.0)
    (words_lead harts (done ++ v ∷ []) left all (place + 1) k m (omega (arith, at, length-append done (v ∷ []))) (omega (arith, few))
    (omega (arith, room)) small.1 (whole ∙ sym (append_assoc done (v ∷ []) left)))

-- ---- an opening

opening_leads : (M : ℕ) (o : OpeningValue) → IsPlainOpening o → length o.words ≤ M → Leads (no_script M) (steps_text o) (script_from M o [])
unfolding steps_text
opening_leads M o is room =
    let rest : replicate (M - length o.words) 0 ≡ drop (length o.words) (replicate M 0) = sym (drop-replicate (length o.words) M 0) in
    subst (λ (zeros : List ℕ). Leads (no_script M) (steps_text o) (with_harts o.harts (o.words ++ zeros))) rest
    (leads_on (no_script M) (with_harts o.harts (replicate M 0)) (with_harts o.harts (o.words ++ replicate (M - length o.words) 0))
    (numbered hart_steps 0 o.harts) (numbered word_line 0 o.words)
    (harts_lead [] o.harts o.harts (replicate M 0) 0 refl (omega (arith, is.few)) is.harts refl)
    (words_lead o.harts [] o.words o.words 0 M (M - length o.words) refl (omega (arith, is.locations)) (omega arith) is.words refl))

pub opens : (M : ℕ) (o : OpeningValue) → IsPlainOpening o → length o.words ≤ M → Describes M (steps_text o) (script_from M o [])
opens M o is room =
    let led = opening_leads M o is room [] (script_from M o []) refl in
    record {
      lines_describe = subst (λ (text : List ℕ). LinesDescribe (no_script M) (lines text) (script_from M o [])) (append-nil (steps_text o)) led;
      some_hart = is.some_hart;
    }

pub opens_with : (M : ℕ) (o : OpeningValue) (more line : List ℕ) (events : List Event) → IsPlainOpening o → length o.words ≤ M → lines more ≡ line ∷ []
    → LineSays line (steps events) → length events ≤ 1048576 → Describes M (steps_text o ++ more) (script_from M o events)
opens_with M o more line events is room one says few =
    let t = script_from M o [] in
    let last : LinesDescribe t (line ∷ []) (script_from M o events) = inr (steps events, says, omega (arith, few), refl) in
    record {
      lines_describe = opening_leads M o is room more (script_from M o events)
          (subst (λ (read : List (List ℕ)). LinesDescribe t read (script_from M o events)) (sym one) last);
      some_hart = is.some_hart;
    }

-- ---- a register set in a list of harts

-- the hart x, with v in register n
abbrev pub with_value : HartOpeningValue → (n v : ℕ) → HartOpeningValue
with_value x n v = record x { registers = set x.registers n v }

pub register_set-is : (harts : List HartOpeningValue) (h n v : ℕ) (x : HartOpeningValue) → h < length harts → x ≡ get_or harts h x
    → register_set harts h n v ≡ set harts h (with_value x n v)
register_set-is [] h n v x lt e = absurd (omega arith)
register_set-is (first ∷ others) zero n v x lt e = ap (λ (y : HartOpeningValue). with_value y n v ∷ others) (sym e)
register_set-is (first ∷ others) (suc h) n v x lt e = ap (λ (ys : List HartOpeningValue). first ∷ ys) (register_set-is others h n v x (omega arith) e)

pub with_register-done : (harts : List HartOpeningValue) (text : List (List ℕ)) (h n v : ℕ) (x : HartOpeningValue)
    → three_numbers text ≡ Ok (h, n, v) → h < length harts → (n ≡ 0 → ⊥) → n < 32 → x ≡ get_or harts h x
    → with_register harts text ≡ Ok (set harts h (with_value x n v))
unfolding with_register
with_register-done harts text h n v x parsed lt some below e = grind (arith, leb, eqb, nat_tests, register_set-is)
