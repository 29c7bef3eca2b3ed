-- A steps text as a whole: what is read is what it tells, and what it tells is read.
use Rattle.std.proofs.Common.{◌≡◌, ℕ, ◌+◌, ◌≤◌, eqb, length-append, List, [], ◌∷◌, length, Ok, sym, ap, subst, ◌∙◌, inl, inr, arith, ◌-◌, ◌/◌, ◌%◌, ◌<◌, false}
use Rattle.std.proofs.Common.{not, ◌||◌, cond, ltb, leb, ◌++◌, set, Option, Some, None, Err, refl, ◌⊎◌}
use Rattle.std.proofs.lemmas.Bool.{eqb-false, ne_eqb, cases_Bool}
use Rattle.std.specs.Prelude.{codes}
use Rattle.std.specs.List.{AllZip}
use Rattle.std.proofs.lemmas.Bool.Decides.{nat_tests}
use Rattle.std.proofs.lemmas.Slice.Eq.{bytes_eq-Decides}
use Rattle.memory.specs.Words.{IsAddress}
use Rattle.step_machine.specs.History.{HartOpeningValue}
use Rattle.step_machine.specs.declared.events.Event.{Event}
use Rattle.texts.proofs.ResultLaws.{bind_ok, guard_ok, ok_is}
use Rattle.texts.specs.{IsHexWord, DecidesGrammar, tokens, first_cut}
use Rattle.texts.proofs.{bind_ok, ok_is, settled_found, settled_only, settles_then, settles_unless, settles_ok, settles_map_err, tokens-cut, tokens_uncut}
use Rattle.texts.proofs.{tokens-first, tokens_none}
use Rattle.recorder.specs.Schedule.{IsTokensOf}
use Rattle.recorder.proofs.TextLaws.{further_settles}
use Rattle.engine_support.specs.declared.fault.Refusal.{Refusal}
use Rattle.engine_support.specs.Faults.{at_line, bad_line}
use Rattle.engine_support.proofs.LineReading.{at_line-ok}
use Rattle.code_engines.specs.ScriptValue.{ScriptValue, Statement, with_statement, MayCome, hart, reg, word, steps, fresh, register_set}
use Rattle.code_engines.specs.StepsText.{LinesDescribe, Describes, LineSays}
use Rattle.code_engines.specs.StepsReading.{after_line, after_lines, script_at, two_numbers, three_numbers, with_hart, with_register, with_word, with_steps}
use Rattle.code_engines.specs.StepsReading.{keyword_named, by_keyword, by_cut}
use Rattle.code_engines.specs.declared.steps.line.Keyword.{Keyword}
use Rattle.code_engines.specs.declared.steps.line.Keyword.TheVariants as keyword
use Rattle.code_engines.proofs.CodeTexts.{code_settles, SayTwo, two_settles, Three, SayThree, three_settles}

-- A line of a steps text: what is read of it is what it says.

-- ---- keywords

abbrev spelling : Keyword → List ℕ
spelling keyword.Hart = codes "hart"
spelling keyword.Register = codes "reg"
spelling keyword.Word = codes "word"
spelling keyword.Steps = codes "steps"

abbrev some : Keyword → Option Keyword
some k = Some k

some_is : (a b : Keyword) → some a ≡ some b → a ≡ b
some_is a b e = cc

named : (name : List ℕ) (k : Keyword) → keyword_named name ≡ Some k → name ≡ spelling k
named name k e = grind (arith, cases_Bool, bytes_eq-Decides, some_is)

-- ---- what each kind of line changes

hart_settles : (harts : List HartOpeningValue) (text : List (List ℕ))
    → DecidesGrammar (λ made. (code : List ℕ) × AllZip IsHexWord text code
    × (((length harts < 64) × (length code ≤ 4096)) × (made ≡ harts ++ fresh code ∷ []))) (with_hart harts text)
unfolding with_hart
hart_settles harts text = grind (arith, settles_then, leb, ltb, code_settles, settles_unless, nat_tests, settles_ok)

-- a hart that there is, and a register but x0
abbrev IsRegister : List HartOpeningValue → Three → Type 0
IsRegister harts s = (s.0 < length harts) × (1 ≤ s.1) × (s.1 < 32)

register_settles : (harts : List HartOpeningValue) (text : List (List ℕ))
    → DecidesGrammar (λ made. (s : Three) × SayThree text s × (IsRegister harts s × (made ≡ register_set harts s.0 s.1 s.2)))
    (with_register harts text)
unfolding with_register
register_settles harts text =
    settles_then (SayThree text) (λ s made. IsRegister harts s × (made ≡ register_set harts s.0 s.1 s.2)) (three_numbers text)
    (λ s. cond (leb (length harts) s.0 || eqb s.1 0 || leb 32 s.1) (Err bad_line) (Ok (register_set harts s.0 s.1 s.2))) (three_settles text)
    (λ s is. settles_unless (λ made. made ≡ register_set harts s.0 s.1 s.2) (IsRegister harts s) (leb (length harts) s.0 || eqb s.1 0 || leb 32 s.1)
    bad_line (Ok (register_set harts s.0 s.1 s.2)) (passes s.0 s.1) (fits s.0 s.1) (λ small. settles_ok ℕ (register_set harts s.0 s.1 s.2)))
  where
    passes : (h n : ℕ) → (leb (length harts) h || eqb n 0 || leb 32 n) ≡ false → (h < length harts) × (1 ≤ n) × (n < 32)
    passes h n e = grind (arith, nat_tests)

    fits : (h n : ℕ) → (h < length harts) × (1 ≤ n) × (n < 32) → (leb (length harts) h || eqb n 0 || leb 32 n) ≡ false
    fits h n register = grind (arith, nat_tests)

word_settles : (memory : List ℕ) (text : List (List ℕ)) → DecidesGrammar
    (λ made. (s : ℕ × ℕ) × SayTwo text s × (IsAddress (length memory) s.0 × (made ≡ set memory (s.0 / 4) s.1)))
    (with_word memory text)
unfolding with_word
word_settles memory text =
    settles_then (SayTwo text) (λ s made. IsAddress (length memory) s.0 × (made ≡ set memory (s.0 / 4) s.1)) (two_numbers text)
    (λ s. cond (not (eqb (s.0 % 4) 0) || leb (length memory) (s.0 / 4)) (Err bad_line) (Ok (set memory (s.0 / 4) s.1))) (two_settles text)
    (λ s is. settles_unless (λ made. made ≡ set memory (s.0 / 4) s.1) (IsAddress (length memory) s.0) (not (eqb (s.0 % 4) 0) || leb (length memory) (s.0 / 4))
    bad_line (Ok (set memory (s.0 / 4) s.1)) (passes s.0) (fits s.0) (λ small. settles_ok ℕ (set memory (s.0 / 4) s.1)))
  where
    passes : (a : ℕ) → (not (eqb (a % 4) 0) || leb (length memory) (a / 4)) ≡ false → IsAddress (length memory) a
    passes a e = grind (arith, nat_tests)

    fits : (a : ℕ) → IsAddress (length memory) a → (not (eqb (a % 4) 0) || leb (length memory) (a / 4)) ≡ false
    fits a address = grind (arith, nat_tests)

steps_settle : (events : List Event) (text : List ℕ) → length events ≤ 1048576 → DecidesGrammar (λ made.
    (more : List Event) × (IsTokensOf text more × (length more ≤ 1048576 - length events)) × (made ≡ events ++ more))
    (with_steps events text)
unfolding with_steps
steps_settle events text few = grind (arith, settles_then, settles_map_err, further_settles, settles_ok)

-- ---- a line

-- the line has no word and changes nothing, or says what may come and changes that
abbrev pub LineMakes : ScriptValue → List ℕ → ScriptValue → Type 0
LineMakes before line made = ((tokens line ≡ []) × (made ≡ before)) ⊎ ((s : Statement) × LineSays line s × MayCome before s × (made ≡ with_statement before s))

-- ---- what is read of a line is what it says

abbrev cut_of : List ℕ → List ℕ → Option (List ℕ × List ℕ)
cut_of name rest = Some (name, rest)

with_name : (line name rest : List ℕ) (k : Keyword) → first_cut line ≡ Some (name, rest) → keyword_named name ≡ Some k → tokens line ≡ spelling k ∷ tokens rest
with_name line name rest k cut e = tokens-cut line name rest cut ∙ ap (λ (w : List ℕ). w ∷ tokens rest) (named name k e)

module _ (t : ScriptValue) (line name rest : List ℕ) (made : ScriptValue) (cut : first_cut line ≡ Some (name, rest)) where
  abbrev Makes : Keyword → Type 0
  Makes k = keyword_named name ≡ Some k → by_keyword t (Some k) rest ≡ Ok made → LineMakes t line made

  hart_made : Makes keyword.Hart
  hart_made k e =
      let read = bind_ok (with_hart t.harts (tokens rest)) (λ harts. Ok (record t { harts = harts })) made e in
      let (code, say, (fits, same)) = settled_found _ (with_hart t.harts (tokens rest)) read.0 (hart_settles t.harts (tokens rest)) read.1 in
      inr (
        hart code,
        (tokens rest, with_name line name rest keyword.Hart cut k, say),
        fits,
        sym (ok_is ℕ (record t { harts = read.0 }) made read.2) ∙ ap (λ (harts : List HartOpeningValue). record t { harts = harts }) same,
      )

  register_made : Makes keyword.Register
  register_made k e =
      let read = bind_ok (with_register t.harts (tokens rest)) (λ harts. Ok (record t { harts = harts })) made e in
      let (s, (H, N, V, are, h, n, v), (fits, same)) = settled_found _ (with_register t.harts (tokens rest)) read.0
      (register_settles t.harts (tokens rest)) read.1 in
      inr (
        reg s.0 s.1 s.2,
        (H, N, V, with_name line name rest keyword.Register cut k ∙ ap (λ (ws : List (List ℕ)). codes "reg" ∷ ws) are, h, n, v),
        fits,
        sym (ok_is ℕ (record t { harts = read.0 }) made read.2) ∙ ap (λ (harts : List HartOpeningValue). record t { harts = harts }) same,
      )

  word_made : Makes keyword.Word
  word_made k e =
      let read = bind_ok (with_word t.words (tokens rest)) (λ memory. Ok (record t { words = memory })) made e in
      let (s, (A, V, are, a, v), (fits, same)) = settled_found _ (with_word t.words (tokens rest)) read.0 (word_settles t.words (tokens rest)) read.1 in
      inr (
        word s.0 s.1,
        (A, V, with_name line name rest keyword.Word cut k ∙ ap (λ (ws : List (List ℕ)). codes "word" ∷ ws) are, a, v),
        fits,
        sym (ok_is ℕ (record t { words = read.0 }) made read.2) ∙ ap (λ (memory : List ℕ). record t { words = memory }) same,
      )

  steps_made : length t.events ≤ 1048576 → Makes keyword.Steps
  steps_made few k e =
      let read = bind_ok (with_steps t.events rest) (λ events. Ok (record t { events = events })) made e in
      let (more, (are, room), same) = settled_found _ (with_steps t.events rest) read.0 (steps_settle t.events rest few) read.1 in
      inr (
        steps more,
        (rest, subst (λ (w : List ℕ). first_cut line ≡ cut_of w rest) (named name keyword.Steps k) cut, are),
        omega (arith, room),
        sym (ok_is ℕ (record t { events = read.0 }) made read.2) ∙ ap (λ (events : List Event). record t { events = events }) same,
      )

  name_made : (k : Option Keyword) → keyword_named name ≡ k → length t.events ≤ 1048576 → by_keyword t k rest ≡ Ok made → LineMakes t line made
  name_made k named few is = grind (arith, hart_made, register_made, steps_made, word_made)

cut_made : (t : ScriptValue) (line : List ℕ) (made : ScriptValue) (cut : Option (List ℕ × List ℕ)) → first_cut line ≡ cut
    → length t.events ≤ 1048576 → by_cut t cut ≡ Ok made → LineMakes t line made
cut_made t line made None cut few e = inl (tokens_uncut line cut, sym (ok_is ℕ t made e))
cut_made t line made (Some (name, rest)) cut few e = name_made t line name rest made cut (keyword_named name) refl few e

pub line-made : (t : ScriptValue) (line : List ℕ) (made : ScriptValue) → length t.events ≤ 1048576 → after_line t line ≡ Ok made → LineMakes t line made
unfolding after_line
line-made t line made few e = cut_made t line made (first_cut line) refl few e

-- ---- what a line says is read

hart_read : (t : ScriptValue) (line code : List ℕ) → LineSays line (hart code) → MayCome t (hart code) → after_line t line ≡ Ok (with_statement t (hart code))
unfolding after_line
hart_read t line code parsed fits =
    let first = tokens-first line (codes "hart") parsed.0 parsed.1 in
    rw (
      first.1,
      first.2,
      settled_only _ (with_hart t.harts parsed.0) (t.harts ++ fresh code ∷ []) (hart_settles t.harts parsed.0)
          (code, parsed.2, (fits, refl)),
    ) refl

register_read : (t : ScriptValue) (line : List ℕ) (h n v : ℕ) → LineSays line (reg h n v) → MayCome t (reg h n v)
    → after_line t line ≡ Ok (with_statement t (reg h n v))
unfolding after_line
register_read t line h n v parsed fits =
    let first = tokens-first line (codes "reg") (parsed.0 ∷ parsed.1 ∷ parsed.2 ∷ []) parsed.3 in
    let text = parsed.0 ∷ parsed.1 ∷ parsed.2 ∷ [] in
    rw (
      first.1,
      first.2,
      settled_only _ (with_register t.harts text) (register_set t.harts h n v) (register_settles t.harts text)
          ((h, n, v), (parsed.0, parsed.1, parsed.2, refl, parsed.4, parsed.5, parsed.6), (fits, refl)),
    ) refl

word_read : (t : ScriptValue) (line : List ℕ) (a v : ℕ) → LineSays line (word a v) → MayCome t (word a v) → after_line t line ≡ Ok (with_statement t (word a v))
unfolding after_line
word_read t line a v parsed fits =
    let first = tokens-first line (codes "word") (parsed.0 ∷ parsed.1 ∷ []) parsed.2 in
    let text = parsed.0 ∷ parsed.1 ∷ [] in
    rw (
      first.1,
      first.2,
      settled_only _ (with_word t.words text) (set t.words (a / 4) v) (word_settles t.words text)
          ((a, v), (parsed.0, parsed.1, refl, parsed.3, parsed.4), (fits, refl)),
    ) refl

steps_read : (t : ScriptValue) (line : List ℕ) (events : List Event) → LineSays line (steps events)
    → MayCome t (steps events) → after_line t line ≡ Ok (with_statement t (steps events))
unfolding after_line
steps_read t line events parsed fits = rw (
  parsed.1,
  settled_only _ (with_steps t.events parsed.0) (t.events ++ events)
      (steps_settle t.events parsed.0 (omega (arith, fits))) (events, (parsed.2, omega (arith, fits)), refl),
) refl

pub statement_read : (t : ScriptValue) (line : List ℕ) (s : Statement) → LineSays line s → MayCome t s → after_line t line ≡ Ok (with_statement t s)
statement_read t line s parsed fits = grind (arith, hart_read, register_read, word_read, steps_read)

pub blank_read : (t : ScriptValue) (line : List ℕ) → tokens line ≡ [] → after_line t line ≡ Ok t
unfolding after_line
blank_read t line none = rw (tokens_none line none) refl

-- the events stay within their limit
few_stay : (t : ScriptValue) (s : Statement) → length t.events ≤ 1048576 → MayCome t s → length (with_statement t s).events ≤ 1048576
few_stay t s few fits = grind (arith, length-append)

pub lines_sound : (t : ScriptValue) (number : ℕ) (left : List (List ℕ)) (script : ScriptValue)
    → length t.events ≤ 1048576 → after_lines t number left ≡ Ok script → LinesDescribe t left script
unfolding after_lines
lines_sound t number [] script few e = sym (ok_is Refusal t script e)
lines_sound t number (line ∷ others) script few e =
    let first = bind_ok (at_line number (after_line t line)) (λ next. after_lines next (number + 1) others) script e in
    elim (line-made t line first.0 few (at_line-ok number (after_line t line) first.0 first.1)) [
      | inl blank ↦ inl (
        blank.0,
        subst (λ (u : ScriptValue). LinesDescribe u others script) blank.1
            (lines_sound first.0 (number + 1) others script (rw blank.1 few) first.2),
      )
      | inr parsed ↦ inr (
        parsed.0,
        parsed.1,
        parsed.2,
        subst (λ (u : ScriptValue). LinesDescribe u others script) parsed.3
            (lines_sound first.0 (number + 1) others script (rw parsed.3 (few_stay t parsed.0 few parsed.2)) first.2),
      )
    ]

pub lines_read : (t : ScriptValue) (number : ℕ) (left : List (List ℕ)) (script : ScriptValue)
    → LinesDescribe t left script → after_lines t number left ≡ Ok script
unfolding after_lines
lines_read t number [] script tell = ap (λ (u : ScriptValue). Ok u) (sym tell)
lines_read t number (line ∷ others) script (inl blank) = rw (blank_read t line blank.0) (lines_read t (number + 1) others script blank.1)
lines_read t number (line ∷ others) script (inr parsed) = rw (statement_read t line parsed.0 parsed.1 parsed.2)
    (lines_read (with_statement t parsed.0) (number + 1) others script parsed.3)

pub text_sound : (M : ℕ) (text : List ℕ) (script : ScriptValue) → script_at M text ≡ Ok script → Describes M text script
unfolding script_at
text_sound M text script e = grind (arith, bind_ok, guard_ok, eqb, eqb-false, lines_sound)

pub text_read : (M : ℕ) (text : List ℕ) (script : ScriptValue) → Describes M text script → script_at M text ≡ Ok script
unfolding script_at
text_read M text script tells = grind (arith, eqb, ne_eqb, lines_read)

pub one_script : (M : ℕ) (text : List ℕ) (a b : ScriptValue) → Describes M text a → Describes M text b → a ≡ b
one_script M text a b p q = ok_is Refusal a b (sym (text_read M text a p) ∙ text_read M text b q)
