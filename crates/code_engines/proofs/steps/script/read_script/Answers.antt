use Rattle.std.proofs.Common.{arith, ℕ, List, Result, Ok, Err, subst, ◌≡◌, zero, suc, ◌≤◌, [], ◌∷◌, ◌++◌, length, refl, ap, inl, inr, length-append, length-set}
use Rattle.std.specs.Prelude.{IfOk}
use Rattle.std.specs.List.{AllByRecursion}
use Rattle.std.specs.Str.Lines.{lines}
use Rattle.std.proofs.lemmas.List.{length-replicate}
use Rattle.std.proofs.lemmas.List.Elements.{All-from_recursion}
use Rattle.step_machine.specs.History.{FitsIn, HartOpeningValue, IsShort}
use Rattle.engine_support.specs.declared.fault.Fault.{Fault}
use Rattle.engine_support.specs.declared.fault.Refusal.{Refusal}
use Rattle.engine_support.specs.Faults.{Answers}
use Rattle.code_engines.specs.ScriptValue.{script_value, ScriptValue, opening_of_script, no_script, fresh, register_set, Statement, with_statement, MayCome}
use Rattle.code_engines.proofs.steps.script.read_script.Goals as goal
use Rattle.code_engines.specs.StepsText.{Describes, LinesDescribe}
use Rattle.code_engines.specs.StepsReading.{script_at}
use Rattle.code_engines.proofs.Describing.{text_sound, text_read}

-- What the reader of steps texts answers, in the words of the text.

-- What a steps text tells keeps within the limits of an opening.

record Within (M : ℕ) (t : ScriptValue) : Type 0 where
  harts : length t.harts ≤ 64
  code : AllByRecursion IsShort t.harts
  memory : length t.words ≡ M

short_added : (harts : List HartOpeningValue) (code : List ℕ) → AllByRecursion IsShort harts → length code ≤ 4096
    → AllByRecursion IsShort (harts ++ fresh code ∷ [])
short_added [] code all short = (short, tt)
short_added (h ∷ harts) code all short = (all.0, short_added harts code all.1 short)

short_kept : (harts : List HartOpeningValue) (h n v : ℕ) → AllByRecursion IsShort harts → AllByRecursion IsShort (register_set harts h n v)
short_kept [] h n v all = tt
short_kept (first ∷ others) zero n v all = all
short_kept (first ∷ others) (suc h) n v all = (all.0, short_kept others h n v all.1)

length-register_set : (harts : List HartOpeningValue) (h n v : ℕ) → length (register_set harts h n v) ≡ length harts
length-register_set (first ∷ others) (suc h) n v = ap suc (length-register_set others h n v)
length-register_set x y n v = refl

within_stays : (M : ℕ) (t : ScriptValue) (s : Statement) → Within M t → MayCome t s → Within M (with_statement t s)
within_stays M t s w fits = grind (arith, length-append, short_added, length-register_set, short_kept, length-set)

within_lines : (M : ℕ) (t : ScriptValue) (left : List (List ℕ)) (script : ScriptValue) → Within M t → LinesDescribe t left script → Within M script
within_lines M t [] script w tell = rw tell w
within_lines M t (line ∷ others) script w (inl blank) = within_lines M t others script w blank.1
within_lines M t (line ∷ others) script w (inr parsed) =
    within_lines M (with_statement t parsed.0) others script (within_stays M t parsed.0 w parsed.2) parsed.3

pub script_fits : (M : ℕ) (text : List ℕ) (script : ScriptValue) → Describes M text script → FitsIn M (opening_of_script script)
script_fits M text script tells =
    let none : Within M (no_script M) = record { harts = omega arith; code = tt; memory = length-replicate M 0 } in
    let w = within_lines M (no_script M) (lines text) script none tells.lines_describe in
    record {
      some_hart = tells.some_hart;
      harts = w.harts;
      code = All-from_recursion IsShort script.harts w.code;
      words = omega (arith, w.memory);
    }

pub found_script : {X : Type 0} (view : X → ScriptValue) (M : ℕ) (text : List ℕ) (result : Result X Fault)
    → Answers view result (script_at M text) → IfOk result (λ x. Describes M text (view x))
found_script view M text result answers = grind (arith, text_sound)

pub only_script : {X : Type 0} (view : X → ScriptValue) (M : ℕ) (text : List ℕ) (script : ScriptValue)
    (result : Result X Fault) → Answers view result (script_at M text) → Describes M text script
    → Answers view result (Ok script)
only_script view M text script result answers tells =
    subst (λ (answer : Result ScriptValue Refusal). Answers view result answer) (text_read M text script tells) answers

pub fitting_script : {X : Type 0} (view : X → ScriptValue) (M : ℕ) (text : List ℕ) (result : Result X Fault)
    → Answers view result (script_at M text) → IfOk result (λ x. FitsIn M (opening_of_script (view x)))
fitting_script view M text (Ok x) answers = script_fits M text (view x) (text_sound M text (view x) answers)
fitting_script view M text (Err e) answers = tt

pub returns-clause-found : goal.returns-clause-found
returns-clause-found g c = found_script script_value g.row.M c.args.text.now c.script_of.result c.script_of.ensures

pub returns-clause-only : goal.returns-clause-only
returns-clause-only g c = λ script tells. only_script script_value g.row.M c.args.text.now script c.script_of.result c.script_of.ensures tells

pub returns-clause-fits : goal.returns-clause-fits
returns-clause-fits g c = fitting_script script_value g.row.M c.args.text.now c.script_of.result c.script_of.ensures
