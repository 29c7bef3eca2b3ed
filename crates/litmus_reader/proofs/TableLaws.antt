-- The columns' instructions, one column after the other.
use Rattle.std.proofs.Common.{◌≡◌, ℕ, suc, ◌+◌, ◌≤◌, List, [], ◌∷◌, ◌++◌, length, Option, Some, None, Result, Ok, Err, refl, ap, sym, subst, ◌∙◌, append_assoc}
use Rattle.std.proofs.Common.{length-append, map, arith}
use Rattle.std.specs.Prelude.{IfOk}
use Rattle.std.proofs.lemmas.List.{map-append, length-map}
use Rattle.std.proofs.lemmas.List.Elements.{All-append, All-cons, All-nil}
use Rattle.std.specs.declared.vec.Vec.{Vec}
use Rattle.std.specs.declared.alloc.Global.{Global}
use Rattle.texts.specs.Results.{◌>>=◌, GivesUpToMemory}
use Rattle.rv_decode.specs.Meaning.{meaning}
use Rattle.assembler.specs.{Refusal, Line, onto, all_instructions, size_of, word_count, Made, IsPlaced, ArePlaced}
use Rattle.assembler.specs.Program.IsPlaced.{nothing}
use Rattle.assembler.proofs.ProgramGrammar.{some_instr, finished-found}
use Rattle.rv_decode.specs.declared.instruction.Instr.{Instr}
use Rattle.texts.proofs.ResultLaws.{ok_is, bind_ok}
use Rattle.litmus_reader.specs.{LitmusFault, BadInstr, AtLeft, fault_in, Code, Column, codes_of, as_instr, instructions, instructions_of, IsPlainCode, ArePlain}
use Rattle.litmus_reader.specs.{AreShort}
use Rattle.texts.specs.declared.errors.TextError.{TextError}

-- what is answered where these columns are done, of which the first faulty row may be one, and this is
-- the answer of the others
abbrev pub going : Option ℕ → List Code → Result (List Code) LitmusFault → Result (List Code) LitmusFault
going None codes others = onto codes others
going (Some row) codes others = Err BadInstr

-- a column's instructions join those before it
onto-more : (front : List Code) (code : Code) (others : Result (List Code) LitmusFault)
    → onto front (onto (code ∷ []) others) ≡ onto (front ++ code ∷ []) others
onto-more front code others = grind (arith, append_assoc)

codes_more : (code : Code) (column : Column) (columns : List Column) → all_instructions column ≡ Ok code
    → codes_of (column ∷ columns) ≡ onto (code ∷ []) (codes_of columns)
codes_more code column columns done = rw done refl

pub turn_going : (faulty : Option ℕ) (words : List (Vec ℕ Global)) (more : Vec ℕ Global) (column : Column)
    (columns : List Column) (whole : Result (List Code) LitmusFault) → all_instructions column ≡ Ok (map meaning more.items)
    → going faulty (instructions_of words) (codes_of (column ∷ columns)) ≡ whole
    → going faulty (instructions_of (words ++ more ∷ [])) (codes_of columns) ≡ whole
turn_going None words more column columns whole done so_far =
    rw (map-append (λ (v : Vec ℕ Global). map meaning v.items) words (more ∷ []))
    (sym (onto-more (instructions_of words) (map meaning more.items) (codes_of columns))
    ∙ ap (λ (others : Result (List Code) LitmusFault). onto (instructions_of words) others)
    (sym (codes_more (map meaning more.items) column columns done)) ∙ so_far)
turn_going (Some row) words more column columns whole done so_far = so_far

pub plain_more : (words : List (Vec ℕ Global)) (more : Vec ℕ Global) → ArePlain words → IsPlainCode more.items → ArePlain (words ++ more ∷ [])
plain_more words more plain last =
    let P : Vec ℕ Global → Type 0 = λ v. IsPlainCode v.items in
    All-append P words (more ∷ []) plain (All-cons P more [] last (All-nil P))

-- ---- how long the answers are

placed_size : (all : List Line) (at : ℕ) (made : Option Made) (instrs : List Instr) → IsPlaced all at made instrs → length instrs ≡ size_of made
placed_size all at made instrs nothing = refl
placed_size all at made instrs other = refl

pub lines_size : (all : List Line) (at : ℕ) (lines : List Line) (instrs : List Instr) → ArePlaced all at lines instrs → length instrs ≡ word_count lines
lines_size all at [] instrs placed = ap length placed
lines_size all at (line ∷ below) instrs (front, rest, is, here, further) =
    let first = placed_size all at line.made front here in
    let others = lines_size all (at + size_of line.made) below rest further in
    ap length is ∙ (length-append front rest ∙ omega (arith, first, others))

pub as_instr-ok : {A : Type 0} (r : Result A Refusal) (x : A) → as_instr r ≡ Ok x → r ≡ Ok x
as_instr-ok r x e = grind (arith, ok_is)

code_short : (column : Column) (code : Code) → all_instructions column ≡ Ok code → length code ≤ 4096
code_short column code e =
    let done = finished-found column code e in
    omega (arith, lines_size column 0 column done.instrs done.placed, done.few, ap length done.same, length-map done.instrs some_instr)

answer_short : (columns : List Column) (codes : List Code) → codes_of columns ≡ Ok codes → (length codes ≡ length columns) × AreShort codes
answer_short [] codes e = subst (λ (cs : List Code). (length cs ≡ 0) × AreShort cs) (ok_is LitmusFault [] codes e) (refl, tt)
answer_short (column ∷ columns) codes e =
    let step = bind_ok (as_instr (all_instructions column)) (λ (code : Code). codes_of columns >>= λ (others : List Code). Ok (code ∷ others)) codes e in
    let rest = bind_ok (codes_of columns) (λ (others : List Code). Ok (step.0 ∷ others)) codes step.2 in
    let others = answer_short columns rest.0 rest.1 in
    subst (λ (cs : List Code). (length cs ≡ suc (length columns)) × AreShort cs) (ok_is LitmusFault (step.0 ∷ rest.0) codes rest.2)
    (ap suc others.0, (code_short column step.0 (as_instr-ok (all_instructions column) step.0 step.1), others.1))

-- what is answered of the harts' words
pub answered_count : (columns : List Column) (result : Result (Vec (Vec ℕ Global) Global) (TextError AtLeft))
    → GivesUpToMemory fault_in instructions result (codes_of columns)
    → IfOk result (λ words. length words.items ≡ length columns)
answered_count columns result shown = grind (arith, answer_short, length-map)

pub answered_short : (columns : List Column) (result : Result (Vec (Vec ℕ Global) Global) (TextError AtLeft))
    → GivesUpToMemory fault_in instructions result (codes_of columns)
    → IfOk result (λ words. AreShort (instructions words))
answered_short columns (Ok words) shown = (answer_short columns (instructions words) shown).1
answered_short columns (Err e) shown = tt
