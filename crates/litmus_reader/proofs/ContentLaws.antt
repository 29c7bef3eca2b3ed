-- The parts of a test, put together.
use Rattle.std.proofs.Common.{◌≡◌, ℕ, ◌≤◌, List, [], ◌∷◌, length, map, All, Result, refl, ap, arith}
use Rattle.std.specs.Prelude.{IfOk}
use Rattle.std.specs.declared.alloc.AllocError.{AllocError}
use Rattle.std.proofs.lemmas.List.{length-map}
use Rattle.std.proofs.lemmas.List.Elements.{All-head, All-tail, All-cons, All-nil}
use Rattle.std.specs.declared.vec.Vec.{Vec}
use Rattle.std.specs.declared.alloc.Global.{Global}
use Rattle.rv_decode.specs.Meaning.{meaning}
use Rattle.step_machine.specs.History.{IsShort}
use Rattle.litmus.specs.declared.verdict.Quantifier.{Quantifier}
use Rattle.litmus.specs.{Formula, places, LitmusTest, IsThere, IsTest, litmus_test_of}
use Rattle.litmus_reader.specs.{Names, instructions_of, IsPlainCode, ArePlain, AreShort, starts_of, HartContent, Content, hart_content, with_registers}
use Rattle.litmus_reader.specs.{content_of, HasPlainCode}

pub starts_content : (codes : List (Vec ℕ Global)) (registers : List (List ℕ))
    → map hart_content (starts_of codes registers) ≡ with_registers (instructions_of codes) registers
starts_content (code ∷ codes) (first ∷ registers) =
    ap (λ rest. (record { code = map meaning code.items; registers = first; inbox = [] }) ∷ rest)
    (starts_content codes registers)
starts_content x y = refl

pub starts_count : (codes : List (Vec ℕ Global)) (registers : List (List ℕ)) → length registers ≡ length codes
    → length (starts_of codes registers) ≡ length codes
starts_count [] registers same = refl
starts_count (code ∷ codes) [] same = absurd (omega arith)
starts_count (code ∷ codes) (first ∷ registers) same = let rest = starts_count codes registers (omega arith) in omega arith

starts_short : (codes : List (Vec ℕ Global)) (registers : List (List ℕ)) → AreShort (instructions_of codes) → All IsShort (starts_of codes registers)
starts_short (code ∷ codes) (first ∷ registers) short =
    All-cons IsShort (record { code = code.items; registers = first; inbox = [] }) (starts_of codes registers)
    (simp length-map at short.0) (starts_short codes registers short.1)
starts_short x y short = All-nil IsShort

pub starts_plain : (codes : List (Vec ℕ Global)) (registers : List (List ℕ)) → ArePlain codes → All HasPlainCode (starts_of codes registers)
starts_plain (code ∷ codes) (first ∷ registers) plain =
    All-cons HasPlainCode (record { code = code.items; registers = first; inbox = [] }) (starts_of codes registers)
    (All-head (λ (v : Vec ℕ Global). IsPlainCode v.items) code codes plain)
    (starts_plain codes registers (All-tail (λ (v : Vec ℕ Global). IsPlainCode v.items) code codes plain))
starts_plain x y plain = All-nil HasPlainCode

pub is_test : (codes : List (Vec ℕ Global)) (registers : List (List ℕ)) (words : List ℕ) (names : Names)
    (quantifier : Quantifier) (f : Formula) → length registers ≡ length codes → 1 ≤ length codes → length codes ≤ 64
    → AreShort (instructions_of codes) → length words ≤ 1024 → length names ≤ 1024
    → All (IsThere (length codes) (length names)) (places f)
    → IsTest (litmus_test_of (starts_of codes registers) words names quantifier f)
is_test codes registers words names quantifier f same some few short words_few names_few there = grind (arith, starts_count, starts_short)

-- ---- what is answered where a test is made

abbrev pub content_record : List HartContent → List ℕ → Names → Quantifier → Formula → Content
content_record harts words names quantifier f = record { harts = harts; words = words; names = names; quantifier = quantifier; condition = f }

pub same_content : (first second : List HartContent) (words others : List ℕ) (names same : Names)
    (quantifier : Quantifier) (f : Formula) → first ≡ second → words ≡ others → names ≡ same
    → content_record first words names quantifier f ≡ content_record second others same quantifier f
same_content first second words others names same quantifier f a b e = rw (a, b, e) refl

pub made_content : (result : Result LitmusTest AllocError) (q : LitmusTest) (shown : Content)
    → IfOk result (λ test. test ≡ q) → content_of q ≡ shown → IfOk result (λ test. content_of test ≡ shown)
made_content result q shown is same = grind arith

pub made_plain : (result : Result LitmusTest AllocError) (q : LitmusTest) → IfOk result (λ test. test ≡ q)
    → All HasPlainCode q.opening.harts → IfOk result (λ test. All HasPlainCode test.opening.harts)
made_plain result q is plain = grind arith
