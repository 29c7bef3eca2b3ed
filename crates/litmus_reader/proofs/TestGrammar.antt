-- What is answered of a text, and that it is one test, or refused.
use Rattle.std.proofs.Common.{arith, ◌≡◌, ◌↔◌, ℕ, ◌+◌, List, [], ◌∷◌, map, All, Result, Ok, Err, refl, sym, ap, ◌∙◌}
use Rattle.std.specs.Prelude.{IfOk}
use Rattle.std.specs.Result.{IsErr}
use Rattle.std.proofs.lemmas.List.Elements.{All-head, All-tail}
use Rattle.texts.specs.Results.{GivesUpToMemory}
use Rattle.texts.proofs.ResultLaws.{ok_is, refused_without}
use Rattle.step_machine.specs.History.{HartOpeningValue}
use Rattle.litmus.specs.declared.verdict.Quantifier.{Quantifier}
use Rattle.litmus.specs.{Formula, LitmusTest, litmus_test_of}
use Rattle.litmus_tokens.specs.Assignments.{AssignmentValue}
use Rattle.litmus_reader.specs.{LitmusFault, fault_of, Names, HartContent, Content, hart_content, content_of, test_at, Cells, AreHarts, IsContent, HasPlainCode}
use Rattle.litmus_reader.specs.{IsTestOf}
use Rattle.texts.specs.declared.errors.AtLine.{AtLine}
use Rattle.texts.specs.declared.errors.TextError.{TextError}
use Rattle.texts.specs.declared.errors.TextError.TheVariants.{NoMemory, Refused}
use Rattle.litmus_reader.proofs.PlainOpenings.{one_code}
use Rattle.litmus_reader.proofs.ContentGrammar.{content_found, content_only}

-- ---- one test

pub one_content : (text : List ℕ) (a b : Content) → IsContent text a → IsContent text b → a ≡ b
one_content text a b first second = ok_is LitmusFault a b (sym (content_only text a first) ∙ content_only text b second)

same_start : (a b : HartOpeningValue) → a.code ≡ b.code → hart_content a ≡ hart_content b → a ≡ b
same_start a b code same = grind arith

-- harts of the same instructions have the same words
same_harts : (names : Names) (assignments : List AssignmentValue) (rows : List Cells) (hart : ℕ)
    (xs ys : List HartOpeningValue) → AreHarts names assignments rows hart (map hart_content xs) → All HasPlainCode xs
    → All HasPlainCode ys → map hart_content xs ≡ map hart_content ys → xs ≡ ys
same_harts names assignments rows hart [] [] are p q same = refl
same_harts names assignments rows hart (x ∷ xs) (y ∷ ys) are p q same =
    let first : hart_content x ≡ hart_content y = cc in
    let rest : map hart_content xs ≡ map hart_content ys = cc in
    let instrs = are.0.1 in
    let meant = are.0.4 in
    let code = one_code x.code y.code instrs (All-head HasPlainCode x xs p) (All-head HasPlainCode y ys q) meant
    (sym (ap (λ (h : HartContent). h.code) first) ∙ meant) in
    rw (
      same_start x y code first,
      same_harts names assignments rows (hart + 1) xs ys are.3 (All-tail HasPlainCode x xs p)
          (All-tail HasPlainCode y ys q) rest,
    ) refl
same_harts names assignments rows hart z other are p q same = absurd cc

same_test : (xs ys : List HartOpeningValue) (words others : List ℕ) (names more : Names) (q r : Quantifier)
    (f g : Formula) → xs ≡ ys → words ≡ others → names ≡ more → q ≡ r → f ≡ g
    → litmus_test_of xs words names q f ≡ litmus_test_of ys others more r g
same_test xs ys words others names more q r f g a b c d e = rw (a, b, c, d, e) refl

pub one_test : (text : List ℕ) (a b : LitmusTest) → IsTestOf text a → IsTestOf text b → a ≡ b
unfolding IsTestOf
one_test text a b first second =
    let same = one_content text (content_of a) (content_of b) first.0 second.0 in
    let is = first.0 in
    let harts = same_harts a.names is.assignments is.rows 0 a.opening.harts b.opening.harts is.harts first.1 second.1 (ap (λ (c : Content). c.harts) same) in
    same_test a.opening.harts b.opening.harts a.opening.words b.opening.words a.names b.names a.quantifier b.quantifier a.condition b.condition harts
    (ap (λ (c : Content). c.words) same) (ap (λ (c : Content). c.names) same) (ap (λ (c : Content). c.quantifier) same) (ap (λ (c : Content). c.condition) same)

-- ---- what `read` answers

pub found_test : (text : List ℕ) (result : Result LitmusTest (TextError (AtLine LitmusFault)))
    → GivesUpToMemory fault_of content_of result (test_at text)
    → IfOk result (λ test. All HasPlainCode test.opening.harts) → IfOk result (IsTestOf text)
unfolding IsTestOf
found_test text result e plain = grind (arith, content_found)

pub only_test : (text : List ℕ) (whole : LitmusTest) (result : Result LitmusTest (TextError (AtLine LitmusFault)))
    → GivesUpToMemory fault_of content_of result (test_at text)
    → IfOk result (λ test. All HasPlainCode test.opening.harts) → IsTestOf text whole
    → GivesUpToMemory fault_of (λ (test : LitmusTest). test) result (Ok whole)
unfolding IsTestOf
only_test text whole (Ok test) e plain is = ap (λ (t : LitmusTest). Ok t) (one_test text whole test is (found_test text (Ok test) e plain))
only_test text whole (Err NoMemory) e plain is = tt
only_test text whole (Err (Refused refusal)) e plain is = absurd (let read = content_only text (content_of whole) is.0 in cc)

-- ---- read, or refused

pub read_exactly : (text : List ℕ) (whole : Content) → (test_at text ≡ Ok whole) ↔ IsContent text whole
read_exactly text whole = (content_found text whole, content_only text whole)

pub refused_exactly : (text : List ℕ) → IsErr (test_at text) ↔ ((whole : Content) → ¬ IsContent text whole)
refused_exactly text = refused_without (test_at text) (IsContent text) (λ whole e. (whole, content_found text whole e))
    (λ whole is. (whole, content_only text whole is))
