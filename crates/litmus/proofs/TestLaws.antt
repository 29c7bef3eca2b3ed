-- What a test asks for is there: among all harts and locations, and in its machine.
use Rattle.std.proofs.Common.{◌≡◌, ◌∙◌, ◌≤◌, sym, ap, subst, ℕ, List, length, All, arith}
use Rattle.litmus.specs.{Place, Step, Formula, places, steps_of, LitmusTest, IsThere, IsTest, firsts, left_sides, AsksThere, step_places, IsVerdict, Verdict}
use Rattle.litmus.proofs.RunLaws.{AsksThere-steps_of, AreThere-more, step_places-steps_of}
use Rattle.litmus.proofs.SeenLaws.{firsts-all}
use Rattle.step_machine.specs.History.{History}

pub steps_there : (q : LitmusTest) (steps : List Step) → IsTest q → steps ≡ steps_of q.condition → All (AsksThere 64 1024) steps
steps_there q steps test same =
    subst (λ (s : List Step). All (AsksThere 64 1024) s) (sym same)
    (AsksThere-steps_of 64 1024 q.condition
    (AreThere-more (length q.opening.harts) 64 (length q.names) 1024 (places q.condition) test.opening.harts
    test.names test.places))

pub left_sides-steps : (f : Formula) (steps : List Step) (lefts : List Place) → steps ≡ steps_of f → lefts ≡ firsts (step_places steps) → lefts ≡ left_sides f
left_sides-steps f steps lefts same found = found ∙ ap firsts (ap step_places same ∙ step_places-steps_of f)

-- in a machine with this number of harts and words
pub condition_there : (q other : LitmusTest) (harts M : ℕ) → IsTest q → q ≡ other
    → harts ≡ length other.opening.harts → length other.names ≤ M → All (IsThere harts M) (places q.condition)
condition_there q other harts M test same harts_same names_few = grind (arith, AreThere-more)

pub lefts_there : (q other : LitmusTest) (harts M : ℕ) (lefts : List Place) → IsTest q → q ≡ other
    → harts ≡ length other.opening.harts → length other.names ≤ M → lefts ≡ left_sides q.condition
    → All (IsThere harts M) lefts
lefts_there q other harts M lefts test same harts_same names_few are =
    subst (λ (ps : List Place). All (IsThere harts M) ps) (sym are)
    (firsts-all (IsThere harts M) (places q.condition)
    (condition_there q other harts M test same harts_same names_few))

-- ---- a test has one verdict on a history

pub one_verdict : (M : ℕ) (q : LitmusTest) (t : History) (v w : Verdict) → IsVerdict M q t v → IsVerdict M q t w → v ≡ w
one_verdict M q t v w h k = grind arith
