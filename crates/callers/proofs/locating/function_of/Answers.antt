use Rattle.std.proofs.Common.{rules, ◌≡◌, ◌<◌, ℕ, List, length, Some, refl, subst}
use Rattle.std.specs.List.{slice_get}
use Rattle.std.proofs.lemmas.Option.{slice_get_read}
use Rattle.callers.specs.inner.{StandsAt}
use Rattle.callers.proofs.Places.{first_here, none_here, short_here}
use Rattle.callers.proofs.locating.function_of.Goals as goal

-- src/locating.rt:36:1
pub returns-in-Some-clause-first : goal.returns-in-Some-clause-first
returns-in-Some-clause-first c listing same =
    let found = c.in_ok-own.ensures.lookup in
    let harts : c.deref-harts.result.now ≡ c.args.opening.now.harts = search rules in
    let code : c.deref.result.now ≡ c.in_ok-own.own.now.code = search rules in
    let here : slice_get c.args.opening.now.harts c.args.hart ≡ Some c.in_ok-own.own.now =
    subst (λ xs. slice_get xs c.args.hart ≡ Some c.in_ok-own.own.now) harts
    (slice_get_read c.deref-harts.result.now (length c.deref-harts.result.now) c.args.hart c.in_ok-own.own.now refl found.3.0 found.1) in
    first_here c.args.opening.now c.args.hart c.in_ok-own.own.now here c.args.words.now listing same
    (short_here c.args.opening.now.harts c.args.hart c.in_ok-own.own.now c.requires.short here) (search rules) c.in-Some.line
    (subst (λ (ws : List ℕ). StandsAt c.args.words.now ws c.in-Some.line) code c.in-Some.ensures.here)
    (subst (λ (ws : List ℕ). (m : ℕ) → m < c.in-Some.line → StandsAt c.args.words.now ws m → ⊥) code c.in-Some.ensures.first)

-- src/locating.rt:36:1
pub returns-in-None-clause-none : goal.returns-in-None-clause-none
returns-in-None-clause-none c listing same _ =
    let found = c.in_ok-own.ensures.lookup in
    let harts : c.deref-harts.result.now ≡ c.args.opening.now.harts = search rules in
    let code : c.deref.result.now ≡ c.in_ok-own.own.now.code = search rules in
    let here : slice_get c.args.opening.now.harts c.args.hart ≡ Some c.in_ok-own.own.now =
    subst (λ xs. slice_get xs c.args.hart ≡ Some c.in_ok-own.own.now) harts
    (slice_get_read c.deref-harts.result.now (length c.deref-harts.result.now) c.args.hart c.in_ok-own.own.now refl found.3.0 found.1) in
    none_here c.args.opening.now c.args.hart c.in_ok-own.own.now here c.args.words.now listing same
    (subst (λ (ws : List ℕ). (n : ℕ) → StandsAt c.args.words.now ws n → ⊥) code (c.in-None.ensures.none refl))
