-- What an answer says of the steps that made it.
use Rattle.std.proofs.Common.{◌≡◌, ◌↔◌, Bool, true, false, cond, Result, Ok, Err, refl}
use Rattle.std.specs.Prelude.{Option, Some}
use Rattle.std.specs.Result.{IsErr}
use Rattle.texts.specs.Results.{◌>>=◌}

-- the value of a step that did not fail
pub bind_ok : {A B E : Type 0} (r : Result A E) (f : A → Result B E) (y : B) → (r >>= f) ≡ Ok y → (x : A) × (r ≡ Ok x) × (f x ≡ Ok y)
bind_ok (Ok x) f y e = (x, refl, e)
bind_ok (Err d) f y e = absurd cc

-- a test that did not refuse
pub guard_err : {A E : Type 0} (b : Bool) (d : E) (r : Result A E) (y : A) → cond b (Err d) r ≡ Ok y → (b ≡ false) × (r ≡ Ok y)
guard_err true d r y e = absurd cc
guard_err false d r y e = (refl, e)

-- a value that is handed out where a test passes
pub guard_ok : {A E : Type 0} (b : Bool) (d : E) (x y : A) → cond b (Err d) (Ok x) ≡ Ok y → (b ≡ false) × (x ≡ y)
guard_ok true d x y e = absurd cc
guard_ok false d x y e = (refl, cc)

abbrev done : {A : Type 0} (E : Type 0) → A → Result A E
done E x = Ok x

pub ok_is : {A : Type 0} (E : Type 0) (x y : A) → done E x ≡ done E y → x ≡ y
ok_is E x y e = cc

-- An answer that is a value exactly where there is one of which P holds, is a fault exactly where there is none.
pub refused_without : {A B E : Type 0} (answer : Result A E) (P : B → Type 0)
    → ((x : A) → answer ≡ Ok x → (y : B) × P y) → ((y : B) → P y → (x : A) × (answer ≡ Ok x))
    → IsErr answer ↔ ((y : B) → ¬ P y)
refused_without (Ok x) P found only = (λ refused. absurd cc, λ none. absurd (let value = found x refl in none value.0 value.1))
refused_without (Err d) P found only = (λ refused y is. absurd (let value = only y is in let f = value.1 in cc), λ none. refl)

abbrev pub some : {A : Type 0} → A → Option A
some x = Some x

pub some_is : {A : Type 0} (x y : A) → some x ≡ some y → x ≡ y
some_is x y e = cc
