-- The first fault that a chain of steps meets, and the errors that carry it.
use Rattle.std.specs.Prelude.{◌≡◌, ℕ, Option, Some, None, Result, Ok, Err, IfSome}
use Rattle.texts.specs.declared.errors.TextError.{TextError}
use Rattle.texts.specs.declared.errors.TextError.TheVariants.{NoMemory, Refused}

-- A step, and then the next one on its value; the first `Err` is the answer. `do` blocks are read by it.
infixl 10 ◌>>=◌
abbrev pub ◌>>=◌ : {A B E : Type 0} → Result A E → (A → Result B E) → Result B E
(Ok x) >>= f = f x
(Err e) >>= f = Err e

-- the result with another error in the place of its own
abbrev pub map_err : {A E F : Type 0} → (E → F) → Result A E → Result A F
map_err f (Ok x) = Ok x
map_err f (Err e) = Err (f e)

-- What a function returned, seen by view, is what the definition answers. Of an error in which
-- fault_of sees no fault of the text, as memory that ran out, nothing is said.
abbrev pub GivesUpToMemory : {X Y E F : Type 0} → (E → Option F) → (X → Y) → Result X E → Result Y F → Type 0
GivesUpToMemory fault_of view (Ok x) answer = answer ≡ Ok (view x)
GivesUpToMemory fault_of view (Err e) answer = IfSome (fault_of e) (λ fault. answer ≡ Err fault)

-- the refusal that an error carries; memory that ran out is none
abbrev pub refusal_of : {R : Type 0} → TextError R → Option R
refusal_of NoMemory = None
refusal_of (Refused refusal) = Some refusal

-- the number of what went wrong, where refusals have these
abbrev pub number_in : {R : Type 0} → (R → ℕ) → TextError R → ℕ
number_in fault_number NoMemory = 0
number_in fault_number (Refused refusal) = fault_number refusal
