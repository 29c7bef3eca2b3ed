-- How an engine ends: what it writes for what its readers tell, and what each fault means.
use Rattle.std.specs.Prelude.{ℕ, ◌≡◌, nat_lt, if◌then◌else◌, List, length, ◌≤◌, Option, Some, None, Result, Ok, Err}
use Rattle.std.specs.Str.{IsUtf8, is_utf8}
use Rattle.std.specs.Io.KnownBytes.{Appends}
use Rattle.engine_support.specs.declared.fault.Fault.{Fault}
use Rattle.engine_support.specs.declared.fault.Fault.TheVariants.{ReadFailed, WriteFailed, NoMemory, Refused}
use Rattle.engine_support.specs.declared.fault.Refusal.{Refusal}
use Rattle.engine_support.specs.Faults.{too_large, not_text}
use Rattle.engine_support.specs.declared.input.TheConstants.{INPUT_BYTES}

-- an output, with nothing that an engine returns beside it
abbrev pub Output : Type 0
Output = List ℕ × Unit {0}

-- the input is a text within the limit, and has this value
pub record AcceptedInput {V : Type 0} (IsValue : List ℕ → V → Type 0) (input : List ℕ) (value : V) : Type 0 where
  pub few : length input ≤ INPUT_BYTES
  pub text : IsUtf8 input
  pub value_is : IsValue input value

-- the value of an input, or why it is refused: as too large, else as no text, else by its own rules
abbrev pub decoded : {V : Type 0} → (List ℕ → Result V Refusal) → List ℕ → Result V Refusal
decoded value_at input = if nat_lt INPUT_BYTES (length input) then Err too_large else (if is_utf8 input then value_at input else Err not_text)

-- this holds of a reader's bytes, or of some bytes where the reader doesn't tell its own
abbrev pub OfInput : Option (List ℕ) → (List ℕ → Type 0) → Type 0
OfInput None Holds = (bytes : List ℕ) × Holds bytes
OfInput (Some bytes) Holds = Holds bytes

-- How an engine ends whose answer is an output and a value, which it returns: it wrote an output that is
-- an answer together with what it returned, or a refusal is the answer and nothing was written. Where a
-- read failed or memory ran out nothing was written either. A write fails only where there is an output,
-- and then nothing is said of what was written.
abbrev pub Ends : {V W : Type 0} → (Result (List ℕ × V) Refusal → Type 0) → Result V Fault → (contents : W → Option (List ℕ)) → (old new : W) → Type 0
Ends IsAnswer (Ok v) contents old new = (out : List ℕ) × IsAnswer (Ok (out, v)) × Appends (contents old) (contents new) out
Ends IsAnswer (Err (Refused refusal)) contents old new = IsAnswer (Err refusal) × (new ≡ old)
Ends IsAnswer (Err ReadFailed) contents old new = new ≡ old
Ends IsAnswer (Err NoMemory) contents old new = new ≡ old
Ends {V = V} IsAnswer (Err WriteFailed) contents old new = (answer : List ℕ × V) × IsAnswer (Ok answer)

-- Two answers are both outputs, or one refusal.
abbrev pub AreAlike : {A : Type 0} → Result A Refusal → Result A Refusal → Type 0
AreAlike (Ok a) (Ok b) = Unit {0}
AreAlike (Ok a) (Err s) = ⊥
AreAlike (Err r) (Ok b) = ⊥
AreAlike (Err r) (Err s) = r ≡ s

-- Two answers are one answer: one output with one value, or refusals of one number.
abbrev pub AreOneAnswer : {A : Type 0} → Result A Refusal → Result A Refusal → Type 0
AreOneAnswer (Ok a) (Ok b) = a ≡ b
AreOneAnswer (Ok a) (Err s) = ⊥
AreOneAnswer (Err r) (Ok b) = ⊥
AreOneAnswer (Err r) (Err s) = r.number ≡ s.number
