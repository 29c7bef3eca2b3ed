-- Faults, their exit statuses and the refusals that all inputs share.
use Rattle.std.specs.Prelude.{ℕ, ◌≡◌, Result, Ok, Err, Option}
use Rattle.texts.specs.declared.errors.AtLine.{AtLine}
use Rattle.texts.specs.declared.errors.TextError.{TextError}
use Rattle.texts.specs.declared.errors.TextError.TheVariants as error
use Rattle.engine_support.specs.declared.fault.Fault.{Fault}
use Rattle.engine_support.specs.declared.fault.Fault.TheVariants.{ReadFailed, WriteFailed, NoMemory, Refused}
use Rattle.engine_support.specs.declared.fault.Refusal.{Refusal}
use Rattle.engine_support.specs.declared.fault.Position.TheVariants.{Nowhere, Line}
use Rattle.texts.specs.Results.{map_err}
use Rattle.texts.specs.Formats.{or_fault}

-- the exit status of a program that ends with a fault
abbrev pub status_of : Fault → ℕ
status_of ReadFailed = 3
status_of WriteFailed = 3
status_of NoMemory = 4
status_of (Refused refusal) = 2

-- an input that isn't UTF-8
abbrev pub not_text : Refusal
not_text = record { number = 36; place = Nowhere }

-- an input past the limit
abbrev pub too_large : Refusal
too_large = record { number = 37; place = Nowhere }

-- the fault for a reader's error, where its refusals are refused so
abbrev pub fault_for : {R : Type 0} → (R → Refusal) → TextError R → Fault
fault_for refused error.NoMemory = NoMemory
fault_for refused (error.Refused refusal) = Refused (refused refusal)

-- a fault at a line is refused there, by its number
abbrev pub refused_at : {F : Type 0} → (F → ℕ) → AtLine F → Refusal
refused_at fault_number refusal = record { number = fault_number refusal.fault; place = Line refusal.line }

-- What a function that reads and writes nothing returned, seen by view, is an answer, unless memory ran
-- out.
abbrev pub AnswersAs : {X Y : Type 0} → (Result Y Refusal → Type 0) → (X → Y) → Result X Fault → Type 0
AnswersAs IsAnswer view (Ok x) = IsAnswer (Ok (view x))
AnswersAs IsAnswer view (Err (Refused refusal)) = IsAnswer (Err refusal)
AnswersAs IsAnswer view (Err NoMemory) = Unit {0}
AnswersAs IsAnswer view (Err ReadFailed) = ⊥
AnswersAs IsAnswer view (Err WriteFailed) = ⊥

-- The same of what stands in this relation to an answer.
abbrev pub AnswersBy : {X Y : Type 0} → (Result Y Refusal → Type 0) → (Y → X → Type 0) → Result X Fault → Type 0
AnswersBy {Y = Y} IsAnswer IsOf (Ok x) = (y : Y) × IsAnswer (Ok y) × IsOf y x
AnswersBy IsAnswer IsOf (Err fault) = AnswersAs IsAnswer (λ y. y) (Err fault)

-- and is this answer
abbrev pub Answers : {X Y : Type 0} → (X → Y) → Result X Fault → Result Y Refusal → Type 0
Answers view result answer = AnswersAs (λ given. answer ≡ given) view result

-- ---- faults of a line: the numbers of their refusals, and the refusals of the input

-- a line that no rule allows
abbrev pub bad_line : ℕ
bad_line = 34

abbrev pub or_bad : {A : Type 0} → Option A → Result A ℕ
or_bad option = or_fault bad_line option

-- a line's fault, by its number, is refused at the line
abbrev pub refused_on : (line number : ℕ) → Refusal
refused_on line number = record { number = number; place = Line line }

abbrev pub at_line : {A : Type 0} → ℕ → Result A ℕ → Result A Refusal
at_line line result = map_err (refused_on line) result

-- the input's fault where the line of this number has this fault
abbrev pub fault_at : ℕ → TextError ℕ → Fault
fault_at line fault = fault_for (refused_on line) fault
