-- How an engine ends that writes as it reads.
use Rattle.std.specs.Prelude.{ℕ, ◌≡◌, List, Option, Result, Ok, Err}
use Rattle.std.specs.Io.KnownBytes.{Appends}
use Rattle.engine_support.specs.declared.fault.Fault.{Fault}
use Rattle.engine_support.specs.declared.fault.Fault.TheVariants.{ReadFailed, WriteFailed, NoMemory, Refused}
use Rattle.engine_support.specs.declared.fault.Refusal.{Refusal}

-- It wrote an output that is an answer together with what it returned, or a refusal is the answer and
-- nothing was written. Where a read or a write failed or memory ran out nothing is said.
abbrev pub EndsInteractive : {V W : Type 0} → (Result (List ℕ × V) Refusal → Type 0) → Result V Fault
    → (contents : W → Option (List ℕ)) → (old new : W) → Type 0
EndsInteractive IsAnswer (Ok v) contents old new = (out : List ℕ) × IsAnswer (Ok (out, v)) × Appends (contents old) (contents new) out
EndsInteractive IsAnswer (Err (Refused refusal)) contents old new = IsAnswer (Err refusal) × (new ≡ old)
EndsInteractive IsAnswer failed contents old new = Unit {0}

-- this holds where a read failed or memory ran out
abbrev pub OnStopped : {V : Type 0} → Result V Fault → Type 0 → Type 0
OnStopped (Err ReadFailed) P = P
OnStopped (Err NoMemory) P = P
OnStopped other P = Unit {0}

-- this holds where a write failed
abbrev pub OnUnwritten : {V : Type 0} → Result V Fault → Type 0 → Type 0
OnUnwritten (Err WriteFailed) P = P
OnUnwritten other P = Unit {0}

-- this holds where an input was refused
abbrev pub OnRefused : {V : Type 0} → Result V Fault → Type 0 → Type 0
OnRefused (Err (Refused refusal)) P = P
OnRefused other P = Unit {0}
