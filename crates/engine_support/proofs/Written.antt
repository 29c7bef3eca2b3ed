-- What was written, and how a part of an engine ends that writes as it reads.
use Rattle.std.proofs.Common.{arith, ◌≡◌, ℕ, ◌==◌, List, [], ◌∷◌, ◌++◌, Result, Ok, Err, refl, sym, subst, append_assoc, inl, inr}
use Rattle.std.specs.Prelude.{IfErr, IfOk, OnOk, Option}
use Rattle.std.specs.Io.BufRead.{take_through}
use Rattle.std.specs.String.{string_bytes}
use Rattle.std.specs.declared.string.String.{String}
use Rattle.std.specs.Global.{Global}
use Rattle.std.specs.Io.KnownBytes.{Appends}
use Rattle.std.proofs.lemmas.Bool.{cases_Bool}
use Rattle.std.proofs.lemmas.List.{append-nil}
use Rattle.engine_support.specs.{Fault, WriteFailed, NoMemory, OnStopped, OnUnwritten, IsFailure, IsReadFailure, IsEndOf, text_and_value}

-- ---- what a writer holds, where that is known

pub appends_nothing : (known : Option (List ℕ)) → Appends known known []
appends_nothing known = grind (arith, append-nil)

pub appends_more : (old mid new : Option (List ℕ)) (xs ys : List ℕ) → Appends old mid xs → Appends mid new ys → Appends old new (xs ++ ys)
appends_more old mid new xs ys a b = grind (arith, append_assoc)

-- the last part of what is written
pub ends_written : {E : Type 0} (result : Result (Unit {0}) E) (old mid new : Option (List ℕ)) (xs ys : List ℕ) → Appends old mid xs
    → OnOk result (Appends mid new ys) → OnOk result (Appends old new (xs ++ ys))
ends_written (Ok done) old mid new xs ys front end = appends_more old mid new xs ys front end
ends_written (Err e) old mid new xs ys front end = tt

-- ---- what a reader gives through the next LF

pub no_byte : (bytes : List ℕ) → take_through 10 bytes ≡ [] → bytes ≡ []
no_byte [] e = refl
no_byte (byte ∷ bytes) e = elim (cases_Bool (byte == 10)) [
  | inl is ↦ (let f : byte ∷ [] ≡ [] = rw is at e in cc)
  | inr other ↦ (let f : byte ∷ take_through 10 bytes ≡ [] = rw other at e in cc)
]

-- ---- a text was written, or not

module _ {V W : Type 0} (made : String Global × V) (result : Result V Fault) (contents : W → Option (List ℕ)) (old new : W)
    (end : IsEndOf text_and_value (Ok made) result contents old new) where
  pub wrote : IfOk result (λ v. (v ≡ made.1) × Appends (contents old) (contents new) (string_bytes made.0))
  wrote = grind arith

  pub end_fails : IfErr result IsFailure
  end_fails = grind arith

  pub end_stopped : (P : Type 0) → OnStopped result P
  end_stopped P = grind arith

-- ---- a write failed

module _ {V : Type 0} (result : Result V Fault) where
  pub write_fails : IfErr result (λ fault. fault ≡ WriteFailed) → IfErr result IsFailure
  write_fails fails = grind arith

  pub write_stops : (P : Type 0) → IfErr result (λ fault. fault ≡ WriteFailed) → OnStopped result P
  write_stops P fails = grind arith

-- ---- what is handed on

pub unwritten : {V : Type 0} (result : Result V Fault) (P : Type 0) → P → OnUnwritten result P
unwritten result P p = grind arith

pub stopped : {V : Type 0} (result : Result V Fault) (P : Type 0) → P → OnStopped result P
stopped result P p = grind arith

module _ {V : Type 0} (result : Result V Fault) (fault : Fault) (is : result ≡ Err fault) where
  pub hands_failure : IsFailure fault → IfErr result IsFailure
  hands_failure fails = grind arith

  pub hands_read_failure : IsReadFailure fault → IfErr result IsFailure
  hands_read_failure fails = grind arith

  -- what only reads fails by no write
  pub reads_alone : IsReadFailure fault → (P : Type 0) → OnUnwritten result P
  reads_alone fails P = grind arith

  pub hands_no_memory : fault ≡ NoMemory → IfErr result IsFailure
  hands_no_memory same = grind arith

-- what holds where a part stopped, of what was written then
pub hands_stop : {V : Type 0} (Part : Type 0) (result : Result V Fault) (fault : Fault) → result ≡ Err fault → (P Q : Type 0) → (P → Q)
    → OnStopped {V = Part} (Err fault) P → OnStopped result Q
hands_stop Part result fault is P Q more stops = grind arith

-- and where a write failed in it
pub hands_unwritten : {V : Type 0} (Part : Type 0) (result : Result V Fault) (fault : Fault) → result ≡ Err fault → (P Q : Type 0) → (P → Q)
    → OnUnwritten {V = Part} (Err fault) P → OnUnwritten result Q
hands_unwritten Part result fault is P Q more written = grind arith

-- a part that stopped had written nothing
pub keeps_written : {V W : Type 0} (Part : Type 0) (result : Result V Fault) (fault : Fault) → result ≡ Err fault → (old new : W) (Q : W → Type 0)
    → OnStopped {V = Part} (Err fault) (new ≡ old) → Q old → OnStopped result (Q new)
keeps_written Part result fault is old new Q stops q = hands_stop Part result fault is (new ≡ old) (Q new) (λ same. subst Q (sym same) q) stops
