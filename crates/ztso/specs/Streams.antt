-- What is known of the bytes that an input has left, and of those that a writer was given which holds some of them back.
use Rattle.std.specs.Prelude.{ℕ, List, [], Option, None, Some, Result, Ok, Err, option_and_then}
use Rattle.std.specs.Global.{Vec}
use Rattle.std.specs.Io.KnownBytes.{append_known}
use Rattle.command_line.specs.declared.job.Input.{Input}
use Rattle.command_line.specs.declared.job.Input.TheVariants as input
use Rattle.ztso.specs.declared.lazy_input.Opened.{Opened}
use Rattle.ztso.specs.declared.lazy_input.Opened.TheVariants.{Standard, File, Ended}

-- What the reader or the file tells, and no byte after a file's end.
abbrev pub left_of : {R F D S : Type 0} → (S → Option (List ℕ)) → (F → Option (List ℕ)) → Opened R F D S → Option (List ℕ)
left_of reader file (Standard opened) = reader opened
left_of reader file (File opened) = file opened
left_of reader file Ended = Some []

-- the same of an input that may not be opened yet: nothing is known before
abbrev pub left_in : {R F D S : Type 0} → (S → Option (List ℕ)) → (F → Option (List ℕ)) → Option (Opened R F D S) → Option (List ℕ)
left_in reader file opened = option_and_then (left_of reader file) opened

-- Standard input is always opened, and a file may fail to be.
abbrev pub IsOpening : {R F D S E : Type 0} → Option Input → Result (Opened R F D S) E → Type 0
IsOpening (Some input.Standard) (Ok (Standard reader)) = Unit {0}
IsOpening (Some (input.File path)) (Ok (File opened)) = Unit {0}
IsOpening (Some (input.File path)) (Err error) = Unit {0}
IsOpening None (Err error) = Unit {0}
IsOpening asked result = ⊥

-- the bytes of the writer that it writes to, where those are known, and then what is held
abbrev pub held_after : {W : Type 0} → (contents : W → Option (List ℕ)) → W → Vec ℕ → Option (List ℕ)
held_after contents to held = append_known (contents to) held.items
