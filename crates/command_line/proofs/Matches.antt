-- From what a parse found to the job.
use Rattle.std.proofs.Common.{◌≡◌, List, [], ◌∷◌, inl, inr, ap₂, Option, Some, None, refl, true}
use Rattle.std.specs.Prelude.{option_and_then, option_map, Result, Ok, Err, IsErrAnd}
use Rattle.std.specs.Option.{ok_or}
use Rattle.clap.specs.Words.{HasKind, Kinds, Row, Text, fault_of, is_simple, is_simple_and_free, kind_of, subcommand_of}
use Rattle.clap.specs.declared.error.Error.{Error}
use Rattle.clap.specs.declared.error.kind.ErrorKind.TheVariants.{OutOfMemory}
use Rattle.clap.proofs.OnLiterals.{clap_on_literals}
use Rattle.command_line.specs.CommandLines.{GivesJob, job_at, job_given, job_without}
use Rattle.command_line.specs.Descriptions.{ztso_command}
use Rattle.command_line.specs.Jobs.{wanted_by, IsErrorFor}
use Rattle.command_line.specs.declared.fault.CommandLineError.{CommandLineError}
use Rattle.command_line.specs.declared.fault.CommandLineError.TheVariants.{BadCommandLine}
use Rattle.command_line.specs.declared.job.Job.{Job}

-- clap's clauses speak of the whole description
pub is_simple_ztso : is_simple ztso_command ≡ true
unfolding clap_on_literals
is_simple_ztso = refl

pub is_free_ztso : is_simple_and_free ztso_command ≡ true
unfolding clap_on_literals
is_free_ztso = refl

failed : (kinds : Kinds) (found : Option (Text × List Row)) (error : Error) → HasKind kinds error
    → (r : Result Job CommandLineError) → IsErrAnd r (IsErrorFor (kind_of error ≡ OutOfMemory)) → GivesJob (job_without kinds found) r
failed kinds found error has (Ok job) fails = absurd fails
failed kinds found error has (Err failure) (inl memory) = inl memory.1
failed kinds found error (inl memory) (Err failure) (inr other) = absurd (other.0 memory)
failed [] found error (inr among) (Err failure) (inr other) = absurd among
failed (kind ∷ kinds) found error (inr among) (Err failure) (inr other) = inr (other.1, refl)

-- a parse that fails ends as its kind says
pub gives_where_failed : (words : List Text) (error : Error) → HasKind (fault_of ztso_command words) error
    → (r : Result Job CommandLineError) → IsErrAnd r (IsErrorFor (kind_of error ≡ OutOfMemory)) → GivesJob (job_given words) r
unfolding job_given
gives_where_failed words = failed (fault_of ztso_command words) (subcommand_of ztso_command words)

-- a parse that succeeds gives what it found
pub gives_where_found : (words : List Text) → fault_of ztso_command words ≡ []
    → (found : Option Job) → option_map wanted_by found ≡ option_and_then job_at (subcommand_of ztso_command words)
    → (r : Result Job CommandLineError) → r ≡ ok_or found BadCommandLine → GivesJob (job_given words) r
unfolding job_given
gives_where_found words none found is_found r is_r = rw (none, ← is_found, is_r) (by_found found)
  where
    by_found : (o : Option Job) → GivesJob (option_map wanted_by o) (ok_or o BadCommandLine)
    by_found None = inr (refl, refl)
    by_found (Some job) = refl

-- what is known of both parts of a pair that is there
module _ {B N R : Type 0} (f : B → N) (g : B → R) where
  abbrev pair : B → N × R
  pair b = (f b, g b)

  pub both_known : (o : Option B) (n : N) (r : R) → Some n ≡ option_map f o → Some r ≡ option_map (λ (p : N × R). p.1) (option_map pair o)
      → ◌≡◌ {A = Option (N × R)} (Some (n, r)) (option_map pair o)
  both_known None n r a b = absurd cc
  both_known (Some x) n r a b =
      let first : n ≡ f x = cc in
      let second : r ≡ g x = cc in
      ap₂ (λ (k : N) (v : R). Some (k, v)) first second
