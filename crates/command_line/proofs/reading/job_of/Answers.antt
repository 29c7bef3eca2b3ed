use Rattle.clap.specs.Words.{Text}
use Rattle.clap.specs.Walk.{first_of, rows_after}
use Rattle.std.proofs.Common.{◌∙◌, ap, map, ◌≡◌, ◌++◌, ◌∷◌, List, [], Option, Some, ap₂}
use Rattle.std.specs.Prelude.{option_and_then, Result}
use Rattle.command_line.specs.CommandLines.{job_at, GivesJob, job_by, job_given, job_without}
use Rattle.command_line.proofs.Matches.{gives_where_failed, gives_where_found}
use Rattle.command_line.proofs.reading.job_of.Goals as goal
use Rattle.command_line.specs.Jobs.{Wanted}
use Rattle.command_line.specs.Uses.{IsSpelling, said_for, defaults_of, texts_of_uses}
use Rattle.command_line.specs.declared.fault.CommandLineError.{CommandLineError}
use Rattle.command_line.specs.declared.job.Job.{Job}
use Rattle.command_line.proofs.TableLaws.{found_in, no_fault, read}
use Rattle.command_line.proofs.UseLaws.{rules_from}

-- Each way of writing a job says that job.

pub job_given-spelling : (name : Text) (rest : List Text) (wanted : Wanted) → IsSpelling wanted rest → job_given (name ∷ rest) ≡ Some wanted
unfolding job_given
job_given-spelling name rest wanted (r, uses, said, is, words, says, has, gives) =
    let found : ◌≡◌ {A = Text → Option Text} (λ id. first_of id (rows_after (rules_from 1 r.parameters) [] (texts_of_uses uses)))
    (λ id. said_for (said ++ defaults_of r.parameters) id) = λ i id. (read name r uses said is says has).1 id i in
    ap (λ (ws : List Text). job_given (name ∷ ws)) words
    ∙ ap₂ job_without (no_fault name r uses said is says has) (found_in name r uses said is says has)
    ∙ ap (job_by r.name) found ∙ gives

-- so that job is given
pub gives_spelled : (words : List Text) (r : Result Job CommandLineError) → GivesJob (job_given words) r
    → (name : Text) (rest : List Text) (wanted : Wanted) → words ≡ name ∷ rest → IsSpelling wanted rest → GivesJob (Some wanted) r
gives_spelled words r gives name rest wanted split spelling =
    rw (← job_given-spelling name rest wanted spelling, ← split) gives

pub returns-in_err-matches : goal.returns-in_err-matches
returns-in_err-matches g c =
    let words = map g.S.AsStr.text c.args.words.now in
    let asked = gives_where_failed words c.in_err-matches.field-0.0 c.in_err-matches.ensures.kinds c.from_residual.result
    c.from_residual.ensures.1 in
    record { asked = asked; spelled = gives_spelled words c.from_residual.result asked }

pub returns : goal.returns
returns g c =
    let words = map g.S.AsStr.text c.args.words.now in
    let asked = gives_where_found words c.in_ok-matches.ensures.kinds c.job_at.result
    (c.job_at.ensures ∙ ap (option_and_then job_at) c.in_ok-matches.ensures.subcommand) c.ok_or.result
    c.ok_or.ensures.value in
    record { asked = asked; spelled = gives_spelled words c.ok_or.result asked }
