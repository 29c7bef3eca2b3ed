use Rattle.std.proofs.Common.{ℕ, Bool, List, ap, ap₂, ◌∙◌}
use Rattle.certifying.specs.Lines.{first_line, judgement_of}
use Rattle.certifying.specs.declared.judgement.Judgement.{Judgement}
use Rattle.certifying.proofs.answering.judged_reads.Goals as goal

pub returns : goal.returns
returns c = ap₂ (λ (x : List ℕ) (y : Judgement). (x, y)) c.in_ok-text.ensures (c.kept_judgement.ensures c.args.asked.progress
    ∙ ap (λ (b : Bool). judgement_of (first_line c.args.asked.progress c.args.goes b c.args.unread)) c.all_shown-all.ensures)
