use Rattle.std.proofs.Common.{[], ◌∷◌}
use Rattle.std.specs.Prelude.{codes}
use Rattle.std.specs.Fmt.{decimal}
use Rattle.std.specs.String.{string_bytes}
use Rattle.ring_trials.proofs.TextLaws.{ten_written}
use Rattle.ring_trials.proofs.answer_texts.push_sender_line.Goals as goal

pub returns : goal.returns
returns c =
    ten_written c.writeln.result (string_bytes c.args.out.now) (string_bytes c.writeln.new.self)
    (codes "sender ") (decimal c.args.sender) (codes " took at most ") (decimal c.args.total.most) (codes " of ") (decimal c.args.words)
    (codes " words, closed in ") (decimal c.args.total.closed) (codes " runs") (10 ∷ []) c.writeln.ensures.bytes
