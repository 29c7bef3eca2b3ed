use Rattle.std.proofs.Common.{◌%◌, ap, ◌∙◌}
use Rattle.std.specs.Int.{byte_at}
use Rattle.ownership_runs.proofs.Logs.{word-byte}
use Rattle.ownership_runs.proofs.sent.memory_byte.Goals as goal

pub returns : goal.returns
returns g c = c.byte_at.ensures ∙ ap (byte_at (c.args.x % 4)) c.word.ensures
    ∙ word-byte c.args.machine.now.history.opening c.args.machine.now.history.entries c.args.x
