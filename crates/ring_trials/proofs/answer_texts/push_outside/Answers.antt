use Rattle.std.specs.Prelude.{codes}
use Rattle.std.specs.Fmt.{decimal}
use Rattle.std.specs.String.{string_bytes}
use Rattle.ring_trials.proofs.TextLaws.{eight_written}
use Rattle.ring_trials.proofs.answer_texts.push_outside.Goals as goal

pub returns : goal.returns
returns c =
    rw (← c.blocks_of.ensures) (
    eight_written c.write.result (string_bytes c.args.out.now) (string_bytes c.write.new.self)
    (codes "hart ") (decimal c.args.hart) (codes " ") c.args.did.now (codes " outside ") c.blocks_of.result.now (codes " at ") (decimal c.args.addr)
    c.write.ensures.bytes)
