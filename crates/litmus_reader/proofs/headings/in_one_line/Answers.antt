use Rattle.std.specs.Option.{option_copied}
use Rattle.litmus_reader.proofs.HeadingLaws.{carried_turn}
use Rattle.litmus_reader.proofs.headings.in_one_line.Goals as goal

pub loop-rest-preserved : goal.loop-rest-preserved
loop-rest-preserved c =
    carried_turn c.loop-rest.line.items c.first_piece.result.0.now c.push_word.new.line.items c.in-Some.bytes.now _ (option_copied c.first_piece.result.1)
    c.in_ok-push_word.ensures c.first_piece.ensures.cut (rw c.in-Some.is at c.loop-rest.invariant)
