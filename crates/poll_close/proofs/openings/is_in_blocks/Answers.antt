-- An address of a block leaves less than a block's bytes.
use Rattle.std.proofs.Common.{[], arith}
use Rattle.std.proofs.lemmas.Bool.Decides.{nat_tests}
use Rattle.poll_close.specs.Layout.{Layout, layout_of}
use Rattle.poll_close.proofs.Blocks.{Inside, inside_is}
use Rattle.poll_close.proofs.openings.is_in_blocks.Goals as goal

pub returns-then-offset-stride-clause-outside : goal.returns-then-offset-stride-clause-outside
returns-then-offset-stride-clause-outside c = λ inside.
    let l : Layout = layout_of c.args.place [] in
    let there : Inside l c.args.count c.args.address = inside_is l c.args.count c.args.address c.requires.room inside in
    grind (arith, nat_tests, there.below)
