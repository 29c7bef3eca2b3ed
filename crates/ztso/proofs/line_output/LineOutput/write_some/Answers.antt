use Rattle.std.proofs.Common.{rules}
use Rattle.ztso.proofs.Held.{moved, unmoved}
use Rattle.ztso.proofs.line_output.LineOutput.write_some.Goals as goal

pub returns-in-Ok-eq0-clause-bytes : goal.returns-in-Ok-eq0-clause-bytes
returns-in-Ok-eq0-clause-bytes g c =
    unmoved _ _ c.write.result c.in-Ok-eq0.field-0 c.deref.result.now c.args.self.now.held.items c.write.ensures.bytes c.in-Ok-eq0.is (search rules)

pub returns-in-Ok-clause-bytes : goal.returns-in-Ok-clause-bytes
returns-in-Ok-clause-bytes g c =
    moved _ _ c.write.result c.in-Ok.count c.deref.result.now _ _ c.write.ensures.bytes c.in-Ok.is c.deref.ensures.value c.lose_front.ensures.left
