use Rattle.std.proofs.Common.{append_assoc}
use Rattle.assembler.proofs.writer.amo_form.Goals as goal

pub returns : goal.returns
returns c = simp append_assoc c.format.ensures.ok
