use Rattle.hart_threads.proofs.Diaries.{part_has}
use Rattle.hart_threads.proofs.diary.has_part.Goals as goal

pub returns : goal.returns
returns g c = part_has c.args.memory.now c.args.seat.now c.is_part.result c.diary.ensures.own c.is_part.ensures
