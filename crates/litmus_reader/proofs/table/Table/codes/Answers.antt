use Rattle.litmus_reader.specs.Table.{codes_of}
use Rattle.litmus_reader.proofs.TableLaws.{turn_going, plain_more}
use Rattle.litmus_reader.proofs.table.Table.codes.Goals as goal

pub loop-column-preserved-in-Continue-1 : goal.loop-column-preserved-in-Continue-1
loop-column-preserved-in-Continue-1 c =
    let so_far = rw c.in-Some.ensures.steps.0 at c.loop-column.invariant.so_far in
    record {
      plain = rw c.in_ok-push-in-Ok.ensures.items
          (plain_more c.loop-column.codes.items c.in-Ok.words c.loop-column.invariant.plain
          (c.in-Ok.ensures.plain, rw (← c.deref.ensures.value) c.have_32_bits.ensures));
      so_far = rw c.in_ok-push-in-Ok.ensures.items
          (turn_going c.loop-column.faulty c.loop-column.codes.items c.in-Ok.words c.in-Some.column
          c.next.new.self.rest.items (codes_of c.args.self) c.in-Ok.ensures.exact so_far);
    }
