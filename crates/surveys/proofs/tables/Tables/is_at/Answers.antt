use Rattle.std.proofs.Common.{rules, ◌≡◌, ◌≤◌, ◌∙◌, length, ap, arith}
use Rattle.std.specs.Prelude.{slice_index}
use Rattle.surveys.specs.inner.Parts.{tables_of}
use Rattle.surveys.proofs.PartTables.{same_count}
use Rattle.surveys.proofs.RowLaws.{row_here}
use Rattle.surveys.proofs.tables.Tables.is_at.Goals as goal

pub returns-in-Some-2 : goal.returns-in-Some-2
returns-in-Some-2 g c = λ yes.
    let contents = c.args.self.now in
    let m = c.args.machine.now in
    let count : length m.harts ≡ length contents.opening.harts = same_count contents.opening m c.requires.opening in
    let all : length contents.opening.harts ≤ c.loop-hart.hart =
    omega (arith, count, c.loop-hart-test.false, c.harts-hart-end.ensures.value, c.requires.few) in
    let last : c.harts.result ≡ length contents.opening.harts = omega (arith, count, c.harts.ensures.value, c.requires.few) in
    let same : c.in-Some-2.memory ≡ c.number_at-in-Some-2.result = search rules in
    row_here g.row.B g.row.M contents m c.args.row.now c.requires.opening c.in_ok-look_over.ensures.fit
    (λ h within. c.loop-hart.invariant h (omega (arith, within, all)))
    ((rw c.in-Some-2.is at c.in_ok-memory.ensures)
    ∙ ap (tables_of g.row.B g.row.M contents).memories (same ∙ c.number_at-in-Some-2.ensures ∙ ap (slice_index c.args.row.now) last))
