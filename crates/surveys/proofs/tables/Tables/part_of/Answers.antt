use Rattle.std.proofs.Common.{◌≡◌, ◌∙◌, ℕ, List, ◌++◌, length, Some, refl, sym, ap, subst}
use Rattle.std.specs.List.{slice_get}
use Rattle.std.proofs.lemmas.Option.{slice_get_read}
use Rattle.step_machine.specs.Names.{packed_part, IsSoundMachine}
use Rattle.surveys.specs.inner.Parts.{PartWords}
use Rattle.surveys.proofs.PartTables.{part_found}
use Rattle.surveys.proofs.tables.Tables.part_of.Goals as goal

pub returns-in-Some-2 : goal.returns-in-Some-2
returns-in-Some-2 g c =
    let m = c.args.machine.now in
    let contents = c.args.self.now in
    let parts = c.in-Some.parts.now in
    let own : IsSoundMachine g.row.B g.row.M contents.opening =
    subst (IsSoundMachine g.row.B g.row.M) (ap (λ (s : PartWords). s.opening) c.self.view_is) c.self.invariant in
    let there : slice_get contents.harts c.args.hart ≡ Some parts =
    ap (λ (xs : List (List (List ℕ))). slice_get xs c.args.hart) (sym (c.deref.ensures.value ∙ ap (λ (s : PartWords). s.harts) c.self.view_is))
    ∙ slice_get_read c.deref.result.now (length c.deref.result.now) c.args.hart parts refl c.in-Some.ensures.lookup.3.0
    (c.in-Some.ensures.lookup.3.1 parts) in
    let words = c.deref-2.ensures.value ∙ c.in_ok-pack_hart.ensures ∙ ap (λ (ws : List ℕ). ws ++ packed_part m c.args.hart) c.clear.ensures.items in
    part_found g.row.B g.row.M contents m parts c.args.hart c.in-Some-2.number c.requires.opening own c.requires.sound c.requires.hart there
    ((rw c.in-Some-2.is at c.in_ok-number.ensures.known) ∙ ap (λ (ws : List ℕ). Some ws) words)
