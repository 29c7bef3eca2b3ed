use Rattle.std.proofs.Common.{◌≡◌, ◌∙◌, List, ℕ, ◌++◌, Some, sym, ap}
use Rattle.std.specs.List.{slice_get}
use Rattle.memory.specs.Words.{written_since}
use Rattle.surveys.specs.inner.Parts.{PartWords}
use Rattle.surveys.proofs.PartTables.{memory_found}
use Rattle.surveys.proofs.tables.Tables.memory_of.Goals as goal

pub returns-in-Some : goal.returns-in-Some
returns-in-Some g c =
    let m = c.args.machine.now in
    let contents = c.args.self.now in
    let changed = written_since m.stored.first m.stored.words in
    let words = c.deref.ensures.value ∙ c.in_ok-pack_memory.ensures ∙ ap (λ (ws : List ℕ). ws ++ changed) c.clear.ensures.items in
    let there : slice_get contents.memories c.in-Some.number ≡ Some changed =
    ap (λ (xs : List (List ℕ)). slice_get xs c.in-Some.number) (sym (ap (λ (s : PartWords). s.memories) c.self.view_is))
    ∙ (rw c.in-Some.is at c.in_ok-number.ensures) ∙ ap (λ (ws : List ℕ). Some ws) words in
    memory_found g.row.B g.row.M contents m c.in-Some.number c.requires.opening c.requires.sound.fit there
