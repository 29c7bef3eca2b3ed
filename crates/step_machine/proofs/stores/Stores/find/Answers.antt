-- The word around the address, after the hart's pending stores, and the bytes of it that are read.
use Rattle.std.proofs.Common.{◌≡◌, ◌-◌, ◌/◌, ◌%◌, get_or, subst}
use Rattle.std.specs.Prelude.{slice_index}
use Rattle.step_machine.specs.inner.Stored.{Stored, FitStored}
use Rattle.step_machine.proofs.WordReads.{found-in_word}
use Rattle.step_machine.proofs.stores.Stores.find.Goals as goal

pub returns : goal.returns
returns g c =
    found-in_word g.row.M c.args.self.now c.args.hart c.args.addr c.args.width c.load-word.result c.over-seen.result c.part.result c.index.result.now
    (subst (FitStored g.row.M) c.self.view_is c.self.invariant.1) c.requires.hart
    (subst (λ (k : Stored). c.index.result.now ≡ get_or k.buffers c.args.hart c.index.result.now) c.self.view_is c.index.ensures)
    (subst (λ (k : Stored). c.load-word.result ≡ slice_index k.words ((c.args.addr - c.args.addr % 4) / 4)) c.self.view_is c.load-word.ensures)
    c.over-seen.ensures c.part.ensures c.requires.address.1
