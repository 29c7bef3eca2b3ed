use Rattle.std.proofs.Common.{false, refl, arith}
use Rattle.poll_close.proofs.clean.note_end.Goals as goal
use Rattle.std.proofs.lemmas.Option.{slice_get-get_or}
use Rattle.poll_close.proofs.Notes.{notes_end}

-- src/clean.rt:103:1
pub returns-clause-notes : goal.returns-clause-notes
returns-clause-notes c rs notes none =
    notes_end rs c.args.shares.now c.args.sender _ _ notes
    (slice_get-get_or c.args.shares.now c.args.sender (record { taken = 0; closed = false }) (omega arith)) refl refl
