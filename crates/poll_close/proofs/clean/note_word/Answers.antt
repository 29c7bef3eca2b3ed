use Rattle.std.proofs.Common.{false, refl, sym, arith}
use Rattle.poll_close.proofs.clean.note_word.Goals as goal
use Rattle.std.proofs.lemmas.Option.{slice_get-get_or}
use Rattle.poll_close.proofs.Notes.{notes_word}

-- src/clean.rt:72:1
pub returns-clause-notes : goal.returns-clause-notes
returns-clause-notes c rs notes none =
    notes_word rs c.args.shares.now c.args.sender c.args.word _ _ notes
    (slice_get-get_or c.args.shares.now c.args.sender (record { taken = 0; closed = false }) (omega arith)) refl (sym c.if-share.false)
