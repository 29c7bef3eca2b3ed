use Rattle.std.specs.String.{string_bytes}
use Rattle.recorder.proofs.RoundTrip.{written_again}
use Rattle.recorder.proofs.writing.write_schedule.Goals as goal

pub returns-clause-again : goal.returns-clause-again
returns-clause-again c = written_again (string_bytes c.in_ok-text.text) c.args.events.now c.requires.harts c.requires.few c.in_ok-text.ensures
