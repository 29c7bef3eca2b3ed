use Rattle.std.proofs.Common.{◌+◌, arith}
use Rattle.ownership_runs.specs.inner.Bounds.{STEP, ROOM}
use Rattle.ownership_runs.proofs.deciding.note_entry.Goals as goal

pub note_exchange-requires : goal.note_exchange-requires
note_exchange-requires c = c.after_load-loaded.ensures.within ROOM c.requires

pub returns-in-Load-clause-within : goal.returns-in-Load-clause-within
returns-in-Load-clause-within c n within =
    let after = c.after_load.ensures.within n within in
    record {
      published = omega (arith, after.published);
      taken = omega (arith, after.taken);
      known_taken = after.known_taken;
      known_published = after.known_published;
    }

pub returns-in-Amo-clause-within : goal.returns-in-Amo-clause-within
returns-in-Amo-clause-within c n within = c.note_exchange.ensures.within n (n + STEP) (c.after_load-loaded.ensures.within n within)
