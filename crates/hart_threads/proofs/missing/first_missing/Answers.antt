use Rattle.std.proofs.Common.{rules}
use Rattle.hart_threads.proofs.Least.{first_within, none_more, first_past}
use Rattle.hart_threads.proofs.missing.first_missing.Goals as goal

pub returns-then-not-is_seated : goal.returns-then-not-is_seated
returns-then-not-is_seated g c = first_within _ _ _ c.is_seated.result c.loop-hart-test.true c.is_seated.ensures (search rules) c.loop-hart.invariant

pub loop-hart-preserved : goal.loop-hart-preserved
loop-hart-preserved g c = none_more _ _ _ c.is_seated.result c.loop-hart-test.true c.is_seated.ensures (search rules) c.loop-hart.invariant

pub returns : goal.returns
returns g c = first_past _ c.loop-hart.hart _ _ c.loop-hart-test.false c.loop-hart.invariant c.least_past.ensures
