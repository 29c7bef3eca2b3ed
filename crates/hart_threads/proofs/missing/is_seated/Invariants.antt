use Rattle.std.proofs.Common.{◌≡◌, ◌≤◌, take, count_by}
use Rattle.hart_threads.specs.Missing.{acts_for, lands_for}
use Rattle.hart_threads.proofs.missing.is_seated.Given as goal

abbrev pub invariant-loop-seat : goal.invariant-loop-seat
invariant-loop-seat g l = record {
  acting : l.acting ≡ count_by (acts_for l.hart) (take l.seat-index l.seats);
  landing : l.landing ≡ count_by (lands_for l.hart) (take l.seat-index l.seats);
  few_act : l.acting ≤ l.seat-index;
  few_land : l.landing ≤ l.seat-index;
}
