use Rattle.step_machine.proofs.Nexts.{outcome_is, next_is}
use Rattle.step_machine.proofs.Packing.{position_back, position_is}
use Rattle.step_machine.proofs.PositionLaws.{end_is}
use Rattle.step_machine.proofs.laws.laws_of_positions.Goals as goal

pub returns : goal.returns
returns c = record { outcome = outcome_is; next = next_is; back = position_back; one = position_is; ends = end_is }
