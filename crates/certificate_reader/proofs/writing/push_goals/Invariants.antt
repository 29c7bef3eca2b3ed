use Rattle.std.proofs.Common.{◌≡◌, ◌++◌, [], map, take}
use Rattle.std.specs.String.{string_bytes}
use Rattle.certificate_reader.specs.Writing.{lines_text, goal_line}
use Rattle.certificate_reader.proofs.writing.push_goals.Given as goal

abbrev pub invariant-loop-goal : goal.invariant-loop-goal
invariant-loop-goal l = string_bytes l.out ≡ string_bytes l.fn.out ++ lines_text [] (map goal_line (take l.goal-index l.goals))
