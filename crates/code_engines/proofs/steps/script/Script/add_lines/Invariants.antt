use Rattle.std.proofs.Common.{◌≡◌, ◌+◌, ◌≤◌, length}
use Rattle.std.specs.Str.Lines.{lines}
use Rattle.code_engines.specs.ScriptValue.{script_value}
use Rattle.code_engines.specs.StepsReading.{after_lines}
use Rattle.code_engines.proofs.steps.script.Script.add_lines.Given as goal

-- the lines left, after what was said so far, describe what all lines describe
abbrev pub invariant-loop-line : goal.invariant-loop-line
invariant-loop-line l = record {
  so_far : after_lines (script_value l.self) (l.number + 1) (lines l.rest) ≡ after_lines (script_value l.fn.self) 1 (lines l.text);
  few : l.number + length l.rest ≤ length l.text;
}

abbrev pub decreases-loop-line : goal.decreases-loop-line
decreases-loop-line l = length l.rest
