use Rattle.std.proofs.Common.{◌≢◌, All, take}
use Rattle.engine_support.proofs.line_input.len_through.Given as goal

-- no LF so far
abbrev pub invariant-loop-place : goal.invariant-loop-place
invariant-loop-place l = All (λ byte. byte ≢ 10) (take l.place l.bytes)
