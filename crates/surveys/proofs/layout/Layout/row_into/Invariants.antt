use Rattle.std.proofs.Common.{◌≡◌, take}
use Rattle.surveys.specs.inner.Digits.{numbers_of_key}
use Rattle.surveys.proofs.layout.Layout.row_into.Given as goal

abbrev pub invariant-loop-place : goal.invariant-loop-place
invariant-loop-place g l = l.row.items ≡ take l.place (numbers_of_key l.self l.key)
