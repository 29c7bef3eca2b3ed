use Rattle.std.proofs.Common.{◌≡◌, ◌++◌, drop}
use Rattle.litmus_tokens.specs.Cleaning.{cleaned_from, cleaned_text}
use Rattle.litmus_tokens.proofs.cleaning.cleaned.Given as goal

abbrev pub invariant-loop-at : goal.invariant-loop-at
invariant-loop-at l = l.bytes.items ++ cleaned_from l.part (drop l.at l.text) ≡ cleaned_text l.text
