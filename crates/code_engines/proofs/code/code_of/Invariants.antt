use Rattle.std.proofs.Common.{◌≡◌, length}
use Rattle.assembler.specs.Drafts.{onto}
use Rattle.texts.specs.Cutting.{tokens}
use Rattle.code_engines.specs.Asm.{code_at}
use Rattle.code_engines.proofs.code.code_of.Given as goal

-- the words so far, and those of the rest, are what the line says
abbrev pub invariant-loop-digits : goal.invariant-loop-digits
invariant-loop-digits l = onto l.code.items (code_at (tokens l.rest)) ≡ code_at (tokens l.text)

abbrev pub decreases-loop-digits : goal.decreases-loop-digits
decreases-loop-digits l = length l.rest
