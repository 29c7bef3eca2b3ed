use Rattle.std.proofs.Common.{arith, ℕ, ◌<◌, ◌^◌, ◌≡◌, ◌↔◌, refl}
use Rattle.std.specs.Prelude.{Option, Some, None, IfSome}
use Rattle.rv_decode.specs.Fits.{Fits}
use Rattle.rv_decode.specs.Means.{Means}
use Rattle.rv_decode.specs.declared.instruction.Instr.{Instr}
use Rattle.rv_decode.proofs.Words.{fits_iff_word}
use Rattle.certifying.proofs.instructions.meant.Goals as goal

meant_fits : (word : ℕ) (r : Option Instr) → word < 2 ^ 32 → ((i : Instr) → (r ≡ Some i) ↔ Means word i) → IfSome r Fits
meant_fits word None small exact = tt
meant_fits word (Some i) small exact = (fits_iff_word i).1 (word, small, (exact i).0 refl)

pub returns-clause-fits : goal.returns-clause-fits
returns-clause-fits c = meant_fits c.args.word c.decode.result (omega arith) c.decode.ensures.exact
