use Rattle.std.proofs.Common.{ℕ}
use Rattle.std.specs.Global.{Vec}
use Rattle.engine_support.specs.{read, text_and_value}
use Rattle.engine_support.proofs.InputLaws.{refused_after}
use Rattle.code_engines.specs.Asm.{assembly_texts}
use Rattle.code_engines.proofs.asm.made.Goals as goal

pub returns-in_err-code : goal.returns-in_err-code
returns-in_err-code g c =
    refused_after assembly_texts _ _ (λ (code : Vec ℕ). code.items) text_and_value c.from_residual.result c.in_err-code.field-0.0
    c.from_residual.ensures.1 c.in_err-code.ensures

pub returns : goal.returns
returns g c = read c.in_ok-code.code.items _ c.in_ok-code.ensures (rw c.deref.ensures.value at c.in_ok-lines.ensures)
