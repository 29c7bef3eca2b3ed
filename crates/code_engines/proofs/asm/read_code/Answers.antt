use Rattle.std.proofs.Common.{ℕ, map}
use Rattle.std.specs.Global.{Vec}
use Rattle.std.specs.String.{string_bytes}
use Rattle.rv_decode.specs.Meaning.{meaning}
use Rattle.assembler.specs.Program.{IsCode}
use Rattle.engine_support.proofs.TextInputs.{format_read}
use Rattle.code_engines.specs.Asm.{asm_at}
use Rattle.code_engines.proofs.asm.read_code.Goals as goal

pub returns : goal.returns
returns g c =
    format_read IsCode asm_at (λ (code : Vec ℕ). code.items) (λ (code : Vec ℕ). map meaning code.items) _ (string_bytes c.in_ok-text.text) c.code_of.result
    c.in_ok-text.ensures.text (rw c.deref.ensures at c.code_of.ensures.code) (rw c.deref.ensures at c.code_of.ensures.exact)
