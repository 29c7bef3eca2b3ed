use Rattle.std.proofs.Common.{ℕ}
use Rattle.std.specs.Global.{Vec}
use Rattle.std.specs.String.{string_bytes}
use Rattle.engine_support.proofs.TextInputs.{judged_read}
use Rattle.code_engines.specs.Dis.{SaysCode, dis_at}
use Rattle.code_engines.proofs.CodeTexts.{code_found}
use Rattle.code_engines.proofs.dis.read_code.Goals as goal

pub returns : goal.returns
returns g c =
    let text = string_bytes c.in_ok-text.text in
    judged_read SaysCode dis_at (λ (code : Vec ℕ). code.items) _ text c.code_of_text.result c.in_ok-text.ensures.text (code_found text)
    (rw c.as_bytes.ensures.value at c.code_of_text.ensures)
