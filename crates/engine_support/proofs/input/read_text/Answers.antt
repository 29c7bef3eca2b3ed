use Rattle.std.proofs.Common.{ℕ, ap}
use Rattle.std.specs.Global.{Vec}
use Rattle.std.specs.String.{string_bytes}
use Rattle.std.proofs.lemmas.Str.{IsUtf8-string_bytes}
use Rattle.engine_support.proofs.TextInputs.{no_text_read, text_read}
use Rattle.engine_support.proofs.input.read_text.Goals as goal

pub returns-in-Ok-clause-text : goal.returns-in-Ok-clause-text
returns-in-Ok-clause-text g c =
    text_read _ c.in_ok-input.input.items c.in_ok-input.ensures.input c.in_ok-input.ensures.few (string_bytes c.in-Ok.text)
    (ap (λ (v : Vec ℕ). v.items) c.in-Ok.ensures.ok) (IsUtf8-string_bytes c.in-Ok.text)

pub returns-clause-text : goal.returns-clause-text
returns-clause-text g c =
    rw c.refused.ensures
    (no_text_read _ c.in_ok-input.input.items c.in_ok-input.ensures.input c.in_ok-input.ensures.few
    (λ is_text. let ok = c.in-Err.ensures.succeeds is_text in absurd cc))
