use Rattle.std.proofs.Common.{◌≡◌, ◌++◌, map, take}
use Rattle.std.specs.String.{string_bytes}
use Rattle.certificate_reader.specs.Writing.{spaced, form_text}
use Rattle.certificate_reader.proofs.form_texts.push_forms.Given as goal

abbrev pub invariant-loop-form : goal.invariant-loop-form
invariant-loop-form l = string_bytes l.out ≡ string_bytes l.fn.out ++ spaced (map form_text (take l.form-index l.forms))
