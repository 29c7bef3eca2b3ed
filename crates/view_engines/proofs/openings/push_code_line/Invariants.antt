use Rattle.std.proofs.Common.{◌≡◌, ◌++◌, ◌∷◌, take}
use Rattle.std.specs.Prelude.{codes}
use Rattle.std.specs.List.{flat_map}
use Rattle.std.specs.String.{string_bytes}
use Rattle.texts.specs.Numbers.{hex_word}
use Rattle.view_engines.proofs.openings.push_code_line.Given as goal

abbrev pub invariant-loop-word : goal.invariant-loop-word
invariant-loop-word l = string_bytes l.out ≡ string_bytes l.fn.out ++ codes "hart" ++ flat_map (λ word. 32 ∷ hex_word word) (take l.word-index l.code)
