use Rattle.std.proofs.Common.{◌≡◌, take}
use Rattle.view_engines.specs.LeastWidths.{all_code}
use Rattle.view_engines.proofs.least_widths.words_of.Given as goal

abbrev pub invariant-loop-hart : goal.invariant-loop-hart
invariant-loop-hart l = l.words.items ≡ all_code (take l.hart-index l.harts)
