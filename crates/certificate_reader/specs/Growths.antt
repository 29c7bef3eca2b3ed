-- What is made of lines from the last one up, as the code holds it: the newest stand last.
use Rattle.std.specs.Prelude.{reverse}
use Rattle.certificate_reader.specs.declared.cases.Growth.{Growth}
use Rattle.certificate_reader.specs.CaseTexts.{Grown}

abbrev pub grown_value : Growth → Grown
grown_value growth = record { arrows = reverse growth.arrows.items; trees = reverse growth.trees.items }
