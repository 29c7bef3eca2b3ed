use Rattle.std.proofs.Common.{◌≡◌, ◌++◌, take}
use Rattle.std.specs.List.{flat_map}
use Rattle.std.specs.String.{string_bytes}
use Rattle.certifying.specs.Descriptions.{field_line}
use Rattle.certifying.proofs.descriptions.push_fields.Given as goal

abbrev pub invariant-loop-field : goal.invariant-loop-field
invariant-loop-field l = string_bytes l.out ≡ string_bytes l.fn.out ++ flat_map (field_line l.index) (take l.field-index l.fields)
