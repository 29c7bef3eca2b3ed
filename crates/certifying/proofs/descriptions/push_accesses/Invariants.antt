use Rattle.std.proofs.Common.{◌≡◌, ◌++◌, take}
use Rattle.std.specs.List.{flat_map}
use Rattle.std.specs.String.{string_bytes}
use Rattle.certifying.specs.Descriptions.{access_lines}
use Rattle.certifying.proofs.descriptions.push_accesses.Given as goal

abbrev pub invariant-loop-access : goal.invariant-loop-access
invariant-loop-access l =
    string_bytes l.out ≡ string_bytes l.fn.out ++ flat_map (access_lines l.opening l.index) (take l.access-index l.accesses)
