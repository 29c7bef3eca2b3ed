use Rattle.std.proofs.Common.{◌≡◌, ◌++◌, take}
use Rattle.std.specs.String.{string_bytes}
use Rattle.debugger.specs.DebugText.{store_lines}
use Rattle.debugger.proofs.debug.lines.push_store_lines.Given as goal

abbrev pub invariant-loop-store : goal.invariant-loop-store
invariant-loop-store l = string_bytes l.out ≡ string_bytes l.fn.out ++ store_lines (take l.store-index l.stores)
