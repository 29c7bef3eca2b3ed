use Rattle.std.proofs.Common.{◌≡◌, ◌-◌, ℕ, true, suc, arith, ap}
use Rattle.record_bytes.specs.Naming.{offsets_below}
use Rattle.record_bytes.specs.Ranges.{byte_ranges}
use Rattle.record_bytes.proofs.RangeLaws.{whole}
use Rattle.record_bytes.proofs.naming.all_ranges.Goals as goal
use Rattle.record_bytes.proofs.naming.all_ranges.Goals.{then-width-gt0+in_ok-push, else-width-gt0}

pub returns : goal.returns
returns c = elim c.if-width-gt0.branch [
  | then-width-gt0+in_ok-push w ↦ (
      let same : suc (c.args.width - 1) ≡ c.args.width = omega (arith, w.if-width-gt0.true) in
      grind (arith, whole (c.args.width - 1), ap (λ (n : ℕ). byte_ranges (offsets_below (λ b. true) n)) same))
  | else-width-gt0 w ↦ (
      let none : c.args.width ≡ 0 = omega (arith, w.if-width-gt0.false) in
      grind (arith, ap (λ (n : ℕ). byte_ranges (offsets_below (λ b. true) n)) none))
]
