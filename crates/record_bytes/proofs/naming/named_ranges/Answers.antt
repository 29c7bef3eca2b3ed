use Rattle.std.proofs.Common.{◌≡◌, ◌+◌, ◌-◌, ◌<◌, ◌≤◌, ℕ, List, true, false, suc, arith, sym, ap, ◌∙◌}
use Rattle.std.specs.List.{list_any}
use Rattle.std.proofs.lemmas.Bool.{or_from}
use Rattle.texts.specs.Pieces.{pieces}
use Rattle.texts.specs.declared.pieces.Separators.TheVariants.{Byte}
use Rattle.record_bytes.specs.Naming.{has_offset, names_byte, offsets_below}
use Rattle.record_bytes.specs.Ranges.{byte_ranges}
use Rattle.record_bytes.proofs.OffsetLaws.{none-more}
use Rattle.record_bytes.proofs.naming.named_ranges.Goals as goal
use Rattle.record_bytes.proofs.naming.named_ranges.Goals.{then-names_byte+in_ok-add_offset, else-names_byte}
use Rattle.record_bytes.proofs.RangeLaws.{step-yes, step-no}

pub returns : goal.returns
returns c =
    let text = c.args.text.now in
    let end = c.min-end.result in
    let at : c.loop-offset.offset ≡ c.min-end.result = omega arith in
    let upto : c.min-end.result ≤ c.args.width = omega (arith, c.min-end.ensures) in
    let all : c.min-end.result + (c.args.width - c.min-end.result) ≡ c.args.width = omega (arith, upto) in
    let past : (b : ℕ) → c.min-end.result ≤ b → b < c.min-end.result + (c.args.width - c.min-end.result) → names_byte c.args.text.now b ≡ false =
    λ b from below.
    (let greater : c.last_in.result < b = omega (arith, from, below, all, c.min-end.ensures, c.saturating_add.ensures, c.ranges.width.fits) in
    or_from _ _ c.requires
    (ap (λ (t : List ℕ). list_any (has_offset b) (pieces (Byte 44) t)) (sym c.as_bytes.ensures.value) ∙ c.last_in.ensures b greater)) in
    c.loop-offset.invariant ∙ ap (λ (n : ℕ). byte_ranges (offsets_below (names_byte c.args.text.now) n)) at
    ∙ sym (ap byte_ranges (none-more (names_byte c.args.text.now) c.min-end.result (c.args.width - c.min-end.result) past))
    ∙ ap (λ (n : ℕ). byte_ranges (offsets_below (names_byte c.args.text.now) n)) all

pub loop-offset-preserved : goal.loop-offset-preserved
loop-offset-preserved c =
    let same : suc c.loop-offset.offset ≡ c.loop-offset.offset + 1 = omega arith in
    let next = ap (λ (n : ℕ). byte_ranges (offsets_below (names_byte c.args.text.now) n)) same in
    elim c.if-names_byte.branch [
      | then-names_byte+in_ok-add_offset w ↦ (
          let yes : names_byte c.args.text.now c.loop-offset.offset ≡ true = sym c.names_byte.ensures ∙ w.if-names_byte.true in
          grind (arith, step-yes (names_byte c.args.text.now) c.loop-offset.offset yes, next, w.in_ok-add_offset.ensures, w.ranges-is))
      | else-names_byte w ↦ (
          let no : names_byte c.args.text.now c.loop-offset.offset ≡ false = sym c.names_byte.ensures ∙ w.if-names_byte.false in
          grind (arith, step-no (names_byte c.args.text.now) c.loop-offset.offset no, next, w.ranges-is))
    ]
