-- A state by two cases, of which the ranks fall in the lower one, and the higher one may be.
use Rattle.std.proofs.Common.{ℕ, ◌+◌, ◌≡◌, Bool, true, Some, List, get_or, refl, sym, ◌∙◌}
use Rattle.queue_certificates.specs.Forms.{Form, raised}
use Rattle.queue_certificates.specs.States.{KnownState}
use Rattle.queue_certificates.specs.Cases.{Arrow, Cases, split, with_low, with_high, may_exceed}
use Rattle.queue_progress.specs.Falling.{each_ranked}

pub high_ranked : (f : Form → KnownState → Form → List Arrow → Bool) (r : Form) (k : KnownState) (cases : Cases) (j v : ℕ) (low high : Cases)
    (a w : KnownState) (q : Form) (x y : Cases) (b d : Bool) → cases ≡ split j v low high → b ≡ each_ranked f r w y → b ≡ true → w ≡ with_low k j v
    → y ≡ low → d ≡ may_exceed v (get_or k.ranges j (Some 0)) → d ≡ true → a ≡ with_high k j v → q ≡ raised j (v + 1) r → x ≡ high
    → each_ranked f q a x ≡ each_ranked f r k cases
high_ranked f r k cases j v low high a w q x y b d is_split is_b b_true is_w is_y is_d d_true is_a is_q is_x =
    let holds : each_ranked f r (with_low k j v) low ≡ true = rw (← is_w, ← is_y, ← is_b) b_true in
    let exceeds : may_exceed v (get_or k.ranges j (Some 0)) ≡ true = sym is_d ∙ d_true in
    rw (is_split, is_a, is_q, is_x, holds, exceeds) refl
