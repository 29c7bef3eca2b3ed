-- When a sender may load where it waits, as `is_ready_at` asks.
use Rattle.std.proofs.Common.{ℕ, ◌+◌, ◌<◌, ◌≤◌, ◌≡◌, Some, length, sym, ◌∙◌, subst, arith}
use Rattle.std.specs.Prelude.{slice_index}
use Rattle.hart.specs.State.{HartState}
use Rattle.step_machine.specs.History.{History}
use Rattle.poll_close.specs.{Ring, Meaning, Stands, MayLoad, SenderBlock, BlockInvariant, Count, means_by}
use Rattle.poll_close.specs.Invariant.Outlines.{Standing}
use Rattle.poll_close.proofs.Blocks.{IsBlock, IsWordOf}
use Rattle.poll_close.proofs.Standing.{Sender, sender_at}

-- in every history of a channel each sender may load there
abbrev pub AllMayLoad : Ring → Meaning → ℕ → ℕ → ℕ → Type 0
AllMayLoad ring means line base offset = (B M : ℕ) (t : History) (h : ℕ) → Stands ring means B M t → 1 ≤ h → h < length t.opening.harts
    → MayLoad M t h line base offset

-- they may if the word there is the sender's block's
pub may_load : (m : BlockInvariant) (ring : Ring) → 1 ≤ ring.least → (line base offset : ℕ)
    → ((k : SenderBlock) (n : Count m) (s : HartState) → IsBlock k → Standing m.sender k n.sender s → s.pc ≡ line
    → IsWordOf k (slice_index s.registers base + offset))
    → AllMayLoad ring (means_by m) line base offset
may_load m ring some line base offset word B M t h stands sender hart s at here =
    let d : Sender m M t h = sender_at m ring some B M t h stands sender hart in
    let same : d.state ≡ s = let both : Some d.state ≡ Some s = sym d.at ∙ at in cc in
    let place = word d.block d.numbers s d.is (subst (Standing m.sender d.block d.numbers.sender) same d.stands) here in
    record {
      small = omega (arith, place.within.below, d.is.inside, d.is.small);
      address = (place.aligned, omega (arith, place.within.below, d.is.inside, d.words));
      word = d.memory (slice_index s.registers base + offset) place.aligned;
    }
