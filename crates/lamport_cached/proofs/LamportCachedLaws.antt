-- What the sender owes, and so the laws of the ring.
use Rattle.std.proofs.Common.{◌≡◌, refl, ◌∙◌, ap, arith, lit≤, ℕ}
use Rattle.std.proofs.Math.Nat.{zero-mod}
use Rattle.std.specs.Prelude.{slice_index}
use Rattle.hart.specs.State.{HartState}
use Rattle.poll_close.proofs.Ring.{Decreases, rank_of, next_by, SenderBlock, Standing, IsBlock, BlockLaws, opens_with, stands_at, AllLaws, all_laws, Reasons}
use Rattle.poll_close.proofs.Ring.{ranking_decreases, AllMayLoad, SenderRegisters, Right, ◌&◌}
use Rattle.lamport_ring.specs.Invariant.{Sent, outline_of, Counters, CounterInvariant, Words}
use Rattle.lamport_ring.proofs.Laws.{Reads, SenderLaws, block_laws, nothing}
use Rattle.lamport_ring.proofs.Decreasing.{progress, loads_tail}
use Rattle.lamport_ring.proofs.SenderSteps.{none_read}
use Rattle.lamport_cached.specs.Listing.{lamport_cached}
use Rattle.lamport_cached.specs.LamportCached.{lamport_cached_blocks, lamport_cached_means, lamport_cached_ranking}
use Rattle.lamport_cached.specs.Invariant.Sender.{program}
use Rattle.lamport_cached.proofs.Sender.{sender}
use Rattle.lamport_cached.proofs.Sender as row

-- All rows of the sender's outline. They stand apart from their reasons: what refuses an edit there is then that row alone.

module _ (k : SenderBlock) (n : Counters) (word : ℕ → ℕ) (v : ℕ) (r : SenderRegisters) (is : IsBlock k) (order : CounterInvariant k n)
    (words : Words k n.landed word) where
  pub reasons : Reasons (Right lamport_cached_blocks sender k n word v r) program.rows
  reasons = row.keeps_at_00 k n word v r is order words & row.keeps_at_04 k n word v r is order words & row.keeps_at_08 k n word v r is order words
      & row.keeps_at_0C k n word v r is order words & row.keeps_at_10 k n word v r is order words & row.keeps_at_14 k n word v r is order words
      & row.keeps_at_18 k n word v r is order words & row.keeps_at_1C k n word v r is order words & row.keeps_at_20 k n word v r is order words
      & row.keeps_at_24 k n word v r is order words & row.keeps_at_28 k n word v r is order words & row.keeps_at_2C k n word v r is order words
      & row.keeps_at_30 k n word v r is order words & row.keeps_at_34 k n word v r is order words & row.keeps_at_38 k n word v r is order words
      & row.keeps_at_3C k n word v r is order words & row.keeps_at_40 k n word v r is order words & row.keeps_at_44 k n word v r is order words & tt

stands : (k : SenderBlock) → IsBlock k → Standing (outline_of program) k nothing.sender (opens_with program.code k)
stands k is = record {
  place = 0x00;
  written = record { x5 = 0; x6 = 0; x7 = 0; x10 = 0; x11 = 0; x17 = 0; x28 = 0 };
  is = refl;
  holds = (
    record { taken = refl; heads = refl; unmarked = refl },
    none_read k nothing.sender is refl refl,
    omega (arith, zero-mod k.size),
  );
}

reads : (k : SenderBlock) (n : Sent) (s : HartState) → Standing (outline_of program) k n s → s.pc ≡ 0x1C → Reads k n s
reads k n s st here =
    let at = stands_at (outline_of program) k n s st 0x1C here (omega arith) (omega arith) in
    record {
      heads = at.1.ready.holds.heads;
      unmarked = at.1.ready.holds.unmarked;
      next = ap (λ (z : HartState). slice_index z.registers 6) at.0 ∙ at.1.next;
    }

sender_laws : SenderLaws program
sender_laws = record { listed = sender; stands = stands; reasons = reasons; reads = reads }

laws : BlockLaws lamport_cached_blocks
laws = block_laws program sender_laws

pub lamport_cached_laws : AllLaws lamport_cached lamport_cached_means
lamport_cached_laws = all_laws lamport_cached_blocks laws 2 (lit≤ tt) (lit≤ tt, lit≤ tt)

pub lamport_cached_decreases : Decreases lamport_cached lamport_cached_means (rank_of lamport_cached_ranking) (next_by lamport_cached_ranking)
lamport_cached_decreases = ranking_decreases lamport_cached_blocks laws 2 (lit≤ tt) (progress program sender_laws)

pub lamport_cached_loads : AllMayLoad lamport_cached lamport_cached_means 0x1C 8 8
lamport_cached_loads = loads_tail program lamport_cached (lit≤ tt)
