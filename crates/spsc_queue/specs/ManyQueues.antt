-- Several queues at once, of any kinds, of which a hart may use any number, by one copy of a function or by several.
use Rattle.std.specs.Prelude.{ℕ, ◌≡◌, ◌≢◌, ◌⊎◌, ◌<◌, ◌≤◌, true, false, Some, List, ◌∷◌, ◌++◌}
use Rattle.hart.specs.State.{HartState}
use Rattle.hart.specs.Steps.{advanced}
use Rattle.step_machine.specs.declared.events.Entry.{Entry}
use Rattle.step_machine.specs.Access.{access_of}
use Rattle.step_machine.specs.History.{OpeningValue, history_of}
use Rattle.step_machine.specs.Entries.{hart_of, is_land}
use Rattle.step_machine.specs.Paths.{number_read, state_of}
use Rattle.spsc_queue.specs.Protocol.{WritesNothingTo}
use Rattle.spsc_queue.specs.Calls.{SpscQueue, Party, the_sender, the_receiver, party_hart, party_line, buffer, enters, is_in_call, is_sender_in_call}
use Rattle.spsc_queue.specs.Calls.{is_receiver_in_call, HasArguments, SharesQueue}

-- hart h is in no call for this queue
pub record IsIdle (M : ℕ) (o : OpeningValue) (q : SpscQueue) (h : ℕ) (before done : List Entry) : Type 0 where
  pub sender : h ≡ q.sender → is_sender_in_call M o q before done ≡ false
  pub receiver : h ≡ q.receiver → is_receiver_in_call M o q before done ≡ false

-- if a party, in no call for its block, enters the function for it by entry e, it does so with arguments
abbrev pub PassesArguments : (M : ℕ) → OpeningValue → SpscQueue → Party → (before done : List Entry) → Entry → Type 0
PassesArguments M o q p before done e = hart_of e ≡ party_hart q p → is_land e ≡ false
    → (s : HartState) → state_of M (history_of o (before ++ done)) (party_hart q p) ≡ Some s
    → is_in_call M o (party_hart q p) (party_line q p) q.block before done ≡ false
    → enters (party_line q p) q.block (advanced s (number_read e)) ≡ true → HasArguments p (party_line q p) q.block (advanced s (number_read e))

-- what is owed at entry e: a hart that is in no call at all writes to none of the blocks. Of calls only arguments are asked
pub record CallersObligation (M : ℕ) (o : OpeningValue) (count : ℕ) (queues : ℕ → SpscQueue) (before done : List Entry) (e : Entry) : Type 0 where
  pub senders : (i : ℕ) → i < count → PassesArguments M o (queues i) the_sender before done e
  pub receivers : (i : ℕ) → i < count → PassesArguments M o (queues i) the_receiver before done e
  pub stays_off : ((j : ℕ) → j < count → IsIdle M o (queues j) (hart_of e) before done)
      → (i : ℕ) → i < count → WritesNothingTo (buffer (queues i)) (access_of e)

-- a run in which harts use queues whose blocks don't meet
pub record UsesManyQueues (B M : ℕ) (o : OpeningValue) (count : ℕ) (queues : ℕ → SpscQueue) (before es : List Entry) : Type 0 where
  pub shares : (i : ℕ) → i < count → SharesQueue B M o (queues i) before es
  pub apart : (i j : ℕ) → i < count → j < count → i ≢ j
      → ((buffer (queues i)).end ≤ (queues j).block.base) ⊎ ((buffer (queues j)).end ≤ (queues i).block.base)
  pub owed : (done : List Entry) (e : Entry) (more : List Entry) → es ≡ done ++ e ∷ more → CallersObligation M o count queues before done e
