-- What a caller owes, as a computation over a run: true only where each entry keeps it.
use Rattle.std.specs.Prelude.{ℕ, ◌*◌, ◌/◌, ◌%◌, ◌^◌, ◌==◌, ◌&&◌, ◌||◌, not, nat_lt, if◌then◌else◌, Bool, true, false, Option, None, Some, List, [], ◌∷◌, ◌++◌}
use Rattle.std.specs.Prelude.{slice_index}
use Rattle.memory.specs.Writes.{write}
use Rattle.hart.specs.State.{HartState}
use Rattle.hart.specs.Steps.{advanced}
use Rattle.step_machine.specs.declared.events.Entry.{Entry}
use Rattle.step_machine.specs.Access.{Access, store, exchange, access_of}
use Rattle.step_machine.specs.History.{OpeningValue, history_of}
use Rattle.step_machine.specs.Entries.{hart_of, is_own}
use Rattle.step_machine.specs.Paths.{number_read, state_of}
use Rattle.spsc_queue.specs.RingBuffers.{Kind, lamport, fastforward, RingBuffer, overlaps}
use Rattle.spsc_queue.specs.Calls.{Block, SpscQueue, Party, the_sender, the_receiver, party_hart, party_line, buffer, enters, is_in_call_with}

abbrev pub writes_nothing_to : RingBuffer → Access → Bool
writes_nothing_to r (store w) = not (overlaps r w)
writes_nothing_to r (exchange a old new) = not (overlaps r (write a 4 new))
writes_nothing_to r other = true

abbrev pub is_sendable : Kind → ℕ → Bool
is_sendable lamport w = true
is_sendable fastforward w = not (w == 0)

abbrev pub may_pass : Party → Kind → ℕ → Bool
may_pass the_sender k w = is_sendable k w
may_pass the_receiver k w = true

abbrev pub has_arguments : Party → (n : ℕ) → Block → HartState → Bool
has_arguments p n k s = (slice_index s.registers 12 == 4 * k.size) && (nat_lt (slice_index s.registers 11) (2 ^ 32)
    && (may_pass p k.kind (slice_index s.registers 11)
    && (not (slice_index s.registers 1 / 2 * 2 == 4 * n)
    && ((slice_index s.registers 1 / 2 * 2 % 4 == 0) && nat_lt (slice_index s.registers 1) (2 ^ 32)))))

-- of a party that is in a call, or in none and in this state
abbrev pub party_keeps_in : SpscQueue → Party → Bool → Option HartState → Entry → Bool
party_keeps_in q p true s e = true
party_keeps_in q p false None e = true
party_keeps_in q p false (Some s) e =
    writes_nothing_to (buffer q) (access_of e) && (if enters (party_line q p) q.block (advanced s (number_read e))
    then has_arguments p (party_line q p) q.block (advanced s (number_read e)) else true)

abbrev pub party_keeps : (M : ℕ) → OpeningValue → SpscQueue → Party → Bool → (front : List Entry) → Entry → Bool
party_keeps M o q p c front e = if is_own (party_hart q p) e then party_keeps_in q p c (state_of M (history_of o front) (party_hart q p)) e else true

abbrev pub others_keep : SpscQueue → Entry → Bool
others_keep q e = (hart_of e == q.sender) || ((hart_of e == q.receiver) || writes_nothing_to (buffer q) (access_of e))

-- c and d say whether the sender and the receiver are in a call after the entries of front
abbrev pub obligation_kept : (M : ℕ) → OpeningValue → SpscQueue → (c d : Bool) → (front : List Entry) → Entry → Bool
obligation_kept M o q c d front e = party_keeps M o q the_sender c front e && (party_keeps M o q the_receiver d front e && others_keep q e)

abbrev pub obligations_kept_from : (M : ℕ) → OpeningValue → SpscQueue → (c d : Bool) → (front es : List Entry) → Bool
obligations_kept_from M o q c d front [] = true
obligations_kept_from M o q c d front (e ∷ es) = obligation_kept M o q c d front e
    && obligations_kept_from M o q (is_in_call_with M o q.sender q.send_line q.block c front e)
    (is_in_call_with M o q.receiver q.receive_line q.block d front e) (front ++ e ∷ []) es

abbrev pub obligations_kept : (M : ℕ) → OpeningValue → SpscQueue → (before es : List Entry) → Bool
obligations_kept M o q before es = obligations_kept_from M o q false false before es
