use Rattle.std.specs.Prelude.{nat_lt}
use Rattle.std.proofs.lemmas.Option.{slice_get_within}
use Rattle.hart.specs.Steps.{need_of}
use Rattle.hart.specs.{need_of, settled, after_meaning, given, advanced_by, advanced, fetched, registers_after, pc_after}
use Rattle.hart.specs.declared.status.Status.{Status}
use Rattle.hart.specs.declared.status.Status.TheVariants as status
use Rattle.hart.specs.declared.need.Need.TheVariants as need
use Rattle.step_machine.specs.Paths.{after_entries, MakesEntries, opens_as, PathOf}
use Rattle.spsc_queue.proofs.Common.{◌++◌, [], ℕ, ◌≡◌, true, Some, List, length, refl, sym, ◌∙◌, ap, subst, append-nil, slice_index, HartState, Entry, arith}
use Rattle.spsc_queue.proofs.Common.{OpeningValue, history_of, own, state_of, IsRingBuffer, ProtocolState, parties_after, FollowsSpscProtocol, Block, SpscQueue}
use Rattle.spsc_queue.proofs.Common.{party_hart, party_line, listing_of, buffer, is_in_call, UsesAsSpscQueue, longest, IsPlainNeed, accesses, ◌*◌, ◌==◌, ◌⊎◌}
use Rattle.spsc_queue.proofs.Common.{inl, inr, false, if◌then◌else◌, ◌∷◌, Option, None, eqb-true, nat_tests, Instr, Need, number_read, WellFormed, Listed}
use Rattle.spsc_queue.proofs.Common.{HasFunction}
use Rattle.spsc_queue.specs.Calls.{the_sender, the_receiver, Party}
use Rattle.spsc_queue.proofs.OneCall.{whole, whole_begun, effect_of, call_completes, found_full, found_empty, word_available, room_available, part_begun}
use Rattle.spsc_queue.proofs.OneCall.{inside_at, made_few, course}
use Rattle.spsc_queue.proofs.laws_of_one_call.Goals as goal
use Rattle.spsc_queue.specs.CallEffects.{IsCallUnderWay, ContinuesCall, SendSoFar, ReceiveSoFar}
use Rattle.spsc_queue.proofs.Runs.{known-of}
use Rattle.spsc_queue.proofs.Outline.{Near, part, Inside}
use Rattle.spsc_queue.proofs.Parts.{ring_is, near-of}
use Rattle.spsc_queue.proofs.Functions.{moves_at}
use Rattle.spsc_queue.proofs.OwnEntries.{equipped, state_here}
use Rattle.spsc_queue.proofs.Parties.{words, has_of}
use Rattle.spsc_queue.proofs.Calls.{calls_follow, here, was_here}
use Rattle.spsc_queue.proofs.CutCalls.{send_cut, receive_cut}
use Rattle.spsc_queue.proofs.Cases.{by-bool}

-- A call under way, at the end of a run: what its hart wants next, and what it has done.

-- A hart that a run leads to a state runs there, except where it wants to stop or to end.

abbrev IsHalt : Need → Type 0
IsHalt need.Exit = Unit {0}
IsHalt (need.Stop why) = Unit {0}
IsHalt other = ⊥

abbrev pub RunsOrHalts : HartState → Type 0
RunsOrHalts s = (s.status ≡ status.Running) ⊎ IsHalt (need_of s)

past_code : (s : HartState) → s.pc ≡ 4 * length s.code → IsHalt (need_of s)
unfolding need_of
past_code s end = let out : nat_lt s.pc (4 * length s.code) ≡ false = grind (arith, nat_tests) in rw out tt

halts_still : (s : HartState) (x : Status) → IsHalt (need_of s) → IsHalt (need_of (record s { status = x }))
unfolding need_of
halts_still s x halts = halts

settles : (s : HartState) → s.status ≡ status.Running → RunsOrHalts (settled s)
settles s runs = by-bool (λ b. RunsOrHalts (record s { status = if b then status.Ended else s.status })) (s.pc == 4 * length s.code)
    (λ end. inr (past_code (record s { status = status.Ended }) (eqb-true s.pc (4 * length s.code) end))) (λ on. inl runs)

by_meaning : (s : HartState) (v : ℕ) (i : Option Instr) → s.status ≡ status.Running → RunsOrHalts (after_meaning s v i)
by_meaning s v None runs = inl runs
by_meaning s v (Some i) runs = settles (record s { registers = registers_after i s.registers s.pc v; pc = pc_after i s.registers s.pc }) runs

by_word : (s : HartState) (w : Option ℕ) → s.status ≡ status.Running → RunsOrHalts (given s w)
by_word s None runs = settles _ runs
by_word s (Some w) runs = settles _ runs

by_need : (s : HartState) (v : ℕ) (m : Need) → need_of s ≡ m → s.status ≡ status.Running → RunsOrHalts (advanced_by s m v)
by_need s v (need.Next w) is runs = by_word s w runs
by_need s v (need.Report r) is runs = settles _ runs
by_need s v need.Exit is runs = inr (halts_still s status.Ended (subst IsHalt (sym is) tt))
by_need s v (need.Stop why) is runs = inr (halts_still s (status.Stopped why) (subst IsHalt (sym is) tt))
by_need s v m is runs = by_meaning s v (fetched s) runs

goes : (s : HartState) (v : ℕ) → s.status ≡ status.Running → RunsOrHalts (advanced s v)
unfolding advanced
goes s v runs = by_need s v (need_of s) refl runs

goes_by : (s : HartState) (es : List Entry) → RunsOrHalts s → MakesEntries s es → RunsOrHalts (after_entries s es)
goes_by s [] so makes = so
goes_by s (e ∷ es) so makes = goes_by (advanced s (number_read e)) es (goes s (number_read e) makes.0.running) makes.1

plain_runs : (s : HartState) → RunsOrHalts s → IsPlainNeed (need_of s) → s.status ≡ status.Running
plain_runs s (inl runs) plain = runs
plain_runs s (inr halts) plain = absurd (no (need_of s) halts plain)
  where
    no : (m : Need) → IsHalt m → IsPlainNeed m → ⊥
    no need.Exit halts plain = plain
    no (need.Stop why) halts plain = plain
    no m halts plain = halts

-- a hart that opens with a function, where it wants nothing of memory, a load or a store
pub runs_here : (B M : ℕ) (o : OpeningValue) (h n : ℕ) (listing : List Listed) (has : HasFunction o h n listing) (es : List Entry)
    → WellFormed B M (history_of o es) → IsPlainNeed (need_of (state_here M o h n listing has es)) → (state_here M o h n listing has es).status ≡ status.Running
runs_here B M o h n listing has es run plain =
    let makes : MakesEntries (opens_as M has.opens) (own h es) =
    subst (λ so. PathOf M so (own h es)) has.is (run.paths h (slice_get_within o.harts h has.opens has.is)) in
    plain_runs (state_here M o h n listing has es) (goes_by (opens_as M has.opens) (own h es) (settles _ refl) makes) plain

module _ (B M : ℕ) (o : OpeningValue) (q : SpscQueue) (before done call : List Entry)
    (c : UsesAsSpscQueue B M o q before (done ++ call)) (s z : HartState) where
  -- its state, its part of the protocol's, and its line
  module _ (p : Party) (w : IsCallUnderWay M o (party_hart q p) (party_line q p) q.block before done call s)
      (at : state_of M (history_of o (before ++ (done ++ call))) (party_hart q p) ≡ Some z) where
    abbrev es : List Entry
    es = done ++ call

    abbrev h : ℕ
    h = party_hart q p

    abbrev n : ℕ
    n = party_line q p

    abbrev t : ProtocolState
    t = parties_after (buffer q) o before es

    abbrev y : HartState
    y = here B M o q before es c.shares p es

    was : state_of M (history_of o (before ++ es)) h ≡ Some y
    was = was_here B M o q before es c.shares p es

    same : y ≡ z
    same = let one : Some y ≡ Some z = sym was ∙ at in cc

    busy : is_in_call M o h n q.block before es ≡ true
    busy = w.within call [] (sym (append-nil call))

    inside : Inside n p q.block.kind q.block (buffer q) (words M o q p before es) (course h s call) y (part p t)
    inside = inside_at B M o q before es c done call [] (whole B M o q before done call c s z) p s (part_begun w) busy

    ring : IsRingBuffer (buffer q)
    ring = ring_is M q.block q.sender q.receiver c.shares.block c.shares.parties

    near : Near q.block (part p t)
    near = near-of q.block q.sender q.receiver ring p q.block.kind (slice_index (parties_after (buffer q) o before (es ++ [])).sent) t
        (known-of B (buffer q) o before es [] (subst (FollowsSpscProtocol B (buffer q) o before) (sym (append-nil es)) (calls_follow B M o q before es c)))

    -- what it wants, and how many entries it has made
    pub goes_on : ContinuesCall (longest p (buffer q)) z (length (own h call))
    goes_on =
        let k : Block = q.block in
        let moves = moves_at M n q.sender q.receiver p k.kind k c.shares.block h y t 0 refl
        (equipped M o h n (listing_of k.kind k.caches p) (has_of c.shares p) (before ++ es) y was) near (course h s call) (words M o q p before es)
        inside.line inside.place inside.row in
        record {
          runs = ap (λ (x : HartState). x.status) (sym same)
              ∙ runs_here B M o h n (listing_of k.kind k.caches p) (has_of c.shares p) (before ++ es) c.shares.run moves.0.plain;
          needs = subst (λ x. IsPlainNeed (need_of x)) same moves.0.plain;
          short = made_few B M o q before es c done call [] (whole B M o q before done call c s z) p s (part_begun w) busy;
        }

    registers : y.registers ≡ z.registers
    registers = ap (λ (x : HartState). x.registers) same

  pub send_so_far : (w : IsCallUnderWay M o q.sender q.send_line q.block before done call s)
      → state_of M (history_of o (before ++ (done ++ call))) q.sender ≡ Some z → SendSoFar q.block.kind (buffer q) s z (accesses q.sender call)
  send_so_far w at = send_cut q.send_line q.block q.sender q.receiver (ring the_sender w at)
      (course q.sender s call) (words M o q the_sender before (done ++ call))
      (y the_sender w at).registers (part the_sender (t the_sender w at)) (near the_sender w at) q.block.kind (inside the_sender w at).line z
      (registers the_sender w at) (inside the_sender w at).row

  pub receive_so_far : (w : IsCallUnderWay M o q.receiver q.receive_line q.block before done call s)
      → state_of M (history_of o (before ++ (done ++ call))) q.receiver ≡ Some z → ReceiveSoFar q.block.kind (buffer q) s z (accesses q.receiver call)
  receive_so_far w at =
      receive_cut q.receive_line q.block q.sender q.receiver (ring the_receiver w at) (course q.receiver s call)
      (words M o q the_receiver before (done ++ call))
      (y the_receiver w at).registers (part the_receiver (t the_receiver w at)) (near the_receiver w at) q.block.kind (inside the_receiver w at).line z
      (registers the_receiver w at) (inside the_receiver w at).row

pub returns-clause-send : goal.returns-clause-send
returns-clause-send c = λ B M o q before done call s z uses w. effect_of B M o q before (done ++ call) uses done call []
    (whole B M o q before done call uses s z) the_sender s (whole_begun w) z w

pub returns-clause-receive : goal.returns-clause-receive
returns-clause-receive c = λ B M o q before done call s z uses w. effect_of B M o q before (done ++ call) uses done call []
    (whole B M o q before done call uses s z) the_receiver s (whole_begun w) z w

pub returns-clause-sends : goal.returns-clause-sends
returns-clause-sends c = λ B M o q before done call s z uses w. call_completes B M o q before (done ++ call) uses done call []
    (whole B M o q before done call uses s z) the_sender s (whole_begun w) z w

pub returns-clause-receives : goal.returns-clause-receives
returns-clause-receives c = λ B M o q before done call s z uses w. call_completes B M o q before (done ++ call) uses done call []
    (whole B M o q before done call uses s z) the_receiver s (whole_begun w) z w

pub returns-clause-linearization_of_full : goal.returns-clause-linearization_of_full
returns-clause-linearization_of_full c = λ B M o q before done call s z uses w none. found_full B M o q before done call uses s z w none

pub returns-clause-linearization_of_empty : goal.returns-clause-linearization_of_empty
returns-clause-linearization_of_empty c = λ B M o q before done call s z uses w none. found_empty B M o q before done call uses s z w none

pub returns-clause-send_goes_on : goal.returns-clause-send_goes_on
returns-clause-send_goes_on c = λ B M o q before done part s z uses w at. goes_on B M o q before done part uses s z the_sender w at

pub returns-clause-receive_goes_on : goal.returns-clause-receive_goes_on
returns-clause-receive_goes_on c = λ B M o q before done part s z uses w at. goes_on B M o q before done part uses s z the_receiver w at

pub returns-clause-availability_of_words : goal.returns-clause-availability_of_words
returns-clause-availability_of_words c = λ B M o q before done call s z uses w more. word_available B M o q before done call uses s z w more

pub returns-clause-availability_of_room : goal.returns-clause-availability_of_room
returns-clause-availability_of_room c = λ B M o q before done call s z uses w more. room_available B M o q before done call uses s z w more

pub returns-clause-send_so_far : goal.returns-clause-send_so_far
returns-clause-send_so_far c = λ B M o q before done part s z uses w at. send_so_far B M o q before done part uses s z w at

pub returns-clause-receive_so_far : goal.returns-clause-receive_so_far
returns-clause-receive_so_far c = λ B M o q before done part s z uses w at. receive_so_far B M o q before done part uses s z w at
