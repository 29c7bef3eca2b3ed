-- A run that keeps what callers owe has no violation.
use Rattle.std.proofs.Common.{ℕ, ◌≡◌, ◌≢◌, ◌==◌, ◌*◌, ◌||◌, Bool, true, false, List, [], ◌∷◌, ◌++◌, Option, Some, None, refl, sym, ap, subst, ◌∙◌, append_assoc}
use Rattle.std.proofs.Common.{append-nil, eq-eqb}
use Rattle.std.specs.Prelude.{if◌then◌else◌, option_map, slice_index}
use Rattle.std.specs.Option.{option_or}
use Rattle.std.proofs.lemmas.Bool.{ne_eqb, eqb-true, eqb-false}
use Rattle.hart.specs.{HartState, advanced}
use Rattle.step_machine.specs.declared.events.Entry.{Entry}
use Rattle.step_machine.specs.Names.{Access, nothing, load, store, exchange, fence, land, access_of, OpeningValue, history_of, hart_of, is_land, number_read}
use Rattle.step_machine.specs.Names.{state_of}
use Rattle.step_machine.proofs.Follows.{advance_by, state_of-mine}
use Rattle.spsc_queue.specs.RingBuffers.{RingBuffer}
use Rattle.spsc_queue.specs.Protocol.{WritesNothingTo}
use Rattle.rv_decode.specs.Listings.{Listed}
use Rattle.spsc_queue.specs.Calls.{Block, SpscQueue, Party, the_sender, the_receiver, party_hart, party_line, buffer, enters, is_in_call, is_sender_in_call}
use Rattle.spsc_queue.specs.Calls.{is_receiver_in_call, HasArguments, HasFunction, PartyObligation, CallerObligation, UsesAsSpscQueue}
use Rattle.spsc_queue.specs.Obligations.{may_pass, has_arguments}
use Rattle.spsc_queue.proofs.Decided.{passes_said, arguments_said}
use Rattle.spsc_queue.proofs.OwnEntries.{state_here, is_here}
use Rattle.callers.specs.Violations.{is_in_its_call, written_at, arguments_violation, entering_violation, party_violation, pc_in, idle_violation, violation_of}
use Rattle.callers.specs.Violations.{violation_after, first_caller_violation}
use Rattle.callers.specs.declared.violations.CallerViolation.TheVariants as violation

nothing_written : (r : RingBuffer) (x : Access) → WritesNothingTo r x → written_at r x ≡ None
nothing_written r (store w) is = ap (λ b. if b then Some w.addr else None) is
nothing_written r (exchange a old new) is = ap (λ b. if b then Some a else None) is
nothing_written r nothing is = refl
nothing_written r (load a width v) is = refl
nothing_written r (fence full) is = refl
nothing_written r land is = refl

arguments_free : (p : Party) (h n : ℕ) (k : Block) (z : HartState) → HasArguments p n k z → arguments_violation p h n k z ≡ None
arguments_free p h n k z given = by (slice_index z.registers 12 == 4 * k.size) (may_pass p k.kind (slice_index z.registers 11)) (has_arguments p n k z)
    (eq-eqb (slice_index z.registers 12) (4 * k.size) given.bytes) (passes_said p k.kind (slice_index z.registers 11) given.sendable)
    (arguments_said p n k z given)
  where
    by : (a b c : Bool) → a ≡ true → b ≡ true → c ≡ true
        → (if a then (if b then (if c then None else Some (violation.PassedReturn h (slice_index z.registers 1))) else Some (violation.PassedWord h))
        else Some (violation.PassedBytes h (slice_index z.registers 12))) ≡ None
    by true true true bytes right given = refl
    by true true false bytes right given = absurd (cc)
    by true false c bytes right given = absurd (cc)
    by false b c bytes right given = absurd (cc)

entering_free : (p : Party) (h n : ℕ) (k : Block) (z : HartState) → (enters n k z ≡ true → HasArguments p n k z) → entering_violation p h n k (Some z) ≡ None
entering_free p h n k z given = by (enters n k z) refl
  where
    by : (b : Bool) → enters n k z ≡ b → (if b then arguments_violation p h n k z else None) ≡ None
    by true on = arguments_free p h n k z (given on)
    by false off = refl

module _ (M : ℕ) (o : OpeningValue) (q : SpscQueue) (done : List Entry) (e : Entry) (owed : CallerObligation M o q [] done e) where
  abbrev h : ℕ
  h = hart_of e

  abbrev after : Option HartState
  after = state_of M (history_of o (done ++ e ∷ [])) h

  -- a party that is in no call
  party_free : (p : Party) → h ≡ party_hart q p → (s : HartState) → is_land e ≡ false → PartyObligation M o q p [] done e
      → state_of M (history_of o done) h ≡ Some s → is_in_call M o (party_hart q p) (party_line q p) q.block [] done ≡ false
      → WritesNothingTo (buffer q) (access_of e) × (entering_violation p h (party_line q p) q.block after ≡ None)
  party_free p mine s act has_violation at idle =
      let both = has_violation mine act s (subst (λ (g : ℕ). state_of M (history_of o done) g ≡ Some s) mine at) idle in
      let next : after ≡ Some (advanced s (number_read e)) = state_of-mine M (history_of o done) h e refl act ∙ ap (option_map (advance_by e)) at in (
        both.0,
        ap (λ z. entering_violation p h (party_line q p) q.block z) next ∙ entering_free p h (party_line q p) q.block (advanced s (number_read e)) both.1,
      )

  module _ (act : is_land e ≡ false) (idle : is_in_its_call M o q done h ≡ false) where
    sender_free : h ≡ q.sender → (s : HartState) → state_of M (history_of o done) h ≡ Some s
        → WritesNothingTo (buffer q) (access_of e) × (party_violation q h after ≡ None)
    sender_free mine s at =
        let on : (h == q.sender) ≡ true = eq-eqb h q.sender mine in
        let free = party_free the_sender mine s act owed.sender at
        (sym (ap (λ b. if b then is_sender_in_call M o q [] done else (if h == q.receiver then is_receiver_in_call M o q [] done else false)) on)
        ∙ idle) in (
          free.0,
          ap (λ b. if b then entering_violation the_sender h q.send_line q.block after
              else (if h == q.receiver then entering_violation the_receiver h q.receive_line q.block after else None)) on ∙ free.1,
        )

    receiver_free : h ≢ q.sender → h ≡ q.receiver → (s : HartState) → state_of M (history_of o done) h ≡ Some s
        → WritesNothingTo (buffer q) (access_of e) × (party_violation q h after ≡ None)
    receiver_free other mine s at =
        let off : (h == q.sender) ≡ false = ne_eqb h q.sender other in
        let on : (h == q.receiver) ≡ true = eq-eqb h q.receiver mine in
        let free = party_free the_receiver mine s act owed.receiver at
        (sym (ap (λ b. if b then is_sender_in_call M o q [] done else (if h == q.receiver then is_receiver_in_call M o q [] done else false)) off
        ∙ ap (λ b. if b then is_receiver_in_call M o q [] done else false) on) ∙ idle) in (
          free.0,
          ap (λ b. if b then entering_violation the_sender h q.send_line q.block after
              else (if h == q.receiver then entering_violation the_receiver h q.receive_line q.block after else None)) off
              ∙ ap (λ b. if b then entering_violation the_receiver h q.receive_line q.block after else None) on ∙ free.1,
        )

    other_free : h ≢ q.sender → h ≢ q.receiver → WritesNothingTo (buffer q) (access_of e) × (party_violation q h after ≡ None)
    other_free no_sender no_receiver = (
      owed.others no_sender no_receiver,
      ap (λ b. if b then entering_violation the_sender h q.send_line q.block after
          else (if h == q.receiver then entering_violation the_receiver h q.receive_line q.block after else None)) (ne_eqb h q.sender no_sender)
          ∙ ap (λ b. if b then entering_violation the_receiver h q.receive_line q.block after else None) (ne_eqb h q.receiver no_receiver),
    )

    idle_without_violation : WritesNothingTo (buffer q) (access_of e) × (party_violation q h after ≡ None)
        → idle_violation q e (state_of M (history_of o done) h) after ≡ None
    idle_without_violation free =
        ap (λ x. option_or (option_map (violation.Wrote h (pc_in (state_of M (history_of o done) h))) x) (party_violation q h after))
        (nothing_written (buffer q) (access_of e) free.0) ∙ free.1

  -- both parties have states
  entry_free : ((g : ℕ) → g ≡ q.sender → (s : HartState) × (state_of M (history_of o done) g ≡ Some s))
      → ((g : ℕ) → g ≡ q.receiver → (s : HartState) × (state_of M (history_of o done) g ≡ Some s)) → violation_of M o q done e ≡ None
  entry_free sends receives = by (is_land e) refl (is_in_its_call M o q done h) refl
    where
      free : is_land e ≡ false → is_in_its_call M o q done h ≡ false → WritesNothingTo (buffer q) (access_of e) × (party_violation q h after ≡ None)
      free act idle = role (h == q.sender) refl (h == q.receiver) refl
        where
          role : (a : Bool) → (h == q.sender) ≡ a → (b : Bool) → (h == q.receiver) ≡ b
              → WritesNothingTo (buffer q) (access_of e) × (party_violation q h after ≡ None)
          role true on b is =
              let mine = eqb-true h q.sender on in
              let state = sends h mine in sender_free act idle mine state.0 state.1
          role false off true on =
              let mine = eqb-true h q.receiver on in
              let state = receives h mine in receiver_free act idle (eqb-false h q.sender off) mine state.0 state.1
          role false off false out = other_free act idle (eqb-false h q.sender off) (eqb-false h q.receiver out)

      by : (l : Bool) → is_land e ≡ l → (c : Bool) → is_in_its_call M o q done h ≡ c
          → (if l || c then None else idle_violation q e (state_of M (history_of o done) h) after) ≡ None
      by true lands c is = refl
      by false act true calls = refl
      by false act false idle = idle_without_violation act idle (free act idle)

-- a hart that opens with a function has a state
standing : (M : ℕ) (o : OpeningValue) (p n : ℕ) (listing : List Listed) (done : List Entry) → HasFunction o p n listing
    → (g : ℕ) → g ≡ p → (s : HartState) × (state_of M (history_of o done) g ≡ Some s)
standing M o p n listing done has g same =
    (state_here M o p n listing has done, ap (λ (x : ℕ). state_of M (history_of o done) x) same ∙ is_here M o p n listing has done)

after_free : (M : ℕ) (o : OpeningValue) (q : SpscQueue) (front es : List Entry)
    → ((done : List Entry) (e : Entry) (more : List Entry) → es ≡ done ++ e ∷ more → violation_of M o q (front ++ done) e ≡ None)
    → violation_after M o q front es ≡ None
after_free M o q front [] free = refl
after_free M o q front (e ∷ es) free =
    ap (λ x. option_or x (violation_after M o q (front ++ e ∷ []) es)) (ap (λ ds. violation_of M o q ds e) (sym (append-nil front)) ∙ free [] e es refl)
    ∙ after_free M o q (front ++ e ∷ []) es (λ done d more is.
    ap (λ ds. violation_of M o q ds d) (append_assoc front (e ∷ []) done) ∙ free (e ∷ done) d more (ap (λ ds. e ∷ ds) is))

pub none_owed : (B M : ℕ) (o : OpeningValue) (q : SpscQueue) (es : List Entry) → UsesAsSpscQueue B M o q [] es → first_caller_violation M o q es ≡ None
none_owed B M o q es uses = after_free M o q [] es (λ done e more is. entry_free M o q done e (uses.owed done e more is)
    (standing M o q.sender q.send_line _ done uses.shares.sends) (standing M o q.receiver q.receive_line _ done uses.shares.receives))
