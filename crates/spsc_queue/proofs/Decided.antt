-- The computation of what callers owe is complete: of a run that keeps all it says so.
use Rattle.std.proofs.Common.{not, nat_lt}
use Rattle.std.proofs.lemmas.Bool.{eqb-false}
use Rattle.spsc_queue.proofs.Common.{ℕ, ◌<◌, ◌≡◌, ◌≢◌, ◌==◌, ◌&&◌, ◌||◌, Bool, true, false, if◌then◌else◌, List, [], ◌∷◌, ◌++◌, Some, refl}
use Rattle.spsc_queue.proofs.Common.{sym, ◌∙◌, ap, subst, arith, append-nil, append_assoc, slice_index, eq-eqb, ne_eqb, nat_tests, HartState, Entry, Access}
use Rattle.spsc_queue.proofs.Common.{store, exchange, access_of, OpeningValue, history_of, hart_of, is_own, number_read, state_of, Kind, lamport, fastforward}
use Rattle.spsc_queue.proofs.Common.{RingBuffer, WritesNothingTo, Block, SpscQueue, party_hart, party_line, buffer, enters, is_in_call_with, is_in_call_from}
use Rattle.spsc_queue.proofs.Common.{MayPass, HasArguments, PartyObligation, UsesAsSpscQueue, obligations_kept}
use Rattle.hart.specs.Steps.{advanced}
use Rattle.spsc_queue.specs.Calls.{Party, the_sender, the_receiver}
use Rattle.spsc_queue.specs.Obligations.{writes_nothing_to, may_pass, has_arguments, party_keeps_in, party_keeps, others_keep, obligation_kept}
use Rattle.spsc_queue.specs.Obligations.{obligations_kept_from}
use Rattle.spsc_queue.proofs.OwnEntries.{own_parts}
use Rattle.spsc_queue.proofs.Parties.{is_busy}
use Rattle.spsc_queue.proofs.Calls.{here, was_here}

both_hold : (a b : Bool) → a ≡ true → b ≡ true → (a && b) ≡ true
both_hold a b one two = ap (λ x. x && b) one ∙ two

nothing_said : (r : RingBuffer) (y : Access) → WritesNothingTo r y → writes_nothing_to r y ≡ true
nothing_said r (store w) is = ap not is
nothing_said r (exchange a old new) is = ap not is
nothing_said r y is = refl

pub passes_said : (p : Party) (K : Kind) (w : ℕ) → MayPass p K w → may_pass p K w ≡ true
passes_said the_sender lamport w is = refl
passes_said the_sender fastforward w is = ap not (ne_eqb w 0 is)
passes_said the_receiver K w is = refl

less_said : (a b : ℕ) → a < b → nat_lt a b ≡ true
less_said a b less = grind (arith, nat_tests)

pub arguments_said : (p : Party) (n : ℕ) (k : Block) (s : HartState) → HasArguments p n k s → has_arguments p n k s ≡ true
arguments_said p n k s is = grind (arith, slice_index, both_hold, eq-eqb, less_said, passes_said, not, ne_eqb)

party_said : (M : ℕ) (o : OpeningValue) (q : SpscQueue) (p : Party) (before done : List Entry) (e : Entry) (s : HartState)
    → state_of M (history_of o (before ++ done)) (party_hart q p) ≡ Some s → PartyObligation M o q p before done e
    → party_keeps M o q p (is_busy M o q p before done) (before ++ done) e ≡ true
party_said M o q p before done e s there owes = at (is_own h e) refl (is_busy M o q p before done) refl
  where
    h : ℕ
    h = party_hart q p

    z : HartState
    z = advanced s (number_read e)

    enters_so : (d : Bool) → enters (party_line q p) q.block z ≡ d → (enters (party_line q p) q.block z ≡ true → HasArguments p (party_line q p) q.block z)
        → (if d then has_arguments p (party_line q p) q.block z else true) ≡ true
    enters_so true on given = arguments_said p (party_line q p) q.block z (given on)
    enters_so false off given = refl

    at : (b : Bool) → is_own (party_hart q p) e ≡ b → (c : Bool) → is_busy M o q p before done ≡ c
        → (if b then party_keeps_in q p c (state_of M (history_of o (before ++ done)) (party_hart q p)) e else true) ≡ true
    at false off c is = refl
    at true on true busy = refl
    at true on false idle = grind (arith, own_parts, party_hart, both_hold, nothing_said, buffer, access_of, enters_so, enters, party_line)

others_said : (q : SpscQueue) (e : Entry) → (hart_of e ≢ q.sender → hart_of e ≢ q.receiver → WritesNothingTo (buffer q) (access_of e)) → others_keep q e ≡ true
others_said q e off = at (hart_of e == q.sender) refl (hart_of e == q.receiver) refl
  where
    at : (b : Bool) → (hart_of e == q.sender) ≡ b → (c : Bool) → (hart_of e == q.receiver) ≡ c
        → (b || (c || writes_nothing_to (buffer q) (access_of e))) ≡ true
    at true one c two = refl
    at false one true two = refl
    at false one false two = nothing_said (buffer q) (access_of e) (off (eqb-false (hart_of e) q.sender one) (eqb-false (hart_of e) q.receiver two))

all_said : (M : ℕ) (o : OpeningValue) (q : SpscQueue) (c d : Bool) (front es : List Entry)
    → ((done : List Entry) (e : Entry) (more : List Entry) → es ≡ done ++ e ∷ more
    → obligation_kept M o q (is_in_call_from M o q.sender q.send_line q.block c front done) (is_in_call_from M o q.receiver q.receive_line q.block d front done)
    (front ++ done) e ≡ true)
    → obligations_kept_from M o q c d front es ≡ true
all_said M o q c d front [] each = refl
all_said M o q c d front (x ∷ es) each =
    let c_next : Bool = is_in_call_with M o q.sender q.send_line q.block c front x in
    let d_next : Bool = is_in_call_with M o q.receiver q.receive_line q.block d front x in
    both_hold _ _ (subst (λ zs. obligation_kept M o q c d zs x ≡ true) (append-nil front) (each [] x es refl))
    (all_said M o q c_next d_next (front ++ x ∷ []) es (λ done e more is.
    subst (λ zs. obligation_kept M o q (is_in_call_from M o q.sender q.send_line q.block c_next (front ++ x ∷ []) done)
    (is_in_call_from M o q.receiver q.receive_line q.block d_next (front ++ x ∷ []) done) zs e ≡ true) (sym (append_assoc front (x ∷ []) done))
    (each (x ∷ done) e more (ap (λ zs. x ∷ zs) is))))

pub obligations_said : (B M : ℕ) (o : OpeningValue) (q : SpscQueue) (before es : List Entry) → UsesAsSpscQueue B M o q before es
    → obligations_kept M o q before es ≡ true
obligations_said B M o q before es c = all_said M o q false false before es (λ done e more is.
    let w = c.owed done e more is in
    both_hold _ _ (party_said M o q the_sender before done e (here B M o q before es c.shares the_sender done)
    (was_here B M o q before es c.shares the_sender done) w.sender)
    (both_hold _ _ (party_said M o q the_receiver before done e (here B M o q before es c.shares the_receiver done)
    (was_here B M o q before es c.shares the_receiver done) w.receiver) (others_said q e w.others)))
