-- The computation of what a caller owes is sound.
use Rattle.std.proofs.Common.{not}
use Rattle.spsc_queue.proofs.Common.{ℕ, ◌≡◌, ◌≢◌, ◌==◌, ◌&&◌, ◌||◌, Bool, true, false, if◌then◌else◌, List, [], ◌∷◌, ◌++◌, Some, sym, ◌∙◌, ap, subst, arith}
use Rattle.spsc_queue.proofs.Common.{append-nil, append_assoc, ne_eqb, eq-eqb, HartState, Entry, Access, store, exchange, access_of, OpeningValue, history_of}
use Rattle.spsc_queue.proofs.Common.{hart_of, number_read, state_of, Kind, lamport, fastforward, RingBuffer, WritesNothingTo, Block, SpscQueue, party_hart}
use Rattle.spsc_queue.proofs.Common.{party_line, buffer, enters, is_in_call_with, is_in_call_from, MayPass, HasArguments, PartyObligation, CallerObligation}
use Rattle.spsc_queue.proofs.Common.{obligations_kept}
use Rattle.hart.specs.Steps.{advanced}
use Rattle.spsc_queue.specs.Calls.{Party, the_sender, the_receiver}
use Rattle.spsc_queue.specs.Obligations.{writes_nothing_to, may_pass, has_arguments, party_keeps_in, party_keeps, others_keep, obligation_kept}
use Rattle.spsc_queue.specs.Obligations.{obligations_kept_from}
use Rattle.spsc_queue.proofs.Numbers.{both}
use Rattle.spsc_queue.proofs.OwnEntries.{own_is}
use Rattle.spsc_queue.proofs.Parties.{is_busy}

nothing_is : (r : RingBuffer) (y : Access) → writes_nothing_to r y ≡ true → WritesNothingTo r y
nothing_is r (store w) is = grind (arith, is)
nothing_is r (exchange a old new) is = grind (arith, is)
nothing_is r y is = tt

passes_is : (p : Party) (K : Kind) (w : ℕ) → may_pass p K w ≡ true → MayPass p K w
passes_is the_sender lamport w is = tt
passes_is the_sender fastforward w is = λ none. (let no : false ≡ true = sym (ap not (eq-eqb w 0 none)) ∙ is in cc)
passes_is the_receiver K w is = tt

pub arguments_are : (p : Party) (n : ℕ) (k : Block) (s : HartState) → has_arguments p n k s ≡ true → HasArguments p n k s
arguments_are p n k s is = grind (arith, is, passes_is)

party_obligation : (M : ℕ) (o : OpeningValue) (q : SpscQueue) (p : Party) (before done : List Entry) (e : Entry)
    → party_keeps M o q p (is_busy M o q p before done) (before ++ done) e ≡ true → PartyObligation M o q p before done e
party_obligation M o q p before done e keeps mine act s at idle =
    let z : HartState = advanced s (number_read e) in
    let h : ℕ = party_hart q p in
    let n : ℕ = party_line q p in
    let here : party_keeps_in q p (is_busy M o q p before done) (state_of M (history_of o (before ++ done)) h) e ≡ true =
    subst (λ b. (if b then party_keeps_in q p (is_busy M o q p before done) (state_of M (history_of o (before ++ done)) h) e else true) ≡ true)
    (own_is h e mine act) keeps in
    let parts = both (writes_nothing_to (buffer q) (access_of e)) (if enters n q.block z then has_arguments p n q.block z else true)
    (subst (λ b. party_keeps_in q p b (Some s) e ≡ true) idle (subst (λ y. party_keeps_in q p (is_busy M o q p before done) y e ≡ true) at here)) in (
      nothing_is (buffer q) (access_of e) parts.0,
      λ on. arguments_are p n q.block z (subst (λ b. (if b then has_arguments p n q.block z else true) ≡ true) on parts.1),
    )

others_owe : (q : SpscQueue) (e : Entry) → others_keep q e ≡ true → hart_of e ≢ q.sender → hart_of e ≢ q.receiver → WritesNothingTo (buffer q) (access_of e)
others_owe q e keeps not_sender not_receiver = nothing_is (buffer q) (access_of e)
    (sym (ap (λ b. b || ((hart_of e == q.receiver) || writes_nothing_to (buffer q) (access_of e))) (ne_eqb (hart_of e) q.sender not_sender)
    ∙ ap (λ b. b || writes_nothing_to (buffer q) (access_of e)) (ne_eqb (hart_of e) q.receiver not_receiver)) ∙ keeps)

-- each entry of a list that keeps all is one that keeps what it owes
one_of : (M : ℕ) (o : OpeningValue) (q : SpscQueue) (c d : Bool) (front done : List Entry) (e : Entry) (more : List Entry)
    → obligations_kept_from M o q c d front (done ++ e ∷ more) ≡ true → obligation_kept M o q (is_in_call_from M o q.sender q.send_line q.block c front done)
    (is_in_call_from M o q.receiver q.receive_line q.block d front done) (front ++ done) e ≡ true
one_of M o q c d front [] e more kept =
    subst (λ zs. obligation_kept M o q c d zs e ≡ true) (sym (append-nil front))
    (both (obligation_kept M o q c d front e) (obligations_kept_from M o q (is_in_call_with M o q.sender q.send_line q.block c front e)
    (is_in_call_with M o q.receiver q.receive_line q.block d front e) (front ++ e ∷ []) more) kept).0
one_of M o q c d front (x ∷ done) e more kept =
    let c_next : Bool = is_in_call_with M o q.sender q.send_line q.block c front x in
    let d_next : Bool = is_in_call_with M o q.receiver q.receive_line q.block d front x in
    subst (λ zs. obligation_kept M o q (is_in_call_from M o q.sender q.send_line q.block c_next (front ++ x ∷ []) done)
    (is_in_call_from M o q.receiver q.receive_line q.block d_next (front ++ x ∷ []) done) zs e ≡ true) (append_assoc front (x ∷ []) done)
    (one_of M o q c_next d_next (front ++ x ∷ []) done e more
    (both (obligation_kept M o q c d front x) (obligations_kept_from M o q c_next d_next (front ++ x ∷ []) (done ++ e ∷ more)) kept).1)

pub obligations_decided : (M : ℕ) (o : OpeningValue) (q : SpscQueue) (before es : List Entry) → obligations_kept M o q before es ≡ true
    → (done : List Entry) (e : Entry) (more : List Entry) → es ≡ done ++ e ∷ more → CallerObligation M o q before done e
obligations_decided M o q before es kept done e more is =
    let one = one_of M o q false false before done e more (subst (λ zs. obligations_kept M o q before zs ≡ true) is kept) in
    let c : Bool = is_in_call_from M o q.sender q.send_line q.block false before done in
    let d : Bool = is_in_call_from M o q.receiver q.receive_line q.block false before done in
    let sender = both (party_keeps M o q the_sender c (before ++ done) e) (party_keeps M o q the_receiver d (before ++ done) e && others_keep q e) one in
    let receiver = both (party_keeps M o q the_receiver d (before ++ done) e) (others_keep q e) sender.1 in
    record {
      sender = party_obligation M o q the_sender before done e sender.0;
      receiver = party_obligation M o q the_receiver before done e receiver.0;
      others = others_owe q e receiver.1;
    }
