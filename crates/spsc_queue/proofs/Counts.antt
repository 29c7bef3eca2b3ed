-- How many words are available, and how many are taken, by the stores that their parties made and those that are pending.
use Rattle.std.specs.List.{filter}
use Rattle.std.proofs.lemmas.List.{take-append-drop, take-append-le}
use Rattle.std.proofs.lemmas.List.Elements.{filter-append}
use Rattle.std.proofs.Math.Seq.{take-add}
use Rattle.spsc_queue.proofs.Common.{ℕ, ◌+◌, ◌*◌, ◌<◌, ◌≤◌, ◌≡◌, ◌≢◌, ◌==◌, ◌&&◌, ◌⊎◌, inl, inr, Bool, true, false, if◌then◌else◌, Option, Some, None, List, []}
use Rattle.spsc_queue.proofs.Common.{◌∷◌, ◌++◌, length, take, drop, refl, sym, ◌∙◌, ap, subst, arith, append-nil, length-append, All, cases_eq, cases_lt}
use Rattle.spsc_queue.proofs.Common.{eq-eqb, ne_eqb, nat_tests, All-head, All-tail, Write, Entry, OpeningValue, Access, nothing, load, store, exchange, land}
use Rattle.spsc_queue.proofs.Common.{access_of, hart_of, stored_by, own_store, write_of, pending, own_stores, lands, read, AllowedBy, Allowed, stores-append}
use Rattle.spsc_queue.proofs.Common.{Kind, lamport, fastforward, RingBuffer, IsRingBuffer, overlaps, publishes, releases, slot_address, SenderState, renewing}
use Rattle.spsc_queue.proofs.Common.{roomy, filled, ReceiverState, holding, cleared, ProtocolState, role_of, next_by, send_store, send_load, receive_load}
use Rattle.spsc_queue.proofs.Common.{receive_store, IsCopyStore, IsSenderStore, IsReceiverStore, WritesNothingTo, KeepsProtocolBy, available_of}
use Rattle.step_machine.specs.Names.{fence, landed_by, written_by}
use Rattle.step_machine.proofs.{lands-append, some_first}
use Rattle.store_buffers.proofs.Effects.{pending-quiet, pending-first}
use Rattle.queue_parties.specs.Parties.{Party, the_sender, the_receiver, hart_among, party_among}
use Rattle.spsc_queue.specs.RingBuffers.{is_in_slots}
use Rattle.spsc_queue.proofs.Cases.{by-access}
use Rattle.spsc_queue.proofs.Offsets.{offset_low}
use Rattle.spsc_queue.proofs.OwnWords.{others-same, more-of}
use Rattle.spsc_queue.proofs.States.{IsPlaced, IsAsked, Taking}

abbrev pub number_of : (P : Write → Bool) → List Write → ℕ
number_of P ws = length (filter P ws)

number-append : (P : Write → Bool) (ws vs : List Write) → number_of P (ws ++ vs) ≡ number_of P ws + number_of P vs
number-append P ws vs = ap length (filter-append P ws vs) ∙ length-append (filter P ws) (filter P vs)

pub number-one : (P : Write → Bool) (w : Write) (b : Bool) → P w ≡ b → number_of P (w ∷ []) ≡ (if b then 1 else 0)
number-one P w b is = ap (λ c. length (if c then w ∷ [] else [])) is ∙ by b
  where
    by : (c : Bool) → length (if c then w ∷ [] else []) ≡ (if c then 1 else 0)
    by true = refl
    by false = refl

-- those of some of them
pub filters : (p q : Write → Bool) (ws : List Write) → length (filter p (filter q ws)) ≡ number_of (λ w. q w && p w) ws
filters p q [] = refl
filters p q (w ∷ ws) = at (q w) (filters p q ws)
  where
    one : (c : Bool) (xs ys : List Write) → length xs ≡ length ys → length (if c then w ∷ xs else xs) ≡ length (if c then w ∷ ys else ys)
    one true xs ys same = omega (arith, same)
    one false xs ys same = same

    at : (b : Bool) → length (filter p (filter q ws)) ≡ number_of (λ v. q v && p v) ws
        → length (filter p (if b then w ∷ filter q ws else filter q ws))
        ≡ length (if b && p w then w ∷ filter (λ v. q v && p v) ws else filter (λ v. q v && p v) ws)
    at true same = one (p w) (filter p (filter q ws)) (filter (λ v. q v && p v) ws) same
    at false same = same

-- ---- pending stores that move a count on, each by one if it is such a store

abbrev pub Steady : (M : ℕ → List Write → ℕ) (P : Write → Bool) (n : ℕ) → List Write → Type 0
Steady M P n [] = Unit {0}
Steady M P n (w ∷ ws) = (M n (w ∷ []) ≡ n + number_of P (w ∷ [])) × Steady M P (M n (w ∷ [])) ws

module _ (M : ℕ → List Write → ℕ) (none : (n : ℕ) → M n [] ≡ n) (split : (n : ℕ) (w : Write) (ws : List Write) → M n (w ∷ ws) ≡ M (M n (w ∷ [])) ws)
    (P : Write → Bool) where
  -- so all move it on by as many
  pub steady-count : (n : ℕ) (ws : List Write) → Steady M P n ws → M n ws ≡ n + number_of P ws
  steady-count n [] steady = none n ∙ omega arith
  steady-count n (w ∷ ws) steady =
      let rest : M (M n (w ∷ [])) ws ≡ M n (w ∷ []) + number_of P ws = steady-count (M n (w ∷ [])) ws steady.1 in
      let parts : number_of P (w ∷ ws) ≡ number_of P (w ∷ []) + number_of P ws = number-append P (w ∷ []) ws in
      split n w ws ∙ omega (arith, rest, steady.0, parts)

  -- where none is to the block
  pub steady-off : (r : RingBuffer) → ((n : ℕ) (w : Write) → overlaps r w ≡ false → (M n (w ∷ []) ≡ n) × (P w ≡ false)) → (n : ℕ) (ws : List Write)
      → All (λ w. overlaps r w ≡ false) ws → Steady M P n ws
  steady-off r off n [] all = tt
  steady-off r off n (w ∷ ws) all =
      let one = off n w (All-head (λ v. overlaps r v ≡ false) w ws all) in
      let none : number_of P (w ∷ []) ≡ 0 = number-one P w false one.1 in (
        omega (arith, one.0, none),
        steady-off r off (M n (w ∷ [])) ws (All-tail (λ v. overlaps r v ≡ false) w ws all),
      )

  steady-append : (n : ℕ) (ws : List Write) (w : Write) → Steady M P n ws → M (M n ws) (w ∷ []) ≡ M n ws + number_of P (w ∷ [])
      → Steady M P n (ws ++ w ∷ [])
  steady-append n [] w steady one = (subst (λ k. M k (w ∷ []) ≡ k + number_of P (w ∷ [])) (none n) one, tt)
  steady-append n (v ∷ ws) w steady one =
      (steady.0, steady-append (M n (v ∷ [])) ws w steady.1 (subst (λ k. M k (w ∷ []) ≡ k + number_of P (w ∷ [])) (split n v ws) one))

  -- and after an entry, where n2 is what its write makes of n if it is its hart's, and n if not
  module _ (B : ℕ) (o : OpeningValue) (es : List Entry) (e : Entry) (even : (h : ℕ) → lands h es ≤ length (own_stores h es)) (can : Allowed B o es e)
      (n n2 : ℕ) where
    abbrev g : ℕ
    g = hart_of e

    abbrev after : List Entry
    after = es ++ e ∷ []

    mine : Steady M P n (pending g es) → n2 ≡ M n (write_of es e)
        → ((w : Write) → access_of e ≡ store w → M (M n (pending g es)) (w ∷ []) ≡ M n (pending g es) + number_of P (w ∷ [])) → Steady M P n2 (pending g after)
    mine steady moves new = by (access_of e) refl can
      where
        still : (x : Access) → access_of e ≡ x → stored_by (g == g) x ≡ [] → landed_by (g == g) x ≡ 0 → pending g after ≡ pending g es
        still x does unstored unlanded = pending-quiet es e g (even g) (ap (stored_by (g == g)) does ∙ unstored) (ap (landed_by (g == g)) does ∙ unlanded)

        same : (x : Access) → access_of e ≡ x → stored_by (g == g) x ≡ [] → landed_by (g == g) x ≡ 0 → written_by (take 1 (pending g es)) x ≡ []
            → Steady M P n2 (pending g after)
        same x does unstored unlanded unwritten =
            subst (λ k. Steady M P k (pending g after))
            (sym (moves ∙ ap (M n) (ap (written_by (take 1 (pending g es))) does ∙ unwritten) ∙ none n))
            (subst (Steady M P n) (sym (still x does unstored unlanded)) steady)

        by : (x : Access) → access_of e ≡ x → AllowedBy B (pending g es) (read o es g) x → Steady M P n2 (pending g after)
        by nothing does allowed = same nothing does refl refl refl
        by (load a width v) does allowed = same (load a width v) does refl refl refl
        by (fence full) does allowed = same (fence full) does refl refl refl
        by (exchange a old new) does allowed =
            subst (Steady M P n2) (sym (still (exchange a old new) does refl refl ∙ allowed.0)) tt
        by (store w) does allowed =
            subst (Steady M P n2) (sym (more-of es e even o w does))
            (subst (λ k. Steady M P k (pending g es ++ w ∷ [])) (sym (moves ∙ ap (λ y. M n (written_by (take 1 (pending g es)) y)) does ∙ none n))
            (steady-append n (pending g es) w steady (new w does)))
        by land does allowed =
            let first = some_first (pending g es) allowed in
            let w : Write = first.0 in
            let rest : List Write = first.1 in
            let left : pending g after ≡ rest = pending-first es e g (even g) w rest first.2 (ap (stored_by (g == g)) does)
            (ap (landed_by (g == g)) does ∙ ap (λ b. if b then 1 else 0) (eq-eqb g g refl)) in
            let writes : write_of es e ≡ w ∷ [] = ap (written_by (take 1 (pending g es))) does ∙ ap (take 1) first.2 in
            subst (Steady M P n2) (sym left) (subst (λ k. Steady M P k rest) (sym (moves ∙ ap (M n) writes)) (subst (Steady M P n) first.2 steady).1)

    pub steady-next : (h : ℕ) → Steady M P n (pending h es) → (g ≡ h → n2 ≡ M n (write_of es e)) → (g ≢ h → n2 ≡ n)
        → ((w : Write) → g ≡ h → access_of e ≡ store w → M (M n (pending h es)) (w ∷ []) ≡ M n (pending h es) + number_of P (w ∷ []))
        → Steady M P n2 (pending h after)
    steady-next h steady own other new = elim (cases_eq g h) [
      | inl here ↦ subst (λ k. Steady M P n2 (pending k after)) here (mine (subst (λ k. Steady M P n (pending k es)) (sym here) steady) (own here)
          (λ w does. subst (λ k. M (M n (pending k es)) (w ∷ []) ≡ M n (pending k es) + number_of P (w ∷ [])) (sym here) (new w here does)))
      | inr apart ↦ subst (λ k. Steady M P k (pending h after)) (sym (other apart)) (subst (Steady M P n) (sym (others-same es e even h apart)) steady)
    ]

-- ---- what a store of each party counts

zero_if : (n : ℕ) (b : Bool) → b ≡ false → n ≡ n + (if b then 1 else 0)
zero_if n false off = omega arith
zero_if n true on = absurd (cc)

one_more : (n : ℕ) (b : Bool) → b ≡ true → n + 1 ≡ n + (if b then 1 else 0)
one_more n true on = refl
one_more n false off = absurd (cc)

module _ (r : RingBuffer) (is : IsRingBuffer r) where
  in-slots : (w : Write) (j : ℕ) → w.addr ≡ slot_address r j → is_in_slots r w ≡ true
  in-slots w j at = let low = offset_low r is j in grind (arith, nat_tests)

  off-slots : (w : Write) (a : ℕ) → w.addr ≡ a → (a + 4 ≤ r.slots) ⊎ (r.slots + 4 * r.size ≤ a) → is_in_slots r w ≡ false
  off-slots w a at apart = grind (arith, nat_tests)

  not-slot : (w : Write) (a j : ℕ) → w.addr ≡ slot_address r j → (a + 4 ≤ r.slots) ⊎ (r.slots + 4 * r.size ≤ a) → (w.addr == a) ≡ false
  not-slot w a j at apart = ne_eqb w.addr a (λ same. elim apart [
    | inl below ↦ omega (arith, below, same, at)
    | inr above ↦ omega (arith, above, same, at, offset_low r is j)
  ])

  module _ (s : ProtocolState) where
    sent-one : (k : Kind) → r.kind ≡ k → (p : SenderState) → IsPlaced r s.stored s.published p → (w : Write) → IsSenderStore k r p w
        → available_of k (send_store w p s) ≡ available_of k s + (if publishes k r w then 1 else 0)
    sent-one lamport kind (renewing u v) at w made = by r.copy refl made
      where
        by : (q : Option ℕ) → r.copy ≡ q → IsCopyStore q v w → s.published ≡ s.published + (if w.addr == r.head then 1 else 0)
        by None some made = absurd made
        by (Some c) some made = zero_if s.published (w.addr == r.head) (ne_eqb w.addr r.head (λ same. elim (is.head.no_copy c some) [
          | inl l ↦ omega (arith, same, made.0.place, l)
          | inr l ↦ omega (arith, same, made.0.place, l)
        ]))
    sent-one fastforward kind (renewing u v) at w made = by r.copy refl made
      where
        by : (q : Option ℕ) → r.copy ≡ q → IsCopyStore q v w → s.stored ≡ s.stored + (if is_in_slots r w then 1 else 0)
        by None some made = absurd made
        by (Some c) some made = absurd (let no : lamport ≡ fastforward = sym (is.copy c some).kind ∙ kind in cc)
    sent-one lamport kind (roomy u) at w made = zero_if s.published (w.addr == r.head)
        (not-slot w r.head s.published (made.0.place ∙ ap (λ x. r.slots + x) at.1) is.head_apart)
    sent-one fastforward kind (roomy u) at w made = one_more s.stored (is_in_slots r w)
        (in-slots w s.published (made.0.place ∙ ap (λ x. r.slots + x) at.1))
    sent-one lamport kind (filled u) at w made = one_more s.published (w.addr == r.head) (eq-eqb w.addr r.head made.0.place)
    sent-one fastforward kind (filled u) at w made = zero_if s.stored (is_in_slots r w) (off-slots w r.head made.0.place is.head_apart)
    sent-one k kind p at w made = absurd made

    taken-one : (k : Kind) (p : ReceiverState) → IsAsked r s.consumed p → Taking k s.taken s.consumed p → (w : Write) → IsReceiverStore k r p w
        → (receive_store k p s).taken ≡ s.taken + (if releases k r w then 1 else 0)
    taken-one lamport (holding u v) at level w made = one_more s.taken (w.addr == r.tail) (eq-eqb w.addr r.tail made.0.place)
    taken-one fastforward (holding u v) at level w made = one_more s.taken (is_in_slots r w)
        (in-slots w s.consumed (made.0.place ∙ ap (λ x. r.slots + x) at))
    taken-one lamport (cleared u) at level w made = absurd level
    taken-one fastforward (cleared u) at level w made = zero_if s.taken (is_in_slots r w) (off-slots w r.tail made.0.place is.tail_apart)
    taken-one k p at level w made = absurd made

  -- of Lamport's each store of the receiver's to the block takes one
  pub taken-each : (s : ProtocolState) (p : ReceiverState) → Taking lamport s.taken s.consumed p → (w : Write) → IsReceiverStore lamport r p w
      → (receive_store lamport p s).taken ≡ s.taken + 1
  taken-each s (holding u v) level w made = refl
  taken-each s (cleared u) level w made = absurd level
  taken-each s p level w made = absurd made

available-same : (k : Kind) (s z : ProtocolState) → z.stored ≡ s.stored → z.published ≡ s.published → available_of k z ≡ available_of k s
available-same lamport s z one two = two
available-same fastforward s z one two = one

received-same : (k : Kind) (p : ReceiverState) (s : ProtocolState)
    → ((receive_store k p s).stored ≡ s.stored) × ((receive_store k p s).published ≡ s.published)
received-same lamport (holding u w) s = (refl, refl)
received-same fastforward (holding u w) s = (refl, refl)
received-same k (cleared u) s = (refl, refl)
received-same k p s = (refl, refl)

sent-same : (w : Write) (p : SenderState) (s : ProtocolState) → (send_store w p s).taken ≡ s.taken
sent-same w (renewing u v) s = refl
sent-same w (roomy u) s = refl
sent-same w (filled u) s = refl
sent-same w p s = refl

abbrev pub publishes_to : Kind → RingBuffer → Write → Bool
publishes_to k r w = overlaps r w && publishes k r w

abbrev pub releases_to : Kind → RingBuffer → Write → Bool
releases_to k r w = overlaps r w && releases k r w

module _ (k : Kind) (r : RingBuffer) (is : IsRingBuffer r) (kind : r.kind ≡ k) (s : ProtocolState) (e : Entry)
    (keeps : KeepsProtocolBy k r (role_of r (hart_of e)) s (access_of e)) where
  abbrev z : ProtocolState
  z = next_by k r (role_of r (hart_of e)) s (access_of e)

  -- an access that writes nothing to the block counts nothing
  quiet : (P : Write → Bool) → ((w : Write) → overlaps r w ≡ false → P w ≡ false) → (n : ℕ) (b : Bool) (x : Access) → WritesNothingTo r x
      → n ≡ n + number_of P (stored_by b x)
  quiet P none n true (store w) off = let no : number_of P (w ∷ []) ≡ 0 = number-one P w false (none w off) in omega (arith, no)
  quiet P none n false (store w) off = omega arith
  quiet P none n b x off = omega arith

  pub counted : IsPlaced r s.stored s.published s.sending → available_of k z ≡ available_of k s + number_of (publishes_to k r) (own_store r.sender e)
  counted placed = by-access k r s (hart_of e)
      (λ t x y. available_of k y ≡ available_of k s + number_of (publishes_to k r) (stored_by (hart_of e == r.sender) x))
      (λ t x off. quiet (publishes_to k r) (λ w no. ap (λ b. b && publishes k r w) no) (available_of k s) (hart_of e == r.sender) x off)
      (λ mine a v. available-same k s (record s { sending = send_load k r a v s.sending }) refl refl ∙ omega arith)
      (λ mine a v. available-same k s (record s { receiving = receive_load k r a v s.receiving }) refl refl ∙ omega arith)
      (λ mine w on made.
      (let one : number_of (publishes_to k r) (w ∷ []) ≡ (if publishes k r w then 1 else 0) =
      number-one (publishes_to k r) w (publishes k r w) (ap (λ b. b && publishes k r w) on) in
      sent-one r is s k kind s.sending placed w made ∙ ap (λ n. available_of k s + n) (sym one)
      ∙ ap (λ b. available_of k s + number_of (publishes_to k r) (stored_by b (store w))) (sym (eq-eqb (hart_of e) r.sender mine))))
      (λ mine w on made. (let same = received-same k s.receiving s in
      available-same k s (receive_store k s.receiving s) same.0 same.1 ∙ (let z : available_of k s ≡ available_of k s + 0 = omega arith in z)
      ∙ ap (λ b. available_of k s + number_of (publishes_to k r) (stored_by b (store w)))
      (sym (ne_eqb (hart_of e) r.sender (λ e. is.parties (sym e ∙ mine))))))
      (access_of e) keeps

  -- by each test that a store of the receiver's meets where it takes a word
  pub counted-taken : (P : Write → Bool) → ((w : Write) → overlaps r w ≡ false → P w ≡ false)
      → ((w : Write) → overlaps r w ≡ true → IsReceiverStore k r s.receiving w → (receive_store k s.receiving s).taken ≡ s.taken + number_of P (w ∷ []))
      → z.taken ≡ s.taken + number_of P (own_store r.receiver e)
  counted-taken P none some = grind (arith, by-access, hart_of, stored_by, quiet, mine, sent-same, store, ne_eqb, eq-eqb, access_of)

  pub counted-released : IsAsked r s.consumed s.receiving → Taking k s.taken s.consumed s.receiving
      → z.taken ≡ s.taken + number_of (releases_to k r) (own_store r.receiver e)
  counted-released asked level = counted-taken (releases_to k r) (λ w no. ap (λ b. b && releases k r w) no)
      (λ w on made. taken-one r is s k s.receiving asked level w made
      ∙ ap (λ n. s.taken + n) (sym (number-one (releases_to k r) w (releases k r w) (ap (λ b. b && releases k r w) on))))

-- a party's entry, and its store
pub party-is : (s r h : ℕ) → s ≢ r → (p : Party) → h ≡ hart_among s r p → party_among s r h ≡ Some p
party-is s r h apart the_sender at = ap (λ b. if b then Some the_sender else (if h == r then Some the_receiver else None)) (eq-eqb h s at)
party-is s r h apart the_receiver at =
    ap (λ b. if b then Some the_sender else (if h == r then Some the_receiver else None)) (ne_eqb h s (λ same. apart (sym same ∙ at)))
    ∙ ap (λ b. if b then Some the_receiver else None) (eq-eqb h r at)

pub store-of : (h : ℕ) (e : Entry) (w : Write) → hart_of e ≡ h → access_of e ≡ store w → own_store h e ≡ w ∷ []
store-of h e w at does = ap (stored_by (hart_of e == h)) does ∙ ap (λ b. if b then w ∷ [] else []) (eq-eqb (hart_of e) h at)

-- ---- which of a hart's stores have landed

-- of a list whose front holds m such stores, and of whose first n more than m are, n is more than the front
beyond : (P : Write → Bool) (front back : List Write) (n : ℕ) → number_of P front < number_of P (take n (front ++ back)) → length front < n
beyond P front back n more = elim (cases_lt (length front) n) [
  | inl less ↦ less
  | inr le ↦
      let part : take n (front ++ back) ≡ take n front = take-append-le n front back le in
      let whole : number_of P front ≡ number_of P (take n front) + number_of P (drop n front) =
      ap (number_of P) (sym (take-append-drop n front)) ∙ number-append P (take n front) (drop n front) in
      let same : number_of P (take n (front ++ back)) ≡ number_of P (take n front) = ap (number_of P) part in
      absurd (omega (arith, more, whole, same))
]

module _ (P : Write → Bool) (h : ℕ) where
  -- how many landed, of those that a hart made
  abbrev pub landed_number : List Entry → ℕ
  landed_number es = number_of P (take (lands h es) (own_stores h es))

  pub landed-on : (es : List Entry) → landed_number es + number_of P (pending h es) ≡ number_of P (own_stores h es)
  landed-on es = sym (number-append P (take (lands h es) (own_stores h es)) (drop (lands h es) (own_stores h es)))
      ∙ ap (number_of P) (take-append-drop (lands h es) (own_stores h es))

  -- what has landed stays so
  pub landed-grows : (es fs : List Entry) → lands h es ≤ length (own_stores h es) → landed_number es ≤ landed_number (es ++ fs)
  landed-grows es fs even = grind (arith, own_stores, lands, stores-append, lands-append, take-add, take-append-le, number-append)

  -- once more have landed than a front of its stores holds, more have landed than that front is long
  pub landed-past : (es : List Entry) (front back : List Write) → own_stores h es ≡ front ++ back → number_of P front < landed_number es
      → length front < lands h es
  landed-past es front back is more = beyond P front back (lands h es) (subst (λ ws. number_of P front < number_of P (take (lands h es) ws)) is more)

  pub number-last : (es : List Entry) (e : Entry) → number_of P (own_stores h (es ++ e ∷ [])) ≡ number_of P (own_stores h es) + number_of P (own_store h e)
  number-last es e = ap (number_of P) (stores-append h es (e ∷ [])) ∙ number-append P (own_stores h es) (own_store h e ++ [])
      ∙ ap (λ ws. number_of P (own_stores h es) + number_of P ws) (append-nil (own_store h e))
