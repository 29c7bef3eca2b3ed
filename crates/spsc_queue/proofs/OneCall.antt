-- One whole call: what it does, what it completes, and what it has found where it returns 0.
use Rattle.hart.specs.Steps.{advanced}
use Rattle.spsc_queue.proofs.Common.{ℕ, ◌+◌, ◌<◌, ◌≡◌, ◌≢◌, ◌&&◌, ◌⊎◌, inl, inr, Option, Some, None, Bool, true, false, if◌then◌else◌, List, [], ◌∷◌, ◌++◌, ◌*◌}
use Rattle.spsc_queue.proofs.Common.{length, refl, sym, ◌∙◌, ap, subst, arith, append-nil, append_assoc, slice_index, HartState, Entry, OpeningValue, ◌/◌, ◌%◌}
use Rattle.spsc_queue.proofs.Common.{history_of, write, Access, load, store, access_of, hart_of, is_own, own, pending, number_read, state_of, Kind, RingBuffer}
use Rattle.spsc_queue.proofs.Common.{IsRingBuffer, next, capacity, unpublished, unreleased, placed, roomy, ProtocolState, at_start, role_of, next_by, ◌^◌}
use Rattle.spsc_queue.proofs.Common.{protocol_next, room_at, says_full, watched_address, says_empty, parties_after, Block, SpscQueue, party_hart, party_line}
use Rattle.spsc_queue.proofs.Common.{listing_of, buffer, is_in_call, is_in_call_with, enters, completed_by_entry, given_words, received_words, UsesAsSpscQueue}
use Rattle.spsc_queue.proofs.Common.{longest, sees_full, look_accesses, accesses, completed_word, take_accesses, MayPass, HasArguments, memory_access}
use Rattle.spsc_queue.specs.Calls.{Party, the_sender, the_receiver}
use Rattle.spsc_queue.specs.CallEffects.{IsWholeCall, IsCallUnderWay, IsSend, IsReceive, FoundFull, FoundEmpty}
use Rattle.spsc_queue.proofs.Cases.{by-bool}
use Rattle.spsc_queue.proofs.Numbers.{both}
use Rattle.spsc_queue.proofs.Growing.{protocol-append}
use Rattle.spsc_queue.proofs.Courses.{at_00, Course, At, number, went}
use Rattle.spsc_queue.proofs.Outline.{Part, part, role, Level, first_look, index_at, Knows, Effect, Fresh, Row, Inside, Outside, CourseStands, Stands}
use Rattle.spsc_queue.proofs.Parts.{ring_is, first-load, look-load, load-words}
use Rattle.spsc_queue.proofs.Functions.{facts, begins}
use Rattle.spsc_queue.proofs.OwnEntries.{own_parts, state_here, here_same, here_next}
use Rattle.spsc_queue.proofs.Completed.{is_in_call-last, none_completed, same_call, entered}
use Rattle.spsc_queue.proofs.Parties.{is_busy, words, words-last, has_of, which, other_hart, Mine, Others, whose, not_mine}
use Rattle.spsc_queue.proofs.Calls.{Stand, stands-at, here, was_here, course_stands, completes}
use Rattle.spsc_queue.proofs.CallLaws.{finds_full, finds_empty, finds_word, finds_room}
use Rattle.spsc_queue.proofs.Accesses.{First, first_access, off_silent, still, unmoved, other-accesses, other-own, mine-accesses, mine-own}

-- What whole calls of both functions share: the first line, the course so far.

-- where a hart stands at the entry, in a call, it stands at the first line
pub first_line : (line : At) → number line ≡ 0 → line ≡ at_00
first_line at_00 e = refl
first_line line e = absurd (omega (arith, e))

pub same_arguments : (p : Party) (n : ℕ) (k : Block) (s z : HartState) → s.registers ≡ z.registers → HasArguments p n k s → HasArguments p n k z
same_arguments p n k s z same a = record {
  bytes = ap (λ x. slice_index x 12) (sym same) ∙ a.bytes;
  word = subst (λ x. slice_index x 11 < 2 ^ 32) same a.word;
  sendable = subst (λ x. MayPass p k.kind (slice_index x 11)) same a.sendable;
  back = λ e. a.back (ap (λ x. slice_index x 1 / 2 * 2) same ∙ e);
  back_aligned = subst (λ x. slice_index x 1 / 2 * 2 % 4 ≡ 0) same a.back_aligned;
  back_small = subst (λ x. slice_index x 1 < 2 ^ 32) same a.back_small;
}

-- the course of a call, by its entries so far
abbrev pub course : (h : ℕ) → HartState → (part : List Entry) → Course
course h s part = record { entry = s; count = length (own h part); did = accesses h part }

pub course_on : (h : ℕ) (s : HartState) (part : List Entry) (e : Entry) → is_own h e ≡ true → went (course h s part) (access_of e) ≡ course h s (part ++ e ∷ [])
course_on h s part e on =
    ap (λ m. record { entry = s; count = m; did = accesses h part ++ memory_access (access_of e) }) (sym (mine-own h e part on))
    ∙ ap (λ ys. record { entry = s; count = length (own h (part ++ e ∷ [])); did = ys }) (sym (mine-accesses h e part on))

pub course_same : (h : ℕ) (s : HartState) (part : List Entry) (e : Entry) → is_own h e ≡ false → course h s part ≡ course h s (part ++ e ∷ [])
course_same h s part e off =
    ap (λ ws. record { entry = s; count = length ws; did = accesses h part }) (sym (other-own h e part off))
    ∙ ap (λ ys. record { entry = s; count = length (own h (part ++ e ∷ [])); did = ys }) (sym (other-accesses h e part off))

-- a result that chose 0 chose its first case
pub chose : (b : Bool) (n : ℕ) → n ≡ (if b then 0 else 1) → n ≡ 0 → b ≡ true
chose true n is zero = refl
chose false n is zero = absurd (omega (arith, is, zero))

-- what a call answers
pub answers : (b : Bool) (n : ℕ) → n ≡ (if b then 0 else 1) → (n ≡ 0) ⊎ (n ≡ 1)
answers true n is = inl is
answers false n is = inr is

carry : (n : ℕ) (p : Party) (K : Kind) (k : Block) (r : RingBuffer) {b b1 : Bool} {ws ws1 : List ℕ} {c c1 : Course} {s s1 : HartState} {t t1 : Part}
    → b ≡ b1 → ws ≡ ws1 → c ≡ c1 → s ≡ s1 → t ≡ t1 → CourseStands n p K k r b ws c s t → CourseStands n p K k r b1 ws1 c1 s1 t1
carry n p K k r {b} {b1} {ws} {ws1} {c} {c1} {s} {s1} {t} {t1} eb ew ec es et stands =
    subst (λ y. CourseStands n p K k r b1 ws1 c1 s1 y) et (subst (λ y. CourseStands n p K k r b1 ws1 c1 y t) es
    (subst (λ y. CourseStands n p K k r b1 ws1 y s t) ec (subst (λ y. CourseStands n p K k r b1 y c s t) ew
    (subst (λ y. CourseStands n p K k r y ws c s t) eb stands))))

-- a call that began, and is in its course until the last of these entries
pub record Begun (M : ℕ) (o : OpeningValue) (h n : ℕ) (k : Block) (before done call : List Entry) (s : HartState) : Type 0 where
  pub entry : state_of M (history_of o (before ++ done)) h ≡ Some s
  pub enters : enters n k s ≡ true
  pub begun : is_in_call M o h n k before done ≡ true
  pub within : (part : List Entry) (e : Entry) (rest : List Entry) → call ≡ part ++ e ∷ rest → is_in_call M o h n k before (done ++ part) ≡ true

pub whole_begun : {M : ℕ} {o : OpeningValue} {h n : ℕ} {k : Block} {before done call : List Entry} {s z : HartState}
    → IsWholeCall M o h n k before done call s z → Begun M o h n k before done call s
whole_begun w = record { entry = w.entry; enters = w.enters; begun = w.begun; within = w.within }

pub part_begun : {M : ℕ} {o : OpeningValue} {h n : ℕ} {k : Block} {before done part : List Entry} {s : HartState}
    → IsCallUnderWay M o h n k before done part s → Begun M o h n k before done part s
part_begun {M} {o} {h} {n} {k} {before} {done} {part} {s} w = record {
  entry = w.entry;
  enters = w.enters;
  begun = subst (λ xs. is_in_call M o h n k before xs ≡ true) (append-nil done) (w.within [] part refl);
  within = λ front e rest is. w.within front (e ∷ rest) is;
}

-- where a party looks for room, or for a word, and whether it sees none there
abbrev place_of : Party → Kind → RingBuffer → (u : ℕ) → ℕ
place_of the_sender K r u = room_at K r u
place_of the_receiver K r u = watched_address K r u

abbrev sees_none : Party → Kind → RingBuffer → (u v : ℕ) → Bool
sees_none the_sender K r u v = says_full K r u v
sees_none the_receiver K r u v = says_empty K u v

-- an access after which a party knows its index still
record Keeps (p : Party) (K : Kind) (r : RingBuffer) (u : ℕ) (x : Access) : Type 0 where
  knows : (t : ProtocolState) → Knows p u (part p t) → Knows p u (part p (next_by K r (role p) t x))
  words : (t : ProtocolState) → (part p (next_by K r (role p) t x)).words ≡ (part p t).words

-- a call that returns 0 looked, maybe at a copy of the tail first, and saw that there is no room, or no word
record Looks (p : Party) (K : Kind) (r : RingBuffer) (all : List Access) : Type 0 where
  index : ℕ
  seen : ℕ
  first : List Access
  did : all ≡ load (index_at p r) 4 index ∷ first ++ load (place_of p K r index) 4 seen ∷ []
  says : sees_none p K r index seen ≡ true
  copy : (first ≡ []) ⊎ ((x : Access) × (first ≡ x ∷ []) × Keeps p K r index x)

looks_of : (p : Party) (K : Kind) (r : RingBuffer) (is : IsRingBuffer r) (s z : HartState) (count : ℕ) (did : List Access) → Effect p K r s z count did
    → slice_index z.registers 10 ≡ 0 → Looks p K r did
looks_of the_sender K r is s z count did f none = at r.copy refl (chose (sees_full r.copy K r f.head f.copy f.seen) (slice_index z.registers 10) f.answer none)
  where
    stored : List Access
    stored = store (write (r.slots + f.head) 4 (slice_index s.registers 11)) ∷ store (write r.head 4 (next r f.head)) ∷ []

    at : (q : Option ℕ) → r.copy ≡ q → sees_full r.copy K r f.head f.copy f.seen ≡ true → Looks the_sender K r did
    at None is_none test =
        let full : says_full K r f.head f.seen ≡ true = ap (λ q. sees_full q K r f.head f.copy f.seen) (sym is_none) ∙ test in
        record {
          index = f.head;
          seen = f.seen;
          first = [];
          did = f.accesses ∙ ap (λ q. load r.head 4 f.head ∷ (look_accesses q K r f.head f.copy f.seen
              ++ (if sees_full q K r f.head f.copy f.seen then [] else stored))) is_none
              ∙ ap (λ b. load r.head 4 f.head ∷ load (room_at K r f.head) 4 f.seen ∷ (if b then [] else stored)) full;
          says = full;
          copy = inl refl;
        }
    at (Some a) some test =
        let full = both (says_full K r f.head f.copy) (says_full K r f.head f.seen) (ap (λ q. sees_full q K r f.head f.copy f.seen) (sym some) ∙ test) in
        let apart : a ≢ r.head = λ e. elim (is.head.no_copy a some) [
          | inl l ↦ omega (arith, e, l)
          | inr l ↦ omega (arith, e, l)
        ] in
        record {
          index = f.head;
          seen = f.seen;
          first = load a 4 f.copy ∷ [];
          did = f.accesses ∙ ap (λ q. load r.head 4 f.head ∷ (look_accesses q K r f.head f.copy f.seen
              ++ (if sees_full q K r f.head f.copy f.seen then [] else stored))) some
              ∙ ap (λ b. load r.head 4 f.head ∷ load a 4 f.copy ∷ ((if b then load (room_at K r f.head) 4 f.seen
              ∷ (if says_full K r f.head f.seen then [] else store (write a 4 f.seen) ∷ []) else [])
              ++ (if b && says_full K r f.head f.seen then [] else stored))) full.0
              ∙ ap (λ b. load r.head 4 f.head ∷ load a 4 f.copy ∷ load (room_at K r f.head) 4 f.seen
              ∷ ((if b then [] else store (write a 4 f.seen) ∷ []) ++ (if b then [] else stored))) full.1;
          says = full.1;
          copy = inr (
            load a 4 f.copy,
            refl,
            record {
              knows = λ t knows. look-load K r the_sender t a f.copy f.head knows apart (sym (ap (λ q. first_look q (room_at K r f.head)) some))
                  ∙ ap (λ b. if b then placed f.head else roomy f.head) full.0;
              words = λ t. load-words K r the_sender t a f.copy;
            },
          );
        }
looks_of the_receiver K r is s z count did f none =
    let test = chose (says_empty K f.tail f.seen) (slice_index z.registers 10) f.answer none in
    record {
      index = f.tail;
      seen = f.seen;
      first = [];
      did = f.accesses ∙ ap (λ b. load r.tail 4 f.tail ∷ load (watched_address K r f.tail) 4 f.seen ∷
          (if b then [] else take_accesses K r (slice_index z.registers 11) f.tail)) test;
      says = test;
      copy = inl refl;
    }

module _ (B M : ℕ) (o : OpeningValue) (q : SpscQueue) (before es : List Entry) (c : UsesAsSpscQueue B M o q before es) (done call rest : List Entry)
    (is : es ≡ done ++ (call ++ rest)) (p : Party) (s : HartState) (w : Begun M o (party_hart q p) (party_line q p) q.block before done call s) where
  abbrev h : ℕ
  h = party_hart q p

  abbrev n : ℕ
  n = party_line q p

  abbrev k : Block
  k = q.block

  abbrev K : Kind
  K = q.block.kind

  abbrev r : RingBuffer
  r = buffer q

  -- the hart's state, the party's part of the protocol's state, and whether it is in a call and its words, after these entries
  abbrev state : List Entry → HartState
  state xs = here B M o q before es c.shares p xs

  abbrev protocol : List Entry → ProtocolState
  protocol xs = parties_after r o before xs

  abbrev busy_at : List Entry → Bool
  busy_at xs = is_busy M o q p before xs

  abbrev words_at : List Entry → List ℕ
  words_at xs = words M o q p before xs

  split : (part more : List Entry) → call ≡ part ++ more → es ≡ (done ++ part) ++ (more ++ rest)
  split part more cut =
      is ∙ ap (λ zs. done ++ (zs ++ rest)) cut ∙ ap (λ zs. done ++ zs) (append_assoc part more rest) ∙ sym (append_assoc done part (more ++ rest))

  -- the call up to here, and the words that are completed
  record So (here part_done : List Entry) : Type 0 where
    stands : CourseStands n p K k r (busy_at here) (words_at here) (course h s part_done) (state here) (part p (protocol here))
    words : busy_at here ≡ true → words_at here ≡ words_at done
    over : busy_at here ≡ false → words_at here ≡ words_at done ++ completed_word (state here)

  -- the state at the entry, in which nothing is loaded yet
  same_state : state done ≡ s
  same_state = let one : Some (state done) ≡ Some s = sym (was_here B M o q before es c.shares p done) ∙ w.entry in cc

  fresh : (d : Course) × Fresh n p k d (words_at done) s.registers (part p (protocol done))
  fresh =
      let stand = stands-at B M o q before es c done (call ++ rest) is in
      let inside : Stands n p K k r true (words_at done) s (part p (protocol done)) =
      subst (λ b. Stands n p K k r b (words_at done) s (part p (protocol done))) w.begun (stand.stands p s w.entry) in
      let first : inside.1.line ≡ at_00 = first_line inside.1.line (omega (arith, inside.1.place, (entered n k s w.enters).0)) in (
        inside.0,
        (subst (λ l. Row n p K k r inside.0 (words_at done) l s.registers (part p (protocol done))) first inside.1.row),
      )

  starts : So done []
  starts =
      let f = fresh.1 in
      record {
        stands = carry n p K k r (sym w.begun) refl refl (sym same_state) refl (begins n p K k r (words_at done) s (part p (protocol done)) w.enters
            (same_arguments p n k fresh.0.entry s f.same f.frame.left.args) f.level f.words);
        words = λ busy. refl;
        over = λ idle. absurd (let no : true ≡ false = sym w.begun ∙ idle in cc);
      }

  module _ (now part_done : List Entry) (e : Entry) (more : List Entry) (there : es ≡ now ++ e ∷ more) (busy : busy_at now ≡ true) (so : So now part_done) where
    stand_here : Stand B M o q before es c.shares now
    stand_here = stands-at B M o q before es c now (e ∷ more) there

    called : is_in_call_with M o h n k (busy_at now) (before ++ now) e ≡ busy_at (now ++ e ∷ [])
    called = sym (is_in_call-last M o h n k false before now e)

    worded : words_at now ++ completed_by_entry M o h n (busy_at now) (before ++ now) e ≡ words_at (now ++ e ∷ [])
    worded = sym (words-last M o q p before now e)

    protocol_on : protocol_next r (protocol now) e ≡ protocol (now ++ e ∷ [])
    protocol_on = sym (protocol-append r (at_start r o before) now (e ∷ []))

    placed_on : state_here M o h n (listing_of K k.caches p) (has_of c.shares p) ((before ++ now) ++ e ∷ []) ≡ state (now ++ e ∷ [])
    placed_on = ap (state_here M o h n (listing_of K k.caches p) (has_of c.shares p)) (append_assoc before now (e ∷ []))

    by_other : is_own h e ≡ false → So (now ++ e ∷ []) (part_done ++ e ∷ [])
    by_other off =
        let same : busy_at now ≡ busy_at (now ++ e ∷ []) = same_call M o h n k (busy_at now) (before ++ now) e off ∙ called in
        let all : words_at now ≡ words_at (now ++ e ∷ []) = none_completed M o h n (busy_at now) (before ++ now) e (words_at now) off ∙ worded in
        record {
          stands = carry n p K k r same all (course_same h s part_done e off)
              (here_same M o h n (listing_of K k.caches p) (has_of c.shares p) (before ++ now) e off ∙ placed_on)
              (sym (still q p (protocol now) e (off_silent h e off [])) ∙ ap (part p) protocol_on) so.stands;
          words = λ busy_still. sym all ∙ so.words busy;
          over = λ idle. absurd (let no : true ≡ false = sym busy ∙ same ∙ idle in cc);
        }

    -- the party's own entry is of its role
    own_role : is_own h e ≡ true → role_of r (hart_of e) ≡ role p
    own_role on = at (whose q (hart_of e)) (own_parts h e on).0
      where
        at : Mine q (hart_of e) ⊎ Others q (hart_of e) → hart_of e ≡ h → role_of r (hart_of e) ≡ role p
        at (inl m) mine = elim (which m.party p) [
          | inl same ↦ m.role ∙ ap role same
          | inr other ↦ absurd (other_hart q c.shares.parties m.party p other (sym m.hart ∙ mine))
        ]
        at (inr m) mine = absurd (not_mine q m p mine)

    by_own : is_own h e ≡ true → So (now ++ e ∷ []) (part_done ++ e ∷ [])
    by_own on =
        let own = own_parts h e on in
        let was : state_of M (history_of o (before ++ now)) h ≡ Some (state now) = was_here B M o q before es c.shares p now in
        let inside : Inside n p K k r (words_at now) (course h s part_done) (state now) (part p (protocol now)) =
        subst (λ b. CourseStands n p K k r b (words_at now) (course h s part_done) (state now) (part p (protocol now))) busy so.stands in
        let after : advanced (state now) (number_read e) ≡ state (now ++ e ∷ []) =
        here_next M o h n (listing_of K k.caches p) (has_of c.shares p) (before ++ now) e own.0 own.1 ∙ placed_on in
        let last : List ℕ = if busy_at (now ++ e ∷ []) then [] else completed_word (state (now ++ e ∷ [])) in
        let ends : completed_by_entry M o h n (busy_at now) (before ++ now) e ≡ last =
        completes B M o q before es c.shares now e more there stand_here p own.0 own.1 busy (state now) was (course h s part_done) inside
        ∙ ap (λ b. if b then [] else completed_word (advanced (state now) (number_read e))) called
        ∙ ap (λ y. if busy_at (now ++ e ∷ []) then [] else completed_word y) after in
        let all : words_at (now ++ e ∷ []) ≡ words_at done ++ last =
        sym worded ∙ ap (λ ws. words_at now ++ ws) ends ∙ ap (λ ws. ws ++ last) (so.words busy) in
        record {
          stands = carry n p K k r called worded (course_on h s part_done e on) after
              (ap (λ g. part p (next_by K r g (protocol now) (access_of e))) (sym (own_role on)) ∙ ap (part p) protocol_on)
              (course_stands B M o q before es c.shares now e more there stand_here p own.0 own.1 busy (state now) was (course h s part_done) inside);
          words = λ busy_still. all ∙ ap (λ b. words_at done ++ (if b then [] else completed_word (state (now ++ e ∷ [])))) busy_still
              ∙ append-nil (words_at done);
          over = λ idle. all ∙ ap (λ b. words_at done ++ (if b then [] else completed_word (state (now ++ e ∷ [])))) idle;
        }

    one_on : So (now ++ e ∷ []) (part_done ++ e ∷ [])
    one_on = by-bool (λ b. So (now ++ e ∷ []) (part_done ++ e ∷ [])) (is_own h e) by_own by_other

  go : (part next more : List Entry) → call ≡ part ++ (next ++ more) → So (done ++ part) part → So (done ++ (part ++ next)) (part ++ next)
  go part [] more cut so = subst (λ zs. So (done ++ zs) zs) (sym (append-nil part)) so
  go part (e ∷ next) more cut so =
      let there : es ≡ (done ++ part) ++ e ∷ ((next ++ more) ++ rest) = split part (e ∷ (next ++ more)) cut in
      let one = one_on (done ++ part) part e ((next ++ more) ++ rest) there (w.within part e (next ++ more) cut) so in
      subst (λ zs. So (done ++ zs) zs) (append_assoc part (e ∷ []) next) (go (part ++ e ∷ []) next more (cut ∙ sym (append_assoc part (e ∷ []) (next ++ more)))
      (subst (λ zs. So zs (part ++ e ∷ [])) (append_assoc done part (e ∷ [])) one))

  so_far : (part more : List Entry) → call ≡ part ++ more → So (done ++ part) part
  so_far part more cut = go [] part more cut (subst (λ zs. So zs []) (sym (append-nil done)) starts)

  at_end : So (done ++ call) call
  at_end = so_far call [] (sym (append-nil call))

  -- the same of a call under way: where it stands, and how many entries it has made
  pub inside_at : is_in_call M o h n k before (done ++ call) ≡ true → Inside n p K k r (words_at (done ++ call)) (course h s call) (state (done ++ call))
      (part p (protocol (done ++ call)))
  inside_at busy = subst (λ b. CourseStands n p K k r b (words_at (done ++ call)) (course h s call) (state (done ++ call)) (part p (protocol (done ++ call))))
      busy at_end.stands

  pub made_few : is_in_call M o h n k before (done ++ call) ≡ true → length (own h call) < longest p r
  made_few busy =
      let inside = inside_at busy in
      (facts n p K k r (course h s call) (words_at (done ++ call)) inside.line (state (done ++ call)) (part p (protocol (done ++ call))) inside.row).1

  module _ (z : HartState) (whole : IsWholeCall M o h n k before done call s z) where
    end_state : state (done ++ call) ≡ z
    end_state = let one : Some (state (done ++ call)) ≡ Some z = sym (was_here B M o q before es c.shares p (done ++ call)) ∙ whole.return in cc

    pub effect_of : Effect p K r s z (length (own h call)) (accesses h call)
    effect_of =
        let outside : Outside p K r (words_at (done ++ call)) (course h s call) (state (done ++ call)) (part p (protocol (done ++ call))) =
        subst (λ b. CourseStands n p K k r b (words_at (done ++ call)) (course h s call) (state (done ++ call)) (part p (protocol (done ++ call))))
        whole.over at_end.stands in
        subst (λ y. Effect p K r s y (length (own h call)) (accesses h call)) end_state outside.effect

    pub call_completes : words_at (done ++ call) ≡ words_at done ++ completed_word z
    call_completes = at_end.over whole.over ∙ ap (λ y. words_at done ++ completed_word y) end_state

    -- from one access of the call to the next
    record Reached (xs : List Entry) (y : Access) (ys : List Access) : Type 0 where
      upto : List Entry
      entry : Entry
      left : List Entry
      cut : call ≡ upto ++ entry ∷ left
      mine : is_own h entry ≡ true
      does : access_of entry ≡ y
      others : accesses h left ≡ ys
      same : part p (protocol (done ++ upto)) ≡ part p (protocol (done ++ xs))
      crossed : part p (protocol (done ++ (upto ++ entry ∷ []))) ≡ part p (next_by K r (role p) (protocol (done ++ upto)) y)

    reach : (xs more : List Entry) (y : Access) (ys : List Access) → call ≡ xs ++ more → accesses h more ≡ y ∷ ys → Reached xs y ys
    reach xs more y ys cut all =
        let f : First h more y ys = first_access h more y ys all in
        let upto : List Entry = xs ++ f.part in
        let cut_f : call ≡ upto ++ f.entry ∷ f.rest = cut ∙ ap (λ zs. xs ++ zs) f.is ∙ sym (append_assoc xs f.part (f.entry ∷ f.rest)) in
        let there : es ≡ (done ++ upto) ++ f.entry ∷ (f.rest ++ rest) = split upto (f.entry ∷ f.rest) cut_f in
        let t : ProtocolState = protocol (done ++ upto) in
        record {
          upto = upto;
          entry = f.entry;
          left = f.rest;
          cut = cut_f;
          mine = f.mine;
          does = f.does;
          others = f.others;
          same = ap (part p) (ap protocol (sym (append_assoc done xs f.part)) ∙ protocol-append r (at_start r o before) (done ++ xs) f.part)
              ∙ unmoved q p (protocol (done ++ xs)) f.part f.none;
          crossed = ap (part p) (ap protocol (sym (append_assoc done upto (f.entry ∷ [])))
              ∙ protocol-append r (at_start r o before) (done ++ upto) (f.entry ∷ []))
              ∙ ap (λ g. part p (next_by K r g t (access_of f.entry)))
              (own_role (done ++ upto) upto f.entry (f.rest ++ rest) there (w.within upto f.entry f.rest cut_f) (so_far upto (f.entry ∷ f.rest) cut_f) f.mine)
              ∙ ap (λ x. part p (next_by K r (role p) t x)) f.does;
        }

    after : {xs : List Entry} {y : Access} {ys : List Access} (l : Reached xs y ys) → call ≡ (l.upto ++ l.entry ∷ []) ++ l.left
    after l = l.cut ∙ sym (append_assoc l.upto (l.entry ∷ []) l.left)

    -- where a call that returns 0 looked: the entry, what it loaded there, and the party's part of the protocol's state before it
    record Found : Type 0 where
      index : ℕ
      seen : ℕ
      says : sees_none p K r index seen ≡ true
      part_done : List Entry
      entry : Entry
      more : List Entry
      cut : call ≡ part_done ++ entry ∷ more
      mine : is_own h entry ≡ true
      loads : access_of entry ≡ load (place_of p K r index) 4 seen
      knows : Knows p index (part p (protocol (done ++ part_done)))
      words : (part p (protocol (done ++ part_done))).words ≡ words_at (done ++ part_done)
      none_yet : words_at (done ++ part_done) ≡ words_at done

    found : slice_index z.registers 10 ≡ 0 → Found
    found none = at looks.copy
      where
        looks : Looks p K r (accesses h call)
        looks = looks_of p K r (ring_is M k q.sender q.receiver c.shares.block c.shares.parties) s z (length (own h call)) (accesses h call) effect_of none

        u : ℕ
        u = looks.index

        look : Access
        look = load (place_of p K r u) 4 looks.seen

        one : Reached [] (load (index_at p r) 4 u) (looks.first ++ look ∷ [])
        one = reach [] call (load (index_at p r) 4 u) (looks.first ++ look ∷ []) refl looks.did

        begun : part p (protocol (done ++ one.upto)) ≡ part p (protocol done)
        begun = one.same ∙ ap (λ zs. part p (protocol zs)) (append-nil done)

        xs : List Entry
        xs = one.upto ++ one.entry ∷ []

        knows : Knows p u (part p (protocol (done ++ xs)))
        knows = subst (Knows p u) (sym one.crossed)
            (first-load K r p (protocol (done ++ one.upto)) (index_at p r) u (subst Level (sym begun) fresh.1.level) refl)

        words : (part p (protocol (done ++ xs))).words ≡ words_at done
        words = ap (λ (t : Part). t.words) one.crossed ∙ load-words K r p (protocol (done ++ one.upto)) (index_at p r) u
            ∙ ap (λ (t : Part). t.words) begun ∙ fresh.1.words

        none_yet : {ys : List Entry} (l : Reached ys look []) → words_at (done ++ l.upto) ≡ words_at done
        none_yet l = (so_far l.upto (l.entry ∷ l.left) l.cut).words (w.within l.upto l.entry l.left l.cut)

        found_at : (ys : List Entry) → Knows p u (part p (protocol (done ++ ys))) → (part p (protocol (done ++ ys))).words ≡ words_at done
            → Reached ys look [] → Found
        found_at ys knows words l = record {
          index = u;
          seen = looks.seen;
          says = looks.says;
          part_done = l.upto;
          entry = l.entry;
          more = l.left;
          cut = l.cut;
          mine = l.mine;
          loads = l.does;
          knows = subst (Knows p u) (sym l.same) knows;
          words = ap (λ (t : Part). t.words) l.same ∙ words ∙ sym (none_yet l);
          none_yet = none_yet l;
        }

        at : (looks.first ≡ []) ⊎ ((x : Access) × (looks.first ≡ x ∷ []) × Keeps p K r u x) → Found
        at (inl first) = found_at xs knows words (reach xs one.left look [] (after one) (one.others ∙ ap (λ zs. zs ++ look ∷ []) first))
        at (inr past) =
            let two : Reached xs past.0 (look ∷ []) = reach xs one.left past.0 (look ∷ []) (after one) (one.others ∙ ap (λ zs. zs ++ look ∷ []) past.1) in
            let t : ProtocolState = protocol (done ++ two.upto) in
            let ys : List Entry = two.upto ++ two.entry ∷ [] in
            found_at ys (subst (Knows p u) (sym two.crossed) (past.2.knows t (subst (Knows p u) (sym two.same) knows)))
            (ap (λ (t : Part). t.words) two.crossed ∙ past.2.words t ∙ ap (λ (t : Part). t.words) two.same ∙ words)
            (reach ys two.left look [] (after two) two.others)

module _ (B M : ℕ) (o : OpeningValue) (q : SpscQueue) (before done call : List Entry)
    (c : UsesAsSpscQueue B M o q before (done ++ call)) (s z : HartState) where
  pub whole : done ++ call ≡ done ++ (call ++ [])
  whole = ap (λ zs. done ++ zs) (sym (append-nil call))

  uses_at : (part : List Entry) (e : Entry) (more : List Entry) → call ≡ part ++ e ∷ more → UsesAsSpscQueue B M o q before ((done ++ part) ++ e ∷ more)
  uses_at part e more is = subst (UsesAsSpscQueue B M o q before) (ap (λ zs. done ++ zs) is ∙ sym (append_assoc done part (e ∷ more))) c

  -- the same run, cut at an entry of the call
  cut_at : (part : List Entry) (e : Entry) (more : List Entry) → call ≡ part ++ e ∷ more → UsesAsSpscQueue B M o q before (done ++ (part ++ e ∷ more))
  cut_at part e more is = subst (UsesAsSpscQueue B M o q before) (ap (λ zs. done ++ zs) is) c

  pub found_full : IsSend M o q before done call s z → slice_index z.registers 10 ≡ 0 → FoundFull M o q before done call
  found_full w none =
      let f = found B M o q before (done ++ call) c done call [] whole the_sender s (whole_begun w) z w none in
      record {
        part = f.part_done;
        entry = f.entry;
        rest = f.more;
        offset = f.index;
        value = f.seen;
        is = f.cut;
        mine = (own_parts q.sender f.entry f.mine).0;
        loads = f.loads;
        says = f.says;
        full = finds_full B M o q before (done ++ f.part_done) f.entry f.more (uses_at f.part_done f.entry f.more f.cut) f.index f.seen
            (own_parts q.sender f.entry f.mine).0 f.loads f.says f.knows f.words;
      }

  pub found_empty : IsReceive M o q before done call s z → slice_index z.registers 10 ≡ 0 → FoundEmpty M o q before done call
  found_empty w none =
      let f = found B M o q before (done ++ call) c done call [] whole the_receiver s (whole_begun w) z w none in
      record {
        part = f.part_done;
        entry = f.entry;
        rest = f.more;
        offset = f.index;
        value = f.seen;
        is = f.cut;
        mine = (own_parts q.receiver f.entry f.mine).0;
        loads = f.loads;
        says = f.says;
        empty = finds_empty B M o q before (done ++ f.part_done) f.entry f.more (uses_at f.part_done f.entry f.more f.cut) f.index f.seen
            (own_parts q.receiver f.entry f.mine).0 f.loads f.says f.knows f.words;
      }

  -- a call returns 1 if what it needs had landed where it began
  pub word_available : IsReceive M o q before done call s z
      → length (received_words M o q before done) + unpublished (buffer q) (pending q.sender (before ++ done)) < length (given_words M o q before done)
      → slice_index z.registers 10 ≡ 1
  word_available w more =
      let effect = effect_of B M o q before (done ++ call) c done call [] whole the_receiver s (whole_begun w) z w in
      elim (answers (says_empty q.block.kind effect.tail effect.seen) (slice_index z.registers 10) effect.answer) [
        | inl none ↦
            let f = found B M o q before (done ++ call) c done call [] whole the_receiver s (whole_begun w) z w none in
            let some : says_empty q.block.kind f.index f.seen ≡ false =
            finds_word B M o q before done f.part_done f.entry f.more (cut_at f.part_done f.entry f.more f.cut) f.index f.seen
            (own_parts q.receiver f.entry f.mine).0 f.loads f.knows (f.words ∙ f.none_yet) more in
            absurd (let no : true ≡ false = sym f.says ∙ some in cc)
        | inr one ↦ one
      ]

  pub room_available : IsSend M o q before done call s z
      → length (given_words M o q before done) + unreleased (buffer q) (pending q.receiver (before ++ done))
      < length (received_words M o q before done) + capacity (buffer q) → slice_index z.registers 10 ≡ 1
  room_available w more =
      let effect = effect_of B M o q before (done ++ call) c done call [] whole the_sender s (whole_begun w) z w in
      elim (answers (sees_full (buffer q).copy q.block.kind (buffer q) effect.head effect.copy effect.seen) (slice_index z.registers 10) effect.answer) [
        | inl none ↦
            let f = found B M o q before (done ++ call) c done call [] whole the_sender s (whole_begun w) z w none in
            let some : says_full q.block.kind (buffer q) f.index f.seen ≡ false =
            finds_room B M o q before done f.part_done f.entry f.more (cut_at f.part_done f.entry f.more f.cut) f.index f.seen
            (own_parts q.sender f.entry f.mine).0 f.loads f.knows (f.words ∙ f.none_yet) more in
            absurd (let no : true ≡ false = sym f.says ∙ some in cc)
        | inr one ↦ one
      ]
