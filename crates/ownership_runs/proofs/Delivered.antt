-- In a run that keeps the protocol, a loss is of a position that the receiver has handed back.
use Rattle.std.proofs.Common.{ℕ, ◌+◌, ◌-◌, ◌<◌, ◌≤◌, ◌≡◌, ◌==◌, ◌&&◌, ◌⊎◌, inl, inr, Bool, true, false, Option, None}
use Rattle.std.proofs.Common.{Some, List, [], ◌∷◌, ◌++◌, length, take, refl, sym, ap, ◌∙◌, subst, arith, append_assoc}
use Rattle.std.specs.Prelude.{if◌then◌else◌, unwrap_or, nat_le, nat_lt}
use Rattle.std.specs.Int.{byte_at}
use Rattle.std.proofs.lemmas.Bool.{cases_lt, eq-eqb, and_right, le-ltb}
use Rattle.memory.specs.declared.writes.Write.{Write}
use Rattle.memory.specs.Writes.{write, newest_of}
use Rattle.memory.proofs.WholeWords.{newest_of-append}
use Rattle.memory.proofs.Joined.{byte_of_joined-any}
use Rattle.step_machine.specs.declared.events.Entry.{Entry}
use Rattle.step_machine.specs.Names.{OpeningValue, history_of, Access, load, store, exchange, access_of, hart_of, stored_by, landed_by, written_by, own_stores}
use Rattle.step_machine.specs.Names.{lands, pending, read, read_byte, memory_byte, AllowedBy, Allowed, Legal}
use Rattle.step_machine.specs.declared.events.Entry.TheVariants.{Load}
use Rattle.step_machine.proofs.Appended.{LegalAfter-append}
use Rattle.step_machine.proofs.{LegalAfter-front, LegalAfter-back, memory_byte-other, memory_byte-write}
use Rattle.step_machine.proofs.{balanced}
use Rattle.store_buffers.specs.StoreBuffers.{LeavesByte, LeavesByteBy, LeavesByteAt}
use Rattle.store_buffers.proofs.Effects.{read-below, same-memory, pending-quiet, pending-more}
use Rattle.store_buffers.proofs.LateStores.{at-end}
use Rattle.queue_parties.specs.Parties.{Party, the_sender, the_receiver, QueueCounts, KeepsEach, counts_from, with_known}
use Rattle.queue_parties.proofs.Parties.{counts-append, keeps-at}
use Rattle.slot_queue.specs.{Queue, IsQueue, counts_next, counts_after, after_access, KeepsEntry, KeepsAccess, FollowsOwnership}
use Rattle.slot_queue.specs.Queues.{least_count}
use Rattle.slot_queue.specs.Ownership.{index, party_of}
use Rattle.slot_queue.proofs.{handed, loaded-count}
use Rattle.slot_queue.proofs.Runs.{follows-front}
use Rattle.slot_queue.proofs.Owned.{moves-count}
use Rattle.slots_that_tell.specs.Laws.{FollowsTelling}
use Rattle.slots_that_tell.specs.Telling.{teller_of, TellsAccess, KeepsEntry as TellsEntry}
use Rattle.slots_that_tell.proofs.Owned.{loaded-count as told-count}
use Rattle.slots_that_tell.proofs.Runs.{follows-front as told-front}
use Rattle.slots_that_tell.proofs.HandingOver.{handed as told-handed}
use Rattle.queue_layouts.specs.declared.AnyQueue.{AnyQueue}
use Rattle.queue_layouts.specs.declared.AnyQueue.TheVariants.{Indexed, Tagged}
use Rattle.queue_layouts.specs.Tagged.{slots_of}
use Rattle.ownership_runs.specs.{Loss, Follows, party_for, access_counts, entry_counts, run_counts, counts_told, Loads, WasSent, IsRecordByte, IsLossAt}
use Rattle.ownership_runs.proofs.Sending.{hart-is}
use Rattle.ownership_runs.proofs.Views.{seen-same}

-- what is loaded is what the hart read
loaded-read : (B : ℕ) (o : OpeningValue) (front : List Entry) (e : Entry) (a w v : ℕ) → Loads (access_of e) a w v → Allowed B o front e
    → v ≡ read o front (hart_of e) a w
loaded-read B o front e a w v (inl does) allowed = subst (AllowedBy B (pending (hart_of e) front) (read o front (hart_of e))) does allowed
loaded-read B o front e a w v (inr does) allowed =
    (subst (AllowedBy B (pending (hart_of e) front) (read o front (hart_of e))) does.1.1 allowed).1
    ∙ ap (λ n. read o front (hart_of e) a n) (sym does.0)

loaded-byte : (B : ℕ) (o : OpeningValue) (front : List Entry) (e : Entry) (a w v i : ℕ) → Loads (access_of e) a w v → Allowed B o front e → i < w
    → byte_at i v ≡ read_byte o front (hart_of e) (a + i)
loaded-byte B o front e a w v i loads allowed less = ap (byte_at i) (loaded-read B o front e a w v loads allowed)
    ∙ byte_of_joined-any (λ j. read_byte o front (hart_of e) (a + j)) (λ j. read-below o front (hart_of e) (a + j)) w i less

-- ---- the store that publishes leaves the byte, as its hart reads it

module _ (B : ℕ) (o : OpeningValue) (es : List Entry) (e : Entry) (x : ℕ) (le : lands (hart_of e) es ≤ length (own_stores (hart_of e) es)) where
  abbrev Same : Type 0
  Same = read_byte o (es ++ e ∷ []) (hart_of e) x ≡ read_byte o es (hart_of e) x

  own-store : (w : Write) → access_of e ≡ store w → LeavesByte x w → Same
  own-store w does off =
      let mine : stored_by (hart_of e == hart_of e) (access_of e) ≡ w ∷ [] =
      ap (stored_by (hart_of e == hart_of e)) does ∙ ap (λ b. stored_by b (store w)) (eq-eqb (hart_of e) (hart_of e) refl) in
      let more : pending (hart_of e) (es ++ e ∷ []) ≡ pending (hart_of e) es ++ w ∷ [] =
      pending-more es e (hart_of e) le w mine (ap (landed_by (hart_of e == hart_of e)) does) in
      ap (λ ws. unwrap_or (newest_of x None ws) (memory_byte o (es ++ e ∷ []) x)) more
      ∙ ap (λ f. unwrap_or f (memory_byte o (es ++ e ∷ []) x)) (newest_of-append x None (pending (hart_of e) es) (w ∷ [])
      ∙ ap (λ b. if b then Some (byte_at (x - w.addr) w.value) else newest_of x None (pending (hart_of e) es)) off)
      ∙ ap (unwrap_or (newest_of x None (pending (hart_of e) es)))
      (memory_byte-other o es e x (ap (written_by (take 1 (pending (hart_of e) es))) does))

  own-exchange : (a old new : ℕ) → access_of e ≡ exchange a old new → Allowed B o es e → LeavesByteBy x (exchange a old new) → Same
  own-exchange a old new does allowed leaves =
      ap (λ ws. unwrap_or (newest_of x None ws) (memory_byte o (es ++ e ∷ []) x))
      (pending-quiet es e (hart_of e) le (ap (stored_by (hart_of e == hart_of e)) does) (ap (landed_by (hart_of e == hart_of e)) does))
      ∙ ap (unwrap_or (newest_of x None (pending (hart_of e) es))) (memory leaves)
    where
      memory : (new ≡ old) ⊎ LeavesByte x (write a 4 new) → memory_byte o (es ++ e ∷ []) x ≡ memory_byte o es x
      memory (inl same) = same-memory B o es e a old new does same allowed x
      memory (inr off) = memory_byte-write o es e (write a 4 new) x (ap (written_by (take 1 (pending (hart_of e) es))) does)
          ∙ ap (λ b. if b then byte_at (x - a) new else memory_byte o es x) off

  published-same : (q : Queue) → IsQueue q → (c : QueueCounts) (y : Access) → access_of e ≡ y → Allowed B o es e → LeavesByteBy x y
      → c.published < (after_access q (Some the_sender) y c).published → Same
  published-same q is c (store w) does allowed leaves more = own-store w does leaves
  published-same q is c (exchange a old new) does allowed leaves more = own-exchange a old new does allowed leaves
  published-same q is c (load a width v) does allowed leaves more =
      absurd (let n = loaded-count q is the_sender the_sender a width v c in omega (arith, n, more))
  published-same q is c y does allowed leaves more = absurd (omega (arith, more))

-- ---- what was sent is what the receiver's hart reads, until it hands the position back

module _ (B : ℕ) (o : OpeningValue) (start : QueueCounts) (front : List Entry) (h k x b : ℕ) where
  arrives : (q : AnyQueue) → Follows B q start o [] front → party_for q h ≡ Some the_receiver → IsRecordByte q k x
      → (run_counts q start front).taken ≤ k → k < (run_counts q start front).known_published → WasSent q o start h front k x b
      → read_byte o front h x ≡ b
  arrives (Indexed q) follows receives of_k given has sent =
      let p : Entry = sent.entry in
      let c : QueueCounts = counts_after q start sent.before in
      let f : FollowsOwnership B q start o [] (sent.before ++ p ∷ sent.since) = subst (FollowsOwnership B q start o []) sent.is follows in
      let end : counts_after q start (sent.before ++ p ∷ []) ≡ counts_next q c p = counts-append (counts_next q) start sent.before (p ∷ []) in
      let moved : c.published < (after_access q (Some the_sender) (access_of p) c).published =
      (let to = subst (λ (d : QueueCounts). k < d.published) (end ∙ ap (λ t. after_access q t (access_of p) c) sent.sends) sent.to in
      let from = sent.from in omega (arith, from, to)) in
      let keeps : KeepsAccess q (Some the_sender) c (access_of p) = subst (λ t. KeepsAccess q t c (access_of p)) sent.sends
      (keeps-at (counts_next q) (KeepsEntry q) start sent.before p sent.since f.keeps) in
      let leaves : LeavesByteBy x (access_of p) = (moves-count q f.queue the_sender (Some the_sender) c (access_of p) moved).leaves x k of_k keeps in
      let receiver : h ≡ q.receiver = hart-is q.sender q.receiver h the_receiver receives in
      let sender : hart_of p ≡ q.sender = hart-is q.sender q.receiver (hart_of p) the_sender sent.sends in
      ap (λ xs. read_byte o xs h x) sent.is
      ∙ handed B q start o [] sent.before p sent.since f the_sender k sent.from sent.to x of_k
      (let at = subst (λ (xs : List Entry). (counts_after q start xs).taken ≤ k) sent.is given in omega (arith, at))
      (let at = subst (λ (xs : List Entry). k < (counts_after q start xs).known_published) sent.is has in omega (arith, at))
      (subst (λ (g : ℕ). LeavesByteAt g x sent.since) receiver sent.leaves) h
      ∙ ap (λ (g : ℕ). read_byte o sent.before g x) (sym sender)
      ∙ sym (published-same B o sent.before p x
      (balanced B (history_of o sent.before) (hart_of p) (LegalAfter-front B o [] sent.before (p ∷ sent.since) f.legal)) q f.queue c (access_of p) refl
      (LegalAfter-back B o [] sent.before (p ∷ sent.since) f.legal).0 leaves moved)
      ∙ sent.reads
  arrives (Tagged q) follows receives of_k given has sent =
      let receiver : h ≡ q.receiver = hart-is q.sender q.receiver h the_receiver receives in
      let sender : hart_of sent.entry ≡ q.sender = hart-is q.sender q.receiver (hart_of sent.entry) the_sender sent.sends in
      ap (λ (xs : List Entry). read_byte o xs h x) sent.is
      ∙ ap (λ (g : ℕ). read_byte o (sent.before ++ sent.entry ∷ sent.since) g x) receiver
      ∙ told-handed B (slots_of q) start o [] sent.before sent.entry sent.since (subst (FollowsTelling B (slots_of q) start o []) sent.is follows) the_sender
      k sent.from sent.to x of_k
      (let at = subst (λ (xs : List Entry). (run_counts (Tagged q) start xs).taken ≤ k) sent.is given in omega (arith, at))
      (let at = subst (λ (xs : List Entry). k < (run_counts (Tagged q) start xs).known_published) sent.is has in omega (arith, at))
      (subst (λ (g : ℕ). LeavesByteAt g x sent.since) receiver sent.leaves)
      ∙ ap (λ (g : ℕ). read_byte o (sent.before ++ sent.entry ∷ []) g x) (sym sender) ∙ sent.reads

front-follows : (B : ℕ) (q : AnyQueue) (start : QueueCounts) (o : OpeningValue) (es fs : List Entry) → Follows B q start o [] (es ++ fs)
    → Follows B q start o [] es
front-follows B (Indexed q) start o es fs follows = follows-front B q start o [] es fs follows
front-follows B (Tagged q) start o es fs follows = told-front B (slots_of q) start o [] es fs follows

legal-of : (B : ℕ) (q : AnyQueue) (start : QueueCounts) (o : OpeningValue) (es : List Entry) → Follows B q start o [] es → Legal B (history_of o es)
legal-of B (Indexed q) start o es follows = follows.legal
legal-of B (Tagged q) start o es follows = follows.legal

-- ---- a load more of what its hart reads

each-more : (next : QueueCounts → Entry → QueueCounts) (May : QueueCounts → Entry → Type 0) (c : QueueCounts) (es : List Entry) (e : Entry)
    → KeepsEach next May c es → May (counts_from next c es) e → KeepsEach next May c (es ++ e ∷ [])
each-more next May c [] e keeps may = (may, tt)
each-more next May c (x ∷ es) e keeps may = (keeps.0, each-more next May (next c x) es e keeps.1 may)

module _ (B : ℕ) (start : QueueCounts) (o : OpeningValue) (front : List Entry) (h a w v : ℕ) (is : v ≡ read o front h a w) where
  follows-load : (q : AnyQueue) → Follows B q start o [] front → Follows B q start o [] (front ++ Load h a w v ∷ [])
  follows-load (Indexed q) f = record {
    queue = f.queue;
    legal = LegalAfter-append B o [] front (Load h a w v ∷ []) f.legal (is, tt);
    rest = f.rest;
    keeps = each-more (counts_next q) (KeepsEntry q) start front (Load h a w v) f.keeps (free (party_of q h));
  }
    where
      free : (p : Option Party) → KeepsAccess q p (counts_after q start front) (load a w v)
      free (Some p) = tt
      free None = tt
  follows-load (Tagged q) f = record {
    slots = f.slots;
    legal = LegalAfter-append B o [] front (Load h a w v ∷ []) f.legal (is, tt);
    rest = f.rest;
    keeps = each-more (entry_counts (Tagged q)) (TellsEntry (slots_of q)) start front (Load h a w v) f.keeps (free (teller_of (slots_of q) h));
  }
    where
      free : (p : Option Party) → TellsAccess (slots_of q) p (run_counts (Tagged q) start front) (load a w v)
      free (Some p) = tt
      free None = tt

  module _ (q : AnyQueue) (receives : party_for q h ≡ Some the_receiver) where
    counts-load : run_counts q start (front ++ Load h a w v ∷ []) ≡ counts_told q a w v (run_counts q start front)
    counts-load = counts-append (entry_counts q) start front (Load h a w v ∷ [])
        ∙ ap (λ p. access_counts q p (load a w v) (run_counts q start front)) receives

    sent-load : (k x b : ℕ) → WasSent q o start h front k x b → WasSent q o start h (front ++ Load h a w v ∷ []) k x b
    sent-load k x b sent = record {
      before = sent.before;
      entry = sent.entry;
      since = sent.since ++ Load h a w v ∷ [];
      is = ap (λ (xs : List Entry). xs ++ Load h a w v ∷ []) sent.is ∙ append_assoc sent.before (sent.entry ∷ sent.since) (Load h a w v ∷ []);
      sends = sent.sends;
      from = sent.from;
      to = sent.to;
      reads = sent.reads;
      leaves = at-end h x sent.since (Load h a w v) sent.leaves (λ own. tt);
    }

  taken-load : (q : AnyQueue) (c : QueueCounts) → (counts_told q a w v c).taken ≡ c.taken
  taken-load (Indexed q) c = by (a == index q the_sender && w == q.index_width)
    where
      by : (b : Bool) → (if b then with_known the_receiver (least_count q c.known_published v) c else c).taken ≡ c.taken
      by true = refl
      by false = refl
  taken-load (Tagged q) c = told-count (slots_of q) the_receiver the_receiver a w v c

  read-load : (x : ℕ) → Legal B (history_of o front) → read_byte o (front ++ Load h a w v ∷ []) h x ≡ read_byte o front h x
  read-load x legal = seen-same o front (Load h a w v) (write 0 0 0) x (λ does. absurd (cc)) h (balanced B (history_of o front) h legal)
      (and_right (nat_le 0 x) (nat_lt x 0) (le-ltb x 0 (omega arith)))

pub handed-back : (B : ℕ) (q : AnyQueue) (start : QueueCounts) (o : OpeningValue) (front : List Entry) (e : Entry) (back : List Entry) (l : Loss)
    → Follows B q start o [] (front ++ e ∷ back) → IsLossAt q o start front e l → l.position < (run_counts q start front).taken
handed-back B q start o front e back l follows loss = elim (cases_lt l.position (run_counts q start front).taken) [
  | inl back ↦ back
  | inr still ↦
      let given : (run_counts q start front).taken ≤ l.position = omega (arith, still) in
      let allowed : Allowed B o front e = (LegalAfter-back B o [] front (e ∷ back) (legal-of B q start o (front ++ e ∷ back) follows)).0 in
      let low : l.addr ≤ l.byte = loss.byte.0 in
      let high : l.byte < l.addr + l.width = loss.byte.1 in
      let place : l.addr + (l.byte - l.addr) ≡ l.byte = omega (arith, low) in
      let loaded : byte_at (l.byte - l.addr) l.value ≡ read_byte o front (hart_of e) (l.addr + (l.byte - l.addr)) =
      loaded-byte B o front e l.addr l.width l.value (l.byte - l.addr) loss.loads allowed (omega (arith, low, high)) in
      let read_is : l.value ≡ read o front l.hart l.addr l.width =
      loaded-read B o front e l.addr l.width l.value loss.loads allowed ∙ ap (λ (g : ℕ). read o front g l.addr l.width) loss.hart in
      let begins : Follows B q start o [] front = front-follows B q start o front (e ∷ back) follows in
      let counts = counts-load B start o front l.hart l.addr l.width l.value read_is q loss.receives in
      let arrived : read_byte o front l.hart l.byte ≡ l.sent =
      sym (read-load B start o front l.hart l.addr l.width l.value read_is l.byte (legal-of B q start o front begins))
      ∙ arrives B o start (front ++ Load l.hart l.addr l.width l.value ∷ []) l.hart l.position l.byte l.sent q
      (follows-load B start o front l.hart l.addr l.width l.value read_is q begins) loss.receives loss.of_record
      (subst (λ (n : ℕ). n ≤ l.position) (sym (ap (λ (d : QueueCounts). d.taken) counts
      ∙ taken-load B start o front l.hart l.addr l.width l.value read_is q (run_counts q start front))) given)
      (subst (λ (d : QueueCounts). l.position < d.known_published) (sym counts) loss.told)
      (sent-load B start o front l.hart l.addr l.width l.value read_is q loss.receives l.position l.byte l.sent loss.sent) in
      absurd (loss.differs (sym (loaded ∙ ap (read_byte o front (hart_of e)) place ∙ ap (λ (g : ℕ). read_byte o front g l.byte) loss.hart ∙ arrived)))
]
