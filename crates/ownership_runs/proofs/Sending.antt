-- What was sent and is still there: the sender's byte of a position, which the receiver has left since.
use Rattle.std.proofs.Common.{ℕ, ◌<◌, ◌≤◌, ◌≡◌, ◌==◌, ◌&&◌, ◌⊎◌, inl, inr, Bool, true, false, Option, None, Some, List, [], ◌∷◌, ◌++◌, refl, sym, ap, ◌∙◌}
use Rattle.std.proofs.Common.{subst, arith, append-nil, append_assoc}
use Rattle.std.specs.Prelude.{nat_le, nat_lt, not, if◌then◌else◌}
use Rattle.std.proofs.lemmas.Bool.{eq-eqb, eqb-true, and_parts, and_from, and_right, leb-true, le-leb, le-ltb, lt-leb}
use Rattle.std.proofs.lemmas.Bool.Decides.{Decides-ltb}
use Rattle.memory.specs.Writes.{write, covers}
use Rattle.step_machine.specs.declared.events.Entry.{Entry}
use Rattle.step_machine.specs.Names.{OpeningValue, Access, store, exchange, access_of, hart_of, read_byte}
use Rattle.store_buffers.specs.StoreBuffers.{LeavesByteBy, LeavesByteAt}
use Rattle.queue_parties.specs.Parties.{Party, the_sender, the_receiver, party_among, hart_among, QueueCounts}
use Rattle.queue_parties.proofs.Parties.{Whose, mine, theirs, whose, Grows, counts-append}
use Rattle.slot_queue.proofs.Owned.{grows-entry}
use Rattle.slots_that_tell.proofs.Owned.{grows-entry as told-grows}
use Rattle.queue_layouts.specs.declared.AnyQueue.{AnyQueue}
use Rattle.queue_layouts.specs.declared.AnyQueue.TheVariants.{Indexed, Tagged}
use Rattle.queue_layouts.specs.Tagged.{slots_of}
use Rattle.ownership_runs.specs.{party_for, entry_counts, run_counts, SentBytes, nothing_sent, stores_over, sent_by, sent_after, sent_from, WasSent}

pub grows : (q : AnyQueue) (c : QueueCounts) (e : Entry) → Grows c (entry_counts q c e)
grows (Indexed q) c e = grows-entry q c e
grows (Tagged q) c e = told-grows (slots_of q) c e

-- a party has one hart
pub hart-is : (s r h : ℕ) (p : Party) → party_among s r h ≡ Some p → h ≡ hart_among s r p
hart-is s r h p party = by (whose s r h)
  where
    by : Whose s r h → h ≡ hart_among s r p
    by (mine t at same) = (let is : t ≡ p = cc in at ∙ ap (hart_among s r) is)
    by (theirs apart none) = cc

one-receives : (q : AnyQueue) (g h : ℕ) → party_for q g ≡ Some the_receiver → party_for q h ≡ Some the_receiver → g ≡ h
one-receives (Indexed q) g h of_g of_h = hart-is q.sender q.receiver g the_receiver of_g ∙ sym (hart-is q.sender q.receiver h the_receiver of_h)
one-receives (Tagged q) g h of_g of_h = hart-is q.sender q.receiver g the_receiver of_g ∙ sym (hart-is q.sender q.receiver h the_receiver of_h)

-- ---- the receiver's accesses leave a byte exactly where they don't store over it

leaves-not : (x : ℕ) (y : Access) → stores_over y x ≡ false → LeavesByteBy x y
leaves-not x (store w) off = off
leaves-not x (exchange a old new) off = by (new == old) refl off
  where
    by : (b : Bool) → (new == old) ≡ b → (not b && covers (write a 4 new) x) ≡ false → (new ≡ old) ⊎ (covers (write a 4 new) x ≡ false)
    by true same none = inl (eqb-true new old same)
    by false apart none = inr none
leaves-not x y off = tt

not-over : (x : ℕ) (y : Access) → LeavesByteBy x y → stores_over y x ≡ false
not-over x (store w) leaves = leaves
not-over x (exchange a old new) (inl same) = ap (λ b. not b && covers (write a 4 new) x) (eq-eqb new old same)
not-over x (exchange a old new) (inr off) = and_right (not (new == old)) (covers (write a 4 new) x) off
not-over x y leaves = refl

-- ---- runs in parts

module _ (q : AnyQueue) (o : OpeningValue) where
  pub sent-append : (front : List Entry) (c : QueueCounts) (s : SentBytes) (xs ys : List Entry)
      → sent_from q o front c s (xs ++ ys) ≡ sent_from q o (front ++ xs) (run_counts q c xs) (sent_from q o front c s xs) ys
  sent-append front c s [] ys = ap (λ fs. sent_from q o fs c s ys) (sym (append-nil front))
  sent-append front c s (e ∷ xs) ys = sent-append (front ++ e ∷ []) (entry_counts q c e) (sent_after q o front c s e) xs ys
      ∙ ap (λ fs. sent_from q o fs (run_counts q (entry_counts q c e) xs)
      (sent_from q o (front ++ e ∷ []) (entry_counts q c e) (sent_after q o front c s e) xs) ys)
      (append_assoc front (e ∷ []) xs)

  -- nothing is sent of a position that wasn't published
  pub unsent : (front : List Entry) (c : QueueCounts) (s : SentBytes) (es : List Entry) → ((k x : ℕ) → c.published ≤ k → s k x ≡ None)
      → (k x : ℕ) → (run_counts q c es).published ≤ k → sent_from q o front c s es k x ≡ None
  unsent front c s [] none k x past = none k x past
  unsent front c s (e ∷ es) none k x past = unsent (front ++ e ∷ []) (entry_counts q c e) (sent_after q o front c s e) es next k x past
    where
      next : (k x : ℕ) → (entry_counts q c e).published ≤ k → sent_after q o front c s e k x ≡ None
      next k x past = by (party_for q (hart_of e))
        where
          before : c.published ≤ k
          before = let more : c.published ≤ (entry_counts q c e).published = (grows q c e).counts the_sender in omega (arith, more, past)

          by : (t : Option Party) → sent_by t c (entry_counts q c e) (read_byte o (front ++ e ∷ []) (hart_of e)) (access_of e) s k x ≡ None
          by (Some the_sender) = ap (λ b. if b then Some (read_byte o (front ++ e ∷ []) (hart_of e) x) else s k x)
              (and_right (nat_le c.published k) (nat_lt k (entry_counts q c e).published) (le-ltb k (entry_counts q c e).published past)) ∙ none k x before
          by (Some the_receiver) = over (stores_over (access_of e) x)
            where
              over : (b : Bool) → (if b then None else s k x) ≡ None
              over true = refl
              over false = none k x before
          by None = none k x before

  module _ (h : ℕ) (receives : party_for q h ≡ Some the_receiver) where
    -- sent among these entries, which come after others
    record SentIn (front : List Entry) (c : QueueCounts) (es : List Entry) (k x b : ℕ) : Type 0 where
      before : List Entry
      entry : Entry
      since : List Entry
      is : es ≡ before ++ entry ∷ since
      sends : party_for q (hart_of entry) ≡ Some the_sender
      from : (run_counts q c before).published ≤ k
      to : k < (run_counts q c (before ++ entry ∷ [])).published
      reads : read_byte o (front ++ (before ++ entry ∷ [])) (hart_of entry) x ≡ b
      leaves : LeavesByteAt h x since

    sent-is : (front : List Entry) (c : QueueCounts) (s : SentBytes) (es : List Entry) (k x b : ℕ) → sent_from q o front c s es k x ≡ Some b
        → SentIn front c es k x b ⊎ ((s k x ≡ Some b) × LeavesByteAt h x es)
    sent-is front c s [] k x b is = inr (is, tt)
    sent-is front c s (e ∷ es) k x b is = elim (sent-is (front ++ e ∷ []) (entry_counts q c e) (sent_after q o front c s e) es k x b is) [
      | inl later ↦ inl (record {
        before = e ∷ later.before;
        entry = later.entry;
        since = later.since;
        is = ap (λ xs. e ∷ xs) later.is;
        sends = later.sends;
        from = later.from;
        to = later.to;
        reads = subst (λ xs. read_byte o xs (hart_of later.entry) x ≡ b) (append_assoc front (e ∷ []) (later.before ++ later.entry ∷ [])) later.reads;
        leaves = later.leaves;
      })
      | inr left ↦ by left.1 (party_for q (hart_of e)) refl left.0
    ]
      where
        by : LeavesByteAt h x es → (t : Option Party) → party_for q (hart_of e) ≡ t
            → sent_by t c (entry_counts q c e) (read_byte o (front ++ e ∷ []) (hart_of e)) (access_of e) s k x ≡ Some b
            → SentIn front c (e ∷ es) k x b ⊎ ((s k x ≡ Some b) × LeavesByteAt h x (e ∷ es))
        by leaves (Some the_sender) sends now = in_range (nat_le c.published k && nat_lt k (entry_counts q c e).published) refl now
          where
            in_range : (r : Bool) → (nat_le c.published k && nat_lt k (entry_counts q c e).published) ≡ r
                → (if r then Some (read_byte o (front ++ e ∷ []) (hart_of e) x) else s k x) ≡ Some b
                → SentIn front c (e ∷ es) k x b ⊎ ((s k x ≡ Some b) × LeavesByteAt h x (e ∷ es))
            in_range true within read =
                let parts = and_parts (nat_le c.published k) (nat_lt k (entry_counts q c e).published) within in
                let same : read_byte o (front ++ e ∷ []) (hart_of e) x ≡ b = cc in
                inl (record {
                  before = [];
                  entry = e;
                  since = es;
                  is = refl;
                  sends = sends;
                  from = leb-true c.published k parts.0;
                  to = (Decides-ltb k (entry_counts q c e).published).0 parts.1;
                  reads = same;
                  leaves = leaves;
                })
            in_range false out still = inr (still, ((λ own. (let same = ap (party_for q) own in cc)), leaves))
        by leaves (Some the_receiver) stores now = over (stores_over (access_of e) x) refl now
          where
            over : (r : Bool) → stores_over (access_of e) x ≡ r → (if r then None else s k x) ≡ Some b
                → SentIn front c (e ∷ es) k x b ⊎ ((s k x ≡ Some b) × LeavesByteAt h x (e ∷ es))
            over true on none = cc
            over false off still = inr (still, ((λ own. leaves-not x (access_of e) off), leaves))
        by leaves None neither now = inr (now, ((λ own. (let same = ap (party_for q) own in cc)), leaves))

    -- it stays while the receiver leaves the byte
    stays-one : (front : List Entry) (c : QueueCounts) (s : SentBytes) (e : Entry) (k x b : ℕ) → s k x ≡ Some b → (hart_of e ≡ h → LeavesByteBy x (access_of e))
        → k < c.published → sent_after q o front c s e k x ≡ Some b
    stays-one front c s e k x b is leaves less = by (party_for q (hart_of e)) refl
      where
        by : (t : Option Party) → party_for q (hart_of e) ≡ t
            → sent_by t c (entry_counts q c e) (read_byte o (front ++ e ∷ []) (hart_of e)) (access_of e) s k x ≡ Some b
        by (Some the_sender) sends =
            ap (λ r. if r && nat_lt k (entry_counts q c e).published then Some (read_byte o (front ++ e ∷ []) (hart_of e) x) else s k x)
            (lt-leb c.published k less) ∙ is
        by (Some the_receiver) stores = ap (λ r. if r then None else s k x)
            (not-over x (access_of e) (leaves (one-receives q (hart_of e) h stores receives))) ∙ is
        by None neither = is

    stays : (front : List Entry) (c : QueueCounts) (s : SentBytes) (es : List Entry) (k x b : ℕ) → s k x ≡ Some b → LeavesByteAt h x es → k < c.published
        → sent_from q o front c s es k x ≡ Some b
    stays front c s [] k x b is leaves less = is
    stays front c s (e ∷ es) k x b is leaves less =
        let more : c.published ≤ (entry_counts q c e).published = (grows q c e).counts the_sender in
        stays (front ++ e ∷ []) (entry_counts q c e) (sent_after q o front c s e) es k x b (stays-one front c s e k x b is leaves.0 less) leaves.1
        (omega (arith, more, less))

    pub was-sent : (start : QueueCounts) (es : List Entry) (k x b : ℕ) → sent_from q o [] start nothing_sent es k x ≡ Some b → WasSent q o start h es k x b
    was-sent start es k x b is = elim (sent-is [] start nothing_sent es k x b is) [
      | inl sent ↦ record {
        before = sent.before;
        entry = sent.entry;
        since = sent.since;
        is = sent.is;
        sends = sent.sends;
        from = sent.from;
        to = sent.to;
        reads = sent.reads;
        leaves = sent.leaves;
      }
      | inr none ↦ (let never = none.0 in cc)
    ]

    pub still-sent : (start : QueueCounts) (es : List Entry) (k x b : ℕ) → WasSent q o start h es k x b → sent_from q o [] start nothing_sent es k x ≡ Some b
    still-sent start es k x b sent =
        let c : QueueCounts = run_counts q start sent.before in
        let s : SentBytes = sent_from q o [] start nothing_sent sent.before in
        let end : run_counts q start (sent.before ++ sent.entry ∷ []) ≡ entry_counts q c sent.entry =
        counts-append (entry_counts q) start sent.before (sent.entry ∷ []) in
        let to : k < (entry_counts q c sent.entry).published = subst (λ (d : QueueCounts). k < d.published) end sent.to in
        let within : (nat_le c.published k && nat_lt k (entry_counts q c sent.entry).published) ≡ true =
        and_from (nat_le c.published k) (nat_lt k (entry_counts q c sent.entry).published) (le-leb c.published k sent.from)
        ((Decides-ltb k (entry_counts q c sent.entry).published).1 to) in
        let here : sent_after q o sent.before c s sent.entry k x ≡ Some b =
        ap (λ t.
        sent_by t c (entry_counts q c sent.entry) (read_byte o (sent.before ++ sent.entry ∷ []) (hart_of sent.entry)) (access_of sent.entry) s k x)
        sent.sends
        ∙ ap (λ r. if r then Some (read_byte o (sent.before ++ sent.entry ∷ []) (hart_of sent.entry) x) else s k x) within
        ∙ ap (λ (n : ℕ). Some n) sent.reads in
        ap (λ xs. sent_from q o [] start nothing_sent xs k x) sent.is
        ∙ ap (λ (f : SentBytes). f k x) (sent-append [] start nothing_sent sent.before (sent.entry ∷ sent.since))
        ∙ stays (sent.before ++ sent.entry ∷ []) (entry_counts q c sent.entry) (sent_after q o sent.before c s sent.entry) sent.since k x b here sent.leaves to
