-- Whether a hart is in a call and what its calls completed, at the end of a list of entries.
use Rattle.spsc_queue.proofs.Common.{ℕ, ◌*◌, ◌≡◌, Bool, true, false, if◌then◌else◌, List, [], ◌∷◌, ◌++◌, Some, sym, ◌∙◌, ap, append-nil, append_assoc}
use Rattle.spsc_queue.proofs.Common.{slice_index, HartState, Entry, OpeningValue, history_of, is_own, number_read, state_of, Block, enters, is_in_call_after}
use Rattle.spsc_queue.proofs.Common.{is_in_call_with, is_in_call_from, completed_at, completed_by_entry}
use Rattle.hart.specs.Steps.{advanced}
use Rattle.queue_parties.proofs.Parties.{both-equal}
use Rattle.spsc_queue.specs.Calls.{is_in_call_by, completed_in, completed_words_from}

pub is_in_call-last : (M : ℕ) (o : OpeningValue) (h n : ℕ) (k : Block) (b : Bool) (front es : List Entry) (e : Entry)
    → is_in_call_from M o h n k b front (es ++ e ∷ []) ≡ is_in_call_with M o h n k (is_in_call_from M o h n k b front es) (front ++ es) e
is_in_call-last M o h n k b front [] e = ap (λ xs. is_in_call_with M o h n k b xs e) (sym (append-nil front))
is_in_call-last M o h n k b front (d ∷ es) e =
    is_in_call-last M o h n k (is_in_call_with M o h n k b front d) (front ++ d ∷ []) es e
    ∙ ap (λ xs. is_in_call_with M o h n k (is_in_call_from M o h n k (is_in_call_with M o h n k b front d) (front ++ d ∷ []) es) xs e)
    (append_assoc front (d ∷ []) es)

pub completed-last : (M : ℕ) (o : OpeningValue) (h n : ℕ) (k : Block) (b : Bool) (front es : List Entry) (e : Entry)
    → completed_words_from M o h n k b front (es ++ e ∷ []) ≡ completed_words_from M o h n k b front es
    ++ completed_by_entry M o h n (is_in_call_from M o h n k b front es) (front ++ es) e
completed-last M o h n k b front [] e = append-nil (completed_by_entry M o h n b front e)
    ∙ ap (λ xs. completed_by_entry M o h n b xs e) (sym (append-nil front))
completed-last M o h n k b front (d ∷ es) e =
    ap (λ ws. completed_by_entry M o h n b front d ++ ws) (completed-last M o h n k (is_in_call_with M o h n k b front d) (front ++ d ∷ []) es e
    ∙ ap (λ xs. completed_words_from M o h n k (is_in_call_with M o h n k b front d) (front ++ d ∷ []) es
    ++ completed_by_entry M o h n (is_in_call_from M o h n k (is_in_call_with M o h n k b front d) (front ++ d ∷ []) es) xs e) (append_assoc front (d ∷ []) es))
    ∙ sym (append_assoc (completed_by_entry M o h n b front d) (completed_words_from M o h n k (is_in_call_with M o h n k b front d) (front ++ d ∷ []) es)
    (completed_by_entry M o h n (is_in_call_from M o h n k (is_in_call_with M o h n k b front d) (front ++ d ∷ []) es) (front ++ (d ∷ es)) e))

-- an entry that isn't the hart's own leaves both, and its own go by its state
pub none_completed : (M : ℕ) (o : OpeningValue) (h n : ℕ) (b : Bool) (front : List Entry) (e : Entry) (ws : List ℕ) → is_own h e ≡ false
    → ws ≡ ws ++ completed_by_entry M o h n b front e
none_completed M o h n b front e ws off = sym (ap (λ c. ws ++ (if c then completed_in n b (state_of M (history_of o front) h) else [])) off ∙ append-nil ws)

pub same_call : (M : ℕ) (o : OpeningValue) (h n : ℕ) (k : Block) (b : Bool) (front : List Entry) (e : Entry) → is_own h e ≡ false
    → b ≡ is_in_call_with M o h n k b front e
same_call M o h n k b front e off = sym (ap (λ c. if c then is_in_call_by n k b (state_of M (history_of o front) h) (number_read e) else b) off)

pub own_completed : (M : ℕ) (o : OpeningValue) (h n : ℕ) (b : Bool) (front : List Entry) (e : Entry) (s : HartState) → is_own h e ≡ true
    → state_of M (history_of o front) h ≡ Some s → completed_at n b s ≡ completed_by_entry M o h n b front e
own_completed M o h n b front e s own at = sym (ap (λ c. if c then completed_in n b (state_of M (history_of o front) h) else []) own ∙ ap (completed_in n b) at)

pub own_call : (M : ℕ) (o : OpeningValue) (h n : ℕ) (k : Block) (b : Bool) (front : List Entry) (e : Entry) (s : HartState) → is_own h e ≡ true
    → state_of M (history_of o front) h ≡ Some s → is_in_call_after n k b s (advanced s (number_read e)) ≡ is_in_call_with M o h n k b front e
own_call M o h n k b front e s own at =
    sym (ap (λ c. if c then is_in_call_by n k b (state_of M (history_of o front) h) (number_read e) else b) own
    ∙ ap (λ x. is_in_call_by n k b x (number_read e)) at)

-- where a hart enters
pub entered : (n : ℕ) (k : Block) (s : HartState) → enters n k s ≡ true → (s.pc ≡ 4 * n) × (slice_index s.registers 10 ≡ k.base)
entered n k s is = both-equal s.pc (4 * n) (slice_index s.registers 10) k.base is
