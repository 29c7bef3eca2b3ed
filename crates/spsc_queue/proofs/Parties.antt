-- The two parties of a queue: whose entry it is, and which function each has.
use Rattle.spsc_queue.proofs.Common.{ℕ, ◌≡◌, ◌≢◌, ◌⊎◌, inl, inr, Bool, false, List, [], ◌∷◌, ◌++◌, refl, sym, ◌∙◌, ap, append_assoc, Entry, OpeningValue}
use Rattle.spsc_queue.proofs.Common.{role_of, SpscQueue, party_hart, party_line, listing_of, buffer, is_in_call, completed_by_entry, HasFunction}
use Rattle.spsc_queue.proofs.Common.{PartyObligation, CallerObligation, SharesQueue}
use Rattle.spsc_queue.specs.RingBuffers.{waiting_words}
use Rattle.spsc_queue.specs.Protocol.{passes}
use Rattle.spsc_queue.specs.Calls.{Party, the_sender, the_receiver, completed_words}
use Rattle.spsc_queue.proofs.Cases.{by-role}
use Rattle.spsc_queue.proofs.Outline.{role}
use Rattle.spsc_queue.proofs.Completed.{completed-last}

-- whether a party is in a call, and the words that its calls completed, the sender's after those that waited where the run began
abbrev pub is_busy : (M : ℕ) → OpeningValue → SpscQueue → Party → (before es : List Entry) → Bool
is_busy M o q p before es = is_in_call M o (party_hart q p) (party_line q p) q.block before es

abbrev pub first_words : OpeningValue → SpscQueue → Party → (before : List Entry) → List ℕ
first_words o q the_sender before = waiting_words (buffer q) o before
first_words o q the_receiver before = []

abbrev pub words : (M : ℕ) → OpeningValue → SpscQueue → Party → (before es : List Entry) → List ℕ
words M o q p before es = first_words o q p before ++ completed_words M o (party_hart q p) (party_line q p) q.block before es

pub words-last : (M : ℕ) (o : OpeningValue) (q : SpscQueue) (p : Party) (before es : List Entry) (e : Entry) → words M o q p before (es ++ e ∷ [])
    ≡ words M o q p before es ++ completed_by_entry M o (party_hart q p) (party_line q p) (is_busy M o q p before es) (before ++ es) e
words-last M o q p before es e =
    let first : List ℕ = first_words o q p before in
    let last : List ℕ = completed_by_entry M o (party_hart q p) (party_line q p) (is_busy M o q p before es) (before ++ es) e in
    ap (λ ws. first ++ ws) (completed-last M o (party_hart q p) (party_line q p) q.block false before es e)
    ∙ sym (append_assoc first (completed_words M o (party_hart q p) (party_line q p) q.block before es) last)

pub has_of : {B M : ℕ} {o : OpeningValue} {q : SpscQueue} {before es : List Entry} → SharesQueue B M o q before es → (p : Party)
    → HasFunction o (party_hart q p) (party_line q p) (listing_of q.block.kind q.block.caches p)
has_of c the_sender = c.sends
has_of c the_receiver = c.receives

pub owed_of : {M : ℕ} {o : OpeningValue} {q : SpscQueue} {before done : List Entry} {e : Entry} → CallerObligation M o q before done e → (p : Party)
    → PartyObligation M o q p before done e
owed_of w the_sender = w.sender
owed_of w the_receiver = w.receiver

pub which : (p q : Party) → (p ≡ q) ⊎ (p ≢ q)
which the_sender the_sender = inl refl
which the_sender the_receiver = inr (λ e. cc)
which the_receiver the_sender = inr (λ e. cc)
which the_receiver the_receiver = inl refl

module _ (q : SpscQueue) where
  pub other_hart : q.sender ≢ q.receiver → (p p2 : Party) → p ≢ p2 → party_hart q p ≢ party_hart q p2
  other_hart apart the_sender the_sender other = λ e. other refl
  other_hart apart the_sender the_receiver other = apart
  other_hart apart the_receiver the_sender other = λ e. apart (sym e)
  other_hart apart the_receiver the_receiver other = λ e. other refl

  pub record Mine (h : ℕ) : Type 0 where
    pub party : Party
    pub hart : h ≡ party_hart q party
    pub role : role_of (buffer q) h ≡ role party

  pub record Others (h : ℕ) : Type 0 where
    pub not_sender : h ≢ q.sender
    pub not_receiver : h ≢ q.receiver
    pub role : role_of (buffer q) h ≡ passes

  pub whose : (h : ℕ) → Mine h ⊎ Others h
  whose h = by-role (buffer q) h (λ t p. role_of (buffer q) h ≡ t → Mine h ⊎ Others h)
      (λ is e. inl (record { party = the_sender; hart = is; role = e }))
      (λ other is e. inl (record { party = the_receiver; hart = is; role = e }))
      (λ other another e. inr (record { not_sender = other; not_receiver = another; role = e })) refl

  pub not_mine : {h : ℕ} → Others h → (p : Party) → h ≢ party_hart q p
  not_mine is the_sender = is.not_sender
  not_mine is the_receiver = is.not_receiver
