-- Runs that keep the protocol, by their parts.
use Rattle.std.proofs.Math.Seq.{get_or-append_seam}
use Rattle.spsc_queue.proofs.Common.{ℕ, zero, suc, ◌+◌, ◌≡◌, List, [], ◌∷◌, ◌++◌, length, refl, sym, ◌∙◌, ap, subst, arith, append-nil, append_assoc}
use Rattle.spsc_queue.proofs.Common.{length-append, slice_index, Write, Entry, OpeningValue, access_of, hart_of, LegalAfter, LegalAfter-front, Kind, lamport}
use Rattle.spsc_queue.proofs.Common.{fastforward, RingBuffer, SenderState, roomy, ReceiverState, idle, ProtocolState, role_of, send_store, receive_store}
use Rattle.spsc_queue.proofs.Common.{protocol_next, protocol_after, at_start, IsSenderStore, KeepsProtocolBy, KeepsProtocol, FollowsSpscProtocol}
use Rattle.spsc_queue.proofs.Cases.{by-access}
use Rattle.spsc_queue.proofs.States.{firsts}

pub length-firsts : (L : ℕ → ℕ) (n : ℕ) → length (firsts L n) ≡ n
length-firsts L zero = refl
length-firsts L (suc n) = length-append (firsts L n) (L n ∷ []) ∙ (let more : length (firsts L n) ≡ n = length-firsts L n in omega arith)

pub firsts-split : (L : ℕ → ℕ) (m k : ℕ) → (rest : List ℕ) × (firsts L (m + k) ≡ firsts L m ++ rest)
firsts-split L m zero = let same : m + 0 ≡ m = omega arith in ([], ap (firsts L) same ∙ sym (append-nil (firsts L m)))
firsts-split L m (suc k) =
    let more = firsts-split L m k in
    let place : m + suc k ≡ suc (m + k) = omega arith in
    (more.0 ++ L (m + k) ∷ [], ap (firsts L) place ∙ ap (λ xs. xs ++ L (m + k) ∷ []) more.1 ∙ append_assoc (firsts L m) more.0 (L (m + k) ∷ []))

-- ---- words that were sent stay

abbrev pub Grown : (s z : ProtocolState) → Type 0
Grown s z = (more : List ℕ) × (z.sent ≡ s.sent ++ more)

next-grown : (r : RingBuffer) (s : ProtocolState) (e : Entry) → KeepsProtocolBy r.kind r (role_of r (hart_of e)) s (access_of e) → Grown s (protocol_next r s e)
next-grown r s e keeps = by-access r.kind r s (hart_of e) (λ t x z. Grown s z) (λ t x off. same) (λ mine a v. same) (λ mine a v. same)
    (λ mine w on made. sent w s.sending made) (λ mine w on made. received r.kind s.receiving) (access_of e) keeps
  where
    same : Grown s s
    same = ([], sym (append-nil s.sent))

    sent : (w : Write) (p : SenderState) → IsSenderStore r.kind r p w → Grown s (send_store w p s)
    sent w (roomy u) made = (w.value ∷ [], refl)
    sent w p made = same

    received : (k : Kind) (p : ReceiverState) → Grown s (receive_store k p s)
    received lamport idle = same
    received lamport p = same
    received fastforward idle = same
    received fastforward p = same

pub protocol-grown : (r : RingBuffer) (s : ProtocolState) (es : List Entry) → KeepsProtocol r s es → Grown s (protocol_after r s es)
protocol-grown r s [] keeps = ([], sym (append-nil s.sent))
protocol-grown r s (e ∷ es) keeps =
    let one = next-grown r s e keeps.0 in
    let rest = protocol-grown r (protocol_next r s e) es keeps.1 in
    (one.0 ++ rest.0, rest.1 ∙ ap (λ xs. xs ++ rest.0) one.1 ∙ append_assoc s.sent one.0 rest.0)

-- ---- one entry

pub protocol-append : (r : RingBuffer) (s : ProtocolState) (es fs : List Entry) → protocol_after r s (es ++ fs) ≡ protocol_after r (protocol_after r s es) fs
protocol-append r s [] fs = refl
protocol-append r s (e ∷ es) fs = protocol-append r (protocol_next r s e) es fs

pub keeps-front : (r : RingBuffer) (s : ProtocolState) (es fs : List Entry) → KeepsProtocol r s (es ++ fs) → KeepsProtocol r s es
keeps-front r s [] fs keeps = tt
keeps-front r s (e ∷ es) fs keeps = (keeps.0, keeps-front r (protocol_next r s e) es fs keeps.1)

pub keeps-back : (r : RingBuffer) (s : ProtocolState) (es fs : List Entry) → KeepsProtocol r s (es ++ fs) → KeepsProtocol r (protocol_after r s es) fs
keeps-back r s [] fs keeps = keeps
keeps-back r s (e ∷ es) fs keeps = keeps-back r (protocol_next r s e) es fs keeps.1

-- the words of F, where the next of them is known
pub word_ahead : (F sent more : List ℕ) (v n : ℕ) → length sent ≡ n → F ≡ (sent ++ v ∷ []) ++ more → v ≡ slice_index F n
word_ahead F sent more v n size is =
    sym (ap (slice_index F) (sym size) ∙ ap (λ xs. slice_index xs (length sent)) (is ∙ append_assoc sent (v ∷ []) more) ∙ get_or-append_seam sent v more 0)

pub follows-front : (B : ℕ) (r : RingBuffer) (o : OpeningValue) (before es fs : List Entry) → FollowsSpscProtocol B r o before (es ++ fs)
    → FollowsSpscProtocol B r o before es
follows-front B r o before es fs f = record {
  ring = f.ring;
  legal = LegalAfter-front B o [] (before ++ es) fs (subst (LegalAfter B o []) (sym (append_assoc before es fs)) f.legal);
  rest = f.rest;
  keeps = keeps-front r (at_start r o before) es fs f.keeps;
}
