-- Case by case: whose entry it is, what a load makes of a party's place, and which accesses keep the protocol.
use Rattle.std.proofs.lemmas.Bool.{eqb-false}
use Rattle.spsc_queue.proofs.Common.{ℕ, ◌≡◌, ◌≢◌, ◌==◌, ◌⊎◌, inl, inr, Bool, true, false, if◌then◌else◌, Option, Some, None, refl, sym, subst, eqb-true, Write}
use Rattle.spsc_queue.proofs.Common.{Access, load, store, Kind, RingBuffer, overlaps, SenderState, placed, filled, ReceiverState, asked, cleared, ProtocolState}
use Rattle.spsc_queue.proofs.Common.{Role, role_of, send_look, send_load, send_store, receive_look, receive_load, receive_store, next_by, WritesNothingTo}
use Rattle.spsc_queue.proofs.Common.{IsSenderStore, IsReceiverStore, KeepsProtocolBy}
use Rattle.queue_parties.specs.Parties.{Party, the_sender, the_receiver, party_among}
use Rattle.spsc_queue.specs.Protocol.{sends, receives, passes}

-- what holds of each party and of any other hart holds of the hart h
pub by-role : (r : RingBuffer) (h : ℕ) (P : Role → Option Party → Type 0) → (h ≡ r.sender → P sends (Some the_sender))
    → (h ≢ r.sender → h ≡ r.receiver → P receives (Some the_receiver)) → (h ≢ r.sender → h ≢ r.receiver → P passes None)
    → P (role_of r h) (party_among r.sender r.receiver h)
by-role r h P sender receiver third = at (h == r.sender) refl (h == r.receiver) refl
  where
    at : (b : Bool) → (h == r.sender) ≡ b → (c : Bool) → (h == r.receiver) ≡ c
        → P (if b then sends else (if c then receives else passes)) (if b then Some the_sender else (if c then Some the_receiver else None))
    at true one c two = sender (eqb-true h r.sender one)
    at false one true two = receiver (eqb-false h r.sender one) (eqb-true h r.receiver two)
    at false one false two = third (eqb-false h r.sender one) (eqb-false h r.receiver two)

-- what holds of both choices holds of the one that is made, and what follows from either follows from it
pub chosen : {X : Type 0} (P : X → Type 0) (b : Bool) (x y : X) → P x → P y → P (if b then x else y)
chosen P true x y one two = one
chosen P false x y one two = two

pub either : {X A : Type 0} (P : X → Type 0) (b : Bool) (x y : X) → (P x → A) → (P y → A) → P (if b then x else y) → A
either P true x y one two h = one h
either P false x y one two h = two h

-- a truth value that can't be true, and one by cases
pub never : (b : Bool) → (b ≡ true → ⊥) → b ≡ false
never true wrong = absurd (wrong refl)
never false wrong = refl

pub by-bool : (P : Bool → Type 0) (b : Bool) → (b ≡ true → P true) → (b ≡ false → P false) → P b
by-bool P true on off = on refl
by-bool P false on off = off refl

-- by a test of two numbers
pub by-test : (P : Bool → Type 0) (a b : ℕ) → (a ≡ b → P true) → (a ≢ b → P false) → P (a == b)
by-test P a b same other = by-bool P (a == b) (λ is. same (eqb-true a b is)) (λ is. other (eqb-false a b is))

-- no word is half sent, and no slot half freed
abbrev pub IsLevel : SenderState → Type 0
IsLevel (filled u) = ⊥
IsLevel p = Unit {0}

abbrev pub IsWhole : ReceiverState → Type 0
IsWhole (cleared u) = ⊥
IsWhole p = Unit {0}

-- a load is of the own index, or else a look
module _ (k : Kind) (r : RingBuffer) (a v : ℕ) where
  pub by-send-load : (P : SenderState → Type 0) (p : SenderState) → (IsLevel p → a ≡ r.head → P (placed v)) → P (send_look k r a v p)
      → P (send_load k r a v p)
  by-send-load P (filled u) own look = look
  by-send-load P p own look = by-test (λ c. P (if c then placed v else send_look k r a v p)) a r.head (own tt) (λ away. look)

  pub by-receive-load : (P : ReceiverState → Type 0) (p : ReceiverState) → (IsWhole p → a ≡ r.tail → P (asked v)) → P (receive_look k r a v p)
      → P (receive_load k r a v p)
  by-receive-load P (cleared u) own look = look
  by-receive-load P p own look = by-test (λ c. P (if c then asked v else receive_look k r a v p)) a r.tail (own tt) (λ away. look)

-- an access of hart h that keeps the protocol writes nothing to the block and leaves the state, or it is a party's load of a word, or a
-- party's store to the block
module _ (k : Kind) (r : RingBuffer) (s : ProtocolState) (h : ℕ) (P : Option Party → Access → ProtocolState → Type 0)
    (quiet : (t : Option Party) (x : Access) → WritesNothingTo r x → P t x s)
    (sender-loads : h ≡ r.sender → (a v : ℕ) → P (Some the_sender) (load a 4 v) (record s { sending = send_load k r a v s.sending }))
    (receiver-loads : h ≡ r.receiver → (a v : ℕ) → P (Some the_receiver) (load a 4 v) (record s { receiving = receive_load k r a v s.receiving }))
    (sender-stores : h ≡ r.sender → (w : Write) → overlaps r w ≡ true → IsSenderStore k r s.sending w
    → P (Some the_sender) (store w) (send_store w s.sending s))
    (receiver-stores : h ≡ r.receiver → (w : Write) → overlaps r w ≡ true → IsReceiverStore k r s.receiving w
    → P (Some the_receiver) (store w) (receive_store k s.receiving s)) where
  loads : (p : Party) (a width v : ℕ) (z : ProtocolState) → P (Some p) (load a 4 v) z → P (Some p) (load a width v) (if width == 4 then z else s)
  loads p a width v z whole = by-test (λ c. P (Some p) (load a width v) (if c then z else s)) width 4
      (λ is_4. subst (λ n. P (Some p) (load a n v) z) (sym is_4) whole) (λ part. quiet (Some p) (load a width v) tt)

  stores : (p : Party) (w : Write) (z : ProtocolState) (Made : Type 0) → (overlaps r w ≡ true → Made → P (Some p) (store w) z)
      → (overlaps r w ≡ false) ⊎ Made → P (Some p) (store w) (if overlaps r w then z else s)
  stores p w z Made does keeps = by (overlaps r w) refl keeps
    where
      by : (b : Bool) → overlaps r w ≡ b → (b ≡ false) ⊎ Made → P (Some p) (store w) (if b then z else s)
      by true on (inr made) = does on made
      by true on (inl off) = absurd (cc)
      by false off keeps = quiet (Some p) (store w) off

  of-sender : h ≡ r.sender → (x : Access) → KeepsProtocolBy k r sends s x → P (Some the_sender) x (next_by k r sends s x)
  of-sender mine (load a width v) keeps = loads the_sender a width v (record s { sending = send_load k r a v s.sending }) (sender-loads mine a v)
  of-sender mine (store w) keeps = stores the_sender w (send_store w s.sending s) (IsSenderStore k r s.sending w) (sender-stores mine w) keeps
  of-sender mine x keeps = quiet (Some the_sender) x keeps

  of-receiver : h ≡ r.receiver → (x : Access) → KeepsProtocolBy k r receives s x → P (Some the_receiver) x (next_by k r receives s x)
  of-receiver mine (load a width v) keeps = loads the_receiver a width v (record s { receiving = receive_load k r a v s.receiving }) (receiver-loads mine a v)
  of-receiver mine (store w) keeps = stores the_receiver w (receive_store k s.receiving s) (IsReceiverStore k r s.receiving w) (receiver-stores mine w) keeps
  of-receiver mine x keeps = quiet (Some the_receiver) x keeps

  pub by-access : (x : Access) → KeepsProtocolBy k r (role_of r h) s x → P (party_among r.sender r.receiver h) x (next_by k r (role_of r h) s x)
  by-access x = by-role r h (λ role t. KeepsProtocolBy k r role s x → P t x (next_by k r role s x)) (λ mine. of-sender mine x)
      (λ other mine. of-receiver mine x) (λ other another. quiet None x)
