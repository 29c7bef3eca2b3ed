-- What an access makes of a party's part of the protocol's state, and which accesses keep the protocol.
use Rattle.spsc_queue.proofs.Common.{ℕ, ◌+◌, ◌≡◌, ◌≢◌, ◌==◌, inl, inr, Bool, true, false, if◌then◌else◌, Option, Some, None, List, [], ◌∷◌, ◌++◌, refl, sym}
use Rattle.spsc_queue.proofs.Common.{◌∙◌, ap, subst, arith, eq-eqb, ne_eqb, Write, Entry, Access, nothing, load, store, exchange, land, access_of, hart_of}
use Rattle.spsc_queue.proofs.Common.{Kind, lamport, fastforward, RingBuffer, IsRingBuffer, overlaps, SenderState, resting, placed, renewing, roomy, filled}
use Rattle.spsc_queue.proofs.Common.{ReceiverState, idle, asked, waiting, holding, cleared, ProtocolState, Role, role_of, looks_for_room, looks_past_copy}
use Rattle.spsc_queue.proofs.Common.{looks_at, send_look, send_load, send_store, receive_look, receive_load, receive_store, room_at, says_full, says_empty}
use Rattle.spsc_queue.proofs.Common.{next_by, protocol_next, protocol_after, WritesNothingTo, KeepsProtocolBy, KeepsProtocol, Block, IsBlock, copy_in, ring_at}
use Rattle.spsc_queue.specs.Protocol.{sends, receives, passes, looks_for_word}
use Rattle.spsc_queue.specs.Calls.{Party, the_sender, the_receiver}
use Rattle.spsc_queue.proofs.Offsets.{offset_low}
use Rattle.spsc_queue.proofs.Cases.{chosen, either, IsLevel, IsWhole, by-send-load, by-receive-load}
use Rattle.spsc_queue.proofs.States.{IsPlaced, IsAsked, Known}
use Rattle.spsc_queue.proofs.Outline.{Part, part, role, Level, IsOffset, IsNear, IsFit, Near, first_look, index_at, look_at, Knows, Looked, MayStore, Stored}
use Rattle.spsc_queue.proofs.Outline.{Does}

-- a copy lies 4 bytes after the base of a block of Lamport's
pub copied_in : (K : Kind) (caches : Bool) (base c : ℕ) → copy_in K caches base ≡ Some c → (c ≡ base + 4) × (K ≡ lamport) × (caches ≡ true)
copied_in lamport true base c at = ((let same : base + 4 ≡ c = cc in sym same), refl, refl)
copied_in lamport false base c at = absurd (cc)
copied_in fastforward caches base c at = absurd (cc)

pub copied : (k : Block) (c : ℕ) → copy_in k.kind k.caches k.base ≡ Some c → c ≡ k.base + 4
copied k c at = (copied_in k.kind k.caches k.base c at).0

cached_kind : (k : Block) (c : ℕ) → copy_in k.kind k.caches k.base ≡ Some c → k.kind ≡ lamport
cached_kind k c at = (copied_in k.kind k.caches k.base c at).1

-- the ring buffer of a block
pub ring_is : (M : ℕ) (k : Block) (a b : ℕ) → IsBlock M k → a ≢ b → IsRingBuffer (ring_at k a b)
ring_is M k a b is parties = record {
  parties = parties;
  some_slots = is.some_slots;
  head = record { above = omega arith; below = omega arith; aligned = is.aligned; no_copy = λ c at. inr (omega (arith, copied k c at)) };
  tail = record { above = omega arith; below = omega arith; aligned = omega (arith, is.aligned); no_copy = λ c at. inl (omega (arith, copied k c at)) };
  slots_above = omega arith;
  slots_below = omega arith;
  slots_aligned = omega (arith, is.aligned);
  apart = λ e. omega arith;
  head_apart = inl (omega arith);
  tail_apart = inl (omega arith);
  small = omega (arith, is.inside, is.small);
  copy = λ c at. record {
    kind = cached_kind k c at;
    above = omega (arith, copied k c at);
    below = omega (arith, copied k c at);
    apart = inl (omega (arith, copied k c at));
  };
}

-- the protocol, at the end of a list
pub keeps-more : (r : RingBuffer) (s : ProtocolState) (es : List Entry) (e : Entry) → KeepsProtocol r s es
    → KeepsProtocolBy r.kind r (role_of r (hart_of e)) (protocol_after r s es) (access_of e) → KeepsProtocol r s (es ++ e ∷ [])
keeps-more r s [] e keeps one = (one, tt)
keeps-more r s (d ∷ es) e keeps one = (keeps.0, keeps-more r (protocol_next r s d) es e keeps.1 one)

module _ (K : Kind) (r : RingBuffer) where
  pub stays-keeps : (q : Role) (t : ProtocolState) (x : Access) → WritesNothingTo r x → KeepsProtocolBy K r q t x
  stays-keeps sends t (store w) off = inl off
  stays-keeps receives t (store w) off = inl off
  stays-keeps q t x off = off

  -- a line of a function keeps the protocol
  pub does-keeps : (p : Party) (t : ProtocolState) (x : Access) → Does p K r t x → KeepsProtocolBy K r (role p) t x
  does-keeps the_sender t (store w) does = inr does
  does-keeps the_receiver t (store w) does = inr does
  does-keeps p t (exchange a old new) does = absurd does
  does-keeps p t x does = stays-keeps (role p) t x tt

  pub land-leaves : (q : Role) (t : ProtocolState) → next_by K r q t land ≡ t
  land-leaves sends t = refl
  land-leaves receives t = refl
  land-leaves passes t = refl

  -- ---- what an access leaves of each party's part

  sends-leave : (t : ProtocolState) (x : Access) → part the_receiver (next_by K r sends t x) ≡ part the_receiver t
  sends-leave t (load a width v) =
      chosen (λ z. part the_receiver z ≡ part the_receiver t) (width == 4) (record t { sending = send_load K r a v t.sending }) t refl refl
  sends-leave t (store w) = chosen (λ z. part the_receiver z ≡ part the_receiver t) (overlaps r w) (send_store w t.sending t) t (at t.sending) refl
    where
      at : (p : SenderState) → part the_receiver (send_store w p t) ≡ part the_receiver t
      at resting = refl
      at p = refl
  sends-leave t x = refl

  store-leaves : (k : Kind) (p : ReceiverState) (t : ProtocolState) → part the_sender (receive_store k p t) ≡ part the_sender t
  store-leaves lamport idle t = refl
  store-leaves lamport p t = refl
  store-leaves fastforward idle t = refl
  store-leaves fastforward p t = refl

  receives-leave : (t : ProtocolState) (x : Access) → part the_sender (next_by K r receives t x) ≡ part the_sender t
  receives-leave t (load a width v) =
      chosen (λ z. part the_sender z ≡ part the_sender t) (width == 4) (record t { receiving = receive_load K r a v t.receiving }) t refl refl
  receives-leave t (store w) =
      chosen (λ z. part the_sender z ≡ part the_sender t) (overlaps r w) (receive_store K t.receiving t) t (store-leaves K t.receiving t) refl
  receives-leave t x = refl

  -- an access of the other party
  pub other-leaves : (p q : Party) → q ≢ p → (t : ProtocolState) (x : Access) → part p (next_by K r (role q) t x) ≡ part p t
  other-leaves the_sender the_sender other t x = absurd (other refl)
  other-leaves the_sender the_receiver other t x = receives-leave t x
  other-leaves the_receiver the_sender other t x = sends-leave t x
  other-leaves the_receiver the_receiver other t x = absurd (other refl)

  pub inner-leaves : (q : Role) (t : ProtocolState) → next_by K r q t nothing ≡ t
  inner-leaves sends t = refl
  inner-leaves receives t = refl
  inner-leaves passes t = refl

  -- ---- loads

  level-send : (a v : ℕ) (p : SenderState) → IsLevel p → IsLevel (send_load K r a v p)
  level-send a v p level = by-send-load K r a v IsLevel p (λ l here. tt) (at p level)
    where
      seen : (u : ℕ) → IsLevel (looks_for_room K r u v)
      seen u = chosen IsLevel (says_full K r u v) (placed u) (roomy u) tt tt

      looks : (u : ℕ) (q : Option ℕ) → IsLevel (looks_at q K r a u v)
      looks u None = chosen IsLevel (a == room_at K r u) (looks_for_room K r u v) (placed u) (seen u) tt
      looks u (Some c) = chosen IsLevel (a == c) (looks_for_room K r u v) (if a == room_at K r u then looks_past_copy K r u v else placed u) (seen u)
          (chosen IsLevel (a == room_at K r u) (looks_past_copy K r u v) (placed u) (chosen IsLevel (says_full K r u v) (placed u) (renewing u v) tt tt) tt)

      at : (p : SenderState) → IsLevel p → IsLevel (send_look K r a v p)
      at (placed u) l = looks u r.copy
      at p l = l

  whole-receive : (a v : ℕ) (p : ReceiverState) → IsWhole p → IsWhole (receive_load K r a v p)
  whole-receive a v p whole = by-receive-load K r a v IsWhole p (λ l here. tt) (at p whole)
    where
      seen : (k : Kind) (u : ℕ) → IsWhole (looks_for_word k u v)
      seen lamport u = chosen IsWhole (says_empty lamport u v) (asked u) (waiting u) tt tt
      seen fastforward u = chosen IsWhole (says_empty fastforward u v) (asked u) (holding u v) tt tt

      at : (p : ReceiverState) → IsWhole p → IsWhole (receive_look K r a v p)
      at (asked u) l = chosen IsWhole (a == look_at the_receiver K r u) (looks_for_word K u v) (asked u) (seen K u) tt
      at (waiting u) l = chosen IsWhole (a == r.slots + u) (holding u v) (waiting u) tt tt
      at p l = l

  -- from t to z no word becomes half passed, and none is passed
  abbrev StillLevel : Party → (t z : ProtocolState) → Type 0
  StillLevel p t z = Level (part p z) × ((part p z).words ≡ (part p t).words)

  -- so outside of the functions
  pub level-next : (p : Party) (t : ProtocolState) (x : Access) → WritesNothingTo r x → Level (part p t) → StillLevel p t (next_by K r (role p) t x)
  level-next the_sender t (load a width v) off level =
      chosen (StillLevel the_sender t) (width == 4) (record t { sending = send_load K r a v t.sending }) t
      (record { sending = level-send a v t.sending level.sending; receiving = tt }, refl) (level, refl)
  level-next the_sender t (store w) off level =
      subst (λ c. StillLevel the_sender t (if c then send_store w t.sending t else t)) (sym off) (level, refl)
  level-next the_sender t x off level = (level, refl)
  level-next the_receiver t (load a width v) off level =
      chosen (StillLevel the_receiver t) (width == 4) (record t { receiving = receive_load K r a v t.receiving }) t
      (record { sending = tt; receiving = whole-receive a v t.receiving level.receiving }, refl) (level, refl)
  level-next the_receiver t (store w) off level =
      subst (λ c. StillLevel the_receiver t (if c then receive_store K t.receiving t else t)) (sym off) (level, refl)
  level-next the_receiver t x off level = (level, refl)

  -- a load of a party's own index
  pub first-load : (p : Party) (t : ProtocolState) (a v : ℕ) → Level (part p t) → a ≡ index_at p r → Knows p v (part p (next_by K r (role p) t (load a 4 v)))
  first-load the_sender t a v level here = at t.sending level.sending
    where
      at : (q : SenderState) → IsLevel q → send_load K r a v q ≡ placed v
      at (filled u) l = absurd l
      at q l = ap (λ b. if b then placed v else send_look K r a v q) (eq-eqb a r.head here)
  first-load the_receiver t a v level here = at t.receiving level.receiving
    where
      at : (q : ReceiverState) → IsWhole q → receive_load K r a v q ≡ asked v
      at (cleared u) l = absurd l
      at q l = ap (λ b. if b then asked v else receive_look K r a v q) (eq-eqb a r.tail here)

  -- where it looks for room, or for a word
  pub look-load : (p : Party) (t : ProtocolState) (a v u : ℕ) → Knows p u (part p t) → a ≢ index_at p r → a ≡ look_at p K r u
      → Looked p K r u v (part p (next_by K r (role p) t (load a 4 v)))
  look-load the_sender t a v u knows other here =
      ap (send_load K r a v) knows ∙ ap (λ b. if b then placed v else send_look K r a v (placed u)) (ne_eqb a r.head other) ∙ first r.copy here
    where
      first : (q : Option ℕ) → a ≡ first_look q (room_at K r u) → looks_at q K r a u v ≡ looks_for_room K r u v
      first None here = ap (λ b. if b then looks_for_room K r u v else placed u) (eq-eqb a (room_at K r u) here)
      first (Some c) here =
          ap (λ b. if b then looks_for_room K r u v else (if a == room_at K r u then looks_past_copy K r u v else placed u)) (eq-eqb a c here)
  look-load the_receiver t a v u knows other here =
      ap (receive_load K r a v) knows ∙ ap (λ b. if b then asked v else receive_look K r a v (asked u)) (ne_eqb a r.tail other)
      ∙ ap (λ b. if b then looks_for_word K u v else asked u) (eq-eqb a (look_at the_receiver K r u) here)

  -- a sender whose copy says that there is no room looks at the tail itself
  pub past-load : (t : ProtocolState) (a v u c : ℕ) → t.sending ≡ placed u → r.copy ≡ Some c → a ≢ r.head → a ≢ c → a ≡ room_at K r u
      → (next_by K r sends t (load a 4 v)).sending ≡ looks_past_copy K r u v
  past-load t a v u c knows copy other apart here =
      grind (arith, send_load, placed, send_look, ne_eqb, looks_at, looks_for_room, room_at, looks_past_copy, eq-eqb)

  -- and of the slot where a word waits
  pub word-load : (t : ProtocolState) (a v u : ℕ) → t.receiving ≡ waiting u → a ≢ r.tail → a ≡ r.slots + u
      → MayStore the_receiver u v (part the_receiver (next_by K r receives t (load a 4 v)))
  word-load t a v u knows other here =
      ap (receive_load K r a v) knows ∙ ap (λ b. if b then asked v else receive_look K r a v (waiting u)) (ne_eqb a r.tail other)
      ∙ ap (λ b. if b then holding u v else waiting u) (eq-eqb a (r.slots + u) here)

  pub load-words : (p : Party) (t : ProtocolState) (a v : ℕ) → (part p (next_by K r (role p) t (load a 4 v))).words ≡ (part p t).words
  load-words the_sender t a v = refl
  load-words the_receiver t a v = refl

  -- ---- stores to the block

  module _ (w : Write) (on : overlaps r w ≡ true) where
    -- to the slot: by the sender, and by FastForward's receiver
    pub slot-sent : (t : ProtocolState) (u : ℕ) → t.sending ≡ roomy u
        → part the_sender (next_by K r sends t (store w)) ≡ record { sending = filled u; receiving = idle; words = t.sent ++ w.value ∷ [] }
    slot-sent t u knows = ap (λ c. part the_sender (if c then send_store w t.sending t else t)) on ∙ ap (λ p. part the_sender (send_store w p t)) knows

    pub slot-taken : (t : ProtocolState) (u v : ℕ) → t.receiving ≡ holding u v
        → part the_receiver (next_by fastforward r receives t (store w)) ≡ record { sending = resting; receiving = cleared u; words = t.received ++ v ∷ [] }
    slot-taken t u v knows = ap (λ c. part the_receiver (if c then receive_store fastforward t.receiving t else t)) on
        ∙ ap (λ p. part the_receiver (receive_store fastforward p t)) knows

    -- to the copy
    pub copy-stored : (t : ProtocolState) (u v : ℕ) → t.sending ≡ renewing u v
        → part the_sender (next_by K r sends t (store w)) ≡ record { sending = roomy u; receiving = idle; words = t.sent }
    copy-stored t u v knows = ap (λ c. part the_sender (if c then send_store w t.sending t else t)) on ∙ ap (λ p. part the_sender (send_store w p t)) knows

    -- to the tail, by Lamport's receiver that holds a word
    pub tail-taken : (t : ProtocolState) (u v : ℕ) → t.receiving ≡ holding u v
        → part the_receiver (next_by lamport r receives t (store w)) ≡ record { sending = resting; receiving = idle; words = t.received ++ v ∷ [] }
    tail-taken t u v knows = ap (λ c. part the_receiver (if c then receive_store lamport t.receiving t else t)) on
        ∙ ap (λ p. part the_receiver (receive_store lamport p t)) knows

    -- to the index after the slot
    pub index-stored : (p : Party) (t : ProtocolState) (u : ℕ) → Stored p u (part p t)
        → part p (next_by K r (role p) t (store w)) ≡ record { sending = resting; receiving = idle; words = (part p t).words }
    index-stored the_sender t u knows = ap (λ c. part the_sender (if c then send_store w t.sending t else t)) on
        ∙ ap (λ p. part the_sender (send_store w p t)) knows
    index-stored the_receiver t u knows = ap (λ c. part the_receiver (if c then receive_store K t.receiving t else t)) on
        ∙ ap (λ p. part the_receiver (receive_store K p t)) knows

-- ---- offsets that the invariant knows are among the slots

module _ (k : Block) (a b : ℕ) (is : IsRingBuffer (ring_at k a b)) where
  placed-near : (stored published : ℕ) (p : SenderState) → IsPlaced (ring_at k a b) stored published p → IsNear k p
  placed-near stored published resting h = tt
  placed-near stored published p h = (omega (arith, h.1, offset_low (ring_at k a b) is published), omega (arith, h.1))

  asked-fit : (consumed : ℕ) (p : ReceiverState) → IsAsked (ring_at k a b) consumed p → IsFit k p
  asked-fit consumed idle h = tt
  asked-fit consumed p h = (omega (arith, h, offset_low (ring_at k a b) is consumed), omega (arith, h))

  pub near-of : (p : Party) (K : Kind) (L : ℕ → ℕ) (t : ProtocolState) → Known K (ring_at k a b) L t → Near k (part p t)
  near-of the_sender K L t known = record { sending = placed-near t.stored t.published t.sending known.sending; receiving = tt }
  near-of the_receiver K L t known = record { sending = tt; receiving = asked-fit t.consumed t.receiving known.receiving }

-- and so is what a party read
module _ (k : Block) where
  pub knows-offset : (p : Party) (u : ℕ) (t : Part) → Knows p u t → Near k t → IsOffset k u
  knows-offset the_sender u t knows near = subst (IsNear k) knows near.sending
  knows-offset the_receiver u t knows near = subst (IsFit k) knows near.receiving

  pub looked-offset : (p : Party) (K : Kind) (r : RingBuffer) (u v : ℕ) (t : Part) → Looked p K r u v t → Near k t → IsOffset k u
  looked-offset the_sender K r u v t knows near =
      either (IsNear k) (says_full K r u v) (placed u) (roomy u) (λ h. h) (λ h. h) (subst (IsNear k) knows near.sending)
  looked-offset the_receiver lamport r u v t knows near =
      either (IsFit k) (says_empty lamport u v) (asked u) (waiting u) (λ h. h) (λ h. h) (subst (IsFit k) knows near.receiving)
  looked-offset the_receiver fastforward r u v t knows near =
      either (IsFit k) (says_empty fastforward u v) (asked u) (holding u v) (λ h. h) (λ h. h) (subst (IsFit k) knows near.receiving)

  pub ready-offset : (p : Party) (u w : ℕ) (t : Part) → MayStore p u w t → Near k t → IsOffset k u
  ready-offset the_sender u w t knows near = subst (IsNear k) knows near.sending
  ready-offset the_receiver u w t knows near = subst (IsFit k) knows near.receiving

  pub stored-offset : (p : Party) (u : ℕ) (t : Part) → Stored p u t → Near k t → IsOffset k u
  stored-offset the_sender u t knows near = subst (IsNear k) knows near.sending
  stored-offset the_receiver u t knows near = subst (IsFit k) knows near.receiving
