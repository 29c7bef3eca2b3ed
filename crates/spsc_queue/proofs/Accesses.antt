-- The accesses of a hart's own entries: at the end of a list, one by one, and that a party that makes none leaves its part
-- of the protocol.
use Rattle.spsc_queue.proofs.Common.{ℕ, ◌+◌, ◌≡◌, ◌≢◌, ◌⊎◌, inl, inr, Bool, true, false, if◌then◌else◌, List, [], ◌∷◌, ◌++◌, length, refl, sym, ◌∙◌, ap, subst}
use Rattle.spsc_queue.proofs.Common.{arith, append-nil, append_assoc, Entry, Access, nothing, access_of, hart_of, is_land, is_own, own, Kind, RingBuffer}
use Rattle.spsc_queue.proofs.Common.{ProtocolState, role_of, next_by, protocol_next, protocol_after, SpscQueue, party_hart, buffer, memory_access, accesses}
use Rattle.spsc_queue.specs.Calls.{Party}
use Rattle.spsc_queue.proofs.Outline.{part, role}
use Rattle.spsc_queue.proofs.Parts.{inner-leaves, other-leaves, land-leaves}
use Rattle.spsc_queue.proofs.OwnEntries.{land_is, own_is}
use Rattle.spsc_queue.proofs.Parties.{which, Mine, Others, whose}

module _ (h : ℕ) (e : Entry) where
  -- one entry more, of another hart or a landing, or of its own
  pub other-accesses : (es : List Entry) → is_own h e ≡ false → accesses h (es ++ e ∷ []) ≡ accesses h es
  other-accesses [] off = ap (λ b. if b then memory_access (access_of e) ++ [] else []) off
  other-accesses (d ∷ es) off = ap (λ xs. if is_own h d then memory_access (access_of d) ++ xs else xs) (other-accesses es off)

  pub other-own : (es : List Entry) → is_own h e ≡ false → own h (es ++ e ∷ []) ≡ own h es
  other-own [] off = ap (λ b. if b then e ∷ [] else []) off
  other-own (d ∷ es) off = ap (λ xs. if is_own h d then d ∷ xs else xs) (other-own es off)

  pub mine-accesses : (es : List Entry) → is_own h e ≡ true → accesses h (es ++ e ∷ []) ≡ accesses h es ++ memory_access (access_of e)
  mine-accesses [] on = ap (λ b. if b then memory_access (access_of e) ++ [] else []) on ∙ append-nil (memory_access (access_of e))
  mine-accesses (d ∷ es) on =
      ap (λ xs. if is_own h d then memory_access (access_of d) ++ xs else xs) (mine-accesses es on) ∙ at (is_own h d)
    where
      at : (b : Bool) → (if b then memory_access (access_of d) ++ (accesses h es ++ memory_access (access_of e)) else accesses h es
          ++ memory_access (access_of e)) ≡ (if b then memory_access (access_of d) ++ accesses h es else accesses h es) ++ memory_access (access_of e)
      at true = sym (append_assoc (memory_access (access_of d)) (accesses h es) (memory_access (access_of e)))
      at false = refl

  pub mine-own : (es : List Entry) → is_own h e ≡ true → length (own h (es ++ e ∷ [])) ≡ length (own h es) + 1
  mine-own [] on = ap (λ b. length (if b then e ∷ [] else [])) on
  mine-own (d ∷ es) on = at (is_own h d) (mine-own es on)
    where
      at : (b : Bool) → length (own h (es ++ e ∷ [])) ≡ length (own h es) + 1
          → length (if b then d ∷ own h (es ++ e ∷ []) else own h (es ++ e ∷ [])) ≡ length (if b then d ∷ own h es else own h es) + 1
      at true more = omega (arith, more)
      at false more = more

-- the first access of a list, and what stands around it
pub record First (h : ℕ) (es : List Entry) (x : Access) (xs : List Access) : Type 0 where
  pub part : List Entry
  pub entry : Entry
  pub rest : List Entry
  pub is : es ≡ part ++ entry ∷ rest
  pub none : accesses h part ≡ []
  pub mine : is_own h entry ≡ true
  pub does : access_of entry ≡ x
  pub others : accesses h rest ≡ xs

-- an entry before it makes none
later : {h : ℕ} {e : Entry} {es : List Entry} {x : Access} {xs : List Access} → ((ys : List Entry) → accesses h (e ∷ ys) ≡ accesses h ys)
    → First h es x xs → First h (e ∷ es) x xs
later {h} {e} silent f = record {
  part = e ∷ f.part;
  entry = f.entry;
  rest = f.rest;
  is = ap (λ zs. e ∷ zs) f.is;
  none = silent f.part ∙ f.none;
  mine = f.mine;
  does = f.does;
  others = f.others;
}

now : {h : ℕ} {e : Entry} {es : List Entry} {x : Access} {xs : List Access} (y : Access) → is_own h e ≡ true → access_of e ≡ y
    → y ∷ accesses h es ≡ x ∷ xs → First h (e ∷ es) x xs
now {h} {e} {es} {x} {xs} y on does whole =
    let one : y ≡ x = cc in
    let others : accesses h es ≡ xs = cc in
    record { part = []; entry = e; rest = es; is = refl; none = refl; mine = on; does = does ∙ one; others = others }

pub off_silent : (h : ℕ) (e : Entry) → is_own h e ≡ false → (ys : List Entry) → accesses h (e ∷ ys) ≡ accesses h ys
off_silent h e off ys = ap (λ b. if b then memory_access (access_of e) ++ accesses h ys else accesses h ys) off

own_first : (h : ℕ) (e : Entry) (y : Access) → is_own h e ≡ true → access_of e ≡ y → (ys : List Entry) → accesses h (e ∷ ys) ≡ memory_access y ++ accesses h ys
own_first h e y on does ys =
    ap (λ b. if b then memory_access (access_of e) ++ accesses h ys else accesses h ys) on ∙ ap (λ y. memory_access y ++ accesses h ys) does

pub first_access : (h : ℕ) (es : List Entry) (x : Access) (xs : List Access) → accesses h es ≡ x ∷ xs → First h es x xs
first_access h [] x xs is = cc
first_access h (e ∷ es) x xs is = at (is_own h e) refl (access_of e) refl (first_access h es x xs)
  where
    at : (b : Bool) → is_own h e ≡ b → (y : Access) → access_of e ≡ y → (accesses h es ≡ x ∷ xs → First h es x xs) → First h (e ∷ es) x xs
    at false off y does go = later (off_silent h e off) (go (sym (off_silent h e off es) ∙ is))
    at true on nothing does go = later (own_first h e nothing on does) (go (sym (own_first h e nothing on does es) ∙ is))
    at true on y does go = now y on does (sym (own_first h e y on does es) ∙ is)

-- ---- a party that accesses nothing

-- an entry of which the party makes no access leaves its part
none-made : (K : Kind) (r : RingBuffer) (p : Party) (t : ProtocolState) (x : Access) → memory_access x ≡ [] → part p (next_by K r (role p) t x) ≡ part p t
none-made K r p t nothing none = ap (part p) (inner-leaves K r (role p) t)
none-made K r p t x none = cc

front_none : (h : ℕ) (e : Entry) (es : List Entry) → accesses h (e ∷ es) ≡ [] → (accesses h (e ∷ []) ≡ []) × (accesses h es ≡ [])
front_none h e es none = at (is_own h e) (memory_access (access_of e)) none
  where
    at : (b : Bool) (ys : List Access) → (if b then ys ++ accesses h es else accesses h es) ≡ [] → ((if b then ys ++ [] else []) ≡ []) × (accesses h es ≡ [])
    at true [] none = (refl, none)
    at true (y ∷ ys) none = absurd (cc)
    at false ys none = (refl, none)

module _ (q : SpscQueue) (p : Party) where
  abbrev r : RingBuffer
  r = buffer q

  abbrev K : Kind
  K = q.block.kind

  pub still : (t : ProtocolState) (e : Entry) → accesses (party_hart q p) (e ∷ []) ≡ [] → part p (protocol_next r t e) ≡ part p t
  still t e none = at (is_land e) refl (whose q (hart_of e))
    where
      by : (p2 : Party) → hart_of e ≡ party_hart q p2 → is_land e ≡ false → (p2 ≡ p) ⊎ (p2 ≢ p) → part p (next_by K r (role p2) t (access_of e)) ≡ part p t
      by p2 mine act (inl same) = subst (λ g. part p (next_by K r (role g) t (access_of e)) ≡ part p t) (sym same)
          (none-made K r p t (access_of e) (sym (append-nil (memory_access (access_of e)))
          ∙ sym (own_first (party_hart q p) e (access_of e) (own_is (party_hart q p) e (mine ∙ ap (party_hart q) same) act) refl []) ∙ none))
      by p2 mine act (inr other) = other-leaves K r p p2 other t (access_of e)

      at : (l : Bool) → is_land e ≡ l → Mine q (hart_of e) ⊎ Others q (hart_of e) → part p (protocol_next r t e) ≡ part p t
      at true land_e is = ap (λ x. part p (next_by K r (role_of r (hart_of e)) t x)) (land_is (access_of e) land_e)
          ∙ ap (part p) (land-leaves K r (role_of r (hart_of e)) t)
      at false act (inl is) = ap (λ g. part p (next_by K r g t (access_of e))) is.role ∙ by is.party is.hart act (which is.party p)
      at false act (inr is) = ap (λ g. part p (next_by K r g t (access_of e))) is.role

  pub unmoved : (t : ProtocolState) (es : List Entry) → accesses (party_hart q p) es ≡ [] → part p (protocol_after r t es) ≡ part p t
  unmoved t [] none = refl
  unmoved t (e ∷ es) none =
      let parts = front_none (party_hart q p) e es none in unmoved (protocol_next r t e) es parts.1 ∙ still t e parts.0
