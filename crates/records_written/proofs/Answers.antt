-- There is at most one answer: all is sure, or one byte is the first that isn't.
use Rattle.std.proofs.Common.{ℕ, ◌≡◌, ◌<◌, arith, inl, inr, Bool, true, false, List, [], length, get_or, refl, subst, sym, ◌∙◌}
use Rattle.std.proofs.lemmas.Bool.{cases_lt}
use Rattle.std.proofs.lemmas.List.{get_or_past}
use Rattle.records_written.specs.{PartyLeaf, may_hand_on, IsSurelyDone, IsSure, IsFirstUnsure, IsOnce, IsFirstTwice}

neither-less : (n m : ℕ) → (n < m → ⊥) → (m < n → ⊥) → n ≡ m
neither-less n m under over = elim (cases_lt n m) [
  | inl less ↦ absurd (under less)
  | inr at ↦ (elim (cases_lt m n) [ inl less ↦ absurd (over less) | inr least ↦ omega (arith, at, least) ])
]

module _ (graph : List (List PartyLeaf)) (first : ℕ) (mask : ℕ → Bool) where
  pub not-both : (n b : ℕ) → IsSure graph first mask → IsFirstUnsure graph first mask n b → ⊥
  not-both n b all u = u.unsure (all n u.position u.handed b u.asked)

  state-not-before : (n b m a : ℕ) → IsFirstUnsure graph first mask n b → IsFirstUnsure graph first mask m a → n < m → ⊥
  state-not-before n b m a u v less = u.unsure (v.states n less u.position u.handed b u.asked)

  same-state : (n b m a : ℕ) → IsFirstUnsure graph first mask n b → IsFirstUnsure graph first mask m a → n ≡ m
  same-state n b m a u v = neither-less n m (state-not-before n b m a u v) (state-not-before m a n b v u)

  position-not-before : (n b a : ℕ) (u : IsFirstUnsure graph first mask n b) (v : IsFirstUnsure graph first mask n a) → u.position < v.position → ⊥
  position-not-before n b a u v less = u.unsure (v.positions u.position less b u.asked)

  same-position : (n b a : ℕ) (u : IsFirstUnsure graph first mask n b) (v : IsFirstUnsure graph first mask n a) → u.position ≡ v.position
  same-position n b a u v = neither-less u.position v.position (position-not-before n b a u v) (position-not-before n a b v u)

  byte-not-before : (n b a : ℕ) → IsFirstUnsure graph first mask n b → IsFirstUnsure graph first mask n a → b < a → ⊥
  byte-not-before n b a u v less = u.unsure (subst (λ (d : ℕ). IsSurelyDone graph first n d b) (sym (same-position n b a u v))
      (v.bytes b less u.asked))

  same-byte-at : (n b a : ℕ) → IsFirstUnsure graph first mask n b → IsFirstUnsure graph first mask n a → b ≡ a
  same-byte-at n b a u v = neither-less b a (byte-not-before n b a u v) (byte-not-before n a b v u)

  -- the first is at a state that is there
  pub listed : (n b : ℕ) → IsFirstUnsure graph first mask n b → n < length graph
  listed n b u = elim (cases_lt n (length graph)) [
    | inl less ↦ less
    | inr past ↦ absurd (let none : may_hand_on (get_or graph n []) u.position ≡ false = rw (get_or_past graph n [] past) refl in
        let some : may_hand_on (get_or graph n []) u.position ≡ true = u.handed in
        cc)
  ]

  pub same-first : (n b m a : ℕ) → IsFirstUnsure graph first mask n b → IsFirstUnsure graph first mask m a → (n ≡ m) × (b ≡ a)
  same-first n b m a u v = (same-state n b m a u v, same-byte-at m b a (subst (λ (k : ℕ). IsFirstUnsure graph first mask k b) (same-state n b m a u v) u) v)

  -- ---- and of those that are read again

  pub never-both : (n b : ℕ) → IsOnce graph mask → IsFirstTwice graph mask n b → ⊥
  never-both n b all u = u.twice (all n b u.asked)

  pub same-twice : (n b m a : ℕ) → IsFirstTwice graph mask n b → IsFirstTwice graph mask m a → (n ≡ m) × (b ≡ a)
  same-twice n b m a u v =
      let state : n ≡ m = neither-less n m (λ less. u.twice (v.states n less b u.asked)) (λ less. v.twice (u.states m less a v.asked)) in
      let w : IsFirstTwice graph mask m b = subst (λ (k : ℕ). IsFirstTwice graph mask k b) state u in
      (state, neither-less b a (λ less. w.twice (v.bytes b less w.asked)) (λ less. v.twice (w.bytes a less v.asked)))

-- ---- of another test with the same bytes

module _ (graph : List (List PartyLeaf)) (first : ℕ) (f g : ℕ → Bool) (same : (b : ℕ) → f b ≡ g b) where
  pub sure-same : IsSure graph first f → IsSure graph first g
  sure-same all = λ n d handed b asked. all n d handed b (same b ∙ asked)

  pub first-same : (n b : ℕ) → IsFirstUnsure graph first f n b → IsFirstUnsure graph first g n b
  first-same n b u = record {
    position = u.position;
    handed = u.handed;
    asked = sym (same b) ∙ u.asked;
    unsure = u.unsure;
    bytes = λ a less asked. u.bytes a less (same a ∙ asked);
    positions = λ d less a asked. u.positions d less a (same a ∙ asked);
    states = λ m less d handed a asked. u.states m less d handed a (same a ∙ asked);
  }
