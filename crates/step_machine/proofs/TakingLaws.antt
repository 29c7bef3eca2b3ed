-- Loops that pack, and loops that take elements from the front of words.
use Rattle.std.proofs.Common.{◌≡◌, ℕ, zero, suc, ◌+◌, ◌-◌, ◌/◌, ◌%◌, ◌<◌, ◌≤◌, Bool, true, false, List, [], ◌∷◌, ◌++◌, length, take, drop, get_or, set, refl}
use Rattle.std.proofs.Common.{sym, ◌∙◌, ap, subst, arith, append_assoc, length-append, eq-eqb, ne_eqb, ltb-true, leb-true}
use Rattle.std.specs.Prelude.{◌&&◌, nat_lt, nat_le, if◌then◌else◌, slice_index, slice_set, All}
use Rattle.std.specs.List.{flat_map}
use Rattle.std.proofs.lemmas.List.{append-nil, take_more, drop_more, take_more_set, take_all, drop_all, drop-set-lt, drop-drop, length-take, length-drop}
use Rattle.std.proofs.lemmas.List.{flat_map_more}
use Rattle.std.proofs.lemmas.List.Elements.{All-append, All-cons, All-nil, All-head, All-tail}
use Rattle.memory.specs.declared.writes.Write.{Write}
use Rattle.memory.specs.Writes.{write}
use Rattle.hart.specs.State.{HartView}
use Rattle.step_machine.specs.Names.{Stored, HasAddress, InMemory, FitStored, Config, Fit, unpacked_hart, unpacked_harts, unpacked_buffer, unpacked_buffers}
use Rattle.step_machine.specs.Names.{unpacked_stored, put_at, with_words, changed, unpacked_changes, with_store, unpacked_stores}

-- ---- registers that changed

pub changed-same : (first now : List ℕ) (n : ℕ) → get_or first n 0 ≡ get_or now n 0 → changed first now (n + 1) ≡ changed first now n
unfolding changed
changed-same first now n same =
    let next : n + 1 ≡ suc n = omega arith in
    ap (changed first now) next
    ∙ ap (λ b. changed first now n ++ (if b then [] else (n, slice_index now n) ∷ [])) (eq-eqb (get_or first n 0) (get_or now n 0) same)
    ∙ append-nil (changed first now n)

pub changed-other : (first now : List ℕ) (n : ℕ) → (get_or first n 0 ≡ get_or now n 0 → ⊥)
    → changed first now (n + 1) ≡ changed first now n ++ (n, get_or now n 0) ∷ []
unfolding changed
changed-other first now n other =
    let next : n + 1 ≡ suc n = omega arith in
    ap (changed first now) next
    ∙ ap (λ b. changed first now n ++ (if b then [] else (n, slice_index now n) ∷ [])) (ne_eqb (get_or first n 0) (get_or now n 0) other)

pub none_changed : (first now : List ℕ) → changed first now 0 ≡ []
unfolding changed
none_changed first now = refl

-- ---- elements taken one after the other

-- The first n elements were taken, and the words that are left are those after theirs: what is taken from there on
-- is the end of what is taken of all.
pub record AreTaken {X : Type 0} (taken : List X → List ℕ → List X × List ℕ) (n : ℕ) (first now : List X) (words left : List ℕ) : Type 0 where
  pub others : drop n now ≡ drop n first
  pub elements : (taken first words).0 ≡ take n now ++ (taken (drop n first) left).0
  pub rest : (taken first words).1 ≡ (taken (drop n first) left).1

-- ---- numbers of steps

pub changes_step : (n m : ℕ) (xs ws : List ℕ) → n ≡ suc m
    → unpacked_changes n xs ws ≡ unpacked_changes m (slice_set xs (slice_index ws 0) (slice_index (drop 1 ws) 0)) (drop 2 ws)
changes_step n m xs ws is = ap (λ (k : ℕ). unpacked_changes k xs ws) is

pub stores_step : (B M n m : ℕ) (ps : List Write) (ws : List ℕ) → n ≡ suc m
    → unpacked_stores B M n ps ws ≡ unpacked_stores B M m
    (with_store B M ps (write (slice_index ws 0) (slice_index (drop 1 ws) 0) (slice_index (drop 2 ws) 0)))
    (drop 3 ws)
stores_step B M n m ps ws is = ap (λ (k : ℕ). unpacked_stores B M k ps ws) is

pub stores_done : (B M n : ℕ) (ps : List Write) (ws : List ℕ) → n ≡ 0 → unpacked_stores B M n ps ws ≡ (ps, ws)
stores_done B M n ps ws is = ap (λ (k : ℕ). unpacked_stores B M k ps ws) is

-- ---- loops that append an element's words

pub packed_more : {X : Type 0} (f : X → List ℕ) (xs : List X) (i : ℕ) (x : X) (start before after : List ℕ) → i < length xs → x ≡ get_or xs i x
    → before ≡ start ++ flat_map f (take i xs) → after ≡ before ++ f x → after ≡ start ++ flat_map f (take (i + 1) xs)
packed_more f xs i x start before after within x_is so_far more =
    more ∙ ap (λ ws. ws ++ f x) so_far ∙ flat_map_more f start (take i xs) x
    ∙ ap (λ ys. start ++ flat_map f ys) (ap (λ y. take i xs ++ y ∷ []) x_is ∙ sym (take_more xs i x within))

pub all_more : {X : Type 0} (P : X → Type 0) (xs : List X) (i : ℕ) (x : X) → i < length xs → x ≡ get_or xs i x
    → All P (take i xs) → P x → All P (take (i + 1) xs)
all_more {X} P xs i x within x_is so_far here =
    let next : take (i + 1) xs ≡ take i xs ++ x ∷ [] = take_more xs i x within ∙ ap (λ y. take i xs ++ y ∷ []) (sym x_is) in
    subst (λ (ys : List X). All P ys) (sym next) (All-append P (take i xs) (x ∷ []) so_far (All-cons P x [] here (All-nil P)))

-- the same where the element is written there
pub all_written : {X : Type 0} (P : X → Type 0) (xs : List X) (i : ℕ) (x : X) → i < length xs → All P (take i xs) → P x → All P (take (i + 1) (set xs i x))
all_written {X} P xs i x within so_far here =
    subst (λ (ys : List X). All P ys) (sym (take_more_set xs i x within))
    (All-append P (take i xs) (x ∷ []) so_far (All-cons P x [] here (All-nil P)))

-- ---- loops that take elements

pub taken_none : {X : Type 0} (taken : List X → List ℕ → List X × List ℕ) (first : List X) (words : List ℕ) → AreTaken taken 0 first first words words
taken_none taken first words = record { others = refl; elements = refl; rest = refl }

module _ {X : Type 0} (taken : List X → List ℕ → List X × List ℕ) (one : X → List ℕ → X × List ℕ) (first now : List X) where
  pub taken_more : ((x : X) (xs : List X) (ws : List ℕ) → taken (x ∷ xs) ws ≡ ((one x ws).0 ∷ (taken xs (one x ws).1).0, (taken xs (one x ws).1).1))
      → (n : ℕ) (x y : X) (words left later : List ℕ) → n < length now → length now ≡ length first
      → x ≡ get_or now n x → y ≡ (one x left).0 → later ≡ (one x left).1
      → AreTaken taken n first now words left → AreTaken taken (n + 1) first (set now n y) words later
  taken_more unfolds n x y words left later within same x_is y_is later_is so_far =
      let after : drop (n + 1) now ≡ drop (n + 1) first = sym (drop-drop 1 n now) ∙ ap (drop 1) so_far.others ∙ drop-drop 1 n first in
      let others : drop (n + 1) (set now n y) ≡ drop (n + 1) first = drop-set-lt (n + 1) now n y (omega arith) ∙ after in
      let here : drop n first ≡ x ∷ drop (n + 1) first = sym so_far.others ∙ drop_more now n x within
      ∙ ap (λ (z : X). z ∷ drop (n + 1) now) (sym x_is) ∙ ap (λ (zs : List X). x ∷ zs) after in
      let both : taken (drop n first) left ≡ (y ∷ (taken (drop (n + 1) first) later).0, (taken (drop (n + 1) first) later).1) =
      ap (λ (zs : List X). taken zs left) here ∙ unfolds x (drop (n + 1) first) left
      ∙ (λ k. (y_is_back y_is k ∷ (taken (drop (n + 1) first) (later_back later_is k)).0, (taken (drop (n + 1) first) (later_back later_is k)).1)) in
      record {
        others = others;
        elements = so_far.elements ∙ ap (λ (p : List X × List ℕ). take n now ++ p.0) both
            ∙ sym (append_assoc (take n now) (y ∷ []) (taken (drop (n + 1) first) later).0)
            ∙ ap (λ (zs : List X). zs ++ (taken (drop (n + 1) first) later).0) (sym (take_more_set now n y within));
        rest = so_far.rest ∙ ap (λ (p : List X × List ℕ). p.1) both;
      }
    where
      y_is_back : y ≡ (one x left).0 → (one x left).0 ≡ y
      y_is_back e = sym e

      later_back : later ≡ (one x left).1 → (one x left).1 ≡ later
      later_back e = sym e

  pub taken_all : ((ws : List ℕ) → taken [] ws ≡ ([], ws)) → (n : ℕ) (words left : List ℕ) → length now ≤ n → length now ≡ length first
      → AreTaken taken n first now words left → (now ≡ (taken first words).0) × (left ≡ (taken first words).1)
  taken_all ends n words left all same so_far =
      let none : taken (drop n first) left ≡ ([], left) = ap (λ (zs : List X). taken zs left) (drop_all n first (omega arith)) ∙ ends left in (
        sym (so_far.elements ∙ ap (λ (p : List X × List ℕ). take n now ++ p.0) none ∙ append-nil (take n now) ∙ take_all n now all),
        sym (so_far.rest ∙ ap (λ (p : List X × List ℕ). p.1) none),
      )

-- ---- what is taken fits

store_fits : (B M : ℕ) (ps : List Write) (w : Write) → All (HasAddress M) ps → (b c d : Bool) → nat_le w.width (4 - w.addr % 4) ≡ c → nat_lt (w.addr / 4) M ≡ d
    → All (HasAddress M) (if b && c && d then ps ++ w ∷ [] else ps)
store_fits B M ps w all true true true in_word place =
    let few : w.width ≤ 4 - w.addr % 4 = leb-true w.width (4 - w.addr % 4) in_word in
    let there : w.addr / 4 < M = ltb-true (w.addr / 4) M place in
    All-append (HasAddress M) ps (w ∷ []) all (All-cons (HasAddress M) w [] (omega arith, omega arith) (All-nil (HasAddress M)))
store_fits B M ps w all true true false in_word place = all
store_fits B M ps w all true false d in_word place = all
store_fits B M ps w all false c d in_word place = all

stores_fit : (B M n : ℕ) (ps : List Write) (ws : List ℕ) → All (HasAddress M) ps → All (HasAddress M) (unpacked_stores B M n ps ws).0
stores_fit B M zero ps ws all = all
stores_fit B M (suc n) ps ws all =
    let w : Write = write (slice_index ws 0) (slice_index (drop 1 ws) 0) (slice_index (drop 2 ws) 0) in
    stores_fit B M n (with_store B M ps w) (drop 3 ws)
    (store_fits B M ps w all (nat_lt (length ps) B) (nat_le w.width (4 - w.addr % 4)) (nat_lt (w.addr / 4) M) refl
    refl)

pub buffer_fits : (B M : ℕ) (ws : List ℕ) → InMemory M (unpacked_buffer B M ws).0
buffer_fits B M ws = stores_fit B M (slice_index ws 0) [] (drop 1 ws) (All-nil (HasAddress M))

pub buffers_fit : (B M : ℕ) (bs : List (List Write)) (ws : List ℕ) → All (InMemory M) (unpacked_buffers B M bs ws).0
buffers_fit B M [] ws = All-nil (InMemory M)
buffers_fit B M (b ∷ bs) ws =
    All-cons (InMemory M) (unpacked_buffer B M ws).0 (unpacked_buffers B M bs (unpacked_buffer B M ws).1).0
    (buffer_fits B M ws) (buffers_fit B M bs (unpacked_buffer B M ws).1)

pub buffers_count : (B M : ℕ) (bs : List (List Write)) (ws : List ℕ) → length (unpacked_buffers B M bs ws).0 ≡ length bs
buffers_count B M [] ws = refl
buffers_count B M (b ∷ bs) ws = ap suc (buffers_count B M bs (unpacked_buffer B M ws).1)

pub words_count : (M : ℕ) (first ws : List ℕ) → length first ≡ M → length (with_words M first ws) ≡ M
words_count M first ws size =
    let few : length (take M ws) ≤ M = omega (arith, length-take M ws) in
    omega (arith, length-append (take M ws) (drop (length (take M ws)) first), length-drop (length (take M ws)) first)

pub harts_count : (vs : List HartView) (ws : List ℕ) → length (unpacked_harts vs ws).0 ≡ length vs
harts_count [] ws = refl
harts_count (v ∷ vs) ws = ap suc (harts_count vs (unpacked_hart v ws).1)

pub harts_words : (M : ℕ) (vs : List HartView) (ws : List ℕ) → All (λ (v : HartView). v.state.words ≡ M) vs
    → All (λ (v : HartView). v.state.words ≡ M) (unpacked_harts vs ws).0
harts_words M [] ws all = all
harts_words M (v ∷ vs) ws all =
    let P : HartView → Type 0 = λ x. x.state.words ≡ M in
    All-cons P (unpacked_hart v ws).0 (unpacked_harts vs (unpacked_hart v ws).1).0 (All-head P v vs all)
    (harts_words M vs (unpacked_hart v ws).1 (All-tail P v vs all))

pub harts_firsts : (M : ℕ) (vs : List HartView) (ws : List ℕ) → All (λ (v : HartView). v.first.words ≡ M) vs
    → All (λ (v : HartView). v.first.words ≡ M) (unpacked_harts vs ws).0
harts_firsts M [] ws all = all
harts_firsts M (v ∷ vs) ws all =
    let P : HartView → Type 0 = λ x. x.first.words ≡ M in
    All-cons P (unpacked_hart v ws).0 (unpacked_harts vs (unpacked_hart v ws).1).0 (All-head P v vs all)
    (harts_firsts M vs (unpacked_hart v ws).1 (All-tail P v vs all))

pub fit_unpacked_stored : (B M : ℕ) (s : Stored) (ws : List ℕ) → FitStored M s → FitStored M (unpacked_stored B M s ws)
fit_unpacked_stored B M s ws fit = record {
  words = words_count M s.first (unpacked_buffers B M s.buffers ws).1 fit.first;
  first = fit.first;
  pending = buffers_fit B M s.buffers ws;
}

pub fit_unpacked : (B M : ℕ) (c : Config) (ws : List ℕ) → Fit M c → Fit M (put_at B M c ws)
fit_unpacked B M c ws fit = record {
  buffers = buffers_count B M c.stored.buffers (unpacked_harts c.harts ws).1 ∙ fit.buffers ∙ sym (harts_count c.harts ws);
  harts = harts_words M c.harts ws fit.harts;
  firsts = harts_firsts M c.harts ws fit.firsts;
  stored = fit_unpacked_stored B M c.stored (unpacked_harts c.harts ws).1 fit.stored;
}
