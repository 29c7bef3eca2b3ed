-- Registers after a write, lines of code in their place, and the pc after a line.
use Rattle.std.proofs.Common.{negsuc, ◌+ℤ◌, add-zero}
use Rattle.std.proofs.lemmas.Int.{ints}
use Rattle.std.proofs.lemmas.List.{get_or-set_same, get_or-set_other}
use Rattle.spsc_queue.proofs.Common.{ℕ, pos, suc, ◌+◌, ◌-◌, ◌*◌, ◌^◌, ◌<◌, ◌≤◌, ◌≡◌, ◌≢◌, Bool, true, false, List, [], ◌∷◌, ◌++◌, length, Some, refl, ◌∙◌}
use Rattle.spsc_queue.proofs.Common.{ap, arith, length-append, slice_index, slice_set, map, slice_get, next_pc, address, Kind, lamport, fastforward, Listed}
use Rattle.spsc_queue.proofs.Common.{words_of, lines_of, listing_of, StandsIn, word-plus}
use Rattle.rv_decode.specs.Meaning.{meaning}
use Rattle.hart.specs.Effects.{word}
use Rattle.spsc_queue.specs.Calls.{Party, the_sender, the_receiver}

pub set-same : (xs : List ℕ) (i v : ℕ) → i < length xs → slice_index (slice_set xs i v) i ≡ v
set-same xs i v below = get_or-set_same xs i v 0 below

pub set-other : (xs : List ℕ) (i j v : ℕ) → j ≢ i → slice_index (slice_set xs i v) j ≡ slice_index xs j
set-other xs i j v other = get_or-set_other xs i j v 0 other

-- by the decoder's own function, on numerals
pub decoded : (K : Kind) (caches : Bool) (p : Party) → map meaning (words_of (listing_of K caches p)) ≡ map Some (lines_of (listing_of K caches p))
unfolding meaning
decoded lamport false the_sender = refl
decoded lamport true the_sender = refl
decoded lamport caches the_receiver = refl
decoded fastforward caches the_sender = refl
decoded fastforward caches the_receiver = refl

-- all of which have 13 lines at least, and 17 at most
pub thirteen : (K : Kind) (caches : Bool) (p : Party) → (13 ≤ length (words_of (listing_of K caches p))) × (length (words_of (listing_of K caches p)) ≤ 17)
thirteen lamport false the_sender = (omega arith, omega arith)
thirteen lamport true the_sender = (omega arith, omega arith)
thirteen lamport caches the_receiver = (omega arith, omega arith)
thirteen fastforward caches the_sender = (omega arith, omega arith)
thirteen fastforward caches the_receiver = (omega arith, omega arith)

map-joined : {X : Type 0} (f : ℕ → X) (xs ys : List ℕ) → map f (xs ++ ys) ≡ map f xs ++ map f ys
map-joined f [] ys = refl
map-joined f (x ∷ xs) ys = ap (λ zs. f x ∷ zs) (map-joined f xs ys)

past : {X : Type 0} (f : ℕ → X) (front rest : List ℕ) (j : ℕ) → slice_get (map f (front ++ rest)) (length front + j) ≡ slice_get (map f rest) j
past f [] rest j = let same : 0 + j ≡ j = omega arith in ap (slice_get (map f rest)) same
past f (x ∷ front) rest j =
    let place : suc (length front) + j ≡ suc (length front + j) = omega arith in
    ap (slice_get (f x ∷ map f (front ++ rest))) place ∙ past f front rest j

-- line j of a function that stands in a code
pub code_line : (code : List ℕ) (n : ℕ) (listing : List Listed) (st : StandsIn code n listing)
    → map meaning (words_of listing) ≡ map Some (lines_of listing) → (j : ℕ)
    → slice_get (map meaning code) (n + j) ≡ slice_get (map Some (lines_of listing) ++ map meaning st.back) j
code_line code n listing st decoded j = grind (arith, slice_get, words_of, past, map-joined, decoded)

pub code_room : (code : List ℕ) (n : ℕ) (listing : List Listed) → StandsIn code n listing → n + length (words_of listing) ≤ length code
code_room code n listing st = grind (arith, words_of, length-append)

-- the pc of the next line, and of a line further on
pub next_line : (pc j : ℕ) → pc ≡ 4 * j → 4 * j + 4 < 2 ^ 32 → next_pc pc ≡ 4 * (j + 1)
next_line pc j at small = omega (arith, at, small)

pub line_on : (pc j k : ℕ) → pc ≡ 4 * j → 4 * j + 4 * k < 2 ^ 32 → address pc (pos (4 * k)) ≡ 4 * (j + k)
line_on pc j k at small = word-plus pc (4 * k) (omega (arith, at, small)) ∙ omega (arith, at)

-- and of a line further back
pub line_back : (pc j k d : ℕ) → pc ≡ 4 * j → 4 * j < 2 ^ 32 → d + 1 ≡ 4 * k → k ≤ j → address pc (negsuc d) ≡ 4 * (j - k)
line_back pc j k d at small is_d low = word-back pc (4 * (j - k)) d (omega (arith, at, is_d, low)) (omega (arith, at, small))
  where
    word-back : (a y d : ℕ) → a ≡ y + (d + 1) → a < 2 ^ 32 → word (pos a +ℤ negsuc d) ≡ y
    word-back a y d is small = grind (arith, pos, negsuc, ints, word-plus, add-zero, is, small)
