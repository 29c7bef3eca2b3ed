-- Words are read again from their bytes.
use Rattle.std.proofs.Common.{◌≡◌, ℕ, ◌+◌, ◌*◌, ◌/◌, ◌%◌, ◌<◌, ◌≤◌, Bool, true, false, List, [], ◌∷◌, ◌++◌, length, get_or, drop, suc, refl, append_assoc}
use Rattle.std.proofs.Common.{append-nil, add-one, drop-cons, sym, ◌∙◌, ap, arith}
use Rattle.std.specs.Prelude.{All, nat_lt}
use Rattle.std.proofs.lemmas.List.{drop_all}
use Rattle.std.proofs.lemmas.List.Elements.{All-head, All-tail}
use Rattle.surveys.specs.inner.Compact.{bytes_of, with_seven_bits, wide_bytes, word_bytes, words_from, words_in}
use Rattle.rv_decode.specs.Word.{IsWord}

-- seven bits more
pub joined-is : (w v b : ℕ) → w < 33554432 → v < 128 → b % 128 ≡ v → with_seven_bits w b ≡ w * 128 + v
unfolding with_seven_bits
joined-is w v b small seven is = grind (arith)

pub read_small : (w b : ℕ) (bs : List ℕ) → b < 128 → words_from w (b ∷ bs) ≡ with_seven_bits w b ∷ words_from 0 bs
unfolding words_from
read_small w b bs small = grind (arith)

pub read_large : (w b : ℕ) (bs : List ℕ) → 128 ≤ b → words_from w (b ∷ bs) ≡ words_from (with_seven_bits w b) bs
unfolding words_from
read_large w b bs large = grind (arith)

-- a byte that says that more follow
onward : (w v n : ℕ) (bs : List ℕ) → w < 33554432 → v < 128 → n ≡ w * 128 + v → words_from w ((128 + v) ∷ bs) ≡ words_from n bs
onward w v n bs small seven n_is =
    read_large w (128 + v) bs (omega arith)
    ∙ ap (λ (m : ℕ). words_from m bs) (joined-is w v (128 + v) small seven (omega (arith, seven)) ∙ sym n_is)

last : (w v n : ℕ) (bs : List ℕ) → w < 33554432 → v < 128 → n ≡ w * 128 + v → words_from w (v ∷ bs) ≡ n ∷ words_from 0 bs
last w v n bs small seven n_is =
    read_small w v bs seven ∙ ap (λ (m : ℕ). m ∷ words_from 0 bs) (joined-is w v v small seven (omega (arith, seven)) ∙ sym n_is)

wide_back : (w : ℕ) (rest : List ℕ) → IsWord w → words_from 0 (wide_bytes w ++ rest) ≡ w ∷ words_from 0 rest
wide_back w rest is =
    let b = w / 128 in
    let c = b / 128 in
    let d = c / 128 in
    let e = d / 128 in
    let b_small : b < 33554432 = omega (arith, is) in
    let c_small : c < 262144 = omega (arith, b_small) in
    let d_small : d < 2048 = omega (arith, c_small) in
    let e_small : e < 16 = omega (arith, d_small) in
    onward 0 e e ((128 + d % 128) ∷ (128 + c % 128) ∷ (128 + b % 128) ∷ (w % 128) ∷ rest) (omega arith) (omega (arith, e_small)) (omega arith)
    ∙ onward e (d % 128) d ((128 + c % 128) ∷ (128 + b % 128) ∷ (w % 128) ∷ rest) (omega (arith, e_small)) (omega arith) (omega arith)
    ∙ onward d (c % 128) c ((128 + b % 128) ∷ (w % 128) ∷ rest) (omega (arith, d_small)) (omega arith) (omega arith)
    ∙ onward c (b % 128) b ((w % 128) ∷ rest) (omega (arith, c_small)) (omega arith) (omega arith)
    ∙ last b (w % 128) w rest b_small (omega arith) (omega arith)

small_back : (w : ℕ) (rest : List ℕ) → w < 128 → words_from 0 (w ∷ rest) ≡ w ∷ words_from 0 rest
small_back w rest small = last 0 w w rest (omega arith) small (omega arith)

word_bytes-small : (w : ℕ) → w < 128 → word_bytes w ≡ w ∷ []
unfolding word_bytes
word_bytes-small w small = grind (arith)

word_bytes-wide : (w : ℕ) → 128 ≤ w → word_bytes w ≡ wide_bytes w
unfolding word_bytes
word_bytes-wide w wide = grind (arith)

by_size : (w : ℕ) (rest : List ℕ) (t : Bool) → nat_lt w 128 ≡ t → IsWord w → words_from 0 (word_bytes w ++ rest) ≡ w ∷ words_from 0 rest
by_size w rest true test is =
    let small : w < 128 = grind (arith, test) in
    ap (λ (bs : List ℕ). words_from 0 (bs ++ rest)) (word_bytes-small w small) ∙ small_back w rest small
by_size w rest false test is =
    let wide : 128 ≤ w = grind (arith, test) in
    ap (λ (bs : List ℕ). words_from 0 (bs ++ rest)) (word_bytes-wide w wide) ∙ wide_back w rest is

pub word_back : (w : ℕ) (rest : List ℕ) → IsWord w → words_from 0 (word_bytes w ++ rest) ≡ w ∷ words_from 0 rest
word_back w rest is = by_size w rest (nat_lt w 128) refl is

none_in : (w : ℕ) → words_from w [] ≡ []
unfolding words_from
none_in w = refl

pub words-back : (ws : List ℕ) → All IsWord ws → words_in (bytes_of ws) ≡ ws
words-back [] all = none_in 0
words-back (w ∷ ws) all =
    word_back w (bytes_of ws) (All-head IsWord w ws all)
    ∙ ap (λ (vs : List ℕ). w ∷ vs) (words-back ws (All-tail IsWord w ws all))

-- ---- a loop over bytes

small_next : (w i : ℕ) (bs : List ℕ) → i < length bs → get_or bs i 0 < 128
    → words_from w (drop i bs) ≡ with_seven_bits w (get_or bs i 0) ∷ words_from 0 (drop (i + 1) bs)
small_next w i bs within small =
    ap (words_from w) (drop-cons bs i 0 within) ∙ read_small w (get_or bs i 0) (drop (suc i) bs) small
    ∙ ap (λ (n : ℕ). with_seven_bits w (get_or bs i 0) ∷ words_from 0 (drop n bs)) (sym (add-one i))

large_next : (w i : ℕ) (bs : List ℕ) → i < length bs → 128 ≤ get_or bs i 0
    → words_from w (drop i bs) ≡ words_from (with_seven_bits w (get_or bs i 0)) (drop (i + 1) bs)
large_next w i bs within large =
    ap (words_from w) (drop-cons bs i 0 within) ∙ read_large w (get_or bs i 0) (drop (suc i) bs) large
    ∙ ap (λ (n : ℕ). words_from (with_seven_bits w (get_or bs i 0)) (drop n bs)) (sym (add-one i))

pub small_more : (w i : ℕ) (bs out new : List ℕ) → i < length bs → get_or bs i 0 < 128 → new ≡ out ++ with_seven_bits w (get_or bs i 0) ∷ []
    → new ++ words_from 0 (drop (i + 1) bs) ≡ out ++ words_from w (drop i bs)
small_more w i bs out new within small pushed =
    ap (λ (ws : List ℕ). ws ++ words_from 0 (drop (i + 1) bs)) pushed
    ∙ append_assoc out (with_seven_bits w (get_or bs i 0) ∷ []) (words_from 0 (drop (i + 1) bs))
    ∙ ap (λ (ws : List ℕ). out ++ ws) (sym (small_next w i bs within small))

pub large_more : (w i : ℕ) (bs out : List ℕ) → i < length bs → 128 ≤ get_or bs i 0
    → out ++ words_from (with_seven_bits w (get_or bs i 0)) (drop (i + 1) bs) ≡ out ++ words_from w (drop i bs)
large_more w i bs out within large = ap (λ (ws : List ℕ). out ++ ws) (sym (large_next w i bs within large))

pub none_left : (w i : ℕ) (bs out : List ℕ) → length bs ≤ i → out ++ words_from w (drop i bs) ≡ out
none_left w i bs out past = ap (λ (ws : List ℕ). out ++ words_from w ws) (drop_all i bs past) ∙ ap (λ (ws : List ℕ). out ++ ws) (none_in w) ∙ append-nil out
