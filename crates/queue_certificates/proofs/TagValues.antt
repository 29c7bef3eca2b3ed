-- What a party loads from a tag, and what the number that it stores there tells the other: of each way to tell what its tag satisfies,
-- and of that what a load leaves and what a store makes.
use Rattle.std.proofs.Common.{ℕ, zero, suc, ◌+◌, ◌-◌, ◌^◌, ◌%◌, ◌<◌, ◌≤◌, ◌≡◌, ◌==◌, Bool, true, false, if◌then◌else◌, Option, Some, None, List, ◌∷◌}
use Rattle.std.proofs.Common.{◌*◌, ◌/◌, ◌&&◌, inl, inr, refl, sym, ◌∙◌, ap, subst, arith}
use Rattle.std.specs.Prelude.{not, nat_lt, bit_and, bit_or}
use Rattle.std.specs.Int.{trailing_zeros, w32}
use Rattle.std.specs.Int.Bits.{and_shifted, or_zero_r}
use Rattle.std.proofs.lemmas.Nat.{shr_split, trailing_le, and_comm, and_or_apart, and_le_l}
use Rattle.std.proofs.lemmas.Bool.{and_parts, or_cases, eqb-true, eqb-false, eq-eqb, ne_eqb, not-true, leb-true, ltb-true}
use Rattle.std.proofs.Math.Nat.{mod-eq_of_lt, mod-mod, zero-mod, add-mod_right, pow-le-pow_right}
use Rattle.rv_decode.specs.declared.instruction.LoadOp.{LoadOp}
use Rattle.rv_decode.specs.declared.instruction.LoadOp.TheVariants as load_op
use Rattle.rv_decode.specs.declared.instruction.StoreOp.{StoreOp}
use Rattle.rv_decode.specs.declared.instruction.StoreOp.TheVariants as store_op
use Rattle.hart.specs.Effects.{extended, load_width, stored, store_width, sign_extended}
use Rattle.queue_parties.specs.Parties.{Party, the_sender, the_receiver, other}
use Rattle.slot_queue.specs.Queues.{Queue}
use Rattle.slots_that_tell.specs.Slots.{gap}
use Rattle.slots_that_tell.specs.Codecs.{bits_under, phase_bits}
use Rattle.queue_certificates.specs.{Form, form_value, number, plus, first_variable, InRanges, Bounds, KnownValue, any, linear}
use Rattle.queue_certificates.specs.{signed_word, Has, bounds, Bits, of_bits, bits_of, most_loaded, is_codec, Told, nothing, something, number_of}
use Rattle.queue_certificates.specs.{unknown, bits_are, bits_for, in_round, is_of_even_round, told_by, back_to, bits_above, value_told, told_value, other_value}
use Rattle.queue_certificates.specs.{is_positive, is_number, are_these, are_above, makes, hands_over}
use Rattle.queue_layouts.specs.Tagged.{slots_of, tells_by}
use Rattle.queue_layouts.specs.declared.tagged.Codec.{Codec}
use Rattle.queue_layouts.specs.declared.tagged.Codec.TheVariants as codec
use Rattle.queue_layouts.specs.declared.tagged.TaggedQueue.{TaggedQueue}
use Rattle.queue_certificates.proofs.Forms.{value-plus, value-number, value-first, same-value, round-up, mod-sum}
use Rattle.queue_certificates.proofs.Values.{has-bounds, of-bits-has, bits-have}
use Rattle.queue_certificates.proofs.KnownBits.{fewer-bits, signed-bits, low-bits-and}
use Rattle.queue_certificates.proofs.Results.{Gives, just-gives, or-up-to-gives, signed-of-bits, signed-fits}
use Rattle.queue_certificates.proofs.Stores.{stored-low, stored-whole}
use Rattle.queue_certificates.proofs.Steps.{extended-most}
use Rattle.queue_certificates.proofs.Rounds.{even-is}

-- ---- loads of 0, and of what isn't 0

nothing-extended : (op : LoadOp) → extended op 0 ≡ 0
nothing-extended load_op.Byte = refl
nothing-extended load_op.Half = refl
nothing-extended load_op.Word = refl
nothing-extended load_op.ByteUnsigned = refl
nothing-extended load_op.HalfUnsigned = refl

signed-some : (width x : ℕ) → 1 ≤ x → 1 ≤ signed_word width x
signed-some width x some = by (nat_lt (x + x) (256 ^ width))
  where
    by : (t : Bool) → 1 ≤ (if t then x else x + (2 ^ 32 - 256 ^ width))
    by true = some
    by false = omega (arith, some)

sign-some : (bits width x : ℕ) → 2 ^ (bits - 1) + 2 ^ (bits - 1) ≡ 256 ^ width → 2 ^ bits ≡ 256 ^ width → 256 ^ width ≤ 2 ^ 32
    → x < 256 ^ width → 1 ≤ x → (1 ≤ sign_extended bits x) × (sign_extended bits x ≤ 2 ^ 32 - 1)
sign-some bits width x half all small low some = grind (arith, signed-of-bits, signed-some, signed-fits)

some-extended : (op : LoadOp) (v : ℕ) → v < 256 ^ load_width op → 1 ≤ v → (1 ≤ extended op v) × (extended op v ≤ most_loaded op)
some-extended load_op.Byte v low some = sign-some 8 1 v refl refl (omega arith) low some
some-extended load_op.Half v low some = sign-some 16 2 v refl refl (omega arith) low some
some-extended other v low some = (some, omega (arith, low))

word-extended : (op : LoadOp) (v : ℕ) → load_width op ≡ 4 → extended op v ≡ v
word-extended load_op.Word v wide = refl
word-extended other v wide = absurd (omega (arith, wide))

some-number : (v : ℕ) → not (v == 0) ≡ true → 1 ≤ v
some-number v ok = by v (eqb-false v 0 (not-true (v == 0) ok))
  where
    by : (v : ℕ) → (v ≡ 0 → ⊥) → 1 ≤ v
    by zero none = absurd (none refl)
    by (suc v) none = omega arith

word-most : (op : LoadOp) (x : ℕ) → x ≤ most_loaded op → x < 2 ^ 32
word-most load_op.Byte x low = omega (arith, low)
word-most load_op.Half x low = omega (arith, low)
word-most load_op.Word x low = omega (arith, low)
word-most load_op.ByteUnsigned x low = omega (arith, low)
word-most load_op.HalfUnsigned x low = omega (arith, low)

-- ---- bits

bits-extended : (op : LoadOp) (v m b : ℕ) → v < 256 ^ load_width op → m < 256 ^ load_width op → bit_and v m ≡ b
    → bit_and (extended op v) (bit_or (extended op m) (bits_above op)) ≡ extended op b
bits-extended load_op.Word v m b low fits is = ap (bit_and v) (or_zero_r m) ∙ is
bits-extended load_op.ByteUnsigned v m b low fits is = and_comm v (bit_or m (2 ^ 32 - 2 ^ 8))
    ∙ and_or_apart v m (2 ^ 32 - 2 ^ 8) (and_shifted (2 ^ 24 - 1) 8 v low) ∙ and_comm m v ∙ is
bits-extended load_op.HalfUnsigned v m b low fits is = and_comm v (bit_or m (2 ^ 32 - 2 ^ 16))
    ∙ and_or_apart v m (2 ^ 32 - 2 ^ 16) (and_shifted (2 ^ 16 - 1) 16 v low) ∙ and_comm m v ∙ is
bits-extended load_op.Byte v m b low fits is =
    ap (bit_and (sign_extended 8 v)) (or_zero_r (sign_extended 8 m)) ∙ ap (λ z. bit_and z (sign_extended 8 m)) (word v low)
    ∙ ap (bit_and (signed_word 1 v)) (word m fits) ∙ signed-bits 7 (2 ^ 24 - 1) v m low fits
    ∙ sym (word (bit_and v m) (let le : bit_and v m ≤ v = and_le_l v m in omega (arith, le, low))) ∙ ap (sign_extended 8) is
  where
    word : (x : ℕ) → x < 256 ^ 1 → sign_extended 8 x ≡ signed_word 1 x
    word x small = signed-of-bits 8 1 x refl refl (omega arith) small
bits-extended load_op.Half v m b low fits is =
    ap (bit_and (sign_extended 16 v)) (or_zero_r (sign_extended 16 m)) ∙ ap (λ z. bit_and z (sign_extended 16 m)) (word v low)
    ∙ ap (bit_and (signed_word 2 v)) (word m fits) ∙ signed-bits 15 (2 ^ 16 - 1) v m low fits
    ∙ sym (word (bit_and v m) (let le : bit_and v m ≤ v = and_le_l v m in omega (arith, le, low))) ∙ ap (sign_extended 16) is
  where
    word : (x : ℕ) → x < 256 ^ 2 → sign_extended 16 x ≡ signed_word 2 x
    word x small = signed-of-bits 16 2 x refl refl (omega arith) small

extended-fits : (op : LoadOp) (v : ℕ) → v < 256 ^ load_width op → extended op v < 2 ^ 32
extended-fits op v low = word-most op (extended op v) (extended-most op v low)

stored-bits : (op : StoreOp) (x m : ℕ) → x < 2 ^ 32 → m < 256 ^ store_width op → bit_and (stored op x % 256 ^ store_width op) m ≡ bit_and x m
stored-bits store_op.Byte x m small fits = ap (λ z. bit_and z m) (let e : x % 2 ^ 8 % 256 ^ 1 ≡ x % 2 ^ 8 = omega arith in e) ∙ low-bits-and x m 8 fits
stored-bits store_op.Half x m small fits = ap (λ z. bit_and z m) (let e : x % 2 ^ 16 % 256 ^ 2 ≡ x % 2 ^ 16 = omega arith in e) ∙ low-bits-and x m 16 fits
stored-bits store_op.Word x m small fits = ap (λ z. bit_and z m) (let e : x % 256 ^ 4 ≡ x = omega (arith, small) in e)

module _ (queues : ℕ → Queue) (xs : List ℕ) where
  -- ---- what a tag of `width` bytes satisfies that tells

  abbrev IsMade : Told → (v : ℕ) → Type 0
  IsMade unknown v = ⊥
  IsMade nothing v = v ≡ 0
  IsMade something v = 1 ≤ v
  IsMade (number_of f) v = v ≡ form_value f xs % 2 ^ 32
  IsMade (bits_are m b) v = bit_and v m ≡ b

  abbrev IsTold : Told → (v : ℕ) → Type 0
  IsTold unknown v = Unit {0}
  IsTold t v = IsMade t v

  abbrev Fits : (width : ℕ) → Told → Type 0
  Fits width unknown = Unit {0}
  Fits width nothing = Unit {0}
  Fits width something = Unit {0}
  Fits width (number_of f) = width ≡ 4
  Fits width (bits_are m b) = m < 256 ^ width

  -- the positions that a way to tell doesn't tell apart
  abbrev AreAlike : (size : ℕ) → Codec → (m n : ℕ) → Type 0
  AreAlike size codec.Zero m n = Unit {0}
  AreAlike size codec.Number m n = m % 2 ^ 32 ≡ n % 2 ^ 32
  AreAlike size (codec.Bit mask free full) m n = Unit {0}
  AreAlike size (codec.Phases mask free full odd_free odd_full) m n = m % (2 * size) ≡ n % (2 * size)

  same-alike : (size : ℕ) (c : Codec) (m n : ℕ) → m ≡ n → AreAlike size c m n
  same-alike size codec.Zero m n same = tt
  same-alike size codec.Number m n same = ap (λ k. k % 2 ^ 32) same
  same-alike size (codec.Bit mask free full) m n same = tt
  same-alike size (codec.Phases mask free full odd_free odd_full) m n same = ap (λ k. k % (2 * size)) same

  one-more : (f : Form) (k : ℕ) → form_value f xs % 2 ^ 32 ≡ k % 2 ^ 32 → form_value (plus f (number 1)) xs % 2 ^ 32 ≡ (k + 1) % 2 ^ 32
  one-more f k level = ap (λ m. m % 2 ^ 32) (value-plus f (number 1) xs ∙ ap (λ m. form_value f xs + m) (value-number 1 xs))
      ∙ mod-sum (form_value f xs) 1 k 1 (2 ^ 32) level refl

  -- ---- bits, and what turns with the rounds

  bits-fit : (width mask free full : ℕ) (p : Party) → mask < 256 ^ width → Fits width (bits_for mask free full p)
  bits-fit width mask free full the_sender small = small
  bits-fit width mask free full the_receiver small = small

  bits-told : (mask free full : ℕ) (p : Party) (k v : ℕ) → bits_under mask free full p k v ≡ true → IsTold (bits_for mask free full p) v
  bits-told mask free full the_sender k v tells = eqb-true (bit_and v mask) free tells
  bits-told mask free full the_receiver k v tells = eqb-true (bit_and v mask) full tells

  bits-tell : (mask free full : ℕ) (p : Party) (k v : ℕ) → IsMade (bits_for mask free full p) v → bits_under mask free full p k v ≡ true
  bits-tell mask free full the_sender k v is = eq-eqb (bit_and v mask) free is
  bits-tell mask free full the_receiver k v is = eq-eqb (bit_and v mask) full is

  round-fits : (width : ℕ) (o : Option Bool) (even odd : Told) → Fits width even → Fits width odd → Fits width (in_round o even odd)
  round-fits width None even odd of_even of_odd = tt
  round-fits width (Some true) even odd of_even of_odd = of_even
  round-fits width (Some false) even odd of_even of_odd = of_odd

  told-fits : (rs : List (Option ℕ)) (q : TaggedQueue) (c : Codec) (p : Party) (f : Form) → is_codec q c ≡ true → Fits q.tag_width (told_by rs q.size c p f)
  told-fits rs q codec.Zero the_sender f ok = tt
  told-fits rs q codec.Zero the_receiver f ok = tt
  told-fits rs q codec.Number the_sender f ok = eqb-true q.tag_width 4 (and_parts (q.tag_width == 4) (not (q.size % 2 ^ 32 == 1)) ok).0
  told-fits rs q codec.Number the_receiver f ok = eqb-true q.tag_width 4 (and_parts (q.tag_width == 4) (not (q.size % 2 ^ 32 == 1)) ok).0
  told-fits rs q (codec.Bit mask free full) p f ok = bits-fit q.tag_width mask free full p
      (ltb-true mask (256 ^ q.tag_width) (and_parts (nat_lt mask (256 ^ q.tag_width)) (not (free == full)) ok).0)
  told-fits rs q (codec.Phases mask free full odd_free odd_full) p f ok =
      let fits = nat_lt mask (256 ^ q.tag_width) in
      let p3 = and_parts (fits && not (free == full) && not (full == odd_free) && not (odd_free == odd_full)) (not (odd_full == free)) ok in
      let p2 = and_parts (fits && not (free == full) && not (full == odd_free)) (not (odd_free == odd_full)) p3.0 in
      let p1 = and_parts (fits && not (free == full)) (not (full == odd_free)) p2.0 in
      let small : mask < 256 ^ q.tag_width = ltb-true mask (256 ^ q.tag_width) (and_parts fits (not (free == full)) p1.0).0 in
      round-fits q.tag_width (is_of_even_round rs q.size f) (bits_for mask free full p) (bits_for mask odd_free odd_full p)
      (bits-fit q.tag_width mask free full p small) (bits-fit q.tag_width mask odd_free odd_full p small)

  module _ (rs : List (Option ℕ)) (ranges : InRanges rs xs) where
    told-is : (size : ℕ) (c : Codec) (p : Party) (f : Form) (k v : ℕ) → AreAlike size c (form_value f xs) k → tells_by size c p k v ≡ true
        → IsTold (told_by rs size c p f) v
    told-is size codec.Zero the_sender f k v alike tells = eqb-true v 0 tells
    told-is size codec.Zero the_receiver f k v alike tells = some-number v tells
    told-is size codec.Number the_sender f k v alike tells = eqb-true v (k % 2 ^ 32) tells ∙ sym alike
    told-is size codec.Number the_receiver f k v alike tells = eqb-true v ((k + 1) % 2 ^ 32) tells ∙ sym (one-more f k alike)
    told-is size (codec.Bit mask free full) p f k v alike tells = bits-told mask free full p k v tells
    told-is size (codec.Phases mask free full odd_free odd_full) p f k v alike tells = by (is_of_even_round rs size f) refl
      where
        of-round : (t : Bool) → (if t then bits_under mask free full p k v else bits_under mask odd_free odd_full p k v) ≡ true
            → IsTold (in_round (Some t) (bits_for mask free full p) (bits_for mask odd_free odd_full p)) v
        of-round true tells = bits-told mask free full p k v tells
        of-round false tells = bits-told mask odd_free odd_full p k v tells

        by : (o : Option Bool) → is_of_even_round rs size f ≡ o → IsTold (in_round o (bits_for mask free full p) (bits_for mask odd_free odd_full p)) v
        by None is = tt
        by (Some t) is = of-round t (subst (λ u. (if u then bits_under mask free full p k v else bits_under mask odd_free odd_full p k v) ≡ true)
            (even-is rs xs ranges size f k t alike is) tells)

    is-told : (size : ℕ) (c : Codec) (p : Party) (f : Form) (k v : ℕ) → AreAlike size c (form_value f xs) k → IsMade (told_by rs size c p f) v
        → tells_by size c p k v ≡ true
    is-told size codec.Zero the_sender f k v alike is = eq-eqb v 0 is
    is-told size codec.Zero the_receiver f k v alike is = ap not (ne_eqb v 0 (λ none. omega (arith, is, none)))
    is-told size codec.Number the_sender f k v alike is = eq-eqb v (k % 2 ^ 32) (is ∙ alike)
    is-told size codec.Number the_receiver f k v alike is = eq-eqb v ((k + 1) % 2 ^ 32) (is ∙ one-more f k alike)
    is-told size (codec.Bit mask free full) p f k v alike is = bits-tell mask free full p k v is
    is-told size (codec.Phases mask free full odd_free odd_full) p f k v alike is = by (is_of_even_round rs size f) refl is
      where
        of-round : (t : Bool) → IsMade (in_round (Some t) (bits_for mask free full p) (bits_for mask odd_free odd_full p)) v
            → (if t then bits_under mask free full p k v else bits_under mask odd_free odd_full p k v) ≡ true
        of-round true is = bits-tell mask free full p k v is
        of-round false is = bits-tell mask odd_free odd_full p k v is

        by : (o : Option Bool) → is_of_even_round rs size f ≡ o → IsMade (in_round o (bits_for mask free full p) (bits_for mask odd_free odd_full p)) v
            → phase_bits size mask free full odd_free odd_full p k v ≡ true
        by None is made = absurd made
        by (Some t) is made = subst (λ u. (if u then bits_under mask free full p k v else bits_under mask odd_free odd_full p k v) ≡ true)
            (sym (even-is rs xs ranges size f k t alike is)) (of-round t made)

  -- ---- loads

  value-gives : (t : Told) (width : ℕ) (op : LoadOp) (v : ℕ) → load_width op ≡ width → v < 256 ^ load_width op → Fits width t → IsTold t v
      → Gives queues xs (value_told op t) (extended op v)
  value-gives unknown width op v whole low fits any_is = or-up-to-gives queues xs (most_loaded op) (extended op v) any (extended-most op v low) tt
  value-gives nothing width op v whole low fits none = just-gives queues xs (linear (number 0)) (extended op v) (ap (extended op) none ∙ nothing-extended op
      ∙ sym (ap (λ m. m % 2 ^ 32) (value-number 0 xs)))
  value-gives something width op v whole low fits some =
      let e = some-extended op v low some in
      let fits : extended op v < 2 ^ 32 = word-most op (extended op v) e.1 in (
        extended op v - 1,
        omega (arith, e.1),
        sym (ap (λ m. m % 2 ^ 32) (value-plus (number 1) first_variable ((extended op v - 1) ∷ xs)
            ∙ ap (λ m. m + form_value first_variable ((extended op v - 1) ∷ xs)) (value-number 1 ((extended op v - 1) ∷ xs))
            ∙ ap (λ m. 1 + m) (value-first (extended op v - 1) xs)) ∙ mod-eq_of_lt (omega (arith, fits)) ∙ (omega (arith, e.0))),
      )
  value-gives (number_of f) width op v whole low four is =
      just-gives queues xs (linear f) (extended op v) (word-extended op v (whole ∙ four) ∙ is)
  value-gives (bits_are m b) width op v whole low fits is =
      just-gives queues xs (of_bits (bit_or (extended op m) (bits_above op)) (extended op b)) (extended op v)
      (of-bits-has queues xs (bit_or (extended op m) (bits_above op)) (extended op b) (extended op v) (extended-fits op v low)
      (bits-extended op v m b low (subst (λ n. m < 256 ^ n) (sym whole) fits) is))

  -- ---- stores

  -- the number is the same as a form's
  known-number : (m : ℕ) (w : KnownValue) (g : Form) (x : ℕ) → is_number m w g ≡ true → Has queues xs w x
      → (f : Form) × (x ≡ form_value f xs % 2 ^ 32) × (form_value f xs % m ≡ form_value g xs % m)
  known-number m (linear f) g x ok has = (f, has, same-value m f g xs ok)
  known-number m other g x ok has = absurd (cc)

  module _ (width : ℕ) (rs : List (Option ℕ)) (ranges : InRanges rs xs) (op : StoreOp) (x : ℕ) (w : KnownValue)
      (whole : store_width op ≡ width) (has : Has queues xs w x) where
    stored-as : (g : Form) → is_number (256 ^ width) w g ≡ true → stored op x % 256 ^ width ≡ form_value g xs % 256 ^ width
    stored-as g ok = grind (arith, known-number, stored-low, mod-mod)

    made : (t : Told) → Fits width t → makes rs width t w ≡ true → IsMade t (stored op x % 256 ^ width)
    made unknown fits ok = absurd (cc)
    made nothing fits ok = stored-as (number 0) ok ∙ ap (λ m. m % 256 ^ width) (value-number 0 xs) ∙ zero-mod (256 ^ width)
    made something fits ok = positive (bounds rs w) refl ok
      where
        positive : (b : Option Bounds) → bounds rs w ≡ b → is_positive width b ≡ true → 1 ≤ stored op x % 256 ^ width
        positive None is ok = absurd (cc)
        positive (Some b) is ok = grind (arith, and_parts, has-bounds, leb-true, ltb-true, stored-whole, mod-eq_of_lt)
    made (number_of f) four ok =
        let all : 256 ^ width ≡ 2 ^ 32 = ap (λ m. 256 ^ m) four in
        stored-as f (subst (λ m. is_number m w f ≡ true) (sym all) ok) ∙ ap (λ m. form_value f xs % m) all
    made (bits_are m b) fits ok = elim (or_cases (are_these (bits_of w) m b) (are_above (bounds rs w) m b) ok) [
      | inl these ↦ known-bits (bits_of w) refl these
      | inr above ↦ low-bits (bounds rs w) refl above
    ]
      where
        -- of the word, since a tag has no more bits
        of-word : x < 2 ^ 32 → bit_and x m ≡ b → bit_and (stored op x % 256 ^ width) m ≡ b
        of-word small same = ap (λ n. bit_and (stored op x % 256 ^ n) m) (sym whole)
            ∙ stored-bits op x m small (subst (λ n. m < 256 ^ n) (sym whole) fits) ∙ same

        known-bits : (o : Option Bits) → bits_of w ≡ o → are_these o m b ≡ true → bit_and (stored op x % 256 ^ width) m ≡ b
        known-bits None is ok = absurd (cc)
        known-bits (Some k) is ok =
            let known = bits-have queues xs w x k is has in
            let parts = and_parts (bit_and k.mask m == m) (bit_and k.bits m == b) ok in
            of-word known.0 (fewer-bits x k.mask m (eqb-true (bit_and k.mask m) m parts.0)
            ∙ ap (λ y. bit_and y m) known.1 ∙ eqb-true (bit_and k.bits m) b parts.1)

        low-bits : (o : Option Bounds) → bounds rs w ≡ o → are_above o m b ≡ true → bit_and (stored op x % 256 ^ width) m ≡ b
        low-bits None is ok = absurd (cc)
        low-bits (Some k) is ok =
            let t = trailing_zeros w32 m in
            let parts = and_parts ((b == 0) && nat_lt k.high (2 ^ t)) (m % 2 ^ t == 0) ok in
            let of-b = and_parts (b == 0) (nat_lt k.high (2 ^ t)) parts.0 in
            let between = has-bounds queues rs xs w x k ranges is has in
            let under : k.high < 2 ^ t = ltb-true k.high (2 ^ t) of-b.1 in
            let small : x < 2 ^ t = omega (arith, between.1, under) in
            let most : 2 ^ t ≤ 2 ^ 32 = pow-le-pow_right {n = 2} (omega arith) {i = t} {j = 32} (trailing_le 32 m) in
            let multiple : m / 2 ^ t * 2 ^ t ≡ m = (let e : m / 2 ^ t * 2 ^ t + m % 2 ^ t ≡ m = shr_split m t in
            let none : m % 2 ^ t ≡ 0 = eqb-true (m % 2 ^ t) 0 parts.1 in omega (arith, e, none)) in
            of-word (omega (arith, small, most)) (and_comm x m ∙ ap (λ z. bit_and z x) (sym multiple) ∙ and_shifted (m / 2 ^ t) t x small
            ∙ sym (eqb-true b 0 of-b.0))

  -- ---- of a party whose own count is n

  module _ (own : Form) (n : ℕ) (is : n ≡ form_value own xs) where
    value-ahead : (j : ℕ) → form_value (plus own (number j)) xs ≡ n + j
    value-ahead j = value-plus own (number j) xs ∙ ap (λ m. form_value own xs + m) (value-number j xs) ∙ ap (λ m. m + j) (sym is)

    module _ (q : TaggedQueue) (rs : List (Option ℕ)) (ranges : InRanges rs xs) (fine : is_codec q q.codec ≡ true) where
      module _ (p : Party) (op : LoadOp) (j v : ℕ) (whole : load_width op ≡ q.tag_width) (low : v < 256 ^ load_width op) where
        -- where it tells the party of the position
        pub told-gives : (slots_of q).tells p (n + j) v ≡ true → Gives queues xs (told_value rs q q.codec p op own j) (extended op v)
        told-gives tells =
            let f = plus own (number j) in
            value-gives (told_by rs q.size q.codec p f) q.tag_width op v whole low (told-fits rs q q.codec p f fine)
            (told-is rs ranges q.size q.codec p f (n + j) v (same-alike q.size q.codec (form_value f xs) (n + j) (value-ahead j)) tells)

        -- where it tells the other of its own of that slot
        pub other-gives : (i : ℕ) → i + gap (slots_of q) (other p) ≡ n + j → (slots_of q).tells (other p) i v ≡ true
            → Gives queues xs (other_value rs q q.codec p op own j) (extended op v)
        other-gives i at tells =
            let f = plus own (number (j + back_to q q.codec (other p))) in
            value-gives (told_by rs q.size q.codec (other p) f) q.tag_width op v whole low (told-fits rs q q.codec (other p) f fine)
            (told-is rs ranges q.size q.codec (other p) f i v (subst (λ m. AreAlike q.size q.codec m i)
            (sym (value-ahead (j + back_to q q.codec (other p)))) (back q.codec p i at)) tells)
          where
            exact : (i : ℕ) → i + 0 ≡ n + j → n + (j + 0) ≡ i
            exact i at = omega (arith, at)

            back : (c : Codec) (p : Party) (i : ℕ) → i + gap (slots_of q) (other p) ≡ n + j → AreAlike q.size c (n + (j + back_to q c (other p))) i
            back codec.Zero p i at = tt
            back codec.Number the_sender i at = (let e : n + (j + (2 ^ 32 - q.size % 2 ^ 32)) ≡ i + q.size + (2 ^ 32 - q.size % 2 ^ 32) = omega (arith, at) in
                ap (λ m. m % 2 ^ 32) e) ∙ round-up (2 ^ 32) i q.size (omega arith)
            back codec.Number the_receiver i at = ap (λ m. m % 2 ^ 32) (exact i at)
            back (codec.Bit mask free full) p i at = tt
            back (codec.Phases mask free full odd_free odd_full) the_sender i at =
                (let e : n + (j + q.size) ≡ i + 2 * q.size = omega (arith, at) in ap (λ m. m % (2 * q.size)) e) ∙ add-mod_right i (2 * q.size)
            back (codec.Phases mask free full odd_free odd_full) the_receiver i at = ap (λ m. m % (2 * q.size)) (exact i at)

      -- of a number that hands the own position over
      pub store-tells : (op : StoreOp) (x : ℕ) (w : KnownValue) → store_width op ≡ q.tag_width → Has queues xs w x → (p : Party)
          → hands_over rs q q.codec p own w ≡ true → (slots_of q).tells (other p) (n + gap (slots_of q) p) (stored op x % 256 ^ q.tag_width) ≡ true
      store-tells op x w whole has p ok =
          let g = gap (slots_of q) p in
          let f = plus own (number g) in
          is-told rs ranges q.size q.codec (other p) f (n + g) (stored op x % 256 ^ q.tag_width)
          (same-alike q.size q.codec (form_value f xs) (n + g) (value-ahead g))
          (made q.tag_width rs ranges op x w whole has (told_by rs q.size q.codec (other p) f) (told-fits rs q q.codec (other p) f fine) ok)
