-- A number that is known to be a field's, and the fields that are right after a store.
use Rattle.std.proofs.Common.{ℕ, ◌+◌, ◌-◌, ◌*◌, ◌/◌, ◌%◌, ◌^◌, ◌<◌, ◌≤◌, ◌≡◌, ◌≢◌, ◌==◌, ◌&&◌, ◌⊎◌, inl, inr, if◌then◌else◌, Bool, true, false, Option, Some}
use Rattle.std.proofs.Common.{None, List, [], ◌∷◌, length, get_or, refl, sym, ◌∙◌, ap, subst, arith}
use Rattle.std.specs.Prelude.{nat_le, nat_lt}
use Rattle.std.specs.List.{list_all, list_any}
use Rattle.std.specs.Int.{byte_at}
use Rattle.std.proofs.lemmas.Bool.{and_parts, or_cases, eqb-true, eqb-false, leb-true, ltb-true, cases_lt, cases_eq}
use Rattle.std.proofs.lemmas.List.{get_or_past}
use Rattle.std.proofs.lemmas.List.Elements.{All-get_or}
use Rattle.std.proofs.lemmas.List.Sums.{AllPass-from_list_all}
use Rattle.std.proofs.lemmas.Nat.{mul-le, le-div}
use Rattle.std.proofs.Math.Nat.{mod-eq_of_lt, mod-add-div, mul-add, zero-mul, le_of_mul-le-mul_left, div-mul-le_self}
use Rattle.memory.specs.Writes.{write, covers, byte_after}
use Rattle.memory.proofs.Bytes.{covers-from}
use Rattle.slot_queue.specs.Queues.{Queue, IsQueue, slot_of}
use Rattle.queue_parties.proofs.Positions.{ahead, ahead-is, one-slot, slot-within}
use Rattle.queue_parties.specs.Positions.{IsInBytes}
use Rattle.queue_certificates.specs.{View, number_seen, Field, MeetsField, dot, form_value, InRanges, vanishes, Bounds, risings, fallings, bounds_of}
use Rattle.queue_certificates.specs.{KnownValue, linear, Has, all_below, last_number, is_field, is_filled}
use Rattle.queue_certificates.specs.{no_field, lies_in, is_number_of, is_beside, is_right_after, is_filled_after, are_so, most_published, may_send, Effect}
use Rattle.queue_certificates.specs.{Fills}
use Rattle.queue_certificates.specs.Filled.{Filled}
use Rattle.queue_certificates.proofs.Forms.{mod-sum, dot-vanishes}
use Rattle.queue_certificates.proofs.Bounds.{value-between}
use Rattle.queue_certificates.proofs.States.{at-below, kept-number}
use Rattle.queue_certificates.proofs.Stores.{written-number}

-- ---- a number of a field's

-- x is one of the field's numbers
abbrev pub IsNumberOf : Field → (x : ℕ) → Type 0
IsNumberOf f x = (j : ℕ) × (j ≤ f.count) × (x ≡ f.low + f.step * j)

counted : (f : Field) (x : ℕ) → f.low ≤ x → x ≤ last_number f → x % f.step ≡ f.low % f.step → IsNumberOf f x
counted f x low high same = by (cases_eq f.step 0)
  where
    by : (f.step ≡ 0) ⊎ (f.step ≢ 0) → IsNumberOf f x
    by (inl none) =
        let nothing : f.step * f.count ≡ 0 = ap (λ n. n * f.count) none ∙ zero-mul f.count in
        let still : f.step * 0 ≡ 0 = ap (λ n. n * 0) none ∙ zero-mul 0 in
        (0, omega arith, omega (arith, low, high, nothing, still))
    by (inr some) =
        let positive : 0 < f.step = omega (arith, some) in
        let a : x % f.step + f.step * (x / f.step) ≡ x = mod-add-div x f.step in
        let b : f.low % f.step + f.step * (f.low / f.step) ≡ f.low = mod-add-div f.low f.step in
        let less : f.low / f.step ≤ x / f.step = le-div (f.low / f.step) x f.step positive
        (let le : f.low / f.step * f.step ≤ f.low = div-mul-le_self f.low f.step in omega (arith, le, low)) in
        let sum : f.low / f.step + (x / f.step - f.low / f.step) ≡ x / f.step = omega (arith, less) in
        let parts : f.step * (f.low / f.step + (x / f.step - f.low / f.step))
        ≡ f.step * (f.low / f.step) + f.step * (x / f.step - f.low / f.step) = mul-add f.step (f.low / f.step) (x / f.step - f.low / f.step) in
        let whole : f.step * (f.low / f.step + (x / f.step - f.low / f.step)) ≡ f.step * (x / f.step) = ap (λ n. f.step * n) sum in
        let is : x ≡ f.low + f.step * (x / f.step - f.low / f.step) = omega (arith, a, b, parts, whole, same) in (
          x / f.step - f.low / f.step,
          le_of_mul-le-mul_left (let le : f.step * (x / f.step - f.low / f.step) ≤ f.step * f.count = omega (arith, is, high) in le) positive,
          is,
        )

-- a number that is known so is one
pub known-number : (queues : ℕ → Queue) (rs : List (Option ℕ)) (xs : List ℕ) → InRanges rs xs → (v : KnownValue) (f : Field) (x : ℕ) → Has queues xs v x
    → is_number_of rs v f ≡ true → IsNumberOf f x
known-number queues rs xs ranges (linear g) f x has ok = by (bounds_of (2 ^ 32) rs g) refl ok
  where
    by : (o : Option Bounds) → bounds_of (2 ^ 32) rs g ≡ o → lies_in o g f ≡ true → IsNumberOf f x
    by None is ok = absurd (cc)
    by (Some b) is ok =
        let p4 = and_parts (nat_le f.low b.low && nat_le b.high (last_number f) && (g.constant % 2 ^ 32 % f.step == f.low % f.step)
        && vanishes f.step (risings (2 ^ 32) g.factors)) (vanishes f.step (fallings (2 ^ 32) g.factors)) ok in
        let p3 = and_parts (nat_le f.low b.low && nat_le b.high (last_number f) && (g.constant % 2 ^ 32 % f.step == f.low % f.step))
        (vanishes f.step (risings (2 ^ 32) g.factors)) p4.0 in
        let p2 = and_parts (nat_le f.low b.low && nat_le b.high (last_number f)) (g.constant % 2 ^ 32 % f.step == f.low % f.step) p3.0 in
        let p1 = and_parts (nat_le f.low b.low) (nat_le b.high (last_number f)) p2.0 in
        let between = value-between (2 ^ 32) rs g xs b ranges is in
        let low : f.low ≤ b.low = leb-true f.low b.low p1.0 in
        let high : b.high ≤ last_number f = leb-true b.high (last_number f) p1.1 in
        let from : b.low ≤ form_value g xs % 2 ^ 32 = between.low in
        let upto : form_value g xs % 2 ^ 32 ≤ b.high = between.high in
        let level : x + dot (fallings (2 ^ 32) g.factors) xs ≡ g.constant % 2 ^ 32 + dot (risings (2 ^ 32) g.factors) xs =
        ap (λ n. n + dot (fallings (2 ^ 32) g.factors) xs) has ∙ between.level in
        let more : (x + dot (fallings (2 ^ 32) g.factors) xs) % f.step ≡ (x + 0) % f.step =
        mod-sum x (dot (fallings (2 ^ 32) g.factors) xs) x 0 f.step refl (dot-vanishes f.step (fallings (2 ^ 32) g.factors) xs p4.1) in
        let less : (g.constant % 2 ^ 32 + dot (risings (2 ^ 32) g.factors) xs) % f.step ≡ (f.low + 0) % f.step =
        mod-sum (g.constant % 2 ^ 32) (dot (risings (2 ^ 32) g.factors) xs) f.low 0 f.step
        (eqb-true (g.constant % 2 ^ 32 % f.step) (f.low % f.step) p2.1) (dot-vanishes f.step (risings (2 ^ 32) g.factors) xs p3.1) in
        let same : (x + 0) % f.step ≡ (f.low + 0) % f.step = sym more ∙ ap (λ n. n % f.step) level ∙ less in
        counted f x (omega (arith, has, low, from)) (omega (arith, has, high, upto))
        (ap (λ n. n % f.step) (let e : x ≡ x + 0 = omega arith in e) ∙ same ∙ ap (λ n. n % f.step) (let e : f.low + 0 ≡ f.low = omega arith in e))
known-number queues rs xs ranges other f x has ok = absurd (cc)

-- ---- the fields of a list

pub field-fits : (q : Queue) (fs : List Field) → list_all (is_field q) fs ≡ true → (j : ℕ)
    → ((get_or fs j no_field).at + (get_or fs j no_field).width ≤ q.width)
    × (last_number (get_or fs j no_field) < 256 ^ (get_or fs j no_field).width)
field-fits q fs ok j = by (cases_lt j (length fs))
  where
    by : (j < length fs) ⊎ (length fs ≤ j) → ((get_or fs j no_field).at + (get_or fs j no_field).width ≤ q.width)
        × (last_number (get_or fs j no_field) < 256 ^ (get_or fs j no_field).width)
    by (inl less) =
        let f : Field = get_or fs j no_field in
        let one : is_field q (get_or fs j no_field) ≡ true =
        All-get_or (λ g. is_field q g ≡ true) fs j no_field less (AllPass-from_list_all (is_field q) fs ok) in
        let parts = and_parts (nat_le ((get_or fs j no_field).at + (get_or fs j no_field).width) q.width)
        (nat_lt (last_number (get_or fs j no_field)) (256 ^ (get_or fs j no_field).width)) one in (
          leb-true ((get_or fs j no_field).at + (get_or fs j no_field).width) q.width parts.0,
          ltb-true (last_number (get_or fs j no_field)) (256 ^ (get_or fs j no_field).width) parts.1,
        )
    by (inr past) = subst (λ f. (f.at + f.width ≤ q.width) × (last_number f < 256 ^ f.width)) (sym (get_or_past fs j no_field past))
        (omega arith, omega arith)

-- ---- bytes of a field after a write to one slot

-- ---- what is right after an effect

passes-found : (f : ℕ → Bool) (bs : List ℕ) (b : ℕ) → list_all f bs ≡ true → list_any (λ a. a == b) bs ≡ true → f b ≡ true
passes-found f [] b all found = absurd (cc)
passes-found f (a ∷ bs) b all found =
    let parts = and_parts (f a) (list_all f bs) all in
    elim (or_cases (a == b) (list_any (λ a. a == b) bs) found) [
      | inl same ↦ ap f (sym (eqb-true a b same)) ∙ parts.0
      | inr later ↦ passes-found f bs b parts.1 later
    ]

-- what is listed is so
pub so-listed : (ms : List (List ℕ)) (f : ℕ → ℕ → Bool) → are_so ms f ≡ true → (d j : ℕ) → list_any (λ a. a == j) (get_or ms d []) ≡ true → f d j ≡ true
so-listed ms f ok d j listed = by (cases_lt d (length ms))
  where
    by : (d < length ms) ⊎ (length ms ≤ d) → f d j ≡ true
    by (inl less) = passes-found (f d) (get_or ms d []) j (at-below (length ms) (λ d. list_all (f d) (get_or ms d [])) ok d less) listed
    by (inr past) = absurd (let none : list_any (λ a. a == j) [] ≡ true =
        subst (λ bs. list_any (λ a. a == j) bs ≡ true) (get_or_past ms d [] past) listed in
        cc)

-- what is said to be right is so
pub so-at : (size : ℕ) (ms : Filled) (f : ℕ → ℕ → Bool) → are_so ms f ≡ true → (d j : ℕ) → is_filled size ms d j ≡ true → f d j ≡ true
so-at size ms f ok d j filled = so-listed ms f ok d j (and_parts (nat_lt d size) (list_any (λ a. a == j) (get_or ms d [])) filled).1

-- all fields of what may be published
pub sent-at : (size : ℕ) (fs : List Field) (ms : Filled) (e : Effect) → may_send size fs ms e ≡ true → (d : ℕ) → d < most_published e
    → (j : ℕ) → j < length fs → is_filled size ms d j ≡ true
sent-at size fs ms e ok d less j listed = at-below (length fs) (is_filled size ms d)
    (at-below (most_published e) (λ d. all_below (length fs) (is_filled size ms d)) ok d less) j listed

-- position d further than c, in whose slot field j is right
abbrev pub IsRight : Queue → List Field → (c : ℕ) → View → (d j : ℕ) → Type 0
IsRight q fs c m d j = MeetsField q (c + d) m (get_or fs j no_field)

-- what a store to a slot does: these bytes of the slot of the position p further than c become the bytes of a number, and no others
-- change
pub record IsWrittenTo (q : Queue) (c : ℕ) (m n : View) (p offset width : ℕ) : Type 0 where
  pub value : ℕ
  pub near : p < q.size
  pub fits : offset + width ≤ q.width
  pub after : (x : ℕ) → n x ≡ byte_after (write (slot_of q (c + p) + offset) width value) x (m x)

module _ (q : Queue) (is : IsQueue q) (fs : List Field) (ok : list_all (is_field q) fs ≡ true) (c : ℕ) (m n : View) (p offset width : ℕ)
    (w : IsWrittenTo q c m n p offset width) where
  -- a byte that isn't written
  left-byte : (x : ℕ) → (slot_of q (c + p) + offset ≤ x → x < slot_of q (c + p) + offset + width → ⊥) → n x ≡ m x
  left-byte x off = by (covers (write (slot_of q (c + p) + offset) width w.value) x) refl
    where
      by : (t : Bool) → covers (write (slot_of q (c + p) + offset) width w.value) x ≡ t → n x ≡ m x
      by false is = w.after x ∙ ap (λ t. if t then byte_at (x - (slot_of q (c + p) + offset)) w.value else m x) is
      by true on = absurd (let at = covers-from (write (slot_of q (c + p) + offset) width w.value) x on in off at.0 at.1)

  same-field : (d j : ℕ) → ((x : ℕ) → slot_of q (c + d) + (get_or fs j no_field).at ≤ x
      → x < slot_of q (c + d) + (get_or fs j no_field).at + (get_or fs j no_field).width → n x ≡ m x)
      → IsRight q fs c m d j → IsRight q fs c n d j
  same-field d j same right = (
    right.0,
    right.1,
    kept-number m n (slot_of q (c + d) + (get_or fs j no_field).at) (get_or fs j no_field).width same ∙ right.2,
  )

  -- in another slot
  right-elsewhere : (d j : ℕ) → d < q.size → d ≢ p → IsRight q fs c m d j → IsRight q fs c n d j
  right-elsewhere d j near apart right = same-field d j (λ x low high. left-byte x (λ from to. apart
      (let one : (c + d) % q.size ≡ (c + p) % q.size = one-slot q.slots q.width q.size is.some (c + d) (c + p) x
      (omega (arith, low), (let f = field-fits q fs ok j in omega (arith, high, f.0))) (omega (arith, from), omega (arith, to, w.fits)) in
      sym (ahead-is q.size c d near) ∙ ap (ahead q.size c) one ∙ ahead-is q.size c p w.near))) right

  -- beside what is written in its slot
  right-beside : (j : ℕ) → is_beside (get_or fs j no_field) offset width ≡ true → IsRight q fs c m p j → IsRight q fs c n p j
  right-beside j beside right = same-field p j (λ x low high. left-byte x (λ from to. elim
      (or_cases (nat_le ((get_or fs j no_field).at + (get_or fs j no_field).width) offset) (nat_le (offset + width) (get_or fs j no_field).at) beside) [
        | inl below ↦ (let u = leb-true ((get_or fs j no_field).at + (get_or fs j no_field).width) offset below in omega (arith, u, from, high))
        | inr above ↦ (let u = leb-true (offset + width) (get_or fs j no_field).at above in omega (arith, u, to, low))
      ])) right

  -- and just where it is written
  right-written : (j : ℕ) → (get_or fs j no_field).at ≡ offset → (get_or fs j no_field).width ≡ width
      → IsNumberOf (get_or fs j no_field) w.value → IsRight q fs c n p j
  right-written j at wide number = (
    number.0,
    number.1,
    ap (λ y. number_seen n (slot_of q (c + p) + y) (get_or fs j no_field).width) at
        ∙ ap (λ y. number_seen n (slot_of q (c + p) + offset) y) wide
        ∙ written-number m n (slot_of q (c + p) + offset) width w.value w.after
        ∙ mod-eq_of_lt (subst (λ y. w.value < 256 ^ y) wide small) ∙ number.2,
  )
    where
      small : w.value < 256 ^ (get_or fs j no_field).width
      small = grind (arith, field-fits, get_or, mul-le)

  -- after the store
  pub right-after-store : (queues : ℕ → Queue) (rs : List (Option ℕ)) (v : KnownValue) (ms : Filled)
      → ((f : Field) → f.width ≡ width → last_number f < 256 ^ f.width → is_number_of rs v f ≡ true → IsNumberOf f w.value)
      → ((d j : ℕ) → is_filled q.size ms d j ≡ true → IsRight q fs c m d j)
      → (d j : ℕ) → is_filled_after rs q fs v ms (Fills p offset width) d j ≡ true → IsRight q fs c n d j
  right-after-store queues rs v ms number right d j so = by (p == d) refl so
    where
      near-at : is_filled q.size ms d j ≡ true → d < q.size
      near-at filled = ltb-true d q.size ((and_parts (nat_lt d q.size) (list_any (λ a. a == j) (get_or ms d [])) filled).0)

      at : (t : Bool) → (((get_or fs j no_field).at == offset) && ((get_or fs j no_field).width == width)) ≡ t → p ≡ d
          → (if t then is_number_of rs v (get_or fs j no_field) else (is_beside (get_or fs j no_field) offset width && is_filled q.size ms d j)) ≡ true
          → IsRight q fs c n p j
      at true just same so =
          let parts = and_parts ((get_or fs j no_field).at == offset) ((get_or fs j no_field).width == width) just in
          let wide : (get_or fs j no_field).width ≡ width = eqb-true (get_or fs j no_field).width width parts.1 in
          right-written j (eqb-true (get_or fs j no_field).at offset parts.0) wide
          (number (get_or fs j no_field) wide (field-fits q fs ok j).1 so)
      at false other same so =
          let parts = and_parts (is_beside (get_or fs j no_field) offset width) (is_filled q.size ms d j) so in
          right-beside j parts.0 (subst (λ e. IsRight q fs c m e j) (sym same) (right d j parts.1))

      by : (t : Bool) → (p == d) ≡ t
          → (if t then is_right_after rs v (get_or fs j no_field) offset width (is_filled q.size ms d j) else is_filled q.size ms d j) ≡ true
          → IsRight q fs c n d j
      by true same so = subst (λ e. IsRight q fs c n e j) (eqb-true p d same)
          (at (((get_or fs j no_field).at == offset) && ((get_or fs j no_field).width == width)) refl (eqb-true p d same) so)
      by false other so = right-elsewhere d j (near-at so) (λ same. eqb-false p d other (sym same)) (right d j so)

-- where no byte of the slots changes, what was right is
pub right-kept : (q : Queue) (is : IsQueue q) (fs : List Field) → list_all (is_field q) fs ≡ true → (c : ℕ) (m n : View)
    → ((x : ℕ) → IsInBytes q.slots (q.size * q.width) x → n x ≡ m x) → (d j : ℕ) → IsRight q fs c m d j → IsRight q fs c n d j
right-kept q is fs ok c m n same d j right = (
  right.0,
  right.1,
  kept-number m n (slot_of q (c + d) + (get_or fs j no_field).at) (get_or fs j no_field).width (λ x low high.
      same x (slot-within q.slots q.width q.size is.some (c + d) x
      (omega (arith, low), (let f = field-fits q fs ok j in omega (arith, high, f.0))))) ∙ right.2,
)
