-- Grammars that settle: what is read is what the text says, what it says is read, and only its bytes stand in it.
use Rattle.std.proofs.Common.{◌≡◌, ℕ, Bool, true, false, ◌||◌, List, [], ◌∷◌, ◌++◌, Option, Some, None, refl, sym, ap, ◌∙◌, inl, inr, arith, pos, ℤ, ◌⊎◌, ◌<◌}
use Rattle.std.proofs.Common.{◌^◌}
use Rattle.std.specs.Prelude.{IfSome, neg_ℤ}
use Rattle.std.specs.List.{list_all}
use Rattle.std.specs.Char.{is_digit, digit_value}
use Rattle.std.specs.Str.Parse.{AllDigits}
use Rattle.std.specs.Fmt.{decimal}
use Rattle.std.proofs.lemmas.Fmt.{decimal_is_IsNumeral}
use Rattle.std.specs.Option.{option_map, option_and_then, option_or, option_zip}
use Rattle.std.proofs.lemmas.Bool.{and_parts, cases_Bool, eqb-true, or_right, lt-ltb}
use Rattle.texts.specs.{DecidesGrammar, or_fault, before, after, is_byte, AllPass, NonePass, stripped, Grammar, mapped, filter_mapped, parted, prefixed_at}
use Rattle.texts.specs.{prefixed, suffixed_at, suffixed, absent_at, absent, surrounded, EitherSays, choice, by_byte_at, by_byte, numeral, hex_magnitude}
use Rattle.texts.specs.{magnitude, positive, negative, integer}
use Rattle.texts.proofs.CuttingLaws.{after-none, before-stop, after-stop, cut_byte, uncut}
use Rattle.texts.proofs.TrimLaws.{all-append, padded_stripped}
use Rattle.texts.proofs.FormatLaws.{settles_or_fault}
use Rattle.texts.proofs.NumberLaws.{capped_value-said, capped_value-of_IsNumeral}
use Rattle.texts.proofs.ResultLaws.{some_is}

pub record Settles {V : Type 0} (g : Grammar V) : Type 0 where
  pub found : (text : List ℕ) (v : V) → g.reads text ≡ Some v → g.Says text v
  pub only : (text : List ℕ) (v : V) → g.Says text v → g.reads text ≡ Some v
  pub bytes : (text : List ℕ) (v : V) → g.Says text v → AllPass g.bytes text

-- ---- bytes

pub all_by_test : (p : ℕ → Bool) (text : List ℕ) → list_all p text ≡ true → AllPass p text
all_by_test p [] e = tt
all_by_test p (c ∷ text) e = let both = and_parts (p c) (list_all p text) e in (both.0, all_by_test p text both.1)

pub test_of_all : (p : ℕ → Bool) (text : List ℕ) → AllPass p text → list_all p text ≡ true
test_of_all p [] all = refl
test_of_all p (c ∷ text) all = rw (all.0, test_of_all p text all.1) refl

pub all_weaker : (p q : ℕ → Bool) → ((c : ℕ) → p c ≡ true → q c ≡ true) → (text : List ℕ) → AllPass p text → AllPass q text
all_weaker p q weaker [] all = tt
all_weaker p q weaker (c ∷ text) all = (weaker c all.0, all_weaker p q weaker text all.1)

pub none_of_all : (p q : ℕ → Bool) → ((c : ℕ) → p c ≡ true → q c ≡ false) → (text : List ℕ) → AllPass p text → NonePass q text
none_of_all p q other [] all = tt
none_of_all p q other (c ∷ text) all = (other c all.0, none_of_all p q other text all.1)

-- no byte that passes is this one
pub other_byte : (p : ℕ → Bool) (b c : ℕ) → p b ≡ false → p c ≡ true → is_byte b c ≡ false
other_byte p b c fails passes = grind (arith, eqb-true)

-- a byte of none of its texts
pub free : {V : Type 0} (g : Grammar V) → Settles g → (b : ℕ) → g.bytes b ≡ false → (text : List ℕ) (v : V) → g.Says text v → NonePass (is_byte b) text
free g s b fails text v says = none_of_all g.bytes (is_byte b) (λ c passes. other_byte g.bytes b c fails passes) text (s.bytes text v says)

in_left : (p q : ℕ → Bool) (text : List ℕ) → AllPass p text → AllPass (λ c. p c || q c) text
in_left p q text all = all_weaker p (λ c. p c || q c) (λ c passes. rw passes refl) text all

in_right : (p q : ℕ → Bool) (text : List ℕ) → AllPass q text → AllPass (λ c. p c || q c) text
in_right p q text all = all_weaker q (λ c. p c || q c) (λ c passes. or_right (p c) (q c) passes) text all

same_byte : (b : ℕ) → is_byte b b ≡ true
same_byte b = grind arith

-- ---- a value made of each value

mapped_found : {A B : Type 0} (f : Grammar A) (h : A → B) → Settles f → (text : List ℕ) (v : B) (o : Option A) → f.reads text ≡ o
    → option_map h o ≡ Some v → (mapped f h).Says text v
mapped_found f h s text v None is e = absurd cc
mapped_found f h s text v (Some a) is e = (a, s.found text a is, cc)

pub settles_mapped : {A B : Type 0} (f : Grammar A) (h : A → B) → Settles f → Settles (mapped f h)
settles_mapped f h s = record {
  found = λ text v e. mapped_found f h s text v (f.reads text) refl e;
  only = λ text v (a, says, is). rw (s.only text a says) (ap (λ x. Some x) is);
  bytes = λ text v (a, says, is). s.bytes text a says;
}

filter_mapped_found : {A B : Type 0} (f : Grammar A) (h : A → Option B) → Settles f → (text : List ℕ) (v : B) (o : Option A) → f.reads text ≡ o
    → option_and_then h o ≡ Some v → (filter_mapped f h).Says text v
filter_mapped_found f h s text v None is e = absurd cc
filter_mapped_found f h s text v (Some a) is e = (a, s.found text a is, e)

pub settles_filter_mapped : {A B : Type 0} (f : Grammar A) (h : A → Option B) → Settles f → Settles (filter_mapped f h)
settles_filter_mapped f h s = record {
  found = λ text v e. filter_mapped_found f h s text v (f.reads text) refl e;
  only = λ text v (a, says, is). rw (s.only text a says) is;
  bytes = λ text v (a, says, is). s.bytes text a says;
}

-- ---- parts

zip_is : {A B : Type 0} (x : Option A) (y : Option B) (v : A × B) → option_zip x y ≡ Some v → (x ≡ Some v.0) × (y ≡ Some v.1)
zip_is x y v e = grind arith

parted_found : {A B : Type 0} (b : ℕ) (f : Grammar A) (g : Grammar B) → Settles f → Settles g → (text : List ℕ) (v : A × B) (o : Option (List ℕ))
    → after (is_byte b) text ≡ o → option_and_then (λ r. option_zip (f.reads (before (is_byte b) text)) (g.reads r)) o ≡ Some v → (parted b f g).Says text v
parted_found b f g sf sg text v None is e = absurd cc
parted_found b f g sf sg text v (Some r) is e =
    let l = before (is_byte b) text in
    let both = zip_is (f.reads l) (g.reads r) v e in
    (l, r, cut_byte b text r is, sf.found l v.0 both.0, sg.found r v.1 both.1)

pub settles_parted : {A B : Type 0} (b : ℕ) (f : Grammar A) (g : Grammar B) → f.bytes b ≡ false → Settles f → Settles g → Settles (parted b f g)
settles_parted b f g apart sf sg = record {
  found = λ text v e. parted_found b f g sf sg text v (after (is_byte b) text) refl e;
  only = λ text v (l, r, is, x, y).
      let none = free f sf b apart l v.0 x in
      rw is (rw (before-stop (is_byte b) l b r none (same_byte b), after-stop (is_byte b) l b r none (same_byte b), sf.only l v.0 x, sg.only r v.1 y) refl);
  bytes = λ text v (l, r, is, x, y). rw is (all-append _ l (b ∷ r) (in_left f.bytes _ l (sf.bytes l v.0 x))
      (in_right f.bytes (λ c. is_byte b c || g.bytes c) (b ∷ r) (rw (same_byte b) refl, in_right (is_byte b) g.bytes r (sg.bytes r v.1 y))));
}

begun_found : {A : Type 0} (b : ℕ) (f : Grammar A) → Settles f → (text : List ℕ) (v : A) → prefixed_at b f.reads text ≡ Some v → (prefixed b f).Says text v
begun_found b f s [] v e = absurd cc
begun_found b f s (c ∷ rest) v e = elim (cases_Bool (is_byte b c)) [
  | inl is ↦ (rest, ap (λ x. x ∷ rest) (eqb-true c b is), s.found rest v (rw is at e))
  | inr isnt ↦ (let never = rw isnt at e in absurd cc)
]

pub settles_begun : {A : Type 0} (b : ℕ) (f : Grammar A) → Settles f → Settles (prefixed b f)
settles_begun b f s = record {
  found = begun_found b f s;
  only = λ text v (rest, is, says). rw is (rw (same_byte b) (s.only rest v says));
  bytes = λ text v (rest, is, says). rw is (rw (same_byte b) refl, in_right (is_byte b) f.bytes rest (s.bytes rest v says));
}

ended_found : {A : Type 0} (b : ℕ) (f : Grammar A) → Settles f → (text : List ℕ) (v : A) (o : Option (List ℕ)) → after (is_byte b) text ≡ o
    → option_and_then (suffixed_at (f.reads (before (is_byte b) text))) o ≡ Some v → (suffixed b f).Says text v
ended_found b f s text v None is e = absurd cc
ended_found b f s text v (Some []) is e = (before (is_byte b) text, cut_byte b text [] is, s.found (before (is_byte b) text) v e)
ended_found b f s text v (Some (c ∷ rest)) is e = absurd cc

pub settles_ended : {A : Type 0} (b : ℕ) (f : Grammar A) → f.bytes b ≡ false → Settles f → Settles (suffixed b f)
settles_ended b f apart s = record {
  found = λ text v e. ended_found b f s text v (after (is_byte b) text) refl e;
  only = λ text v (inner, is, says).
      let none = free f s b apart inner v says in
      rw is (rw (before-stop (is_byte b) inner b [] none (same_byte b), after-stop (is_byte b) inner b [] none (same_byte b)) (s.only inner v says));
  bytes = λ text v (inner, is, says). rw is (all-append _ inner (b ∷ []) (in_left f.bytes _ inner (s.bytes inner v says))
      (in_right f.bytes (is_byte b) (b ∷ []) (same_byte b, tt)));
}

pub settles_absent : {A : Type 0} (a : A) → Settles (absent a)
settles_absent a = record {
  found = absent_found a;
  only = λ text v (empty, is). rw (empty, is) refl;
  bytes = λ text v (empty, is). rw empty tt;
}
  where
    absent_found : {A : Type 0} (b : A) (text : List ℕ) (v : A) → absent_at b text ≡ Some v → (text ≡ []) × (b ≡ v)
    absent_found b [] v e = (refl, cc)
    absent_found b (c ∷ rest) v e = absurd cc

-- bytes round it that pass
pub settles_padded : {A : Type 0} (p : ℕ → Bool) (f : Grammar A) → Settles f → Settles (surrounded p f)
settles_padded p f s = record {
  found = λ text v e. s.found (stripped p text) v e;
  only = λ text v says. s.only (stripped p text) v says;
  bytes = λ text v says.
      let (front, back, before_it, after_it, whole) = padded_stripped p text in
      rw whole (all-append _ front _ (in_left p f.bytes front before_it) (all-append _ (stripped p text) back
      (in_right p f.bytes (stripped p text) (s.bytes (stripped p text) v says)) (in_left p f.bytes back after_it)));
}

-- ---- one or the other

either_bytes : {A : Type 0} (f g : Grammar A) → Settles f → Settles g → (text : List ℕ) (v : A)
    → EitherSays f g text v → AllPass (λ c. f.bytes c || g.bytes c) text
either_bytes f g sf sg text v (inl one) = in_left f.bytes g.bytes text (sf.bytes text v one)
either_bytes f g sf sg text v (inr other) = in_right f.bytes g.bytes text (sg.bytes text v other)

either_found : {A : Type 0} (f g : Grammar A) → Settles f → Settles g → (text : List ℕ) (v : A) (o : Option A) → f.reads text ≡ o
    → option_or o (g.reads text) ≡ Some v → EitherSays f g text v
either_found f g sf sg text v None is e = inr (sg.found text v e)
either_found f g sf sg text v (Some x) is e = inl (sf.found text v (is ∙ e))

either_only : {A : Type 0} (f g : Grammar A) → Settles f → Settles g → ((text : List ℕ) (u v : A) → f.Says text u → g.Says text v → ⊥)
    → (text : List ℕ) (v : A) (o : Option A) → f.reads text ≡ o → EitherSays f g text v → option_or o (g.reads text) ≡ Some v
either_only f g sf sg apart text v o is (inl one) = rw (← is) (rw (sf.only text v one) refl)
either_only f g sf sg apart text v None is (inr other) = sg.only text v other
either_only f g sf sg apart text v (Some u) is (inr other) = absurd (apart text u v (sf.found text u is) other)

-- of no text that says something by both
pub settles_either : {A : Type 0} (f g : Grammar A) → ((text : List ℕ) (u v : A) → f.Says text u → g.Says text v → ⊥)
    → Settles f → Settles g → Settles (choice f g)
settles_either f g apart sf sg = record {
  found = λ text v e. either_found f g sf sg text v (f.reads text) refl e;
  only = λ text v says. either_only f g sf sg apart text v (f.reads text) refl says;
  bytes = either_bytes f g sf sg;
}

-- ---- a byte that stands in each text of the one and in none of the other

abbrev pub HasByte : {A : Type 0} → ℕ → Grammar A → Type 0
HasByte {A = A} b f = (text : List ℕ) (v : A) → f.Says text v → (l r : List ℕ) × (text ≡ l ++ b ∷ r)

stands_after : (b : ℕ) (l r : List ℕ) → after (is_byte b) (l ++ b ∷ r) ≡ None → ⊥
stands_after b [] r none = grind (arith, same_byte)
stands_after b (x ∷ l) r none = grind (arith, stands_after b l r)

pub apart_by : {A B : Type 0} (b : ℕ) (f : Grammar A) (g : Grammar B) → HasByte b f → g.bytes b ≡ false → Settles g
    → (text : List ℕ) (u : A) (v : B) → f.Says text u → g.Says text v → ⊥
apart_by b f g has lacks s text u v one other =
    let (l, r, whole) = has text u one in stands_after b l r (rw whole at (after-none (is_byte b) text (free g s b lacks text v other)))

by_byte_found : {A : Type 0} (b : ℕ) (f g : Grammar A) → Settles f → Settles g → (text : List ℕ) (v : A) (o : Option (List ℕ)) → after (is_byte b) text ≡ o
    → by_byte_at (f.reads text) (g.reads (before (is_byte b) text)) o ≡ Some v → EitherSays f g text v
by_byte_found b f g sf sg text v None is e = inr (sg.found text v (rw (uncut (is_byte b) text is) at e))
by_byte_found b f g sf sg text v (Some rest) is e = inl (sf.found text v e)

by_byte_only : {A : Type 0} (b : ℕ) (f g : Grammar A) → HasByte b f → g.bytes b ≡ false → Settles f → Settles g → (text : List ℕ) (v : A)
    (o : Option (List ℕ)) → after (is_byte b) text ≡ o → EitherSays f g text v → by_byte_at (f.reads text) (g.reads (before (is_byte b) text)) o ≡ Some v
by_byte_only b f g has lacks sf sg text v None is (inl one) = let (l, r, whole) = has text v one in absurd (stands_after b l r (rw whole at is))
by_byte_only b f g has lacks sf sg text v (Some rest) is (inl one) = sf.only text v one
by_byte_only b f g has lacks sf sg text v None is (inr other) = rw (uncut (is_byte b) text is) (sg.only text v other)
by_byte_only b f g has lacks sf sg text v (Some rest) is (inr other) = let none = after-none (is_byte b) text (free g sg b lacks text v other) in absurd cc

pub settles_by_byte : {A : Type 0} (b : ℕ) (f g : Grammar A) → HasByte b f → g.bytes b ≡ false → Settles f → Settles g → Settles (by_byte b f g)
settles_by_byte b f g has lacks sf sg = record {
  found = λ text v e. by_byte_found b f g sf sg text v (after (is_byte b) text) refl e;
  only = λ text v says. by_byte_only b f g has lacks sf sg text v (after (is_byte b) text) refl says;
  bytes = either_bytes f g sf sg;
}

-- ---- numbers

digits_pass : (radix : ℕ) (digits : List ℕ) → AllDigits radix digits → AllPass (λ c. is_digit c radix) digits
digits_pass radix [] all = tt
digits_pass radix (d ∷ digits) all = (lt-ltb _ radix all.0, digits_pass radix digits all.1)

pub numeral_settles : (radix : ℕ) → Settles (numeral radix)
numeral_settles radix = record {
  found = λ digits n e. capped_value-said radix digits n e;
  only = λ digits n (is, counts). capped_value-of_IsNumeral radix digits is ∙ ap (λ m. Some m) counts;
  bytes = λ digits n (is, counts). digits_pass radix digits is.1;
}

-- a number is said as it is written
pub decimal_numeral : (n : ℕ) → n < 2 ^ 32 → (numeral 10).Says (decimal n) n
decimal_numeral n small = let said = decimal_is_IsNumeral n (omega arith) in (said.0, omega (arith, said.1))

pub magnitude_settles : Settles magnitude
unfolding magnitude
magnitude_settles = settles_either hex_magnitude (numeral 10) (apart_by 120 hex_magnitude (numeral 10) has_x refl (numeral_settles 10))
    (settles_begun 48 _ (settles_begun 120 _ (numeral_settles 16))) (numeral_settles 10)
  where
    has_x : HasByte 120 hex_magnitude
    has_x text n (more, is, (digits, rest, says)) = (48 ∷ [], digits, is ∙ ap (λ m. 48 ∷ m) rest)

no_sign : magnitude.bytes 45 ≡ false
unfolding magnitude
no_sign = refl

positive_settles : Settles positive
positive_settles = settles_mapped magnitude pos magnitude_settles

pub integer_settles : Settles integer
unfolding integer
integer_settles = settles_either negative positive (apart_by 45 negative positive has_sign no_sign positive_settles)
    (settles_mapped _ (λ n. neg_ℤ (pos n)) (settles_begun 45 magnitude magnitude_settles)) positive_settles
  where
    has_sign : HasByte 45 negative
    has_sign text z (n, (rest, is, says), same) = ([], rest, is)

-- a number begins with a digit or a `-`
numeral_first : (text : List ℕ) (n : ℕ) → (numeral 10).Says text n → (c : ℕ) × (rest : List ℕ) × (text ≡ c ∷ rest) × ((c ≡ 45) ⊎ (digit_value c < 10))
numeral_first [] n (is, counts) = absurd (omega (arith, is.0))
numeral_first (c ∷ rest) n (is, counts) = (c, rest, refl, inr is.1.0)

pub integer_first : (text : List ℕ) (z : ℤ) → integer.Says text z → (c : ℕ) × (rest : List ℕ) × (text ≡ c ∷ rest) × ((c ≡ 45) ⊎ (digit_value c < 10))
unfolding integer magnitude
integer_first text z (inl (n, (rest, is, says), same)) = (45, rest, is, inl refl)
integer_first text z (inr (n, inl (rest, is, says), same)) = (48, rest, is, inr (omega arith))
integer_first text z (inr (n, inr says, same)) = numeral_first text n says

-- ---- what follows for a text

pub if_found : {V : Type 0} (g : Grammar V) → Settles g → (text : List ℕ) (o : Option V) → o ≡ g.reads text → IfSome o (g.Says text)
if_found g s text None e = tt
if_found g s text (Some v) e = s.found text v (sym e)

pub one_said : {V : Type 0} (g : Grammar V) → Settles g → (text : List ℕ) (a b : V) → g.Says text a → g.Says text b → a ≡ b
one_said g s text a b one other = some_is a b (sym (s.only text a one) ∙ s.only text b other)

pub settles_text : {V F : Type 0} (g : Grammar V) → Settles g → (fault : F) (text : List ℕ) → DecidesGrammar (g.Says text) (or_fault fault (g.reads text))
settles_text g s fault text = settles_or_fault (g.Says text) fault (g.reads text) (s.found text) (s.only text)
