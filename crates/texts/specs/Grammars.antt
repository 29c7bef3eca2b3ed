-- Grammars as values: which text says which value, and what is read of a text. A grammar is made of smaller ones.
use Rattle.std.specs.Prelude.{◌≡◌, ◌⊎◌, ℕ, ℤ, pos, neg_ℤ, Bool, false, ◌||◌, if◌then◌else◌, List, [], ◌∷◌, ◌++◌, Option, None, Some}
use Rattle.std.specs.Option.{option_map, option_and_then, option_or, option_zip}
use Rattle.std.specs.Char.{is_digit}
use Rattle.std.specs.Str.Parse.{IsNumeral, digits_value}
use Rattle.texts.specs.Numbers.{capped, capped_value}
use Rattle.texts.specs.Cutting.{before, after, is_byte, stripped}

pub record Grammar (V : Type 0) : Type 1 where
  pub Says : List ℕ → V → Type 0
  pub reads : List ℕ → Option V
  -- no other byte stands in a text that says anything
  pub bytes : ℕ → Bool

-- the same texts, and a value made of each value
abbrev pub mapped : {A B : Type 0} → Grammar A → (A → B) → Grammar B
mapped {A = A} f h = record {
  Says = λ text v. (a : A) × f.Says text a × (h a ≡ v);
  reads = λ text. option_map h (f.reads text);
  bytes = f.bytes;
}

-- the texts of whose value something is made
abbrev pub filter_mapped : {A B : Type 0} → Grammar A → (A → Option B) → Grammar B
filter_mapped {A = A} f h = record {
  Says = λ text v. (a : A) × f.Says text a × (h a ≡ Some v);
  reads = λ text. option_and_then h (f.reads text);
  bytes = f.bytes;
}

-- the first part, this byte, and the second part
abbrev pub parted : {A B : Type 0} → ℕ → Grammar A → Grammar B → Grammar (A × B)
parted b f g = record {
  Says = λ text v. (l r : List ℕ) × (text ≡ l ++ b ∷ r) × f.Says l v.0 × g.Says r v.1;
  reads = λ text. option_and_then (λ r. option_zip (f.reads (before (is_byte b) text)) (g.reads r)) (after (is_byte b) text);
  bytes = λ c. f.bytes c || (is_byte b c || g.bytes c);
}

-- this byte, and what follows it
abbrev pub prefixed_at : {A : Type 0} → ℕ → (List ℕ → Option A) → List ℕ → Option A
prefixed_at b reads [] = None
prefixed_at b reads (c ∷ rest) = if is_byte b c then reads rest else None

abbrev pub prefixed : {A : Type 0} → ℕ → Grammar A → Grammar A
prefixed b f = record {
  Says = λ text v. (rest : List ℕ) × (text ≡ b ∷ rest) × f.Says rest v;
  reads = prefixed_at b f.reads;
  bytes = λ c. is_byte b c || f.bytes c;
}

-- a text, and this byte, after which nothing follows
abbrev pub suffixed_at : {A : Type 0} → Option A → List ℕ → Option A
suffixed_at read [] = read
suffixed_at read (c ∷ rest) = None

abbrev pub suffixed : {A : Type 0} → ℕ → Grammar A → Grammar A
suffixed b f = record {
  Says = λ text v. (inner : List ℕ) × (text ≡ inner ++ b ∷ []) × f.Says inner v;
  reads = λ text. option_and_then (suffixed_at (f.reads (before (is_byte b) text))) (after (is_byte b) text);
  bytes = λ c. f.bytes c || is_byte b c;
}

-- no byte at all, which stands for this value
abbrev pub absent_at : {A : Type 0} → A → List ℕ → Option A
absent_at a [] = Some a
absent_at a (c ∷ rest) = None

abbrev pub absent : {A : Type 0} → A → Grammar A
absent a = record {
  Says = λ text v. (text ≡ []) × (a ≡ v);
  reads = absent_at a;
  bytes = λ c. false;
}

-- bytes round it that pass
abbrev pub surrounded : {A : Type 0} → (ℕ → Bool) → Grammar A → Grammar A
surrounded p f = record {
  Says = λ text v. f.Says (stripped p text) v;
  reads = λ text. f.reads (stripped p text);
  bytes = λ c. p c || f.bytes c;
}

-- one or the other
abbrev pub EitherSays : {A : Type 0} → Grammar A → Grammar A → List ℕ → A → Type 0
EitherSays f g text v = f.Says text v ⊎ g.Says text v

abbrev pub choice : {A : Type 0} → Grammar A → Grammar A → Grammar A
choice f g = record {
  Says = EitherSays f g;
  reads = λ text. option_or (f.reads text) (g.reads text);
  bytes = λ c. f.bytes c || g.bytes c;
}

-- one or the other, by whether this byte stands in the text
abbrev pub by_byte_at : {A : Type 0} → Option A → Option A → Option (List ℕ) → Option A
by_byte_at one other None = other
by_byte_at one other (Some rest) = one

abbrev pub by_byte : {A : Type 0} → ℕ → Grammar A → Grammar A → Grammar A
by_byte b f g = record {
  Says = EitherSays f g;
  reads = λ text. by_byte_at (f.reads text) (g.reads (before (is_byte b) text)) (after (is_byte b) text);
  bytes = λ c. f.bytes c || g.bytes c;
}

-- ---- numbers

-- digits of this radix, and the number that they count as
abbrev pub numeral : ℕ → Grammar ℕ
numeral radix = record {
  Says = λ digits n. IsNumeral radix digits × (capped (digits_value radix digits) ≡ n);
  reads = capped_value radix;
  bytes = λ c. is_digit c radix;
}

-- `0x` (48 and 120) and hex digits
abbrev pub hex_magnitude : Grammar ℕ
hex_magnitude = prefixed 48 (prefixed 120 (numeral 16))

-- these, or decimal digits
unfoldable pub magnitude : Grammar ℕ
magnitude = choice hex_magnitude (numeral 10)

abbrev pub positive : Grammar ℤ
positive = mapped magnitude pos

-- after a `-` (45)
abbrev pub negative : Grammar ℤ
negative = mapped (prefixed 45 magnitude) (λ n. neg_ℤ (pos n))

-- a magnitude, with a `-` in front or none
unfoldable pub integer : Grammar ℤ
integer = choice negative positive
