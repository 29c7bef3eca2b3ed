-- The numbers of a certificate, and the words of a line that say them.
use Rattle.std.specs.Prelude.{ℕ, ◌^◌, List, [], ◌∷◌, Option, Some, None, Result, Ok, Err, if◌then◌else◌, codes}
use Rattle.std.specs.Option.{option_or}
use Rattle.std.specs.Str.{bytes_eq}
use Rattle.texts.specs.Numbers.{word_of}
use Rattle.texts.specs.Results.{◌>>=◌}
use Rattle.certificate_reader.specs.declared.faults.CertificateFault.{CertificateFault}
use Rattle.certificate_reader.specs.declared.faults.CertificateFault.TheVariants.{BadLine}
use Rattle.certificate_reader.specs.Faults.{or_bad_line}

-- 2 ^ 32, as it is written
abbrev pub round_of : List ℕ → Option ℕ
round_of digits = if bytes_eq digits (codes "4294967296") then Some (2 ^ 32) else None

-- a number below 2 ^ 32 in decimal digits, or 2 ^ 32 itself, of which an index of four bytes counts the remainder
unfoldable pub count_of : List ℕ → Option ℕ
count_of digits = option_or (word_of digits) (round_of digits)

-- ---- the words of a line, in turn

-- what the first word says, and the words after it
abbrev pub first_in : {A : Type 0} → (List ℕ → Result A CertificateFault) → List (List ℕ) → Result (A × List (List ℕ)) CertificateFault
first_in read [] = Err BadLine
first_in read (word ∷ others) = do
  said ← read word
  Ok (said, others)

-- the same of a number below 2 ^ 32
unfoldable pub first_word_in : List (List ℕ) → Result (ℕ × List (List ℕ)) CertificateFault
first_word_in words = first_in (λ digits. or_bad_line (word_of digits)) words

-- and of a count
unfoldable pub first_count_in : List (List ℕ) → Result (ℕ × List (List ℕ)) CertificateFault
first_count_in words = first_in (λ digits. or_bad_line (count_of digits)) words

-- no word is left
abbrev pub ended : List (List ℕ) → Result Unit CertificateFault
ended [] = Ok tt
ended (word ∷ others) = Err BadLine

abbrev pub Five : Type 0
Five = ℕ × ℕ × ℕ × ℕ × ℕ

-- the numbers of five words, and the words after these
unfoldable pub five_at : List (List ℕ) → Result (Five × List (List ℕ)) CertificateFault
five_at words = do
  a ← first_word_in words
  b ← first_word_in a.1
  c ← first_word_in b.1
  d ← first_word_in c.1
  e ← first_word_in d.1
  Ok ((a.0, b.0, c.0, d.0, e.0), e.1)

abbrev pub Four : Type 0
Four = ℕ × ℕ × ℕ × ℕ

-- the counts that are all of the words, which are four
unfoldable pub four_counts : List (List ℕ) → Result Four CertificateFault
four_counts words = do
  a ← first_count_in words
  b ← first_count_in a.1
  c ← first_count_in b.1
  d ← first_count_in c.1
  over ← ended d.1
  Ok (a.0, b.0, c.0, d.0)

-- the number that is all of the words
unfoldable pub only_word : List (List ℕ) → Result ℕ CertificateFault
only_word words = do
  a ← first_word_in words
  over ← ended a.1
  Ok a.0
