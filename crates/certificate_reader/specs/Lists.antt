-- Lists that the words of a line say, one element each, and their limits.
use Rattle.std.specs.Prelude.{ℕ, ◌==◌, ◌||◌, nat_lt, nat_le, if◌then◌else◌, Bool, List, [], ◌∷◌, ◌++◌, length, Option, Some, None, Result, Ok, Err, codes}
use Rattle.std.specs.Option.{option_and_then, option_map, option_zip}
use Rattle.std.specs.Str.{bytes_eq}
use Rattle.texts.specs.Numbers.{word_of}
use Rattle.texts.specs.Cutting.{before, after, is_byte}
use Rattle.texts.specs.Formats.{each}
use Rattle.queue_certificates.specs.Forms.{Form}
use Rattle.queue_certificates.specs.declared.own.OwnWord.{OwnWord}
use Rattle.certificate_reader.specs.declared.faults.CertificateFault.{CertificateFault}
use Rattle.certificate_reader.specs.declared.faults.CertificateFault.TheVariants.{TooMany}
use Rattle.certificate_reader.specs.Faults.{or_bad_line}
use Rattle.certificate_reader.specs.Numbers.{count_of}
use Rattle.certificate_reader.specs.FormTexts.{form_of}

-- a list that is no longer than this
abbrev pub few : {A : Type 0} → ℕ → List A → Result (List A) CertificateFault
few most xs = if nat_lt most (length xs) then Err TooMany else Ok xs

-- one element more, where there are fewer than this
abbrev pub one_more : {A : Type 0} → ℕ → List A → A → Result (List A) CertificateFault
one_more most xs x = if nat_le most (length xs) then Err TooMany else Ok (xs ++ x ∷ [])

-- what a load or a store may take: a byte, a half or a word
abbrev pub is_own_width : ℕ → Bool
is_own_width width = (width == 1) || (width == 2) || (width == 4)

abbrev pub as_own_width : ℕ → Option ℕ
as_own_width number = if is_own_width number then Some number else None

-- the width that follows a `:` (58); four bytes where none does
abbrev pub own_width : Option (List ℕ) → Option ℕ
own_width None = Some 4
own_width (Some digits) = option_and_then as_own_width (word_of digits)

-- a word of a hart's own: `A`, four bytes at A, or `A:W`, W bytes there
unfoldable pub own_word_of : List ℕ → Option OwnWord
own_word_of text = option_map (λ z. record { at = z.0; width = z.1 })
    (option_zip (word_of (before (is_byte 58) text)) (own_width (after (is_byte 58) text)))

unfoldable pub own_words_in : List (List ℕ) → Result (List OwnWord) CertificateFault
own_words_in words = each (λ word. or_bad_line (own_word_of word)) words

unfoldable pub counts_in : List (List ℕ) → Result (List ℕ) CertificateFault
counts_in words = each (λ word. or_bad_line (count_of word)) words

abbrev pub some : ℕ → Option ℕ
some n = Some n

-- the most that a variable may be, or `-` where it has no bound
abbrev pub range_of : List ℕ → Option (Option ℕ)
range_of word = if bytes_eq word (codes "-") then Some None else option_map some (count_of word)

unfoldable pub ranges_in : List (List ℕ) → Result (List (Option ℕ)) CertificateFault
ranges_in words = each (λ word. or_bad_line (range_of word)) words

-- forms of n variables
unfoldable pub forms_in : (n : ℕ) → List (List ℕ) → Result (List Form) CertificateFault
forms_in n words = each (form_of n) words
