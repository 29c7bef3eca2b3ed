-- The forms and values of a certificate, in terms of n variables.
use Rattle.std.specs.Prelude.{ℕ, ◌-◌, nat_le, nat_lt, ◌==◌, ◌&&◌, if◌then◌else◌, Bool, true, false, List, [], ◌∷◌, ◌++◌, length, replicate, Option, Some, None}
use Rattle.std.specs.Prelude.{Result, Ok, Err}
use Rattle.std.specs.Option.{option_and_then, option_zip}
use Rattle.texts.specs.Numbers.{word_of}
use Rattle.texts.specs.Results.{◌>>=◌}
use Rattle.texts.specs.Cutting.{before, after, is_byte}
use Rattle.texts.specs.Pieces.{pieces}
use Rattle.texts.specs.declared.pieces.Separators.TheVariants.{Byte}
use Rattle.queue_certificates.specs.Forms.{Form}
use Rattle.queue_certificates.specs.States.{KnownValue, linear, index_for, signed_for, ends_as, has_bits}
use Rattle.certificate_reader.specs.declared.forms.Mark.{Mark}
use Rattle.certificate_reader.specs.declared.forms.Mark.TheVariants as mark
use Rattle.certificate_reader.specs.declared.faults.CertificateFault.{CertificateFault}
use Rattle.certificate_reader.specs.declared.faults.CertificateFault.TheVariants.{BadLine}
use Rattle.certificate_reader.specs.Faults.{or_bad_line}
use Rattle.certificate_reader.specs.Numbers.{count_of}

-- ---- forms: 12+4*0+1*2 is 12, four times variable 0 and variable 2

-- `m*j` (the `*` is 42)
unfoldable pub multiple_of : List ℕ → Option (ℕ × ℕ)
multiple_of piece = option_and_then (λ variable. option_zip (count_of (before (is_byte 42) piece)) (word_of variable)) (after (is_byte 42) piece)

-- one factor more, of a variable that is there and comes after those that have one; variables in between aren't taken
abbrev pub onto_factors : (n : ℕ) → List ℕ → ℕ × ℕ → Result (List ℕ) CertificateFault
onto_factors n factors multiple = if nat_le (length factors) multiple.1 && nat_lt multiple.1 n
    then Ok (factors ++ replicate (multiple.1 - length factors) 0 ++ multiple.0 ∷ []) else Err BadLine

unfoldable pub with_factor : (n : ℕ) → List ℕ → List ℕ → Result (List ℕ) CertificateFault
with_factor n factors piece = do
  multiple ← or_bad_line (multiple_of piece)
  onto_factors n factors multiple

unfoldable pub factors_after : (n : ℕ) → List ℕ → List (List ℕ) → Result (List ℕ) CertificateFault
factors_after n factors [] = Ok factors
factors_after n factors (piece ∷ pieces) = do
  more ← with_factor n factors piece
  factors_after n more pieces

-- pieces between `+` (43), of which the first may be a number alone
abbrev pub form_by : (n : ℕ) → Option ℕ → (first : List ℕ) (others : List (List ℕ)) → Result Form CertificateFault
form_by n (Some constant) first others = do
  factors ← factors_after n [] others
  Ok (record { constant = constant; factors = factors })
form_by n None first others = do
  factors ← factors_after n [] (first ∷ others)
  Ok (record { constant = 0; factors = factors })

abbrev pub form_from : (n : ℕ) → List (List ℕ) → Result Form CertificateFault
form_from n [] = Err BadLine
form_from n (first ∷ others) = form_by n (count_of first) first others

unfoldable pub form_of : (n : ℕ) → List ℕ → Result Form CertificateFault
form_of n text = form_from n (pieces (Byte 43) text)

-- ---- values: a form, or `@` (64), a queue of the N and `:` (58) before one; `~` (126) in place of the `@`; `^` (94), with 0 to 32 bits
-- in place of the queue; or `&` (38), a mask, `:` and the bits under it

abbrev pub marked_value : Mark → (i : ℕ) → Form → KnownValue
marked_value mark.Index i f = index_for i f
marked_value mark.Signed i f = signed_for i f
marked_value mark.Ends i f = ends_as i f

-- how many numbers there are that may follow it
abbrev pub marked_numbers : Mark → (N : ℕ) → ℕ
marked_numbers mark.Ends N = 33
marked_numbers other N = N

abbrev pub marked_by : Mark → (N n : ℕ) → Option ℕ → Option (List ℕ) → Result KnownValue CertificateFault
marked_by m N n None text = Err BadLine
marked_by m N n (Some i) None = Err BadLine
marked_by m N n (Some i) (Some text) = if nat_lt i (marked_numbers m N) then form_of n text >>= (λ form. Ok (marked_value m i form)) else Err BadLine

unfoldable pub marked_of : Mark → (N n : ℕ) → List ℕ → Result KnownValue CertificateFault
marked_of m N n text = marked_by m N n (word_of (before (is_byte 58) text)) (after (is_byte 58) text)

unfoldable pub linear_of : (n : ℕ) → List ℕ → Result KnownValue CertificateFault
linear_of n text = do
  form ← form_of n text
  Ok (linear form)

unfoldable pub mask_and_bits : List ℕ → Option (ℕ × ℕ)
mask_and_bits text = option_and_then (λ bits. option_zip (word_of (before (is_byte 58) text)) (word_of bits)) (after (is_byte 58) text)

unfoldable pub bits_value : List ℕ → Result KnownValue CertificateFault
bits_value text = do
  z ← or_bad_line (mask_and_bits text)
  Ok (has_bits z.0 z.1)

unfoldable pub known_value_in : (N n : ℕ) → List ℕ → Result KnownValue CertificateFault
known_value_in N n [] = Err BadLine
known_value_in N n (byte ∷ text) = if byte == 64 then marked_of mark.Index N n text else (if byte == 126 then marked_of mark.Signed N n text else
    (if byte == 94 then marked_of mark.Ends N n text else (if byte == 38 then bits_value text else linear_of n (byte ∷ text))))
