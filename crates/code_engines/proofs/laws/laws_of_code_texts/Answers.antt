use Rattle.std.proofs.Common.{◌≡◌, ℕ, zero, suc, ◌^◌, ◌<◌, ◌≤◌, Bool, false, eqb, ltb, List, [], ◌∷◌, ◌++◌, length, get_or, refl, ap, arith, append_assoc}
use Rattle.std.specs.List.{All, AllByRecursion, flat_map}
use Rattle.std.specs.Char.{digit_value}
use Rattle.std.specs.Str.Lines.{lines}
use Rattle.std.specs.Str.Parse.{AllDigits}
use Rattle.std.proofs.lemmas.Bool.{ne_eqb}
use Rattle.std.proofs.lemmas.List.Elements.{recursion_from_All}
use Rattle.std.proofs.lemmas.List.Splits.{length-slice_split}
use Rattle.texts.specs.{hex_word, is_blank, tokens, NonePass}
use Rattle.texts.proofs.HexWords.{hex_word-said}
use Rattle.texts.proofs.{lines_of_parts-cons, split_none, split_stop, filter_kept}
use Rattle.engine_support.proofs.Judging.{accepted_well, accepted-decoded}
use Rattle.code_engines.specs.Dis.{SaysCode, dis_at}
use Rattle.code_engines.proofs.CodeTexts.{code_found, code_read, one_code}
use Rattle.code_engines.proofs.laws.laws_of_code_texts.Goals as goal
use Rattle.code_engines.specs.Asm.{hex_line}

-- Words written in hex, a line each, and read again.

-- ---- a hex digit is no blank, CR or LF

other_byte : (c other : ℕ) → digit_value c < 16 → 16 ≤ digit_value other → eqb c other ≡ false
other_byte c other digit none = ne_eqb c other (λ same. let e : digit_value c ≡ digit_value other = ap digit_value same in absurd (omega arith))

no_line_feed : (c : ℕ) → digit_value c < 16 → eqb c 10 ≡ false
no_line_feed c digit = other_byte c 10 digit (omega arith)

no_blank : (c : ℕ) → digit_value c < 16 → is_blank c ≡ false
no_blank c digit = rw (other_byte c 32 digit (omega arith), other_byte c 9 digit (omega arith)) refl

no_carriage_return : (ds : List ℕ) (i : ℕ) → AllDigits 16 ds → eqb (get_or ds i 0) 13 ≡ false
no_carriage_return [] i all = refl
no_carriage_return (d ∷ ds) zero all = other_byte d 13 all.0 (omega arith)
no_carriage_return (d ∷ ds) (suc i) all = no_carriage_return ds i all.1

none_pass : (p : ℕ → Bool) → ((c : ℕ) → digit_value c < 16 → p c ≡ false) → (ds : List ℕ) → AllDigits 16 ds → NonePass p ds
none_pass p fails [] all = tt
none_pass p fails (d ∷ ds) all = (fails d all.0, none_pass p fails ds all.1)

-- ---- a line of hex digits

lines_after : (ds rest : List ℕ) → AllDigits 16 ds → lines (ds ++ 10 ∷ rest) ≡ ds ∷ lines rest
lines_after ds rest all = grind (arith, eqb, split_stop, none_pass, no_line_feed, lines_of_parts-cons, length-slice_split, no_carriage_return)

one_word : (ds : List ℕ) → 0 < length ds → AllDigits 16 ds → tokens ds ≡ ds ∷ []
unfolding tokens
one_word ds some all = grind (arith, ltb, split_none, none_pass, no_blank, filter_kept)

-- ---- a text of them

words_written : (code : List ℕ) → AllByRecursion (λ word. word < 2 ^ 32) code → SaysCode (flat_map hex_line code) code
words_written [] small = tt
words_written (word ∷ code) small =
    let parsed = hex_word-said word small.0 in
    rw (
      append_assoc (hex_word word) (10 ∷ []) (flat_map hex_line code),
      lines_after (hex_word word) (flat_map hex_line code) parsed.1.0.1,
      one_word (hex_word word) parsed.1.0.0 parsed.1.0.1,
    )
    (parsed, words_written code small.1)

pub written_says : (code : List ℕ) → All (λ word. word < 2 ^ 32) code → SaysCode (flat_map hex_line code) code
written_says code small = words_written code (recursion_from_All (λ word. word < 2 ^ 32) code small)

pub returns-clause-read : goal.returns-clause-read
returns-clause-read c = λ text code. (code_found text code, code_read text code)

pub returns-clause-one : goal.returns-clause-one
returns-clause-one c = one_code

pub returns-clause-judged : goal.returns-clause-judged
returns-clause-judged c = λ input code. (
  accepted_well dis_at SaysCode input code (code_found input code),
  accepted-decoded dis_at SaysCode input code (code_read input code),
)

pub returns-clause-again : goal.returns-clause-again
returns-clause-again c = written_says
