-- A text of lists: what is read is what it says, and what it says is read.
use Rattle.std.proofs.Common.{◌≡◌, ℕ, List, Ok}
use Rattle.std.specs.Str.Lines.{lines}
use Rattle.texts.specs.{word_of, SaysWord, pieces, DecidesGrammar}
use Rattle.texts.specs.declared.pieces.Separators.TheVariants.{Spaces}
use Rattle.texts.proofs.FormatLaws.{settled_found, settled_only, settled_one, settles_each, settles_each_at, settles_map_err, settles_word}
use Rattle.engine_support.specs.Faults.{bad_line, or_bad, at_line, refused_on}
use Rattle.channel_engines.specs.Lists.{list_texts, with_bytes, SaysList, SaysLists, list_at, list_of, lists_of_lines, lists_at}
use Rattle.engine_support.proofs.InputLaws.{IsOne, is_one}

list_settles : (line : List ℕ) → DecidesGrammar (SaysList line) (list_of line)
unfolding list_at
list_settles line = settles_each SaysWord (λ digits. or_bad (word_of digits)) (settles_word bad_line) (with_bytes (pieces Spaces line))

pub lists_settle : (text : List ℕ) → DecidesGrammar (SaysLists text) (lists_at text)
unfolding lists_at lists_of_lines
lists_settle text = settles_each_at SaysList (λ place line. at_line place (list_of line))
    (λ place line. settles_map_err (SaysList line) (refused_on place) (list_of line) (list_settles line)) 1 (lines text)

pub lists_found : (text : List ℕ) (lists : List (List ℕ)) → lists_at text ≡ Ok lists → SaysLists text lists
lists_found text lists e = settled_found (SaysLists text) (lists_at text) lists (lists_settle text) e

pub lists_read : (text : List ℕ) (lists : List (List ℕ)) → SaysLists text lists → lists_at text ≡ Ok lists
lists_read text lists parsed = settled_only (SaysLists text) (lists_at text) lists (lists_settle text) parsed

pub one_lists : (text : List ℕ) (a b : List (List ℕ)) → SaysLists text a → SaysLists text b → a ≡ b
one_lists text a b p q = settled_one (SaysLists text) (lists_at text) a b (lists_settle text) p q

pub one_list_text : IsOne list_texts (λ r s. r ≡ s)
one_list_text = is_one SaysLists lists_at one_lists lists_read
