pub mod Rows
pub mod Formats
pub mod Results
pub mod Pieces
pub mod Numbers
pub mod Cutting
pub mod Runs
pub mod Grammars
pub use Rattle.texts.specs.Rows.{Fill, IsRowOf, Made, Row, RowPlace, Written, any, are_apart, chain_at, fixed, is_apart, is_apart_of, of_length, or_next}
pub use Rattle.texts.specs.Rows.{row_at, row_text, rows_at, with_number, word_text}
pub use Rattle.texts.specs.Formats.{DecidesGrammar, Stand, or_fault}
unfoldable pub use Rattle.texts.specs.Formats.{each, each_at, read_in_turn}
pub use Rattle.texts.specs.Results.{GivesUpToMemory, map_err, refusal_of, ◌>>=◌}
pub use Rattle.texts.specs.Pieces.{bytes_left, is_blank, is_gap, pieces, pieces_after, separates, span}
pub use Rattle.texts.specs.Numbers.{IsHexWord, SaysWord, hex_word, is_numeral}
unfoldable pub use Rattle.texts.specs.Numbers.{capped_value, hex_word_of, word_of}
pub use Rattle.texts.specs.Cutting.{AllPass, AreBlanks, IsPadded, NonePass, after, before, cut_at_blank, fails, from_first, is_byte, onto_kept, trimmed}
pub use Rattle.texts.specs.Cutting.{without_end, without_front, without_leading, without_trailing}
unfoldable pub use Rattle.texts.specs.Cutting.{first_cut, stripped, tokens}
pub use Rattle.texts.specs.Runs.{Repetition, expanded}
unfoldable pub use Rattle.texts.specs.Runs.{repetitions_of}
pub use Rattle.texts.specs.Grammars.{EitherSays, Grammar, absent, absent_at, by_byte, by_byte_at, choice, filter_mapped, hex_magnitude, mapped, negative}
pub use Rattle.texts.specs.Grammars.{numeral, parted, positive, prefixed, prefixed_at, suffixed, suffixed_at, surrounded}
unfoldable pub use Rattle.texts.specs.Grammars.{integer, magnitude}
pub use Rattle.texts.specs.declared.errors.TextError.{TextError}
