pub mod ResultLaws
pub mod PieceLaws
pub mod NumberLaws
pub mod HexWords
pub mod CuttingLaws
pub mod TrimLaws
pub mod TokenLaws
pub mod FormatLaws
pub mod RowLaws
pub mod RunLaws
pub mod GrammarLaws
pub use Rattle.texts.proofs.ResultLaws.{bind_ok, guard_ok, ok_is, some, some_is}
pub use Rattle.texts.proofs.PieceLaws.{lines_of_parts-cons}
pub use Rattle.texts.proofs.NumberLaws.{is_numeral-from_IsNumeral, says_word}
pub use Rattle.texts.proofs.CuttingLaws.{after-none, after-stop, before-none, before-passes_not, before-stop, cut_byte, cut_whole, decimal_none, digit_no_blank}
pub use Rattle.texts.proofs.CuttingLaws.{length-from_first, none-append, not_byte, not_low_byte, one_line, split_after, split_cut, split_none, split_stop}
pub use Rattle.texts.proofs.CuttingLaws.{uncut}
pub use Rattle.texts.proofs.TrimLaws.{all-append, leading_first, leading_none, leading_past, leading_split, onto_some, padded_stripped, padded_twice}
pub use Rattle.texts.proofs.TrimLaws.{stripped-all, stripped-ends, stripped-none, stripped-padded, stripped-trailing, trailing_split}
pub use Rattle.texts.proofs.TokenLaws.{filter_kept, first_is, tokens-cut, tokens-first, tokens_none, tokens_uncut}
pub use Rattle.texts.proofs.FormatLaws.{settled_found, settled_one, settled_only, settles_as, settles_in_turn, settles_map_err, settles_ok, settles_then}
pub use Rattle.texts.proofs.FormatLaws.{settles_unless, stand_all}
pub use Rattle.texts.proofs.RowLaws.{AreSolid, Solid, decimal_says, decimal_solid, is_low, line-stays, no_byte, no_tokens, none_of, row-again, row_none}
pub use Rattle.texts.proofs.RowLaws.{rows-by_name, rows-of_length, rows-settle, solid_by_test, tokens-before, tokens_alone}
pub use Rattle.texts.proofs.RunLaws.{all-runs_of, expanded-runs_of}
pub use Rattle.texts.proofs.GrammarLaws.{Settles, all_by_test, apart_by, decimal_numeral, integer_first, integer_settles, none_of_all, numeral_settles}
pub use Rattle.texts.proofs.GrammarLaws.{other_byte, settles_absent, settles_begun, settles_by_byte, settles_either, settles_ended, settles_filter_mapped}
pub use Rattle.texts.proofs.GrammarLaws.{settles_mapped, settles_padded, settles_parted, settles_text, test_of_all}
