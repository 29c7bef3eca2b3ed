pub mod Faults
pub mod Lines
pub mod Marks
pub mod Header
pub mod Locations
pub mod Init
pub mod Rows
pub mod Table
pub mod Condition
pub mod Values
pub mod Reading
pub mod Layout
pub mod Openings
pub mod Columns
pub mod ConditionGrammar
pub mod Grammar
pub mod Headings
pub mod Listings
pub use Rattle.litmus_reader.specs.Faults.{fault_in, fault_of, litmus_number}
pub use Rattle.litmus_reader.specs.Lines.{left_from}
pub use Rattle.litmus_reader.specs.Marks.{Cut, before_line, from_line, has_token, is_line_feed, next_cut, onto_front}
unfoldable pub use Rattle.litmus_reader.specs.Marks.{begins, line_cut}
pub use Rattle.litmus_reader.specs.Header.{after_front, has_name}
unfoldable pub use Rattle.litmus_reader.specs.Header.{after_brace, after_header, is_header}
pub use Rattle.litmus_reader.specs.Locations.{HasLocation, HasName, HasNames, Names, index_from, name_added}
unfoldable pub use Rattle.litmus_reader.specs.Locations.{resolved, value_resolved}
pub use Rattle.litmus_reader.specs.Init.{InitItem, InitItems, after_init, item_of, no_items, pieces_added}
unfoldable pub use Rattle.litmus_reader.specs.Init.{item_added, item_resolved, items_at, piece_added, target_resolved}
pub use Rattle.litmus_reader.specs.Rows.{all_named, cells_of, ended_by, harts_within, indent, is_blank_line, name_harts}
unfoldable pub use Rattle.litmus_reader.specs.Rows.{harts_in, row_in}
pub use Rattle.litmus_reader.specs.Table.{ArePlain, AreShort, Code, Column, IsPlainCode, as_instr, cells_added, codes_of, instructions, instructions_of}
pub use Rattle.litmus_reader.specs.Table.{lines_added, table_from}
unfoldable pub use Rattle.litmus_reader.specs.Table.{cell_added, line_added, table_at}
pub use Rattle.litmus_reader.specs.Condition.{ConditionSoFar, Quantified, TokenHasNames, after_quantifier, as_condition, none_unread, quantifier_of}
pub use Rattle.litmus_reader.specs.Condition.{tokens_added}
unfoldable pub use Rattle.litmus_reader.specs.Condition.{atom_resolved, condition_in, place_resolved, quantifier_in, token_resolved}
pub use Rattle.litmus_reader.specs.Values.{items_put, starts_of, values_in, zeros}
pub use Rattle.litmus_reader.specs.Reading.{Content, HartContent, content, content_of, hart_content, with_registers}
unfoldable pub use Rattle.litmus_reader.specs.Reading.{content_after, content_at, content_below, test_at}
pub use Rattle.litmus_reader.specs.Layout.{BeginsCondition, BeginsUnread, BeginsWith, HasNo, IsCut, IsFirst, IsHeader, IsLaidOut, IsLineCut, IsVisible}
pub use Rattle.litmus_reader.specs.Layout.{NoneBegins}
pub use Rattle.litmus_reader.specs.Openings.{AreFirstWords, AreItems, AreRegisters, IsAt, IsFirstValue, IsHartThere, IsNamedValue, IsPlainHart, IsPlainOpening}
pub use Rattle.litmus_reader.specs.Openings.{each_once, is_location, is_register, last_put, name_of_place, name_of_value, names_in, names_of, or_else}
pub use Rattle.litmus_reader.specs.Columns.{AreNames, AreRows, Cells, IsColumnCode, IsRow, IsTable, column_of}
pub use Rattle.litmus_reader.specs.ConditionGrammar.{AreKnown, IsFinalCondition, IsKnown, IsPlaceOf, atoms_in, token_for}
pub use Rattle.litmus_reader.specs.Grammar.{AreHarts, HasPlainCode, IsContent}
unfoldable pub use Rattle.litmus_reader.specs.Grammar.{IsTestOf}
pub use Rattle.litmus_reader.specs.Headings.{HeadingOf, IsHeading, heading_of}
pub use Rattle.litmus_reader.specs.Listings.{ListedRowOf, cell_of, table_rows}
unfoldable pub use Rattle.litmus_reader.specs.Listings.{after_items, listing_at, listing_in}
pub use Rattle.litmus_reader.specs.declared.condition.FinalCondition.{FinalCondition}
pub use Rattle.litmus_reader.specs.declared.faults.LitmusFault.{LitmusFault}
pub use Rattle.litmus_reader.specs.declared.faults.LitmusFault.TheVariants.{BadCondition, BadInstr}
pub use Rattle.litmus_reader.specs.declared.init.Target.{Target}
pub use Rattle.litmus_reader.specs.declared.init.Target.TheVariants.{Register, Word}
pub use Rattle.litmus_reader.specs.declared.marks.Mark.{Mark}
pub use Rattle.litmus_reader.specs.declared.marks.Mark.TheVariants.{Unread}
pub use Rattle.litmus_reader.specs.declared.refusals.AtLeft.{AtLeft}
