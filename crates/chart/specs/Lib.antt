pub mod Sources
pub mod Rows
pub mod Sayings
pub mod Tags
pub mod Lanes
pub mod Pictures
pub mod Places
pub mod Scenes
pub mod Lines
pub mod Layout
pub mod Svg
pub use Rattle.chart.specs.Sources.{at_row, byte_from, landed_by_row, landed_by_row_after, landed_store, newest, newest_from, pending_by_row, row_number}
pub use Rattle.chart.specs.Sources.{source_named, source_of, stored_at, stores_by_row, written_in_row}
pub use Rattle.chart.specs.Rows.{RowOf, row_after, rows_after, rows_of}
pub use Rattle.chart.specs.Tags.{NamedOf, named_after, named_by, none_named, with_rows, with_source}
pub use Rattle.chart.specs.Lanes.{AreLanesApart, IsApart, LanedOf, first_free, hart_column, held_after, held_after_entry, held_at_end, held_by, held_from}
pub use Rattle.chart.specs.Lanes.{holds, in_lane, is_held, laned_row, lanes_from, lanes_of, others, own_line, passing_lines}
pub use Rattle.chart.specs.Pictures.{IsClear, LineOf, MarkOf, byte_of_mark, first_cells, line_cell, mark_byte, shown_byte, sign_byte, stands_in, strikes}
pub use Rattle.chart.specs.Pictures.{struck, text_end}
pub use Rattle.chart.specs.Places.{columns, first_cell, lane_cell, memory_cell, pitch, rank}
pub use Rattle.chart.specs.Scenes.{SceneOf, hart_name, kept_at, kept_cells, label_cells, lanes_at, lanes_in, lanes_to, least_label, least_lanes, places_of}
pub use Rattle.chart.specs.Scenes.{row_label, scene_of, shape_of, used_after, widest_kept, widest_label}
pub use Rattle.chart.specs.Lines.{across, drawn_at, first_row_lines, head_mark, head_marks, heads_line, is_read, is_without_line, laned_line, line_in}
pub use Rattle.chart.specs.Lines.{number_mark, open_lines, own_strokes, passing_stroke, picture_line, read_strokes, row_line, row_strokes, sign_at, text_at}
pub use Rattle.chart.specs.Layout.{AboutOf, FitsColumns, bare_hints, body_of, brief, brief_listed, first_pending, fitting_form, form_or, hints_of, layout}
pub use Rattle.chart.specs.Layout.{limit, listed, narrowest, pending_lines, pending_of_hart, pending_text, scene_of_run, wide, width_of}
pub use Rattle.chart.specs.declared.lanes.Held.{Held}
pub use Rattle.chart.specs.declared.lanes.Shape.{Shape}
pub use Rattle.chart.specs.declared.least_widths.LeastWidths.{LeastWidths}
pub use Rattle.chart.specs.declared.pictures.Sign.{Sign}
pub use Rattle.chart.specs.declared.pictures.Sign.TheVariants.{Down, Joins, To}
pub use Rattle.chart.specs.declared.pictures.Stroke.{Stroke}
pub use Rattle.chart.specs.declared.pictures.Weight.TheVariants.{Bold, Loud}
pub use Rattle.chart.specs.declared.scenes.Form.{Form}
pub use Rattle.chart.specs.declared.scenes.Selection.{Selection}
pub use Rattle.chart.specs.declared.sources.RowWrite.{RowWrite}
pub use Rattle.chart.specs.declared.sources.Source.{Source}
