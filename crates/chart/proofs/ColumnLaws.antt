-- Columns stand at the same cells in the pictures of two runs of one test, where nothing is wider than columns have to be.
use Rattle.std.proofs.Common.{◌≡◌, ℕ, ◌+◌, max, if◌then◌else◌, List, refl, sym, ◌∙◌, ap}
use Rattle.std.specs.Prelude.{nat_le}
use Rattle.step_machine.specs.declared.events.Entry.{Entry}
use Rattle.chart.specs.{LeastWidths, Form, Selection, memory_cell, SceneOf, least_label, label_cells, kept_cells, least_lanes, used_after, lanes_in, places_of}
use Rattle.chart.specs.{heads_line, AboutOf, FitsColumns, scene_of_run, layout, wide, brief, listed, brief_listed, narrowest, width_of, form_or, fitting_form}
use Rattle.chart.specs.{limit}
use Rattle.chart.specs.declared.places.Places.{Places}

module _ (a b : SceneOf) (harts : a.harts ≡ b.harts) (least : a.least ≡ b.least) (fits : (form : Form) → FitsColumns a form)
    (also_fits : (form : Form) → FitsColumns b form) where
  same_least : (form : Form) → least_label form a ≡ least_label form b
  same_least form = rw (harts, least) refl

  same_places : (form : Form) → places_of form a ≡ places_of form b
  same_places form =
      let label : label_cells form a ≡ label_cells form b = (fits form).label ∙ same_least form ∙ sym (also_fits form).label in
      let lanes : used_after (least_lanes form a.least) (lanes_in form a) ≡ used_after (least_lanes form b.least) (lanes_in form b) =
      (fits form).lanes ∙ ap (least_lanes form) least ∙ sym (also_fits form).lanes in
      rw (label, lanes, harts) refl

  same_cells : (form : Form) → width_of form a ≡ width_of form b
  same_cells form =
      let kept : kept_cells form a ≡ kept_cells form b =
      (fits form).kept ∙ ap (λ (l : LeastWidths). max 6 l.kept) least ∙ sym (also_fits form).kept in
      ap (λ (p : Places). memory_cell p + kept_cells form a) (same_places form)
      ∙ ap (λ (n : ℕ). memory_cell (places_of form b) + n) kept

  same_or : (most : ℕ) (form other also : Form) → other ≡ also → form_or a most form other ≡ form_or b most form also
  same_or most form other also same =
      ap (λ (n : ℕ). if nat_le n most then form else other) (same_cells form)
      ∙ ap (λ (f : Form). if nat_le (width_of form b) most then form else f) same

  same_form : (most : ℕ) → fitting_form a most ≡ fitting_form b most
  same_form most =
      let listed_or = same_or most listed (form_or a most brief_listed narrowest) (form_or b most brief_listed narrowest)
      (same_or most brief_listed narrowest narrowest refl) in
      let brief_or = same_or most brief (form_or a most listed (form_or a most brief_listed narrowest))
      (form_or b most listed (form_or b most brief_listed narrowest)) listed_or in
      same_or most wide (form_or a most brief (form_or a most listed (form_or a most brief_listed narrowest)))
      (form_or b most brief (form_or b most listed (form_or b most brief_listed narrowest))) brief_or

  same_line : (most : ℕ) → heads_line (places_of (fitting_form a most) a) ≡ heads_line (places_of (fitting_form b most) b)
  same_line most =
      ap heads_line (same_places (fitting_form a most)) ∙ ap (λ (form : Form). heads_line (places_of form b)) (same_form most)

  same_cells_of_form : (most : ℕ) → width_of (fitting_form a most) a ≡ width_of (fitting_form b most) b
  same_cells_of_form most = same_cells (fitting_form a most) ∙ ap (λ (form : Form). width_of form b) (same_form most)

module _ (s t : Selection) (a b : AboutOf) (es fs : List Entry) (harts : a.harts ≡ b.harts) (least : a.least ≡ b.least)
    (fits : (form : Form) → FitsColumns (scene_of_run s a es) form) (also_fits : (form : Form) → FitsColumns (scene_of_run t b fs) form) where
  pub same_heads : (layout s a es).heads ≡ (layout t b fs).heads
  same_heads =
      same_line (scene_of_run s a es) (scene_of_run t b fs) harts least fits also_fits (limit a.harts)
      ∙ ap (λ (n : ℕ). heads_line (places_of (fitting_form (scene_of_run t b fs) (limit n)) (scene_of_run t b fs))) harts

  pub same_width : (layout s a es).width ≡ (layout t b fs).width
  same_width =
      same_cells_of_form (scene_of_run s a es) (scene_of_run t b fs) harts least fits also_fits (limit a.harts)
      ∙ ap (λ (n : ℕ). width_of (fitting_form (scene_of_run t b fs) (limit n)) (scene_of_run t b fs)) harts
