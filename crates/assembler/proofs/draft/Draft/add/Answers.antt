use Rattle.std.proofs.Common.{◌≡◌, ℕ, List, Some, cond, false, map, arith}
use Rattle.std.proofs.lemmas.List.{length-map}
use Rattle.assembler.specs.{KeptLine, is_twice, is_label, Fitting, kept_line, place_in}
use Rattle.assembler.proofs.DraftLaws.{words_le, kept_more, lines-push}
use Rattle.assembler.proofs.draft.Draft.add.Goals as goal

pub overflow_add-words : goal.overflow_add-words
overflow_add-words c =
    let few = words_le (map kept_line c.self.inside.lines.items) in
    let same = length-map c.self.inside.lines.items kept_line in
    let room = c.in_ok-reserve.ensures.ok in
    let len = c.reserve.new.self.ok in
    let most = c.reserve.new.self.small in
    omega (arith, c.self.invariant.size)

pub invariant_of-self-2 : goal.invariant_of-self-2
invariant_of-self-2 c =
    let line : KeptLine = record { label = c.in_ok-keep_name.field-0; statement = c.in_ok-keep_statement.field-0 } in
    let defined : (name : List ℕ) → place_in c.define_label.new.places name
    ≡ cond (is_label name (kept_line line).label) (Some c.self.inside.words) (place_in c.self.inside.places name) =
    λ name. rw c.in_ok-keep_name.ensures (c.in_ok-define_label.ensures.defined name) in
    let fresh : is_twice (map kept_line c.self.inside.lines.items) (kept_line line).label ≡ false =
    rw (c.in_ok-keep_name.ensures, c.self.view_is) c.requires.fresh in
    let fits : Fitting (kept_line line).made = rw c.in_ok-keep_statement.ensures c.requires.fits in
    rw (c.append.ensures, c.reserve.ensures.items, lines-push c.self.inside.lines.items line, c.size.ensures.value)
    (kept_more (place_in c.self.inside.places) (place_in c.define_label.new.places) c.self.inside.words
    (map kept_line c.self.inside.lines.items) (kept_line line) c.self.invariant defined fresh fits)
