use Rattle.std.proofs.Common.{◌≡◌, ◌∙◌, ◌+◌, ◌^◌, ◌<◌, ◌≤◌, ℕ, List, [], ◌∷◌, ◌++◌, get_or, length, map, take, refl, sym, ap, subst, arith, length-append}
use Rattle.std.proofs.lemmas.Bool.{false≢true}
use Rattle.std.proofs.lemmas.List.{length-map, map-append, take_more}
use Rattle.std.proofs.lemmas.List.Elements.{All-get_or}
use Rattle.std.proofs.lemmas.Slice.Zip.{all_zipped_more}
use Rattle.surveys.specs.inner.Digits.{Digits, HasRoomBelow, digits_of}
use Rattle.surveys.proofs.LayoutLaws.{IsBegun, IsPlaced, in_next_word, in_same_word, one_more, small_count}
use Rattle.surveys.proofs.layout.Layout.of.Goals as goal
use Rattle.surveys.proofs.layout.Layout.of.Goals.{then-shift-width-gt64, else-shift-width-gt64, then-word-via-then-word, then-word-via-else-word+then-word-2}
use Rattle.surveys.proofs.layout.Layout.of.Goals.{then-word-via-else-word+else-word-2+then-not-holds}

pub loop-count-preserved : goal.loop-count-preserved
loop-count-preserved g c =
    let layout : List Digits = map digits_of c.loop-count.fields.items in
    let count = get_or c.args.counts.now c.loop-count.count-index 0 in
    let width = c.width_for-width.result in
    let word = c.if-shift-width-gt64.word in
    let shift = c.if-shift-width-gt64.shift in
    let placed : IsPlaced g.row.N layout word shift width = elim c.if-shift-width-gt64.branch [
      | then-shift-width-gt64 w ↦ in_next_word g.row.N layout c.loop-count.word c.loop-count.shift width word shift c.loop-count.invariant.begun
          c.width_for-width.ensures.few w.if-shift-width-gt64.true w.word-is w.shift-is
      | else-shift-width-gt64 w ↦ in_same_word g.row.N layout c.loop-count.word c.loop-count.shift width word shift c.loop-count.invariant.begun
          w.if-shift-width-gt64.false w.word-is w.shift-is
    ] in
    let digits : Digits = record { word = word; shift = shift; width = width } in
    let items : map digits_of c.push.new.self.items ≡ layout ++ digits ∷ [] =
    ap (map digits_of) c.in_ok-push.ensures.items ∙ map-append digits_of c.loop-count.fields.items _ in
    record {
      begun = subst (λ (ds : List Digits). IsBegun g.row.N ds word (shift + width)) (sym items)
          (one_more g.row.N layout word shift width placed c.if-word.false c.width_for-width.ensures.few);
      in_word = placed.in_word;
      word = omega arith;
      count = omega (
        arith,
        ap length items,
        length-map c.push.new.self.items digits_of,
        length-map c.loop-count.fields.items digits_of,
        length-append layout (digits ∷ []),
        c.loop-count.invariant.count,
      );
      room = subst (λ (ds : List Digits). HasRoomBelow ds (take (c.loop-count.count-index + 1) c.args.counts.now)) (sym items)
          (subst (HasRoomBelow (layout ++ digits ∷ [])) (sym (take_more c.args.counts.now c.loop-count.count-index 0 c.loop-count-test.true))
          (all_zipped_more (λ (d : Digits) (n : ℕ). n ≤ 2 ^ d.width) layout (take c.loop-count.count-index c.args.counts.now) digits count
          c.loop-count.invariant.room (c.if-not-holds.ensures.0 refl)));
    }

pub returns-then-word-clause-room : goal.returns-then-word-clause-room
returns-then-word-clause-room g c = λ _ word_fits small.
    let layout : List Digits = map digits_of c.loop-count.fields.items in
    let index = c.loop-count.count-index in
    let count = get_or c.args.counts.now index 0 in
    let width = c.width_for-width.result in
    let word = c.if-shift-width-gt64.word in
    let shift = c.if-shift-width-gt64.shift in
    let placed : IsPlaced g.row.N layout word shift width = elim c.if-shift-width-gt64.branch [
      | then-shift-width-gt64 w ↦ in_next_word g.row.N layout c.loop-count.word c.loop-count.shift width word shift c.loop-count.invariant.begun
          c.width_for-width.ensures.few w.if-shift-width-gt64.true w.word-is w.shift-is
      | else-shift-width-gt64 w ↦ in_same_word g.row.N layout c.loop-count.word c.loop-count.shift width word shift c.loop-count.invariant.begun
          w.if-shift-width-gt64.false w.word-is w.shift-is
    ] in
    let all : length layout ≡ index = length-map c.loop-count.fields.items digits_of ∙ c.loop-count.invariant.count in
    let within : index < length c.args.counts.now = c.loop-count-test.true in
    elim c.then-word.branch [
      | then-word-via-then-word w ↦ omega (arith, w.if-word.true, placed.begun.few, all, within)
      | then-word-via-else-word+then-word-2 w ↦ omega (arith, w.if-word-2.true, word_fits, placed.begun.few, all, within)
      | then-word-via-else-word+else-word-2+then-not-holds w ↦
          let fits : count ≤ 2 ^ 32 = All-get_or (λ (n : ℕ). n ≤ 2 ^ 32) c.args.counts.now index 0 within small in
          let holds : count ≤ 2 ^ width = small_count count width fits c.width_for-width.ensures.few c.width_for-width.ensures.enough in
          absurd (false≢true (w.if-not-holds.ensures.1 holds))
    ]
