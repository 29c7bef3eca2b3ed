use Rattle.std.proofs.Common.{◌≡◌, ℕ, ◌<◌, List, [], ◌∷◌, length, rules, refl, sym, ap, subst, ◌∙◌, lit<, arith}
use Rattle.engine_support.specs.Inputs.{kept_of}
use Rattle.engine_support.proofs.{is_handed, hands_read_failure, keeps_written, stopped, unwritten, kept_nothing}
use Rattle.checking.specs.inner.{SomeWritten, TakesLine}
use Rattle.checking.proofs.Goings.{going_ended, going_line, going_nothing, going_room, going_so_far, next_whole, whole_of}
use Rattle.checking.proofs.check.judge_all.Goals as goal

no_items : (xs : List ℕ) → length xs ≡ 0 → xs ≡ []
no_items [] e = refl
no_items (x ∷ xs) e = absurd (omega (arith, e))

pub loop-init : goal.loop-init
loop-init g c = record {
  going = rw c.new-text.ensures.items
      (going_nothing g.row.B g.row.M c.args.test.now (g.R.Read.remaining c.args.records.now)
      (g.W.Write.contents c.args.writer.now) c.new-tally.result c.new-tally.ensures);
  stands = c.requires.stands;
}

pub returns-in_err-read_line-clause-err : goal.returns-in_err-read_line-clause-err
returns-in_err-read_line-clause-err g c =
    hands_read_failure c.from_residual.result _ (is_handed c.from_residual.result _ c.from_residual.ensures.1) c.in_err-read_line.ensures.err

pub returns-in_err-read_line-clause-left : goal.returns-in_err-read_line-clause-left
returns-in_err-read_line-clause-left g c = stopped c.from_residual.result _ (going_so_far c.loop.invariant.going)

pub returns-in_err-read_line-clause-unwritten : goal.returns-in_err-read_line-clause-unwritten
returns-in_err-read_line-clause-unwritten g c =
    let so_far = going_so_far c.loop.invariant.going in unwritten c.from_residual.result _ (so_far.0, so_far.2)

pub loop-preserved : goal.loop-preserved
loop-preserved g c = record {
  going = let left = g.R.Read.remaining c.loop.records in
      let kept = c.read_line.new.line.items in
      let is = next_whole left (g.R.Read.remaining c.read_line.new.reader) kept c.in_ok-read_line.ensures.bytes c.in_ok-read_line.ensures.rest
      c.in_ok-read_line.ensures.few in
      going_line c.loop.invariant.going (g.R.Read.remaining c.read_line.new.reader) (whole_of left kept) is.0
      (λ none. let empty : kept ≡ [] = sym is.1 ∙ ap kept_of none in grind arith)
      c.take_line.new.text.items c.take_line.new.tally (g.W.Write.contents c.take_line.new.writer)
      (subst (λ (line : List ℕ). TakesLine g.row.B g.row.M c.args.test.now line c.loop.text.items c.take_line.new.text.items
      c.loop.tally c.take_line.new.tally (g.W.Write.contents c.loop.writer) (g.W.Write.contents c.take_line.new.writer))
      (sym is.1) c.in_ok-take_line.ensures.taken);
  stands = c.in_ok-take_line.ensures.stands;
}

pub returns-clause-left : goal.returns-clause-left
returns-clause-left g c = going_so_far c.loop.invariant.going

pub judge_text-requires : goal.judge_text-requires
judge_text-requires g c =
    let few : c.loop.counter < 18446744073709551615 = search rules in
    (lit< tt, (c.loop.invariant.stands, (c.requires.names, going_room c.loop.invariant.going few)))

pub take_line-requires : goal.take_line-requires
take_line-requires g c =
    let few : c.loop.counter < 18446744073709551615 = search rules in
    (lit< tt, (c.loop.invariant.stands, (c.requires.names, going_room c.loop.invariant.going few)))

pub returns-in_err-judge_text-clause-left : goal.returns-in_err-judge_text-clause-left
returns-in_err-judge_text-clause-left g c =
    keeps_written (Unit {0}) c.from_residual-in_err-judge_text.result _
    (is_handed c.from_residual-in_err-judge_text.result _ c.from_residual-in_err-judge_text.ensures.1)
    c.loop.writer c.judge_text.new.writer
    (λ w. SomeWritten g.row.B g.row.M c.args.test.now (g.R.Read.remaining c.args.records.now) (g.W.Write.contents c.args.writer.now) (g.W.Write.contents w))
    c.in_err-judge_text.ensures.left (going_so_far c.loop.invariant.going)

pub returns-in_err-judge_text-clause-unwritten : goal.returns-in_err-judge_text-clause-unwritten
returns-in_err-judge_text-clause-unwritten g c =
    let so_far = going_so_far c.loop.invariant.going in unwritten c.from_residual-in_err-judge_text.result _ (so_far.0, so_far.2)

pub returns-then-is_empty-clause-judged : goal.returns-then-is_empty-clause-judged
returns-then-is_empty-clause-judged g c =
    let left = g.R.Read.remaining c.loop.records in
    let kept = c.read_line.new.line.items in
    let len : length kept ≡ 0 = grind arith in
    let is = next_whole left (g.R.Read.remaining c.read_line.new.reader) kept c.in_ok-read_line.ensures.bytes c.in_ok-read_line.ensures.rest
    c.in_ok-read_line.ensures.few in
    going_ended c.loop.invariant.going (g.R.Read.remaining c.read_line.new.reader) (whole_of left kept) is.0
    (kept_nothing 1048576 (whole_of left kept) (is.1 ∙ no_items kept len))
    c.judge_text.new.tally (g.W.Write.contents c.judge_text.new.writer) (rw c.deref.ensures.value at c.in_ok-judge_text.ensures.written)

pub returns-in_err-take_line-clause-left : goal.returns-in_err-take_line-clause-left
returns-in_err-take_line-clause-left g c =
    keeps_written (Unit {0}) c.from_residual-in_err-take_line.result _
    (is_handed c.from_residual-in_err-take_line.result _ c.from_residual-in_err-take_line.ensures.1)
    c.loop.writer c.take_line.new.writer
    (λ w. SomeWritten g.row.B g.row.M c.args.test.now (g.R.Read.remaining c.args.records.now) (g.W.Write.contents c.args.writer.now) (g.W.Write.contents w))
    c.in_err-take_line.ensures.left (going_so_far c.loop.invariant.going)

pub returns-in_err-take_line-clause-unwritten : goal.returns-in_err-take_line-clause-unwritten
returns-in_err-take_line-clause-unwritten g c =
    let so_far = going_so_far c.loop.invariant.going in unwritten c.from_residual-in_err-take_line.result _ (so_far.0, so_far.2)
