use Rattle.std.proofs.Common.{◌-◌, ◌≤◌, length, arith}
use Rattle.std.proofs.lemmas.Result.{err_from_is_err_and}
use Rattle.recorder.proofs.TextLaws.{gives_refused, tokens_after-read, tokens_after-less}
use Rattle.recorder.proofs.reading.tokens_after.Goals as goal

pub returns-in_err-events : goal.returns-in_err-events
returns-in_err-events c =
    let p = err_from_is_err_and c.from_residual.result c.from_residual.ensures.1 in
    gives_refused _ c.args.before c.args.text.now c.from_residual.result p.0 c.in_err-events.field-0.0 c.in_err-events.ensures p.1 p.2

pub returns-then-len-room : goal.returns-then-len-room
returns-then-len-room c =
    let few : length c.in_ok-events.events.items ≤ 1048576 - c.args.before = omega (arith, c.in_ok-events.events.ok.0) in
    tokens_after-less c.args.before c.args.text.now c.in_ok-events.events.items c.in_ok-events.ensures few

pub returns : goal.returns
returns c =
    rw (
      tokens_after-read c.args.before c.args.text.now c.in_ok-events.events.items c.in_ok-events.ensures,
      ← c.saturating_sub-room.ensures,
    ) c.tokens_within-2.ensures
