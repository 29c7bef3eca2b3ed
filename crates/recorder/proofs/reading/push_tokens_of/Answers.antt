use Rattle.std.proofs.Common.{vec_len, Ok}
use Rattle.std.proofs.lemmas.Result.{err_from_is_err_and}
use Rattle.recorder.specs.Reading.{Pushes, tokens_after}
use Rattle.recorder.proofs.TextLaws.{tokens_after-found, only_pushed, pushes_refused}
use Rattle.recorder.proofs.reading.push_tokens_of.Goals as goal

pub returns-in_err-read-clause-only : goal.returns-in_err-read-clause-only
returns-in_err-read-clause-only c read is few =
    let p = err_from_is_err_and c.from_residual.result c.from_residual.ensures.1 in
    let old = c.args.events.now.items in
    let answer = tokens_after (vec_len c.args.events.now) c.args.text.now in
    let refused = pushes_refused old answer c.from_residual.result p.0 c.in_err-read.field-0.0 (rw c.len.ensures at c.in_err-read.ensures) p.1 p.2 in
    only_pushed (vec_len c.args.events.now) c.args.text.now old old read c.from_residual.result refused is few

pub returns-clause-found : goal.returns-clause-found
returns-clause-found c = (
  c.in_ok-read.read.items,
  tokens_after-found c.len.result c.args.text.now c.in_ok-read.read.items c.in_ok-read.ensures,
  c.in_ok-push_list.ensures.ok,
)

pub returns-clause-only : goal.returns-clause-only
returns-clause-only c read is few =
    let pushed : Pushes c.args.events.now.items c.push_list.new.events.items (Ok tt) (tokens_after (vec_len c.args.events.now) c.args.text.now) =
    (c.in_ok-read.read.items, rw c.len.ensures at c.in_ok-read.ensures, c.in_ok-push_list.ensures.ok) in
    only_pushed (vec_len c.args.events.now) c.args.text.now c.args.events.now.items c.push_list.new.events.items read (Ok tt) pushed is few
