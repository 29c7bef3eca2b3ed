use Rattle.std.proofs.Common.{◌<◌, ◌≤◌, Some, None, length, rules, arith}
use Rattle.texts.specs.{is_blank, fails}
use Rattle.texts.proofs.CuttingLaws.{length-from_first}
use Rattle.texts.proofs.TokenLaws.{first_is, tokens-cut}
use Rattle.texts.proofs.cutting.first_token.Goals as goal

pub returns-in-Some-clause-cut : goal.returns-in-Some-clause-cut
returns-in-Some-clause-cut c =
    let some : 0 < length c.without_front-line.result.now = search rules in
    first_is c.args.line.now c.without_front-line.result.now _ (Some c.in-Some.rest.now)
    c.without_front-line.ensures some c.cut_at_any.ensures.front (rw c.in-Some.is at c.cut_at_any.ensures.back)

pub returns-in-Some-clause-tokens : goal.returns-in-Some-clause-tokens
returns-in-Some-clause-tokens c = tokens-cut c.args.line.now _ _ (returns-in-Some-clause-cut c)

pub returns-in-Some-clause-shorter : goal.returns-in-Some-clause-shorter
returns-in-Some-clause-shorter c =
    let le : length c.without_front-line.result.now ≤ length c.args.line.now =
    rw c.without_front-line.ensures (length-from_first (fails is_blank) c.args.line.now) in
    let rest = rw c.in-Some.is at c.cut_at_any.ensures.rest in
    omega arith

pub returns-in-None-clause-cut : goal.returns-in-None-clause-cut
returns-in-None-clause-cut c =
    let some : 0 < length c.without_front-line.result.now = search rules in
    first_is c.args.line.now c.without_front-line.result.now _ None c.without_front-line.ensures some
    c.cut_at_any.ensures.front (rw c.in-None.is at c.cut_at_any.ensures.back)

pub returns-in-None-clause-tokens : goal.returns-in-None-clause-tokens
returns-in-None-clause-tokens c = tokens-cut c.args.line.now _ _ (returns-in-None-clause-cut c)

pub returns-in-Some-clause-within : goal.returns-in-Some-clause-within
returns-in-Some-clause-within c =
    let le : length c.without_front-line.result.now ≤ length c.args.line.now =
    rw c.without_front-line.ensures (length-from_first (fails is_blank) c.args.line.now) in
    omega (arith, c.cut_at_any.ensures.rest)

pub returns-in-None-clause-within : goal.returns-in-None-clause-within
returns-in-None-clause-within c =
    let le : length c.without_front-line.result.now ≤ length c.args.line.now =
    rw c.without_front-line.ensures (length-from_first (fails is_blank) c.args.line.now) in
    omega (arith, c.cut_at_any.ensures.rest)
