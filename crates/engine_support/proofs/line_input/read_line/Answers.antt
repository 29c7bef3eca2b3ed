use Rattle.std.proofs.Common.{◌≢◌, ℕ, List, [], ◌++◌, length, take, sym, ap, subst, ◌∙◌, ◌≤◌, true≢false}
use Rattle.std.proofs.lemmas.List.Elements.{All-append, All-nil}
use Rattle.std.proofs.KnownBytes.{Consumes-nil, Consumes-trans}
use Rattle.std.proofs.BufReadLemmas.{Consumes_through}
use Rattle.engine_support.proofs.Endings.{is_handed}
use Rattle.engine_support.proofs.LineReading.{kept_both, kept_few, line_whole}
use Rattle.engine_support.proofs.line_input.read_line.Goals as goal

pub loop-init : goal.loop-init
loop-init g c = ([], c.clear.ensures.items, All-nil (λ byte. byte ≢ 10), Consumes-nil _)

pub take_part-requires : goal.take_part-requires
take_part-requires g c =
    let (taken, kept, none, read) = c.loop.invariant in
    subst (λ (xs : List ℕ). length xs ≤ 1048577) (sym kept) (kept_few 1048577 taken)

pub loop-preserved : goal.loop-preserved
loop-preserved g c =
    let (taken, kept, none, read) = c.loop.invariant in
    let (part, is, more) = c.in_ok-is_done.ensures.part in (
      taken ++ part,
      more ∙ ap (λ (xs : List ℕ). take 1048577 (xs ++ part)) kept ∙ kept_both 1048577 taken part,
      All-append (λ byte. byte ≢ 10) taken part none (is.goes_on (λ e. true≢false (sym e ∙ c.if-is_done.false))),
      Consumes-trans _ _ _ _ _ read is.taken,
    )

pub returns-then-is_done : goal.returns-then-is_done
returns-then-is_done g c =
    let (taken, kept, none, read) = c.loop.invariant in
    let (part, is, more) = c.in_ok-is_done.ensures.part in
    let whole = more ∙ ap (λ (xs : List ℕ). take 1048577 (xs ++ part)) kept ∙ kept_both 1048577 taken part in
    let all = Consumes_through 10 _ _ _ taken part read none is.taken is.stops (is.ends c.if-is_done.true) (is.is_last c.if-is_done.true) in
    let line = c.take_part.new.line.items in
    record {
      bytes = line_whole (g.R.Read.remaining c.args.reader.now) line (taken ++ part) all.0 whole;
      rest = all.1;
      few = subst (λ (xs : List ℕ). length xs ≤ 1048577) (sym whole) (kept_few 1048577 (taken ++ part));
      err = tt;
    }

pub returns-in_err-is_done-clause-err : goal.returns-in_err-is_done-clause-err
returns-in_err-is_done-clause-err g c =
    rw (is_handed c.from_residual.result _ c.from_residual.ensures.1) c.in_err-is_done.ensures.err
