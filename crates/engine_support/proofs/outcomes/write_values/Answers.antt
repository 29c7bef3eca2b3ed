use Rattle.std.proofs.Common.{ℕ, List, ◌++◌, length, refl, subst}
use Rattle.std.specs.Io.KnownBytes.{Appends}
use Rattle.std.proofs.lemmas.List.Elements.{All-rest}
use Rattle.std.proofs.lemmas.Slice.Zip.{Zip-more, either_empty_from_Zip}
use Rattle.litmus.specs.LitmusTests.{IsThere}
use Rattle.engine_support.specs.Outcomes.{value_text}
use Rattle.engine_support.proofs.OutcomeLines.{pair_written, pairs_written}
use Rattle.engine_support.proofs.Written.{appends_more}
use Rattle.engine_support.proofs.outcomes.write_values.Goals as goal

pub loop-place-preserved : goal.loop-place-preserved
loop-place-preserved g c =
    let more = Zip-more c.loop-place.place-iterator c.next.new.self c.next.result (c.in-Some.place, c.in-Some.value) c.in-Some.is c.next.ensures.steps in
    let (out, appends, is) = c.loop-place.invariant.so_far in
    let value = value_text c.args.test.now.names (c.in-Some.place.now, c.in-Some.value.now) in
    record {
      so_far = (
        out ++ value,
        appends_more _ _ _ out value appends c.in_ok-write_value.ensures,
        pair_written (value_text c.args.test.now.names) out (out ++ value) _ _ _ _ _ _ _ more.0 more.1 is refl,
      );
      there = All-rest (IsThere (length c.args.test.now.opening.harts) (length c.args.test.now.names)) _ _ _ more.0 c.loop-place.invariant.there;
    }

pub returns : goal.returns
returns g c =
    let (out, appends, is) = c.loop-place.invariant.so_far in
    subst (λ (xs : List ℕ). Appends (g.W.Write.contents c.args.writer.now) (g.W.Write.contents c.loop-place.writer) xs)
    (pairs_written (value_text c.args.test.now.names) out _ _ _
    (either_empty_from_Zip c.loop-place.place-iterator c.next.new.self c.next.result c.in-None.is c.next.ensures.steps) is)
    appends
