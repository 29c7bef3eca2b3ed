use Rattle.std.proofs.Common.{◌≡◌, ◌-◌, ◌+◌, ℕ, suc, List, [], ◌∷◌, ◌++◌, ◌∙◌, refl, sym, subst, arith, rules}
use Rattle.std.specs.Prelude.{OnOk, codes}
use Rattle.std.specs.Io.KnownBytes.{Appends}
use Rattle.recorder.specs.{drawn_words, is_same, repetition_text}
use Rattle.drawn_runs.specs.Draws.{events_by, no_burst}
use Rattle.engine_support.proofs.Written.{appends_more, appends_nothing, ends_written}
use Rattle.sampling.proofs.RedrawnLaws.{all_left, events_left, none_left, one_left, text-begun, text-ended, text-none, text-other, text-same}
use Rattle.sampling.proofs.trials.redrawn.write_schedule.Goals as goal
use Rattle.sampling.proofs.trials.redrawn.write_schedule.Goals.{then-eq, else-eq+in_ok-write_token+in_ok-write_all-2}

pub loop-init : goal.loop-init
loop-init g c =
    let draw = c.args.draw in
    let harts = c.args.harts in
    let size = c.args.size in
    let before = g.G.Rng.stream c.args.generator.now in
    let after = g.G.Rng.stream c.next_u32.new.self in
    let some : size ≡ suc (size - 1) = omega arith in
    let is = sym (all_left draw harts size before)
    ∙ one_left draw harts size (size - 1) c.next_u32.result no_burst before after c.next_by-event.result some c.next_u32.ensures c.next_by-event.ensures in
    record {
      few = omega arith;
      so_far = (
        codes " ",
        c.in_ok-write_all.ensures.bytes,
        text-begun c.next_by-event.result.0 (events_by draw harts (drawn_words size before))
            (events_left draw harts c.next_by-event.result.1 (size - 1) after) is,
      );
    }

pub returns-then-size-eq0 : goal.returns-then-size-eq0
returns-then-size-eq0 g c =
    let start = g.W.Write.contents c.args.writer.now in
    subst (λ (xs : List ℕ). Appends start start xs)
    (sym (text-none c.args.draw c.args.harts c.args.size (g.G.Rng.stream c.args.generator.now) c.if-size-eq0.true)) (appends_nothing start)

pub loop-preserved : goal.loop-preserved
loop-preserved g c =
    let draw = c.args.draw in
    let harts = c.args.harts in
    let event = c.loop.event in
    let times = c.loop.times in
    let next = c.next_by-next.result in
    let before = g.G.Rng.stream c.loop.generator in
    let after = g.G.Rng.stream c.next_u32-in-loop.new.self in
    let rest = events_left draw harts next.1 (c.args.size - (c.loop.counter + 1)) after in
    let (out, appends, so_far) = c.loop.invariant.so_far in
    let more : c.args.size - c.loop.counter ≡ suc (c.args.size - (c.loop.counter + 1)) = omega (arith, c.loop-test.true) in
    let is = one_left draw harts (c.args.size - c.loop.counter) (c.args.size - (c.loop.counter + 1)) c.next_u32-in-loop.result c.loop.burst before after next
    more c.next_u32-in-loop.ensures c.next_by-next.ensures in
    let tested : c.eq.result ≡ is_same event next.0 = search rules in
    elim c.if-eq.branch [
      | then-eq w ↦ record {
        few = omega (arith, w.times-is, c.loop.invariant.few);
        so_far = rw (w.writer-is, w.event-is, w.times-is)
            (out, appends, text-same event next.0 times _ rest out _ is (sym tested ∙ w.if-eq.true) so_far);
      }
      | else-eq+in_ok-write_token+in_ok-write_all-2 w ↦ record {
        few = omega (arith, w.times-is);
        so_far =
            let token = repetition_text (event, times) in
            let written = appends_more _ _ _ token (32 ∷ []) w.in_ok-write_token.ensures w.in_ok-write_all-2.ensures.bytes in
            rw (w.writer-is, w.event-is, w.times-is) (
              out ++ (token ++ 32 ∷ []),
              appends_more _ _ _ out (token ++ 32 ∷ []) appends written,
              text-other event next.0 times _ rest out _ _ is (sym tested ∙ w.if-eq.false) so_far refl,
            );
      }
    ]

pub returns : goal.returns
returns g c =
    let (out, appends, is) = c.loop.invariant.so_far in
    let left = events_left c.args.draw c.args.harts c.loop.burst (c.args.size - c.loop.counter) (g.G.Rng.stream c.loop.generator) in
    let none : left ≡ [] = none_left c.args.draw c.args.harts (c.args.size - c.loop.counter) c.loop.burst (g.G.Rng.stream c.loop.generator) (omega arith) in
    subst (λ (xs : List ℕ). OnOk c.write_token-2.result (Appends (g.W.Write.contents c.args.writer.now) (g.W.Write.contents c.write_token-2.new.writer) xs))
    (text-ended c.loop.event c.loop.times left out _ none is)
    (ends_written c.write_token-2.result _ _ _ out (repetition_text (c.loop.event, c.loop.times)) appends c.write_token-2.ensures)
