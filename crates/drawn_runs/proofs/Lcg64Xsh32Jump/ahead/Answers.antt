use Rattle.std.proofs.Common.{rules, ◌≡◌, ◌+◌, ◌*◌, ap, ◌∙◌, arith, ℕ}
use Rattle.rand_core.specs.Steps.{stream_of, steps_u32}
use Rattle.rand_pcg.specs.Lcg.{advance}
use Rattle.rand_pcg.specs.Pcg.{multiplier_64, pcg32}
use Rattle.drawn_runs.proofs.Jumps.{stream_ahead, advance_again, advance_none}
use Rattle.drawn_runs.proofs.Lcg64Xsh32Jump.ahead.Goals as goal

pub loop-init : goal.loop-init
loop-init c =
    let same : c.in_ok-there.there ≡ c.args.self.now = search rules in
    let none : 0 ≡ c.args.blocks * 0 = omega arith in
    same ∙ advance_none c.args.self.now ∙ ap (λ (n : ℕ). advance 64 multiplier_64 n c.args.self.now) none

pub loop-preserved : goal.loop-preserved
loop-preserved c =
    let more : c.args.blocks * c.loop.counter + c.args.blocks ≡ c.args.blocks * (c.loop.counter + 1) = omega arith in
    c.advance.ensures
    ∙ ap (advance 64 multiplier_64 c.args.blocks) c.loop.invariant
    ∙ advance_again c.args.blocks (c.args.blocks * c.loop.counter) c.args.self.now
    ∙ ap (λ (n : ℕ). advance 64 multiplier_64 n c.args.self.now) more

pub returns : goal.returns
returns c =
    let all : c.loop.counter ≡ c.args.size = search rules in
    ap (stream_of (steps_u32 pcg32)) (c.loop.invariant ∙ ap (λ (n : ℕ). advance 64 multiplier_64 (c.args.blocks * n) c.args.self.now) all)
    ∙ stream_ahead (c.args.blocks * c.args.size) c.args.self.now
