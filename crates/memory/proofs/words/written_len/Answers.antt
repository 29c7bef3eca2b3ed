use Rattle.std.proofs.Common.{◌≡◌, ℕ, ◌-◌, arith, get_or, subst}
use Rattle.memory.proofs.Written.{written_is}
use Rattle.memory.proofs.words.written_len.Goals as goal

pub returns-else-words-len-clause-value : goal.returns-else-words-len-clause-value
returns-else-words-len-clause-value c =
    written_is c.args.first.now c.args.words.now c.loop-len.len (omega (arith, c.requires.len)) (omega (arith, c.requires.place)) c.loop-len.invariant.after
    (λ m last same. let there : c.loop-len.len - 1 ≡ m = omega arith in
    subst (λ (n : ℕ). get_or c.args.words.now n 0 ≡ get_or c.args.first.now n 0 → ⊥) there c.if-words-len.false same)

pub returns-after-loop-len-clause-value : goal.returns-after-loop-len-clause-value
returns-after-loop-len-clause-value c =
    written_is c.args.first.now c.args.words.now c.loop-len.len (omega (arith, c.requires.len)) (omega (arith, c.requires.place)) c.loop-len.invariant.after
    (λ m last same. let none : ⊥ = omega arith in none)
