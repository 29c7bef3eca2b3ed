use Rattle.std.proofs.Common.{◌≡◌, ◌-◌, ◌++◌, ℕ, List, length, map, replicate, All, ap, subst, ◌∙◌, arith}
use Rattle.step_machine.specs.History.{HartOpeningValue}
use Rattle.litmus.specs.{places, IsThere}
use Rattle.litmus_reader.specs.{hart_content, starts_of}
use Rattle.litmus_reader.proofs.ContentLaws.{is_test, starts_content, starts_plain, same_content, made_content, made_plain}
use Rattle.litmus_reader.proofs.reading.assemble.Goals as goal

pub new-requires : goal.new-requires
new-requires c =
    let codes = c.args.codes.ok.0 in
    let registers = c.args.values.registers.ok.0 in
    let words = c.pad.new.words.ok.0 in
    rw (c.in_ok-harts.ensures, c.deref.ensures.value, c.into_names-names.ensures) (
    is_test c.args.codes.items c.args.values.registers.items c.pad.new.words.items c.args.locations
    c.args.final_condition.quantifier c.args.final_condition.condition
    (omega (arith, codes, registers, c.requires.harts)) (omega (arith, codes, c.requires.some)) (omega (arith, codes, c.requires.few)) c.requires.short
    (omega (arith, words, c.in_ok-pad.ensures.len, c.count.ensures.count, c.count.ensures.few, c.len.ensures, c.requires.words))
    (omega (arith, c.count.ensures.count, c.count.ensures.few))
    (subst (λ (n : ℕ). All (IsThere n (length c.args.locations)) (places c.args.final_condition.condition)) codes c.requires.there))

pub returns-clause-exact : goal.returns-clause-exact
returns-clause-exact c =
    let starts = c.in_ok-harts.ensures ∙ ap (starts_of c.args.codes.items) c.deref.ensures.value in
    let words = c.args.values.words.ok.0 in
    let more : c.count.result - c.len.result ≡ length c.args.locations - length c.args.values.words.items =
    omega (arith, words, c.count.ensures.count, c.len.ensures) in
    made_content c.new.result _ _ c.new.ensures
    (same_content _ _ _ _ _ _ c.args.final_condition.quantifier c.args.final_condition.condition
    (ap (λ (hs : List HartOpeningValue). map hart_content hs) starts ∙ starts_content c.args.codes.items c.args.values.registers.items)
    (c.in_ok-pad.ensures.padded ∙ ap (λ (n : ℕ). c.args.values.words.items ++ replicate n 0) more)
    c.into_names-names.ensures)

pub returns-clause-plain : goal.returns-clause-plain
returns-clause-plain c =
    made_plain c.new.result _ c.new.ensures (rw (c.in_ok-harts.ensures) (starts_plain c.args.codes.items c.deref.result.now c.requires.plain))
