use Rattle.std.proofs.Common.{◌++◌, length, sym, ap, subst, ◌∙◌, arith}
use Rattle.std.specs.List.{slice_get}
use Rattle.ring_trials.specs.Trials.{AreTotals, AreTotalsOf}
use Rattle.ring_trials.proofs.RunsLaws.{few_counted, both_counted, whole_again}
use Rattle.ring_trials.proofs.runs.ChannelJudgeJudge.join.Goals as goal

pub join-requires-clause-few : goal.join-requires-clause-few
join-requires-clause-few g c k s l at there =
    let channel = c.args.self.now.channel.now in
    let one = few_counted g.row.B g.row.M channel c.requires.0 k c.args.totals.now.items s c.requires.3
    (ap (λ xs. slice_get xs k) (sym c.deref_mut.ensures.value) ∙ at) in
    let other = few_counted g.row.B g.row.M channel c.requires.1 k c.args.later.items l c.requires.4
    (ap (λ xs. slice_get xs k) (sym c.deref.ensures.value) ∙ there) in
    omega (arith, one, other, c.requires.2)

pub returns : goal.returns
returns g c all more counted others =
    let channel = c.args.self.now.channel.now in
    let same = c.join.ensures.count ∙ ap length c.deref_mut.ensures.value in
    let back = whole_again c.args.totals.now.len c.join.new.totals c.args.totals.now.items same (omega arith) in
    subst (AreTotalsOf g.row.B g.row.M channel (all ++ more)) (sym back)
    (both_counted g.row.B g.row.M channel all more c.args.totals.now.items c.args.later.items c.join.new.totals counted others
    (λ ts us are also. c.join.ensures.totals ts us (subst (AreTotals ts) (sym c.deref_mut.ensures.value) are)
    (subst (AreTotals us) (sym c.deref.ensures.value) also)) same)
