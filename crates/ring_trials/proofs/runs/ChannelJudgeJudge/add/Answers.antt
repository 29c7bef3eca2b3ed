use Rattle.std.proofs.Common.{[], ◌∷◌, ◌++◌, length, sym, ap, subst, ◌∙◌, arith}
use Rattle.std.specs.List.{slice_get}
use Rattle.step_machine.specs.Entries.{reported}
use Rattle.poll_close.specs.Violations.{AreNotes}
use Rattle.ring_trials.specs.Trials.{AreTotals, AreTotalsOf}
use Rattle.ring_trials.proofs.RunsLaws.{few_counted, one_counted, whole_again}
use Rattle.ring_trials.proofs.runs.ChannelJudgeJudge.add.Goals as goal

pub take_in-requires-clause-count : goal.take_in-requires-clause-count
take_in-requires-clause-count g c =
    ap length c.deref_mut.ensures.value ∙ c.requires.counted.2.count ∙ sym c.requires.stands.count ∙ sym (ap length c.deref.ensures.value)

pub take_in-requires-clause-few : goal.take_in-requires-clause-few
take_in-requires-clause-few g c k s at =
    let few = few_counted g.row.B g.row.M c.args.self.now.channel.now 4294967294 k c.args.totals.now.items s c.requires.counted
    (ap (λ xs. slice_get xs k) (sym c.deref_mut.ensures.value) ∙ at) in
    omega (arith, few)

pub returns : goal.returns
returns g c all events counted noted =
    let channel = c.args.self.now.channel.now in
    let same = c.take_in.ensures.count ∙ ap length c.deref_mut.ensures.value in
    let back = whole_again c.args.totals.now.len c.take_in.new.totals c.args.totals.now.items same (omega arith) in
    subst (AreTotalsOf g.row.B g.row.M channel (all ++ events ∷ [])) (sym back)
    (one_counted g.row.B g.row.M channel all events c.args.totals.now.items c.take_in.new.totals c.args.bench.now.shares.items counted noted
    (λ ts t are notes. c.take_in.ensures.totals ts t (subst (AreTotals ts) (sym c.deref_mut.ensures.value) are)
    (subst (AreNotes (reported 0 t.entries)) (sym c.deref.ensures.value) notes)) same)
