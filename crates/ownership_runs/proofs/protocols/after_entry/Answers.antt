use Rattle.std.proofs.Common.{◌+◌, sym, ap, ◌∙◌, arith}
use Rattle.std.specs.Option.{option_map}
use Rattle.memory.specs.Writes.{write}
use Rattle.step_machine.specs.declared.events.Entry.{Entry}
use Rattle.step_machine.specs.Names.{store, exchange, access_of, hart_of}
use Rattle.queue_layouts.specs.Sides.{the_party}
use Rattle.ownership_runs.specs.{access_counts, party_for}
use Rattle.ownership_runs.specs.inner.Bounds.{STEP, ROOM}
use Rattle.ownership_runs.proofs.LossSteps.{exchanged}
use Rattle.ownership_runs.proofs.protocols.after_entry.Goals as goal

pub after_store-requires-in-Amo : goal.after_store-requires-in-Amo
after_store-requires-in-Amo c = c.after_load-loaded.ensures.within ROOM c.requires

pub returns-in-Load-clause-within : goal.returns-in-Load-clause-within
returns-in-Load-clause-within c n within =
    let after = c.after_load.ensures.within n within in
    record {
      published = omega (arith, after.published);
      taken = omega (arith, after.taken);
      known_taken = after.known_taken;
      known_published = after.known_published;
    }

pub returns-in-Store-clause-within : goal.returns-in-Store-clause-within
returns-in-Store-clause-within c n within =
    let after = c.after_store.ensures.within n n within in
    record {
      published = after.published;
      taken = after.taken;
      known_taken = omega (arith, after.known_taken);
      known_published = omega (arith, after.known_published);
    }

pub returns-in-Amo-clause-value : goal.returns-in-Amo-clause-value
returns-in-Amo-clause-value c =
    let q = c.args.queue.now in
    let counts = c.args.counts in
    let t = option_map the_party c.party_for-party.result in
    let a = c.in-Amo.addr in
    let old = c.in-Amo.old in
    let new = c.in-Amo.new in
    c.after_store-in-Amo.ensures.value ∙ ap (access_counts q t (store (write a 4 new))) c.after_load-loaded.ensures.value
    ∙ sym (exchanged q t a old new counts)
    ∙ ap (λ p. access_counts q p (exchange a old new) counts) (c.party_for-party.ensures ∙ ap (party_for q) c.hart.ensures)
    ∙ ap (λ (e : Entry). access_counts q (party_for q (hart_of c.args.entry)) (access_of e) counts) (sym c.in-Amo.is)

pub returns-in-Amo-clause-within : goal.returns-in-Amo-clause-within
returns-in-Amo-clause-within c n within = c.after_store-in-Amo.ensures.within n (n + STEP) (c.after_load-loaded.ensures.within n within)
