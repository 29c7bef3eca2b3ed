-- The meaning holds at the opening, and each event keeps it.
use Rattle.std.proofs.Common.{refl}
use Rattle.poll_close.proofs.Delivering.{delivers, run-known, channel-fits}
use Rattle.poll_close.proofs.Standing.{stands-opens, stands-run, stands-goes}
use Rattle.poll_close.proofs.delivery.laws_of_channels.Goals as goal

pub returns-clause-fits : goal.returns-clause-fits
returns-clause-fits g c = λ M lists l accepted. channel-fits g.K.RingKind.ring M lists l _ c.laws.ensures.short accepted refl

pub returns-clause-clean : goal.returns-clause-clean
returns-clause-clean g c = λ B M lists l evs t accepted run.
    (delivers g.K.RingKind.ring g.K.RingKind.meaning B M lists l evs t _ _ c.laws.ensures.opens c.laws.ensures.keeps
    c.laws.ensures.cleans accepted refl run refl).clean

pub returns-clause-stands : goal.returns-clause-stands
returns-clause-stands g c = λ B M lists l evs t accepted run.
    stands-run g.K.RingKind.ring g.K.RingKind.meaning B M _ evs t c.laws.ensures.keeps
    (stands-opens g.K.RingKind.ring g.K.RingKind.meaning B M lists l _ c.laws.ensures.opens accepted refl) run

pub returns-clause-goes : goal.returns-clause-goes
returns-clause-goes g c = λ B M lists l evs t accepted run.
    stands-goes g.K.RingKind.ring g.K.RingKind.meaning B M t c.laws.ensures.goes (returns-clause-stands g c B M lists l evs t accepted run)

pub returns-clause-touches : goal.returns-clause-touches
returns-clause-touches g c = λ B M lists l evs t accepted run.
    c.laws.ensures.stays B M lists l t accepted
    (run-known g.K.RingKind.ring g.K.RingKind.meaning B M lists l evs t c.laws.ensures.opens c.laws.ensures.keeps
    accepted run).meant
