use Rattle.hart_threads.proofs.OnPaths.{all_can_land}
use Rattle.hart_threads.proofs.shared.Shared.land.Goals as goal

pub returns-clause-happens : goal.returns-clause-happens
returns-clause-happens g c = all_can_land _ _ _ _ _
    (record { legal = c.entries.ensures.legal; memory = c.entries.ensures.memory; harts = c.entries.ensures.harts })
    c.land_on.ensures.lands
