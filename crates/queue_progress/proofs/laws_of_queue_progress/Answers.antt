use Rattle.std.proofs.Common.{arith, ◌≤◌, ◌+◌, ◌*◌, length}
use Rattle.slot_queue.specs.{hart}
use Rattle.queue_certificates.specs.Certificates.{queue_at}
use Rattle.queue_progress.specs.{executed, sides, teller_at}
use Rattle.queue_progress.proofs.Going.{pace, looking, going}
use Rattle.queue_progress.proofs.Shown.{shown, told_shown, hart_shown}
use Rattle.queue_progress.proofs.Together.{hart_going}
use Rattle.queue_progress.proofs.Standing.{stands}
use Rattle.queue_progress.proofs.Arriving.{arrives, told_arrives}
use Rattle.queue_progress.proofs.ToldGoing.{told_going}
use Rattle.queue_progress.proofs.ToldStanding.{told_stands}
use Rattle.queue_progress.proofs.laws_of_queue_progress.Goals as goal

pub returns-clause-shown : goal.returns-clause-shown
returns-clause-shown c o certificate h i g is = shown o certificate h i g is

pub returns-clause-told_shown : goal.returns-clause-told_shown
returns-clause-told_shown c o certificate h t N is = told_shown o certificate h t N is

pub returns-clause-hart_shown : goal.returns-clause-hart_shown
returns-clause-hart_shown c o certificate h g is = hart_shown o certificate h g is

pub returns-clause-pace : goal.returns-clause-pace
returns-clause-pace c B M o certificate ok i p less = pace B M o certificate ok i p less

pub returns-clause-looking : goal.returns-clause-looking
returns-clause-looking c B M o certificate ok i p less = looking B M o certificate ok i p less

pub returns-clause-going : goal.returns-clause-going
returns-clause-going c o certificate ok i p less g is B M es row run each =
    let most : executed (hart (queue_at certificate i) p) row ≤ g.pace + g.sight + 1 = going B M o certificate ok i p less g is es row run each in
    omega (arith, most)

pub returns-clause-stands : goal.returns-clause-stands
returns-clause-stands c o certificate ok i s r both B M = stands B M o certificate ok i both.inside s r both.few both.sends both.receives

pub returns-clause-arrives : goal.returns-clause-arrives
returns-clause-arrives c B M o certificate ok i s r both = arrives B M o certificate ok i both.inside s r both.few both.sends both.receives

pub returns-clause-hart_going : goal.returns-clause-hart_going
returns-clause-hart_going c o certificate ok h g is B M es row run each =
    let most : executed h row ≤ g.pace + sides certificate h (length certificate.queues) * (g.sight + 1) =
    hart_going B M o certificate ok h g is es row run each in
    omega (arith, most)

pub returns-clause-told_going : goal.returns-clause-told_going
returns-clause-told_going c o certificate ok t p less N is B M es row run each =
    let most : executed (teller_at certificate t p) row ≤ N = told_going B M o certificate ok t p less N is es row run each in omega (arith, most)

pub returns-clause-told_stands : goal.returns-clause-told_stands
returns-clause-told_stands c o certificate ok t s r both B M es row run landed enough also =
    told_stands B M o certificate ok t both.inside s r both.sends both.receives es row run landed (omega (arith, enough)) (omega (arith, also))

pub returns-clause-told_arrives : goal.returns-clause-told_arrives
returns-clause-told_arrives c B M o certificate ok t s r both = told_arrives B M o certificate ok t both.inside s r both.sends both.receives
