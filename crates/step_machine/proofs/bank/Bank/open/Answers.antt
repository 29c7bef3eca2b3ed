-- A bank opens as its opening says.
use Rattle.std.proofs.Common.{◌≡◌, length, arith}
use Rattle.std.proofs.lemmas.Grind.{common_steps}
use Rattle.step_machine.specs.Names.{BankView, opened_bank, opened_stored}
use Rattle.step_machine.proofs.Banking.{sound_opening}
use Rattle.step_machine.proofs.bank.Bank.open.Goals as goal

pub invariant_of-result : goal.invariant_of-result
invariant_of-result g c =
    let view : BankView = record { first = c.in_ok-first.first.items; entries = c.new.result.entries; over = c.in_ok-over.over.items } in
    let is : view ≡ opened_bank c.args.opening.now = grind (arith, common_steps) in
    let holds : c.in_ok-stores.stores ≡ opened_stored g.row.M c.args.opening.now.words (length c.args.opening.now.harts) = grind (arith, common_steps) in
    sound_opening g.row.B g.row.M c.args.opening.now view c.in_ok-stores.stores c.requires.fits is holds
