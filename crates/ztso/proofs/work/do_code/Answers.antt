use Rattle.ztso.proofs.work.do_code.Goals as goal

pub returns-in-Asm-clause-does : goal.returns-in-Asm-clause-does
returns-in-Asm-clause-does g c = λ B written read once. rw c.in-Asm.is (c.asm_engine.result, c.after.ensures.ended, c.asm_engine.ensures)

pub returns-in-Dis-clause-does : goal.returns-in-Dis-clause-does
returns-in-Dis-clause-does g c = λ B written read once. rw c.in-Dis.is (c.dis_engine.result, c.after-in-Dis.ensures.ended, c.dis_engine.ensures)
