use Rattle.ztso.proofs.work.do_buffered.Goals as goal

pub returns-in-Code-clause-does : goal.returns-in-Code-clause-does
returns-in-Code-clause-does g c = rw c.in-Code.is (c.do_code.ensures.does g.row.B _ _ _)

pub returns-in-Machine-clause-does : goal.returns-in-Machine-clause-does
returns-in-Machine-clause-does g c = rw c.in-Machine.is (c.do_machine.ensures.does _ _ _)

pub returns-in-Find-clause-does : goal.returns-in-Find-clause-does
returns-in-Find-clause-does g c = rw c.in-Find.is (c.find.result, c.after_search.ensures.ended, c.find.ensures)

pub returns-in-Threads-clause-does : goal.returns-in-Threads-clause-does
returns-in-Threads-clause-does g c = rw c.in-Threads.is (c.threads_engine.result, c.after_run.ensures.ended, c.threads_engine.ensures)

pub returns-in-UserChannel-clause-does : goal.returns-in-UserChannel-clause-does
returns-in-UserChannel-clause-does g c = rw c.in-UserChannel.is (c.user_channel_engine.result, c.after.ensures.ended, c.user_channel_engine.ensures.ends)

pub returns-in-Ring-clause-does : goal.returns-in-Ring-clause-does
returns-in-Ring-clause-does g c = rw c.in-Ring.is (c.run_user_ring.result, c.after_runs.ensures.ended, c.run_user_ring.ensures.ends)

pub returns-in-Queue-clause-does : goal.returns-in-Queue-clause-does
returns-in-Queue-clause-does g c = rw c.in-Queue.is (c.judge_certificate.result, c.after_judgement.ensures.ended, c.judge_certificate.ensures.ends)
