use Rattle.std.proofs.Common.{◌≡◌, true}
use Rattle.tokens.proofs.Held.{exclusive, stays, as_stored, loads, handed_on}
use Rattle.tokens.proofs.Roles.{plays, follows, ordered, both_follow}
use Rattle.tokens.proofs.EveryRun.{every_run, every_state, every_role_run}
use Rattle.tokens.proofs.laws_of_tokens.Goals as goal

pub returns-clause-exclusive : goal.returns-clause-exclusive
returns-clause-exclusive c = λ B q start o es e follows. exclusive B q o start es e follows

pub returns-clause-stays : goal.returns-clause-stays
returns-clause-stays c = λ B q start o es e follows. stays B q o start es e follows

pub returns-clause-as_stored : goal.returns-clause-as_stored
returns-clause-as_stored c = λ B q start o es follows. as_stored B q o start es follows

pub returns-clause-loads : goal.returns-clause-loads
returns-clause-loads c = λ B q start o es e follows. loads B q o start es e follows

pub returns-clause-in_turn : goal.returns-clause-in_turn
returns-clause-in_turn c = λ B q start o es follows s V fresh. plays q s V B o start es follows fresh

pub returns-clause-handed_on : goal.returns-clause-handed_on
returns-clause-handed_on c = λ B q start o es e follows says framed opens gives. handed_on B q o says framed start es e follows opens gives

pub returns-clause-follows : goal.returns-clause-follows
returns-clause-follows c = follows

pub returns-clause-in_order : goal.returns-clause-in_order
returns-clause-in_order c = ordered

pub returns-clause-both_follow : goal.returns-clause-both_follow
returns-clause-both_follow c = both_follow

pub returns-clause-every_run : goal.returns-clause-every_run
returns-clause-every_run c = λ B M o q says start opens framed begins own states hands certified.
    every_run B M o q says start opens framed begins (λ h s m d. states h s m d ≡ true) hands (λ h x. own h x ≡ true) certified

pub returns-clause-in_states : goal.returns-clause-in_states
returns-clause-in_states c = λ B M o q says start opens framed begins own states hands certified.
    every_state B M o q says start opens framed begins (λ h s m d. states h s m d ≡ true) hands (λ h x. own h x ≡ true) certified

pub returns-clause-tokens : goal.returns-clause-tokens
returns-clause-tokens c = λ B M o q says start opens framed begins s k n is rests far unheld own states hands certified es run.
    (every_role_run B M o q says start opens framed begins s k n is rests far unheld (λ h z m a. states h z m a ≡ true) hands (λ h x. own h x ≡ true) certified
    es run).0

pub returns-clause-ownership : goal.returns-clause-ownership
returns-clause-ownership c = λ B M o q says start opens framed begins s k n is rests far unheld own states hands certified es run.
    (every_role_run B M o q says start opens framed begins s k n is rests far unheld (λ h z m a. states h z m a ≡ true) hands (λ h x. own h x ≡ true) certified
    es run).1
