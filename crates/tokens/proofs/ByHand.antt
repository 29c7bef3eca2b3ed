-- By hand: a lock at 0 guards the word at 16, and with it passes the sender's role of a queue of one slot; with a lock at 20 passes the receiver's.
-- Hart 0 takes the first lock, stores 5 in the guarded word, fills the slot at 12, moves the head at 4 and gives the lock back. Once that has
-- landed hart 1 takes the second one, looks, loads the record, moves the tail at 8 and gives it back; and hart 3 takes the first lock and loads
-- the guarded word. Harts 2 and 4, which are none of the run, stand for who has the first lock and the second.
use Rattle.std.proofs.Common.{ℕ, ◌*◌, ◌≡◌, ◌≢◌, ◌==◌, ◌&&◌, Some, None, List, [], ◌∷◌, refl, arith}
use Rattle.std.specs.Prelude.{All, nat_le, nat_lt}
use Rattle.step_machine.specs.declared.events.Entry.{Entry}
use Rattle.step_machine.specs.declared.events.Entry.TheVariants as entry
use Rattle.step_machine.specs.Names.{OpeningValue, history_of, hart_of, Legal}
use Rattle.queue_parties.specs.Parties.{QueueCounts, all_at}
use Rattle.slot_queue.specs.Queues.{Queue}
use Rattle.slot_queue.specs.Ownership.{counts_after}
use Rattle.tokens.specs.Tokens.{TokenLayout, Holders, holders, KeepsTokens, OpensTokens, FollowsTokens, last_stored}
use Rattle.tokens.specs.Roles.{as_one_hart, FollowsRole, as_two_harts, FollowsRoles}
use Rattle.tokens.proofs.Held.{none-some}

abbrev locks : TokenLayout
locks = record {
  places = 2;
  at = λ i. 20 * i;
  width = λ i. 4;
  lies = λ i v t. v == 0 && t == i;
  guards = λ t x. t == 0 && (nat_le 16 x && nat_lt x 20);
}

abbrev queue : (receiver : ℕ) → Queue
queue receiver = record {
  sender = 2;
  receiver = receiver;
  head = 4;
  tail = 8;
  index_width = 4;
  slots = 12;
  size = 1;
  width = 4;
  capacity = 1;
  base = 0;
  scale = 1;
  offset = 0;
  modulus = 256;
}

abbrev nobody : Holders
nobody = λ t. None

abbrev opening : OpeningValue
opening = record { harts = []; words = [] }

-- what the first lock's holder does, as hart s, and what the second one's does, as hart r; an AMO is still that of the hart that takes the lock by it
abbrev run_as : (s r last : ℕ) → List Entry
run_as s r last = entry.Amo 0 0 0 1 ∷ entry.Store s 16 4 5 ∷ entry.Store s 12 4 7 ∷ entry.Store s 4 4 1 ∷ entry.Store s 0 4 0 ∷ entry.Land s ∷ entry.Land s
    ∷ entry.Land s ∷ entry.Land s ∷ entry.Amo 1 20 0 1 ∷ entry.Load r 4 4 1 ∷ entry.Load r 12 4 7 ∷ entry.Store r 8 4 1 ∷ entry.Store r 20 4 0
    ∷ entry.Land r ∷ entry.Land r ∷ entry.Amo 3 0 0 1 ∷ entry.Load last 16 4 5 ∷ []

abbrev run : List Entry
run = run_as 0 1 3

taken_first : holders locks nobody (entry.Amo 0 0 0 1 ∷ []) 0 ≡ Some 0
taken_first = refl

taken_last : (holders locks nobody run 0 ≡ Some 3) × (holders locks nobody run 1 ≡ None) × (last_stored opening run 16 ≡ 5)
taken_last = (refl, refl, refl)

one_plays : as_one_hart locks 0 2 nobody run ≡ run_as 2 1 2
one_plays = refl

two_play : as_two_harts locks 0 1 (queue 4) nobody run ≡ run_as 2 4 2
two_play = refl

-- one record is published, and taken
abbrev ended : QueueCounts
ended = record { published = 1; taken = 1; known_taken = 0; known_published = 1 }

counts : counts_after (queue 4) (all_at 0) (run_as 2 4 2) ≡ ended
counts = refl

-- ---- so what the laws ask of a run, this one meets

opens : OpensTokens locks opening nobody
opens = grind arith

legal : Legal 4 (history_of opening run)
legal = grind arith

keeps : KeepsTokens locks nobody run
keeps = (grind arith, (grind arith, (grind arith, (grind arith, (grind arith, (tt, (tt, (tt, (tt, grind arith)))))))))

follows : FollowsTokens 4 locks nobody opening run
follows = record { opens = opens; legal = legal; keeps = keeps }

-- one in which hart 1 stores in the guarded word doesn't
keeps_not : KeepsTokens locks nobody (entry.Store 1 16 4 5 ∷ []) → ⊥
keeps_not k = none-some None 1 refl (k.0.guarded 0 16 refl refl)

no_hart : (h : ℕ) → h ≢ 0 → h ≢ 1 → h ≢ 3 → All (λ e. hart_of e ≢ h) run
no_hart h a b c = grind arith

one_role : FollowsRole 4 locks 0 nobody (queue 1) (all_at 0) opening run
one_role = record { tokens = follows; queue = grind arith; role = grind (arith, no_hart); rest = grind arith; keeps = grind arith }

both_roles : FollowsRoles 4 locks 0 1 nobody (queue 4) (all_at 0) opening run
both_roles = record {
  tokens = follows;
  apart = grind arith;
  queue = grind arith;
  sends = grind (arith, no_hart);
  receives = grind (arith, no_hart);
  rest = grind arith;
  keeps = grind arith;
}
