-- A certificate that is accepted: of two harts that pass words for ever through one slot, with counters that wrap at 2 ^ 32.
use Rattle.std.proofs.Common.{ℕ, ◌≡◌, ◌^◌, List, [], ◌∷◌, ◌++◌, Option, Some, None, refl, true, arith}
use Rattle.rv_decode.specs.Meaning.{meaning}
use Rattle.step_machine.specs.declared.events.Entry.{Entry}
use Rattle.step_machine.specs.declared.events.Entry.TheVariants as entry
use Rattle.step_machine.specs.Names.{HartOpeningValue, OpeningValue, history_of, WellFormed}
use Rattle.queue_parties.specs.Parties.{the_sender, the_receiver, all_at}
use Rattle.slot_queue.specs.{Queue, FollowsOwnership}
use Rattle.queue_certificates.specs.{ReadsOwned, Form, number, KnownValue, any, linear, ListedState, HartPart, QueueCertificate, accepts, accepts_loads}
use Rattle.queue_certificates.specs.{told_by_store}
use Rattle.queue_certificates.proofs.EveryRun.{accepted_runs, accepted_loads}
use Rattle.queue_certificates.specs.Cases.{Arrow, Cases, leaf, split}

abbrev pub q : Queue
q = record {
  sender = 0;
  receiver = 1;
  head = 0;
  tail = 4;
  index_width = 4;
  slots = 8;
  size = 1;
  width = 4;
  capacity = 1;
  base = 0;
  scale = 1;
  offset = 0;
  modulus = 2 ^ 32;
}

-- lw x1,0(x0); lw x2,4(x0); bne x1,x2,-8; sw x3,8(x0); addi x1,x1,1; sw x1,0(x0); jal x0,-24
abbrev sender_text : HartOpeningValue
sender_text = record {
  code = 8323 ∷ 4202755 ∷ 4263550179 ∷ 3154979 ∷ 1081491 ∷ 1056803 ∷ 4271894639 ∷ [];
  registers = 0 ∷ 0 ∷ 0 ∷ 7 ∷ 0 ∷ 0 ∷ 0 ∷ 7 ∷ 0 ∷ 0 ∷ 0 ∷ 0 ∷ 0 ∷ 0 ∷ 0 ∷ 0 ∷ 0 ∷ 0 ∷ 0 ∷ 0 ∷ 0 ∷ 0 ∷ 0 ∷ 0 ∷ 0 ∷ 0
      ∷ 0 ∷ 0 ∷ 0 ∷ 0 ∷ 0 ∷ 0 ∷ [];
  inbox = [];
}

-- lw x1,4(x0); lw x2,0(x0); beq x1,x2,-8; lw x3,8(x0); addi x1,x1,1; sw x1,4(x0); jal x0,-24
abbrev receiver_text : HartOpeningValue
receiver_text = record {
  code = 4202627 ∷ 8451 ∷ 4263546083 ∷ 8397187 ∷ 1081491 ∷ 1057315 ∷ 4271894639 ∷ [];
  registers = 0 ∷ 0 ∷ 0 ∷ 0 ∷ 0 ∷ 0 ∷ 0 ∷ 0 ∷ 0 ∷ 0 ∷ 0 ∷ 0 ∷ 0 ∷ 0 ∷ 0 ∷ 0 ∷ 0 ∷ 0 ∷ 0 ∷ 0 ∷ 0 ∷ 0 ∷ 0 ∷ 0 ∷ 0 ∷ 0
      ∷ 0 ∷ 0 ∷ 0 ∷ 0 ∷ 0 ∷ 0 ∷ [];
  inbox = [];
}

abbrev pub text : OpeningValue
text = record { harts = sender_text ∷ receiver_text ∷ []; words = [] }

abbrev pub form : ℕ → List ℕ → Form
form c ms = record { constant = c; factors = ms }

abbrev pub listed : ℕ → List (Option ℕ) → List KnownValue → Form → Form → Cases → ListedState
listed pc ranges registers own owned cases = record {
  known = record { pc = pc; ranges = ranges; registers = registers; words = []; shares = (record { own = own; owned = owned }) ∷ [] };
  ranks = [];
  filled = [];
  cases = cases;
}

abbrev pub arrow : ℕ → List Form → Arrow
arrow to forms = record { to = to; forms = forms }

abbrev pub part_0 : HartPart
part_0 = record {
  own = [];
  first = 0;
  numbers = 0 ∷ 1 ∷ [];
  goals = [];
  lacking = [];
  states =
      listed 0 (None ∷ Some 1 ∷ [])
      ((linear (form 0 ([]))) ∷ any ∷ any ∷ (linear (form 7 ([]))) ∷ any ∷ any ∷ any ∷ any ∷ any ∷ any ∷ any ∷ any
      ∷ any ∷ any ∷ any ∷ any ∷ any ∷ any ∷ any ∷ any ∷ any ∷ any ∷ any ∷ any ∷ any ∷ any ∷ any ∷ any ∷ any ∷ any
      ∷ any ∷ any ∷ []) (form 0 (1 ∷ [])) (form 0 (0 ∷ 1 ∷ []))
      (leaf (number 0) (arrow 1 ((form 0 (0 ∷ 1 ∷ [])) ∷ (form 0 (0 ∷ 0 ∷ 1 ∷ [])) ∷ []) ∷ []))
      ∷ listed 4 (None ∷ Some 1 ∷ [])
      ((linear (form 0 ([]))) ∷ (linear (form 0 (1 ∷ []))) ∷ any ∷ (linear (form 7 ([]))) ∷ any ∷ any ∷ any ∷ any
      ∷ any ∷ any ∷ any ∷ any ∷ any ∷ any ∷ any ∷ any ∷ any ∷ any ∷ any ∷ any ∷ any ∷ any ∷ any ∷ any ∷ any ∷ any
      ∷ any ∷ any ∷ any ∷ any ∷ any ∷ any ∷ []) (form 0 (1 ∷ [])) (form 0 (0 ∷ 1 ∷ []))
      (leaf (number 0) (arrow 2 ((form 0 (0 ∷ 1 ∷ [])) ∷ (form 0 (1 ∷ [])) ∷ []) ∷ []))
      ∷ listed 8 (None ∷ Some 1 ∷ [])
      ((linear (form 0 ([]))) ∷ (linear (form 0 (1 ∷ []))) ∷ (linear (form 4294967295 (1 ∷ 1 ∷ [])))
      ∷ (linear (form 7 ([]))) ∷ any ∷ any ∷ any ∷ any ∷ any ∷ any ∷ any ∷ any ∷ any ∷ any ∷ any ∷ any ∷ any ∷ any
      ∷ any ∷ any ∷ any ∷ any ∷ any ∷ any ∷ any ∷ any ∷ any ∷ any ∷ any ∷ any ∷ any ∷ any ∷ []) (form 0 (1 ∷ []))
      (form 0 (0 ∷ 1 ∷ []))
      (split 1 0 (leaf (number 0) (arrow 0 ((form 0 (0 ∷ 1 ∷ [])) ∷ (form 0 ([])) ∷ []) ∷ []))
      (leaf (number 0) (arrow 3 ((form 0 (0 ∷ 1 ∷ [])) ∷ (form 0 ([])) ∷ []) ∷ [])))
      ∷ listed 12 (None ∷ Some 0 ∷ [])
      ((linear (form 0 ([]))) ∷ (linear (form 0 (1 ∷ []))) ∷ any ∷ (linear (form 7 ([]))) ∷ any ∷ any ∷ any ∷ any
      ∷ any ∷ any ∷ any ∷ any ∷ any ∷ any ∷ any ∷ any ∷ any ∷ any ∷ any ∷ any ∷ any ∷ any ∷ any ∷ any ∷ any ∷ any
      ∷ any ∷ any ∷ any ∷ any ∷ any ∷ any ∷ []) (form 0 (1 ∷ [])) (form 1 (0 ∷ 1 ∷ []))
      (leaf (number 0) (arrow 4 ((form 0 (0 ∷ 1 ∷ [])) ∷ (form 0 (0 ∷ 0 ∷ 1 ∷ [])) ∷ []) ∷ []))
      ∷ listed 16 (None ∷ Some 0 ∷ [])
      ((linear (form 0 ([]))) ∷ (linear (form 0 (1 ∷ []))) ∷ any ∷ (linear (form 7 ([]))) ∷ any ∷ any ∷ any ∷ any
      ∷ any ∷ any ∷ any ∷ any ∷ any ∷ any ∷ any ∷ any ∷ any ∷ any ∷ any ∷ any ∷ any ∷ any ∷ any ∷ any ∷ any ∷ any
      ∷ any ∷ any ∷ any ∷ any ∷ any ∷ any ∷ []) (form 0 (1 ∷ [])) (form 1 (0 ∷ 1 ∷ []))
      (leaf (number 0) (arrow 5 ((form 0 (0 ∷ 1 ∷ [])) ∷ (form 0 (0 ∷ 0 ∷ 1 ∷ [])) ∷ []) ∷ []))
      ∷ listed 20 (None ∷ Some 0 ∷ [])
      ((linear (form 0 ([]))) ∷ (linear (form 1 (1 ∷ []))) ∷ any ∷ (linear (form 7 ([]))) ∷ any ∷ any ∷ any ∷ any
      ∷ any ∷ any ∷ any ∷ any ∷ any ∷ any ∷ any ∷ any ∷ any ∷ any ∷ any ∷ any ∷ any ∷ any ∷ any ∷ any ∷ any ∷ any
      ∷ any ∷ any ∷ any ∷ any ∷ any ∷ any ∷ []) (form 0 (1 ∷ [])) (form 1 (0 ∷ 1 ∷ []))
      (leaf (number 1) (arrow 6 ((form 1 (0 ∷ 1 ∷ [])) ∷ (form 0 (0 ∷ 0 ∷ 1 ∷ [])) ∷ []) ∷ []))
      ∷ listed 24 (None ∷ Some 1 ∷ [])
      ((linear (form 0 ([]))) ∷ any ∷ any ∷ (linear (form 7 ([]))) ∷ any ∷ any ∷ any ∷ any ∷ any ∷ any ∷ any ∷ any
      ∷ any ∷ any ∷ any ∷ any ∷ any ∷ any ∷ any ∷ any ∷ any ∷ any ∷ any ∷ any ∷ any ∷ any ∷ any ∷ any ∷ any ∷ any
      ∷ any ∷ any ∷ []) (form 0 (1 ∷ [])) (form 0 (0 ∷ 1 ∷ []))
      (leaf (number 0) (arrow 0 ((form 0 (0 ∷ 1 ∷ [])) ∷ (form 0 (0 ∷ 0 ∷ 1 ∷ [])) ∷ []) ∷ [])) ∷ [];
}

abbrev pub part_1 : HartPart
part_1 = record {
  own = [];
  first = 0;
  numbers = 0 ∷ 0 ∷ [];
  goals = [];
  lacking = [];
  states =
      listed 0 (None ∷ Some 1 ∷ [])
      ((linear (form 0 ([]))) ∷ any ∷ any ∷ any ∷ any ∷ any ∷ any ∷ any ∷ any ∷ any ∷ any ∷ any ∷ any ∷ any ∷ any
      ∷ any ∷ any ∷ any ∷ any ∷ any ∷ any ∷ any ∷ any ∷ any ∷ any ∷ any ∷ any ∷ any ∷ any ∷ any ∷ any ∷ any ∷ [])
      (form 0 (1 ∷ [])) (form 0 (0 ∷ 1 ∷ []))
      (leaf (number 0) (arrow 1 ((form 0 (0 ∷ 1 ∷ [])) ∷ (form 0 (0 ∷ 0 ∷ 1 ∷ [])) ∷ []) ∷ []))
      ∷ listed 4 (None ∷ Some 1 ∷ [])
      ((linear (form 0 ([]))) ∷ (linear (form 0 (1 ∷ []))) ∷ any ∷ any ∷ any ∷ any ∷ any ∷ any ∷ any ∷ any ∷ any
      ∷ any ∷ any ∷ any ∷ any ∷ any ∷ any ∷ any ∷ any ∷ any ∷ any ∷ any ∷ any ∷ any ∷ any ∷ any ∷ any ∷ any ∷ any
      ∷ any ∷ any ∷ any ∷ []) (form 0 (1 ∷ [])) (form 0 (0 ∷ 1 ∷ []))
      (leaf (number 0) (arrow 2 ((form 0 (0 ∷ 1 ∷ [])) ∷ (form 0 (1 ∷ [])) ∷ []) ∷ []))
      ∷ listed 8 (None ∷ Some 1 ∷ [])
      ((linear (form 0 ([]))) ∷ (linear (form 0 (1 ∷ []))) ∷ (linear (form 0 (1 ∷ 1 ∷ []))) ∷ any ∷ any ∷ any ∷ any
      ∷ any ∷ any ∷ any ∷ any ∷ any ∷ any ∷ any ∷ any ∷ any ∷ any ∷ any ∷ any ∷ any ∷ any ∷ any ∷ any ∷ any ∷ any
      ∷ any ∷ any ∷ any ∷ any ∷ any ∷ any ∷ any ∷ []) (form 0 (1 ∷ [])) (form 0 (0 ∷ 1 ∷ []))
      (split 1 0 (leaf (number 0) (arrow 0 ((form 0 (0 ∷ 1 ∷ [])) ∷ (form 0 ([])) ∷ []) ∷ []))
      (leaf (number 0) (arrow 3 ((form 0 (0 ∷ 1 ∷ [])) ∷ (form 0 ([])) ∷ []) ∷ [])))
      ∷ listed 12 (None ∷ Some 0 ∷ [])
      ((linear (form 0 ([]))) ∷ (linear (form 0 (1 ∷ []))) ∷ any ∷ any ∷ any ∷ any ∷ any ∷ any ∷ any ∷ any ∷ any
      ∷ any ∷ any ∷ any ∷ any ∷ any ∷ any ∷ any ∷ any ∷ any ∷ any ∷ any ∷ any ∷ any ∷ any ∷ any ∷ any ∷ any ∷ any
      ∷ any ∷ any ∷ any ∷ []) (form 0 (1 ∷ [])) (form 1 (0 ∷ 1 ∷ []))
      (leaf (number 0) (arrow 4 ((form 0 (0 ∷ 1 ∷ [])) ∷ (form 0 (0 ∷ 0 ∷ 1 ∷ [])) ∷ []) ∷ []))
      ∷ listed 16 (None ∷ Some 0 ∷ [])
      ((linear (form 0 ([]))) ∷ (linear (form 0 (1 ∷ []))) ∷ any ∷ any ∷ any ∷ any ∷ any ∷ any ∷ any ∷ any ∷ any
      ∷ any ∷ any ∷ any ∷ any ∷ any ∷ any ∷ any ∷ any ∷ any ∷ any ∷ any ∷ any ∷ any ∷ any ∷ any ∷ any ∷ any ∷ any
      ∷ any ∷ any ∷ any ∷ []) (form 0 (1 ∷ [])) (form 1 (0 ∷ 1 ∷ []))
      (leaf (number 0) (arrow 5 ((form 0 (0 ∷ 1 ∷ [])) ∷ (form 0 (0 ∷ 0 ∷ 1 ∷ [])) ∷ []) ∷ []))
      ∷ listed 20 (None ∷ Some 0 ∷ [])
      ((linear (form 0 ([]))) ∷ (linear (form 1 (1 ∷ []))) ∷ any ∷ any ∷ any ∷ any ∷ any ∷ any ∷ any ∷ any ∷ any
      ∷ any ∷ any ∷ any ∷ any ∷ any ∷ any ∷ any ∷ any ∷ any ∷ any ∷ any ∷ any ∷ any ∷ any ∷ any ∷ any ∷ any ∷ any
      ∷ any ∷ any ∷ any ∷ []) (form 0 (1 ∷ [])) (form 1 (0 ∷ 1 ∷ []))
      (leaf (number 1) (arrow 6 ((form 1 (0 ∷ 1 ∷ [])) ∷ (form 0 (0 ∷ 0 ∷ 1 ∷ [])) ∷ []) ∷ []))
      ∷ listed 24 (None ∷ Some 1 ∷ [])
      ((linear (form 0 ([]))) ∷ any ∷ any ∷ any ∷ any ∷ any ∷ any ∷ any ∷ any ∷ any ∷ any ∷ any ∷ any ∷ any ∷ any
      ∷ any ∷ any ∷ any ∷ any ∷ any ∷ any ∷ any ∷ any ∷ any ∷ any ∷ any ∷ any ∷ any ∷ any ∷ any ∷ any ∷ any ∷ [])
      (form 0 (1 ∷ [])) (form 0 (0 ∷ 1 ∷ []))
      (leaf (number 0) (arrow 0 ((form 0 (0 ∷ 1 ∷ [])) ∷ (form 0 (0 ∷ 0 ∷ 1 ∷ [])) ∷ []) ∷ [])) ∷ [];
}

abbrev pub certificate : QueueCertificate
certificate = record { queues = (record { queue = q; start = 0; fields = [] }) ∷ []; tagged = []; harts = part_0 ∷ part_1 ∷ [] }

one_slot_accepted : accepts text certificate ≡ true
unfolding meaning told_by_store
one_slot_accepted = refl

one_slot_loads : accepts_loads text certificate 0 1 ≡ true
unfolding meaning told_by_store
one_slot_loads = refl

-- so of every run, with store buffers of any size: it keeps the protocol, and the receiver loads the slot only while it owns it
pub one_slot_runs : (B M : ℕ) (es : List Entry) → WellFormed B M (history_of text es)
    → FollowsOwnership B q (all_at 0) text [] es × ReadsOwned q the_receiver (all_at 0) es
one_slot_runs B M es run = (
  accepted_runs B M text certificate one_slot_accepted es run 0 (omega arith),
  accepted_loads B M text certificate one_slot_accepted 0 the_receiver (omega arith) one_slot_loads es run,
)

-- ---- `ReadsOwned` by hand: which loads of the slot it allows, and which it doesn't

-- hart 0 sends: it stores a word to the slot at 8, and moves its head, at 0, from 0 to 1
abbrev sent : List Entry
sent = entry.Store 0 8 4 7 ∷ entry.Store 0 0 4 1 ∷ entry.Land 0 ∷ entry.Land 0 ∷ []

-- hart 1 loads the head and then the slot, which it owns now,
abbrev received : List Entry
received = sent ++ entry.Load 1 0 4 1 ∷ entry.Load 1 8 4 7 ∷ []

receiver-owns : ReadsOwned q the_receiver (all_at 0) received
receiver-owns = (
  λ mine. tt,
  (
    λ mine. tt,
    (
      λ mine. tt,
      (
        λ mine. tt,
        (
          λ mine x head slots. absurd (omega (arith, head.1, slots.0)),
          (λ mine x within slots. record { position = 0; from = omega arith; before = omega arith; byte = within }, tt),
        ),
      ),
    ),
  ),
)

-- and without the look it doesn't yet,
abbrev too_early : List Entry
too_early = sent ++ entry.Load 1 8 4 7 ∷ []

receiver-early : ReadsOwned q the_receiver (all_at 0) too_early → ⊥
receiver-early reads = let owned = reads.1.1.1.1.0 refl 8 (omega arith, omega arith) (omega arith, omega arith) in omega (arith, owned.before)

-- nor after it moved its tail, at 4: neither a byte of it nor, by an AMO, the word
abbrev too_late : Entry → List Entry
too_late e = received ++ entry.Store 1 4 4 1 ∷ e ∷ []

receiver-late : ReadsOwned q the_receiver (all_at 0) (too_late (entry.Load 1 11 1 0)) → ⊥
receiver-late reads = let owned = reads.1.1.1.1.1.1.1.0 refl 11 (omega arith, omega arith) (omega arith, omega arith) in
    omega (arith, owned.from, owned.before)

receiver-swaps : ReadsOwned q the_receiver (all_at 0) (too_late (entry.Amo 1 8 7 7)) → ⊥
receiver-swaps reads = let owned = reads.1.1.1.1.1.1.1.0 refl 8 (omega arith, omega arith) (omega arith, omega arith) in
    omega (arith, owned.from, owned.before)

-- the sender owns the slot from the opening on, for its AMOs too, until it moves its head
abbrev swapped : List Entry
swapped = entry.Amo 0 8 0 7 ∷ entry.Store 0 0 4 1 ∷ []

sender-owns : ReadsOwned q the_sender (all_at 0) swapped
sender-owns = (λ mine x within slots. record { position = 0; from = omega arith; before = omega arith; byte = within }, (λ mine. tt, tt))

sender-late : ReadsOwned q the_sender (all_at 0) (swapped ++ entry.Amo 0 8 7 9 ∷ []) → ⊥
sender-late reads = let owned = reads.1.1.0 refl 8 (omega arith, omega arith) (omega arith, omega arith) in omega (arith, owned.from, owned.before)

-- a load by the other party's hart says nothing of this one
other-hart : ReadsOwned q the_sender (all_at 0) (entry.Load 1 8 4 0 ∷ [])
other-hart = (λ mine. absurd (omega (arith, mine)), tt)
