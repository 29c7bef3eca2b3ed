-- Texts held against the definitions by hand: of three slots that are published by one store; the same with one slot left as it was, which
-- keeps the protocol of ownership, and of which that slot's first byte is the first that isn't shown to be written. And when an entry wrote a
-- byte, or read it.
use Rattle.std.proofs.Common.{ℕ, zero, suc, ◌≡◌, ◌<◌, ◌+◌, ◌*◌, ◌^◌, ◌&&◌, ◌||◌, not, Bool, true, false, Some, List, [], ◌∷◌, ◌++◌, length, get_or, refl, sym}
use Rattle.std.proofs.Common.{ap, subst, arith, lit<, length-append, ◌≤◌}
use Rattle.std.specs.Prelude.{nat_lt, min}
use Rattle.std.specs.List.{list_all}
use Rattle.std.proofs.lemmas.Bool.Decides.{nat_tests}
use Rattle.rv_decode.specs.Meaning.{meaning}
use Rattle.step_machine.specs.Names.{OpeningValue, access_of}
use Rattle.queue_parties.specs.Parties.{the_sender}
use Rattle.slot_queue.specs.Queues.{Queue}
use Rattle.queue_certificates.specs.{number, KnownValue, any, linear, leaf, ListedState, QueueCertificate, accepts, told_by_store}
use Rattle.queue_certificates.proofs.OneSlotQueue.{certificate}
use Rattle.records_written.specs.{Indexed, PartyLeaf, graph_of, published_after, owned_end_after, IsRead, IsWritten}
use Rattle.records_written.specs.PartyLeaves.{Marks, keeps, AreKept, IsSurelyDone, IsSureAt, IsSure, IsFirstUnsure}
use Rattle.certified_runs.specs.Views.{LoadsByte}
use Rattle.step_machine.specs.declared.events.Entry.{Entry}
use Rattle.step_machine.specs.declared.events.Entry.TheVariants as entry
use Rattle.queue_certificates.specs.declared.effect.Effect.TheVariants.{Leaves, Fills, Publishes}

-- the bytes of a word
abbrev word : ℕ → Bool
word b = nat_lt b 4

-- ---- three slots

abbrev three_slots : Queue
three_slots = record {
  sender = 0;
  receiver = 1;
  head = 0;
  tail = 4;
  index_width = 4;
  slots = 8;
  size = 3;
  width = 4;
  capacity = 3;
  base = 0;
  scale = 1;
  offset = 0;
  modulus = 2 ^ 32;
}

abbrev running : (code : List ℕ) → OpeningValue
running code = record {
  harts = (record {
    code = code;
    registers = 0 ∷ 0 ∷ 0 ∷ 7 ∷ 0 ∷ 0 ∷ 0 ∷ 0 ∷ 0 ∷ 0 ∷ 0 ∷ 0 ∷ 0 ∷ 0 ∷ 0 ∷ 0 ∷ 0 ∷ 0 ∷ 0 ∷ 0 ∷ 0 ∷ 0 ∷ 0 ∷ 0 ∷ 0 ∷ 0
        ∷ 0 ∷ 0 ∷ 0 ∷ 0 ∷ 0 ∷ 0 ∷ [];
    inbox = [];
  }) ∷ [];
  words = [];
}

-- the state at an instruction that hands over `handed` positions and goes on to the next
abbrev listed : (n own owned : ℕ) → (x1 : KnownValue) → (handed : ℕ) → ListedState
listed n own owned x1 handed = record {
  known = record { pc = 4 * n; ranges = []; registers = any ∷ x1 ∷ []; words = []; shares = (record { own = number own; owned = number owned }) ∷ [] };
  ranks = [];
  filled = [];
  cases = leaf (number handed) ((record { to = n + 1; forms = [] }) ∷ []);
}

-- at the end there is no instruction
abbrev certified : List ListedState → QueueCertificate
certified states = record {
  queues = (record { queue = three_slots; start = 0; fields = [] }) ∷ [];
  tagged = [];
  harts = (record { own = []; first = 0; numbers = []; goals = []; lacking = []; states = states }) ∷ [];
}

-- sw x3,8(x0); sw x3,12(x0); sw x3,16(x0); addi x1,x0,3; sw x1,0(x0)
abbrev all_filled : OpeningValue
all_filled = running (3154979 ∷ 3155491 ∷ 3156003 ∷ 3145875 ∷ 1056803 ∷ [])

abbrev five : QueueCertificate
five = certified (listed 0 0 3 any 0 ∷ listed 1 0 3 any 0 ∷ listed 2 0 3 any 0 ∷ listed 3 0 3 any 0
    ∷ listed 4 0 3 (linear (number 3)) 3 ∷ listed 5 3 0 any 0 ∷ [])

all_filled_accepted : accepts all_filled five ≡ true
unfolding meaning told_by_store
all_filled_accepted = refl

abbrev fills : (position to : ℕ) → List PartyLeaf
fills position to = record { effect = Some (Fills position 0 4); all = false; targets = to ∷ [] } ∷ []

abbrev leaves : (all : Bool) (to : ℕ) → List PartyLeaf
leaves all to = record { effect = Some Leaves; all = all; targets = to ∷ [] } ∷ []

abbrev publishes : (n to : ℕ) → List PartyLeaf
publishes n to = record { effect = Some (Publishes n); all = true; targets = to ∷ [] } ∷ []

abbrev all_graph : List (List PartyLeaf)
all_graph = fills 0 1 ∷ fills 1 2 ∷ fills 2 3 ∷ leaves false 4 ∷ publishes 3 5 ∷ leaves true 6 ∷ []

all_filled_sends : graph_of all_filled five (Indexed 0) the_sender ≡ all_graph
unfolding meaning told_by_store
all_filled_sends = refl

-- a leaf that fills or leaves publishes nothing
no-position : (d : ℕ) → (nat_lt d 0 || false) ≡ true → ⊥
no-position d is = let less : d < 0 = grind (arith, nat_tests, is) in omega (arith, less)

-- in states 1 to 4 as many positions are whole as were filled before
abbrev filled_in : Marks
filled_in n d b = nat_lt d (min n 3) && nat_lt n 5 && nat_lt b 4

filled_kept : AreKept all_graph 0 filled_in
filled_kept = record { opens = λ d b. grind (arith, nat_tests); leads = leads }
  where
    leads : (n d b : ℕ) → list_all (keeps filled_in n d b) (get_or all_graph n []) ≡ true
    leads zero d b = grind (arith, nat_tests)
    leads (suc zero) d b = grind (arith, nat_tests)
    leads (suc (suc zero)) d b = grind (arith, nat_tests)
    leads (suc (suc (suc zero))) d b = grind (arith, nat_tests)
    leads (suc (suc (suc (suc zero)))) d b = grind (arith, nat_tests)
    leads (suc (suc (suc (suc (suc zero))))) d b = grind (arith, nat_tests)
    leads (suc (suc (suc (suc (suc (suc n)))))) d b = refl

all_filled_written : IsSure all_graph 0 word
all_filled_written zero d handed b asked = absurd (no-position d handed)
all_filled_written (suc zero) d handed b asked = absurd (no-position d handed)
all_filled_written (suc (suc zero)) d handed b asked = absurd (no-position d handed)
all_filled_written (suc (suc (suc zero))) d handed b asked = absurd (no-position d handed)
all_filled_written (suc (suc (suc (suc zero)))) d handed b asked =
    record { marks = filled_in; kept = filled_kept; marked = grind (arith, nat_tests, handed, asked) }
all_filled_written (suc (suc (suc (suc (suc zero))))) d handed b asked = absurd (no-position d handed)
all_filled_written (suc (suc (suc (suc (suc (suc n)))))) d handed b asked = absurd (cc)

-- the same without the store at pc 4
abbrev two_filled : OpeningValue
two_filled = running (3154979 ∷ 3156003 ∷ 3145875 ∷ 1056803 ∷ [])

abbrev four : QueueCertificate
four = certified (listed 0 0 3 any 0 ∷ listed 1 0 3 any 0 ∷ listed 2 0 3 any 0
    ∷ listed 3 0 3 (linear (number 3)) 3 ∷ listed 4 3 0 any 0 ∷ [])

two_filled_accepted : accepts two_filled four ≡ true
unfolding meaning told_by_store
two_filled_accepted = refl

abbrev two_graph : List (List PartyLeaf)
two_graph = fills 0 1 ∷ fills 2 2 ∷ leaves false 3 ∷ publishes 3 4 ∷ leaves true 5 ∷ []

two_filled_sends : graph_of two_filled four (Indexed 0) the_sender ≡ two_graph
unfolding meaning told_by_store
two_filled_sends = refl

-- the slot that was left as it was is the first, by its first byte
abbrev first_filled : Marks
first_filled n d b = nat_lt d 1 && nat_lt 0 n && nat_lt n 4 && nat_lt b 4

first_kept : AreKept two_graph 0 first_filled
first_kept = record { opens = λ d b. grind (arith, nat_tests); leads = leads }
  where
    leads : (n d b : ℕ) → list_all (keeps first_filled n d b) (get_or two_graph n []) ≡ true
    leads zero d b = grind (arith, nat_tests)
    leads (suc zero) d b = grind (arith, nat_tests)
    leads (suc (suc zero)) d b = grind (arith, nat_tests)
    leads (suc (suc (suc zero))) d b = grind (arith, nat_tests)
    leads (suc (suc (suc (suc zero)))) d b = grind (arith, nat_tests)
    leads (suc (suc (suc (suc (suc n))))) d b = refl

-- it isn't written on the way to the store of the head
left_out : IsSurelyDone two_graph 0 3 1 0 → ⊥
left_out is =
    let none : is.marks 0 1 0 ≡ false = is.kept.opens 1 0 in
    let second : ((not (is.marks 1 1 0) || is.marks 0 1 0) && true) && true ≡ true = is.kept.leads 0 1 0 in
    let third : ((not (is.marks 2 1 0) || is.marks 1 1 0) && true) && true ≡ true = is.kept.leads 1 1 0 in
    let last : ((not (is.marks 3 1 0) || is.marks 2 1 0) && true) && true ≡ true = is.kept.leads 2 1 0 in
    let some : is.marks 3 1 0 ≡ true = is.marked in
    absurd (grind arith)

two_filled_unwritten : IsFirstUnsure two_graph 0 word 3 0
two_filled_unwritten = record {
  position = 1;
  handed = refl;
  asked = refl;
  unsure = left_out;
  bytes = λ a less asked. absurd (omega (arith, less));
  positions = λ d less a asked. record { marks = first_filled; kept = first_kept; marked = grind (arith, nat_tests, less, asked) };
  states = states;
}
  where
    states : (m : ℕ) → m < 3 → IsSureAt two_graph 0 word m
    states zero less d handed a asked = absurd (no-position d handed)
    states (suc zero) less d handed a asked = absurd (no-position d handed)
    states (suc (suc zero)) less d handed a asked = absurd (no-position d handed)
    states (suc (suc (suc n))) less d handed a asked = absurd (omega (arith, less))

-- ---- when a byte was written: after the record before in its slot was published

abbrev fill : Entry
fill = entry.Store 0 8 4 7

abbrev publish : (n : ℕ) → Entry
publish n = entry.Store 0 0 4 n

abbrev nobody : OpeningValue
nobody = record { harts = []; words = [] }

-- of one slot: before position 0 is published, and between positions 0 and 1
written_first : IsWritten 0 nobody certificate (Indexed 0) (fill ∷ []) 0 8
written_first = record { before = []; writes = fill; since = []; is = refl; sender = refl; byte = refl; counts = refl; after = lit< tt }

written_again : IsWritten 0 nobody certificate (Indexed 0) (fill ∷ publish 1 ∷ fill ∷ []) 1 8
written_again = record { before = fill ∷ publish 1 ∷ []; writes = fill; since = []; is = refl; sender = refl; byte = refl; counts = refl; after = lit< tt }

-- one entry wrote it, which came before position 0 was published
written_before : IsWritten 0 nobody certificate (Indexed 0) (fill ∷ []) 1 8 → ⊥
written_before is = by is.before is.is is.after
  where
    by : (before : List Entry) → fill ∷ [] ≡ before ++ is.writes ∷ is.since → 1 < published_after certificate (Indexed 0) before + 1 → ⊥
    by [] same after = absurd (let less : 1 < 1 = after in omega (arith, less))
    by (e ∷ es) same after =
        absurd (let long : 1 ≡ length ((e ∷ es) ++ is.writes ∷ is.since) = ap (λ (fs : List Entry). length fs) same in
        omega (arith, long, length-append (e ∷ es) (is.writes ∷ is.since)))

-- ---- when a byte was read: once the receiver has learned that it owns the position

abbrev look : (n : ℕ) → Entry
look n = entry.Load 1 0 4 n

abbrev load_slot : Entry
load_slot = entry.Load 1 8 4 7

-- the look tells of position 0
read_owned : IsRead 0 nobody certificate (Indexed 0) (look 1 ∷ load_slot ∷ []) 0 8
read_owned = record {
  before = look 1 ∷ [];
  reads = load_slot;
  since = [];
  is = refl;
  by = record { receiver = refl; byte = (omega arith, omega arith); counts = refl; from = omega arith; owned = lit< tt };
}

-- a load that comes before it doesn't count
read_early : IsRead 0 nobody certificate (Indexed 0) (load_slot ∷ look 1 ∷ []) 0 8 → ⊥
read_early is = by is.before is.is is.by.owned
  where
    by : (before : List Entry) → load_slot ∷ look 1 ∷ [] ≡ before ++ is.reads ∷ is.since → 0 < owned_end_after certificate (Indexed 0) before → ⊥
    by [] same owned = let none : 0 < 0 = owned in omega (arith, none)
    by (e ∷ []) same owned =
        let there : look 1 ≡ is.reads = cc in
        let byte : (0 ≤ 8) × (8 < 0 + 4) = subst (λ (e : Entry). LoadsByte (access_of e) 8) (sym there) is.by.byte in
        omega (arith, byte.1)
    by (e ∷ f ∷ es) same owned =
        let long : 2 ≡ length ((e ∷ f ∷ es) ++ is.reads ∷ is.since) = ap (λ (fs : List Entry). length fs) same in
        omega (arith, long, length-append (e ∷ f ∷ es) (is.reads ∷ is.since))
