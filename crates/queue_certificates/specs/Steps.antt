-- What an instruction makes of a known state: the states that may follow, or nothing where it isn't shown that it may be executed.
use Rattle.std.specs.Prelude.{ℕ, ℤ, pos, zero, suc, ◌+◌, ◌-◌, ◌*◌, ◌/◌, ◌%◌, ◌^◌, ◌==◌, ◌&&◌, ◌||◌, not, nat_le, nat_lt}
use Rattle.std.specs.Prelude.{if◌then◌else◌, Bool, true, false, Option, None, Some, List, [], ◌∷◌, map, length, get_or}
use Rattle.std.specs.Prelude.{set, slice_index, bit_and, bit_or, bit_xor}
use Rattle.rv_decode.specs.Meaning.{meaning}
use Rattle.rv_decode.specs.declared.instruction.Reg.{Reg}
use Rattle.rv_decode.specs.declared.instruction.BranchOp.{BranchOp}
use Rattle.rv_decode.specs.declared.instruction.BranchOp.TheVariants as branch
use Rattle.rv_decode.specs.declared.instruction.ImmediateOp.{ImmediateOp}
use Rattle.rv_decode.specs.declared.instruction.ImmediateOp.TheVariants as immediate
use Rattle.rv_decode.specs.declared.instruction.LoadOp.{LoadOp}
use Rattle.rv_decode.specs.declared.instruction.LoadOp.TheVariants as load
use Rattle.rv_decode.specs.declared.instruction.AmoOp.{AmoOp}
use Rattle.rv_decode.specs.declared.instruction.AmoOp.TheVariants as amo
use Rattle.rv_decode.specs.declared.instruction.Instr.{Instr}
use Rattle.rv_decode.specs.declared.instruction.Instr.TheVariants.{Lui, Auipc, Jal, Jalr, Branch, Load, Store}
use Rattle.rv_decode.specs.declared.instruction.Instr.TheVariants.{Immediate, Shift, Register, Fence, FenceTso, Ecall}
use Rattle.rv_decode.specs.declared.instruction.Instr.TheVariants.{Ebreak, Amo}
use Rattle.hart.specs.Effects.{word, next_pc, address, load_width, store_width}
use Rattle.slot_queue.specs.Queues.{Queue}
use Rattle.queue_parties.specs.Parties.{Party, the_sender, the_receiver, other}
use Rattle.slot_queue.specs.Ownership.{party_of, index}
use Rattle.queue_certificates.specs.declared.own.OwnWord.{OwnWord}
use Rattle.queue_certificates.specs.Forms.{Form, number, first_variable, plus, times, remainder, remainder_word, lifted, is_same, most, fits_in, Bounds, minus}
use Rattle.queue_certificates.specs.States.{KnownValue, any, linear, index_for, signed_for, ends_as, has_bits, Share, no_share, KnownState, value_by}
use Rattle.queue_certificates.specs.States.{is_any, share_by, state_by, scaled, plain, is_within, own_at}
use Rattle.queue_certificates.specs.Results.{Result, just, exactly, or_up_to, as_number, bounds, sum_of, counting}
use Rattle.queue_certificates.specs.Results.{of_immediate, of_shift, of_registers, is_branch_taken}

-- at each number below n; and the last number below n at which it is so
abbrev pub all_below : ℕ → (ℕ → Bool) → Bool
all_below zero f = true
all_below (suc n) f = f n && all_below n f

abbrev pub last_below : ℕ → (ℕ → Bool) → Option ℕ
last_below zero f = None
last_below (suc n) f = if f n then Some n else last_below n f

abbrev pub is_just : Option ℕ → ℕ → Bool
is_just None n = false
is_just (Some m) n = m == n

-- `width` bytes from somewhere among these addresses on meet none of `count` bytes at a
abbrev pub is_apart : Bounds → (width a count : ℕ) → Bool
is_apart b width a count = nat_le (b.high + width) a || nat_le (a + count) b.low

abbrev pub is_off : Queue → Bounds → (width : ℕ) → Bool
is_off q b width = is_apart b width q.head q.index_width && is_apart b width q.tail q.index_width && is_apart b width q.slots (q.size * q.width)

-- The address, a form, is of the slot of the position that is j further than the own count, and `offset` bytes into it: j is the
-- least at which the constants agree
abbrev pub position_at : Queue → (own a : ℕ) → ℕ
position_at q own a = ((a % 2 ^ 32 - q.slots) / q.width + (q.size - own % q.size)) % q.size

abbrev pub offset_at : Queue → (a : ℕ) → ℕ
offset_at q a = (a % 2 ^ 32 - q.slots) % q.width

abbrev pub is_slot : List (Option ℕ) → Queue → Form → (offset : ℕ) → Option Form → Bool
is_slot rs q f offset None = false
is_slot rs q f offset (Some g) = is_same (2 ^ 32) f (plus (times q.width g) (number (q.slots + offset)))
    && fits_in (most rs (plus (times q.width g) (number (q.slots + offset)))) (Some (2 ^ 32 - 1))

-- these bytes are of the slot of a position that the party owns
abbrev pub is_owned : List (Option ℕ) → Queue → Share → KnownValue → (width : ℕ) → Bool
is_owned rs q s any width = false
is_owned rs q s (index_for i f) width = false
is_owned rs q s (signed_for i f) width = false
is_owned rs q s (ends_as n f) width = false
is_owned rs q s (has_bits m b) width = false
is_owned rs q s (linear f) width = nat_lt (position_at q s.own.constant f.constant) s.owned.constant && nat_le (offset_at q f.constant + width) q.width
    && is_slot rs q f (offset_at q f.constant) (remainder rs (plus s.own (number (position_at q s.own.constant f.constant))) q.size)

-- what the word of the other's index stands for is this much more than the own count and what is owned, as a remainder
abbrev pub behind : Queue → Party → ℕ
behind q the_sender = q.modulus - q.capacity % q.modulus
behind q the_receiver = 0

-- the number's low bytes, as many as the index has, are the word that stands for count f
abbrev pub is_cut : Queue → KnownValue → (f : Form) → Bool
is_cut q any f = false
is_cut q (index_for i g) f = false
is_cut q (signed_for i g) f = false
is_cut q (ends_as n g) f = false
is_cut q (has_bits m b) f = false
is_cut q (linear g) f = (q.scale * q.modulus == 256 ^ q.index_width) && nat_lt q.base q.scale
    && is_same (256 ^ q.index_width) g (scaled q (plus f (number q.offset)))

abbrev pub anywhere : Option Bounds → Bounds
anywhere None = record { low = 0; high = 2 ^ 32 - 1 }
anywhere (Some b) = b

abbrev pub is_one : Bounds → Bool
is_one b = b.low == b.high

-- it is of the own index or of the other's, whole
abbrev pub is_whole : Queue → Option Party → (Party → Party) → (a width : ℕ) → Bool
is_whole q None t a width = false
is_whole q (Some p) t a width = (a == index q (t p)) && (width == q.index_width)

-- it isn't of the other's index, whole
abbrev pub misses : Queue → Option Party → Bounds → (width : ℕ) → Bool
misses q None b width = true
misses q (Some p) b width = nat_lt b.high (index q (other p)) || nat_lt (index q (other p)) b.low || not (width == q.index_width)

abbrev pub back_of : Queue → Option Party → ℕ
back_of q None = 0
back_of q (Some p) = behind q p

-- what is owned after a look: at least the constant of what was owned before, at most all. All else is forgotten
abbrev pub owned_then : Share → Form
owned_then s = plus (number s.owned.constant) first_variable

abbrev pub looked_share : Share → Share
looked_share s = record { own = lifted s.own; owned = owned_then s }

-- and after it hands over this many
abbrev pub moved_share : Share → (d : Form) → Share
moved_share s d = record { own = plus s.own d; owned = minus s.owned d }

-- the registers and the pc after it
abbrev pub with_register : List KnownValue → (n : ℕ) → KnownValue → List KnownValue
with_register vs n v = if n == 0 then vs else set vs n v

abbrev pub with_result : KnownState → (rd pc : ℕ) → Result → KnownState
with_result k rd pc r = record (state_by lifted (Some r.most ∷ k.ranges) k) {
  pc = pc;
  registers = with_register (map (value_by lifted) k.registers) rd r.value;
}

abbrev pub going_to : KnownState → (pc : ℕ) → KnownState
going_to k pc = record (state_by lifted (Some 0 ∷ k.ranges) k) { pc = pc }

-- a branch goes on from one state where it is taken, and from another where it isn't
abbrev pub goes_by : (taken passed : KnownState) → (target next : ℕ) → Option Bool → List KnownState
goes_by t p target next None = going_to t target ∷ going_to p next ∷ []
goes_by t p target next (Some true) = going_to t target ∷ []
goes_by t p target next (Some false) = going_to p next ∷ []

-- where a register's value is known, it goes there
abbrev pub jumping : KnownState → (rd : ℕ) → ℤ → Option ℕ → Option (List KnownState)
jumping k rd offset None = None
jumping k rd offset (Some a) = Some (with_result k rd (address a offset / 2 * 2) (exactly (next_pc k.pc)) ∷ [])

-- an environment call may leave a word in x10 and a flag in x11
abbrev pub called : KnownState → KnownState
called k = record (going_to k (next_pc k.pc)) { registers = with_register (with_register (map (value_by lifted) k.registers) 10 any) 11 any }

-- what a register holds; x0 is 0
abbrev pub register_at : KnownState → Reg → KnownValue
register_at k r = if r.number == 0 then linear (number 0) else get_or k.registers r.number any

-- two registers hold the same number: where nothing is known of one, what is known of the other
abbrev pub shared : KnownState → (rs1 rs2 : Reg) → (v w : KnownValue) → KnownState
shared k rs1 rs2 v w = if is_any v then record k { registers = with_register k.registers rs1.number w }
    else (if is_any w then record k { registers = with_register k.registers rs2.number v } else k)

abbrev pub with_equal : KnownState → (rs1 rs2 : Reg) → KnownState
with_equal k rs1 rs2 = shared k rs1 rs2 (register_at k rs1) (register_at k rs2)

abbrev pub when_taken : KnownState → BranchOp → (rs1 rs2 : Reg) → KnownState
when_taken k branch.Equal rs1 rs2 = with_equal k rs1 rs2
when_taken k op rs1 rs2 = k

abbrev pub when_passed : KnownState → BranchOp → (rs1 rs2 : Reg) → KnownState
when_passed k branch.NotEqual rs1 rs2 = with_equal k rs1 rs2
when_passed k op rs1 rs2 = k

-- what the pc says
abbrev pub instruction_at : (code : List ℕ) (pc : ℕ) → Option Instr
instruction_at code pc = if nat_lt pc (4 * length code) then meaning (slice_index code (pc / 4)) else None

abbrev pub is_copy : ImmediateOp → ℤ → Bool
is_copy immediate.Add (pos n) = n == 0
is_copy op n = false

-- the most that a load leaves in a register
abbrev pub most_loaded : LoadOp → ℕ
most_loaded load.ByteUnsigned = 255
most_loaded load.HalfUnsigned = 65535
most_loaded op = 2 ^ 32 - 1

-- what is known of a queue, by its place among all
abbrev pub share_at : KnownState → (i : ℕ) → Share
share_at k i = get_or k.shares i no_share

-- What is known of a number, if a number of which that is known surely fits into a word, as those of the indices of the first N queues do
abbrev pub storable : (N : ℕ) → KnownValue → KnownValue
storable N any = any
storable N (linear f) = linear f
storable N (index_for i f) = if nat_lt i N then index_for i f else any
storable N (signed_for i f) = if nat_lt i N then signed_for i f else any
storable N (ends_as n f) = any
storable N (has_bits m b) = has_bits m b

-- The lowest bytes of a number: its remainder by n, as this form where it is one, or as a word of the index of queue i, which counts on
-- in n words
abbrev pub low_form : (ℕ → Queue) → (n : ℕ) → Form → Option Form → Option ℕ → KnownValue
low_form queues n f (Some g) i = linear g
low_form queues n f None None = any
low_form queues n f None (Some i) = index_for i (plus f (number (n - (queues i).offset % n)))

-- where there are N queues
module _ (queues : ℕ → Queue) (N : ℕ) (rs : List (Option ℕ)) where
  abbrev pub low_bytes : (width : ℕ) → KnownValue → KnownValue
  low_bytes width any = any
  low_bytes width (linear f) = low_form queues (256 ^ width) f (remainder_word rs f (256 ^ width)) (counting queues N (256 ^ width))
  low_bytes width (index_for i f) = if nat_lt i N && nat_le (queues i).index_width width then index_for i f else any
  low_bytes width (signed_for i f) = if nat_lt i N && ((queues i).index_width == width) then index_for i f else any
  low_bytes width (ends_as n f) = any
  low_bytes width (has_bits m b) = has_bits (bit_or m (bit_xor (256 ^ width - 1) (2 ^ 32 - 1))) (bit_and b (256 ^ width - 1))

  -- what is known of the number that a store of `width` bytes leaves of a value
  abbrev pub stored_value : (width : ℕ) → KnownValue → KnownValue
  stored_value width v = if width == 4 then storable N v else low_bytes width (plain queues rs v)

  -- these own words after a store of a value
  abbrev pub word_then : Bounds → (width : ℕ) → KnownValue → OwnWord → KnownValue → KnownValue
  word_then b width v o w = if is_apart b width o.at o.width then w else
      (if is_one b && (b.low == o.at) && (width == o.width) then stored_value width v else any)

  abbrev pub words_then : Bounds → (width : ℕ) → KnownValue → List OwnWord → List KnownValue → List KnownValue
  words_then b width v [] ws = ws
  words_then b width v (o ∷ own) [] = []
  words_then b width v (o ∷ own) (w ∷ ws) = word_then b width v o w ∷ words_then b width v own ws

abbrev pub shares_moved : List Share → (d : Form) → Option ℕ → List Share
shares_moved ss d None = ss
shares_moved ss d (Some i) = set ss i (moved_share (get_or ss i no_share) d)

-- the number that a load of an own word or of an own index reads
abbrev pub word_loaded : KnownState → Option ℕ → KnownValue
word_loaded k None = any
word_loaded k (Some j) = get_or k.words j any

abbrev pub index_loaded : KnownState → Option ℕ → KnownValue → KnownValue
index_loaded k None v = v
index_loaded k (Some i) v = index_for i (share_at k i).own

-- a signed load leaves a number as it is whose highest bit is surely 0
abbrev pub keeps_value : List (Option ℕ) → LoadOp → KnownValue → Bool
keeps_value rs load.Byte (linear f) = fits_in (most rs f) (Some (2 ^ 7 - 1))
keeps_value rs load.Half (linear f) = fits_in (most rs f) (Some (2 ^ 15 - 1))
keeps_value rs op v = false

-- a word of queue i's index, where what is known is what a signed load leaves of it: both have the same low bytes, as many as the index has.
-- Another queue's index may have fewer
abbrev pub without_sign : (i : ℕ) → KnownValue → KnownValue
without_sign i any = any
without_sign i (linear f) = linear f
without_sign i (index_for j f) = index_for j f
without_sign i (signed_for j f) = if i == j then index_for j f else signed_for j f
without_sign i (ends_as n f) = ends_as n f
without_sign i (has_bits m b) = has_bits m b

-- ---- by the queues alone

module _ (queues : ℕ → Queue) where
  -- what registers hold and where they point, as forms where that is known
  abbrev pub operand : KnownState → Reg → KnownValue
  operand k r = plain queues k.ranges (register_at k r)

  abbrev pub address_value : KnownState → Reg → ℤ → KnownValue
  address_value k r offset = sum_of (operand k r) (linear (number (word offset)))

  abbrev pub addresses : KnownState → Reg → ℤ → Bounds
  addresses k r offset = anywhere (bounds k.ranges (address_value k r offset))

  -- where an AMO's word may lie, and what it stores
  abbrev pub exchanged : KnownState → Reg → Bounds
  exchanged k r = anywhere (bounds k.ranges (operand k r))

  abbrev pub updated_value : List (Option ℕ) → AmoOp → (old with' : KnownValue) → KnownValue
  updated_value rs amo.Swap old with' = with'
  updated_value rs amo.Add old with' = sum_of (plain queues rs old) (plain queues rs with')
  updated_value rs op old with' = any

  -- it is the word of an index all of whose words are below a limit
  abbrev pub is_index_below : (limit : ℕ) → KnownValue → Bool
  is_index_below limit any = false
  is_index_below limit (linear f) = false
  is_index_below limit (signed_for i f) = false
  is_index_below limit (ends_as n f) = false
  is_index_below limit (has_bits m b) = false
  is_index_below limit (index_for i f) = nat_le 1 (queues i).modulus && nat_lt ((queues i).base + (queues i).scale * ((queues i).modulus - 1)) limit

  abbrev pub signed_value : (width : ℕ) → KnownValue → KnownValue
  signed_value width any = any
  signed_value width (linear f) = any
  signed_value width (signed_for i f) = any
  signed_value width (ends_as n f) = any
  signed_value width (has_bits m b) = any
  signed_value width (index_for i f) = if (queues i).index_width == width then signed_for i f else any

  -- a signed load leaves an index's word as it is if the highest bit of each is 0
  abbrev pub extended_value : LoadOp → KnownValue → KnownValue
  extended_value load.Byte v = if is_index_below (2 ^ 7) v then v else signed_value 1 v
  extended_value load.Half v = if is_index_below (2 ^ 15) v then v else signed_value 2 v
  extended_value op v = v

  abbrev pub loaded : List (Option ℕ) → LoadOp → KnownValue → Result
  loaded rs op v = or_up_to (most_loaded op) (if keeps_value rs op v then v else extended_value op v)

  -- d positions are handed over: the number's low bytes, as many as the index has, are the word of the count d further, and d are owned
  abbrev pub may_move : KnownState → (d : Form) → KnownValue → (i : ℕ) → Share → Bool
  may_move k d v i s = (is_within queues k.ranges (without_sign i v) (index_for i (plus s.own d)) || is_cut (queues i) v (plus s.own d))
      && is_same 0 (plus d (minus s.owned d)) s.owned
      && fits_in (most k.ranges d) (Some ((queues i).modulus - 1)) && nat_lt i (length k.shares)

  abbrev pub may_fill : KnownState → Option Party → (place : KnownValue) (width : ℕ) → (i : ℕ) → Bool
  may_fill k None place width i = false
  may_fill k (Some p) place width i = is_owned k.ranges (queues i) (share_at k i) place width

  -- each byte of a load of queue i's slots is of an owned one
  abbrev pub reads_owned : KnownState → (i : ℕ) → (place : KnownValue) → Bounds → (width : ℕ) → Bool
  reads_owned k i place b width = is_apart b width (queues i).slots ((queues i).size * (queues i).width) || is_owned
      k.ranges (queues i) (share_at k i) place width

  abbrev pub loads_owned : KnownState → (i : ℕ) → Option Instr → Bool
  loads_owned k i (Some (Load op rd rs1 offset)) = reads_owned k i (address_value k rs1 offset) (addresses k rs1 offset) (load_width op)
  loads_owned k i (Some (Amo op rd rs1 rs2 aq rl)) = reads_owned k i (operand k rs1) (exchanged k rs1) 4
  loads_owned k i other = true

-- a copy keeps what is known
abbrev pub immediate_result : (ℕ → Queue) → (N : ℕ) → KnownState → ImmediateOp → KnownValue → ℤ → Result
immediate_result queues N k op v n = if is_copy op n then just (storable N v) else of_immediate queues N k.ranges op v n

-- ---- of hart h

module _ (queues : ℕ → Queue) (h : ℕ) where
  -- it loads the other's index of queue i, whole
  abbrev pub is_look : (b : Bounds) (width : ℕ) → (i : ℕ) → Bool
  is_look b width i = is_one b && is_whole (queues i) (party_of (queues i) h) other b.low width

  abbrev pub is_own_index : (b : Bounds) (width : ℕ) → (i : ℕ) → Bool
  is_own_index b width i = is_one b && is_whole (queues i) (party_of (queues i) h) (λ p. p) b.low width

  abbrev pub looked_word : (i : ℕ) → Share → KnownValue
  looked_word i s = index_for i (plus (plus (lifted s.own) (owned_then s)) (number (back_of (queues i) (party_of (queues i) h))))

  abbrev pub after_look : KnownState → LoadOp → (rd i : ℕ) → Share → KnownState
  after_look k op rd i s = record (with_result k rd (next_pc k.pc) (record {
    most = (queues i).capacity - s.owned.constant;
    value = extended_value queues op (looked_word i s);
  })) { shares = set (map (share_by lifted) k.shares) i (looked_share s) }

  abbrev pub may_store : KnownState → (d : Form) → KnownValue → (place : KnownValue) → Bounds → (width : ℕ) → (move : Option ℕ) → (i : ℕ) → Bool
  may_store k d v place b width move i = if is_just move i then may_move queues k d v i (share_at k i) else
      (is_off (queues i) b width || may_fill queues k (party_of (queues i) h) place width i)

-- of N queues
abbrev pub may_load : (ℕ → Queue) → (N h : ℕ) → KnownState → Bounds → (width : ℕ) → Option ℕ → Bool
may_load queues N h k b width look = all_below N
    (λ i. (is_just look i && nat_lt i (length k.shares)) || misses (queues i) (party_of (queues i) h) b width)

-- ---- harts have these own words

module _ (own_of : ℕ → List OwnWord) (h : ℕ) where
  abbrev pub is_own_word : (b : Bounds) (width : ℕ) → (j : ℕ) → Bool
  is_own_word b width j = is_one b && (b.low == (own_at (own_of h) j).at) && (width == (own_at (own_of h) j).width)

  -- it writes no other hart's own word
  abbrev pub leaves_words : Bounds → (width : ℕ) → (g : ℕ) → Bool
  leaves_words b width g = (g == h) || all_below (length (own_of g)) (λ j. is_apart b width (own_at (own_of g) j).at (own_at (own_of g) j).width)

module _ (queues : ℕ → Queue) (N : ℕ) (own_of : ℕ → List OwnWord) (h : ℕ) where
  abbrev pub after_store : KnownState → (d : Form) → (width : ℕ) → KnownValue → Bounds → Option ℕ → KnownState
  after_store k d width v b move = going_to (record k {
    words = words_then queues N k.ranges b width v (own_of h) k.words;
    shares = shares_moved k.shares d move;
  }) (next_pc k.pc)

  -- the number that a load reads, where it is no look
  abbrev pub value_loaded : KnownState → (b : Bounds) (width : ℕ) → KnownValue
  value_loaded k b width = index_loaded k (last_below N (is_own_index queues h b width))
      (word_loaded k (last_below (length (own_of h)) (is_own_word own_of h b width)))

  abbrev pub after_load : KnownState → LoadOp → (rd : ℕ) → Bounds → Option ℕ → KnownState
  after_load k op rd b None = with_result k rd (next_pc k.pc) (loaded queues k.ranges op (value_loaded k b (load_width op)))
  after_load k op rd b (Some i) = after_look queues h k op rd i (share_at k i)

  abbrev pub load_by : KnownState → LoadOp → (rd : ℕ) → Bounds → Option ℕ → Option (List KnownState)
  load_by k op rd b look = if may_load queues N h k b (load_width op) look then Some (after_load k op rd b look ∷ []) else None

  abbrev pub loading : KnownState → LoadOp → (rd : ℕ) → Bounds → Option (List KnownState)
  loading k op rd b = load_by k op rd b (last_below N (is_look queues h b (load_width op)))

  -- an AMO loads and then stores a word, of no index of the other's
  abbrev pub after_exchange : KnownState → (d : Form) → (rd : ℕ) → KnownValue → Bounds → Option ℕ → KnownState
  after_exchange k d rd v b move = with_result (record k {
    words = words_then queues N k.ranges b 4 v (own_of h) k.words;
    shares = shares_moved k.shares d move;
  }) rd (next_pc k.pc) (just (value_loaded k b 4))

-- ---- of hart h, where there are N queues and H harts with these own words
module _ (queues : ℕ → Queue) (N : ℕ) (own_of : ℕ → List OwnWord) (H h : ℕ) where
  abbrev pub store_by : KnownState → (d : Form) → (width : ℕ) → KnownValue → (place : KnownValue) → Bounds → Option ℕ → Option (List KnownState)
  store_by k d width v place b move = if all_below N (may_store queues h k d v place b width move) && all_below H (leaves_words own_of h b width)
      then Some (after_store queues N own_of h k d width v b move ∷ []) else None

  abbrev pub storing : KnownState → (d : Form) → (width : ℕ) → KnownValue → (place : KnownValue) → Bounds → Option (List KnownState)
  storing k d width v place b = store_by k d width v place b (last_below N (is_own_index queues h b width))

  abbrev pub exchange_by : KnownState → (d : Form) → (rd : ℕ) → KnownValue → (place : KnownValue) → Bounds → Option ℕ → Option (List KnownState)
  exchange_by k d rd v place b move = if all_below N (may_store queues h k d v place b 4 move) && all_below H
      (leaves_words own_of h b 4) && all_below N (λ i. misses (queues i) (party_of (queues i) h) b 4)
      then Some (after_exchange queues N own_of h k d rd v b move ∷ []) else None

  abbrev pub exchanging : KnownState → (d : Form) → AmoOp → (rd : ℕ) → KnownValue → (place : KnownValue) → Option Bounds → Option (List KnownState)
  exchanging k d op rd v place None = None
  exchanging k d op rd v place (Some b) = exchange_by k d rd (updated_value queues k.ranges op (value_loaded queues N own_of h k b 4) v) place b
      (last_below N (is_own_index queues h b 4))

  -- ---- instructions. A leaf of a certificate says how many positions its instruction hands over

  abbrev pub follow : KnownState → (d : Form) → Option Instr → Option (List KnownState)
  follow k d None = Some []
  follow k d (Some (Lui rd upper)) = Some (with_result k rd.number (next_pc k.pc) (exactly (upper * 2 ^ 12)) ∷ [])
  follow k d (Some (Auipc rd upper)) = Some (with_result k rd.number (next_pc k.pc) (exactly ((k.pc + upper * 2 ^ 12) % 2 ^ 32)) ∷ [])
  follow k d (Some (Jal rd offset)) = Some (with_result k rd.number (address k.pc offset) (exactly (next_pc k.pc)) ∷ [])
  follow k d (Some (Jalr rd rs1 offset)) = jumping k rd.number offset (as_number (operand queues k rs1))
  follow k d (Some (Branch op rs1 rs2 offset)) = Some (goes_by (when_taken k op rs1 rs2) (when_passed k op rs1 rs2) (address k.pc offset) (next_pc k.pc)
      (is_branch_taken queues k.ranges op (operand queues k rs1) (operand queues k rs2)))
  follow k d (Some (Load op rd rs1 offset)) = loading queues N own_of h k op rd.number (addresses queues k rs1 offset)
  follow k d (Some (Store op rs1 rs2 offset)) = storing k d (store_width op) (register_at k rs2)
      (address_value queues k rs1 offset) (addresses queues k rs1 offset)
  follow k d (Some (Immediate op rd rs1 n)) = Some (with_result k rd.number (next_pc k.pc) (immediate_result queues N k op (operand queues k rs1) n) ∷ [])
  follow k d (Some (Shift op rd rs1 amount)) = Some (with_result k rd.number (next_pc k.pc) (of_shift queues N k.ranges op (operand queues k rs1) amount) ∷ [])
  follow k d (Some (Register op rd rs1 rs2)) = Some (with_result k rd.number (next_pc k.pc)
      (of_registers queues N k.ranges op (operand queues k rs1) (operand queues k rs2)) ∷ [])
  follow k d (Some (Fence pred succ)) = Some (going_to k (next_pc k.pc) ∷ [])
  follow k d (Some FenceTso) = Some (going_to k (next_pc k.pc) ∷ [])
  follow k d (Some Ecall) = Some (called k ∷ [])
  follow k d (Some Ebreak) = Some []
  follow k d (Some (Amo op rd rs1 rs2 aq rl)) = exchanging k d op rd.number (register_at k rs2)
      (operand queues k rs1) (bounds k.ranges (operand queues k rs1))
