-- The outline of the functions of both kinds: what holds at each line of a call.
use Rattle.spsc_queue.proofs.Common.{ℕ, ◌+◌, ◌*◌, ◌%◌, ◌≤◌, ◌≡◌, Bool, true, false, if◌then◌else◌, Option, Some, None, List, [], ◌∷◌, ◌++◌, ◌⊎◌, slice_index}
use Rattle.spsc_queue.proofs.Common.{Write, write, HartState, Access, load, store, exchange, Kind, lamport, fastforward, RingBuffer, next, SenderState, resting}
use Rattle.spsc_queue.proofs.Common.{placed, renewing, roomy, filled, ReceiverState, idle, asked, waiting, holding, cleared, ProtocolState, Role, room_at}
use Rattle.spsc_queue.proofs.Common.{says_full, watched_address, says_empty, looks_for_room, looks_past_copy, next_by, IsSenderStore, IsReceiverStore, Block}
use Rattle.spsc_queue.proofs.Common.{IsPlainNeed, sees_full, look_accesses, send_accesses, receive_accesses}
use Rattle.hart.specs.Steps.{need_of, advanced}
use Rattle.spsc_queue.specs.Protocol.{sends, receives, looks_for_word}
use Rattle.spsc_queue.specs.Calls.{Party, the_sender, the_receiver}
use Rattle.spsc_queue.specs.CallEffects.{IsFound, SendEffect, ReceiveEffect}
use Rattle.spsc_queue.proofs.Courses.{At, at_00, at_04, at_08, at_0C, at_10, at_14, at_18, at_1C, at_20, at_24, at_28, at_2C, at_30, at_34, at_38, at_3C, at_40}
use Rattle.spsc_queue.proofs.Courses.{number, moved, Course, went, Left, Frame}
use Rattle.spsc_queue.proofs.Cases.{IsLevel, IsWhole}

-- a party's part of the protocol's state
pub record Part : Type 0 where
  pub sending : SenderState
  pub receiving : ReceiverState
  pub words : List ℕ

abbrev pub part : Party → ProtocolState → Part
part the_sender t = record { sending = t.sending; receiving = idle; words = t.sent }
part the_receiver t = record { sending = resting; receiving = t.receiving; words = t.received }

abbrev pub role : Party → Role
role the_sender = sends
role the_receiver = receives

-- ---- what a party knows

pub record Level (t : Part) : Type 0 where
  pub sending : IsLevel t.sending
  pub receiving : IsWhole t.receiving

-- an offset of a slot, and that what a party read is one
abbrev pub IsOffset : Block → ℕ → Type 0
IsOffset k u = (u + 4 ≤ 4 * k.size) × (u % 4 ≡ 0)

abbrev pub IsNear : Block → SenderState → Type 0
IsNear k resting = Unit {0}
IsNear k (placed u) = IsOffset k u
IsNear k (renewing u v) = IsOffset k u
IsNear k (roomy u) = IsOffset k u
IsNear k (filled u) = IsOffset k u

abbrev pub IsFit : Block → ReceiverState → Type 0
IsFit k idle = Unit {0}
IsFit k (asked u) = IsOffset k u
IsFit k (waiting u) = IsOffset k u
IsFit k (holding u w) = IsOffset k u
IsFit k (cleared u) = IsOffset k u

pub record Near (k : Block) (t : Part) : Type 0 where
  pub sending : IsNear k t.sending
  pub receiving : IsFit k t.receiving

-- its own index, where it looks first, and what says that there is no room, or no word
abbrev pub index_at : Party → RingBuffer → ℕ
index_at the_sender r = r.head
index_at the_receiver r = r.tail

abbrev pub first_look : Option ℕ → (room : ℕ) → ℕ
first_look None room = room
first_look (Some c) room = c

abbrev pub look_at : Party → Kind → RingBuffer → (u : ℕ) → ℕ
look_at the_sender K r u = first_look r.copy (room_at K r u)
look_at the_receiver K r u = watched_address K r u

abbrev pub says_no : Party → Kind → RingBuffer → (u c v : ℕ) → Bool
says_no the_sender K r u c v = sees_full r.copy K r u c v
says_no the_receiver K r u c v = says_empty K u v

-- it has read its index u; it has looked there and read v; it may store; it has stored to the slot
abbrev pub Knows : Party → (u : ℕ) → Part → Type 0
Knows the_sender u t = t.sending ≡ placed u
Knows the_receiver u t = t.receiving ≡ asked u

abbrev pub Looked : Party → Kind → RingBuffer → (u v : ℕ) → Part → Type 0
Looked the_sender K r u v t = t.sending ≡ looks_for_room K r u v
Looked the_receiver K r u v t = t.receiving ≡ looks_for_word K u v

abbrev pub MayStore : Party → (u w : ℕ) → Part → Type 0
MayStore the_sender u w t = t.sending ≡ roomy u
MayStore the_receiver u w t = t.receiving ≡ holding u w

abbrev pub Stored : Party → (u : ℕ) → Part → Type 0
Stored the_sender u t = t.sending ≡ filled u
Stored the_receiver u t = t.receiving ≡ cleared u

-- the word of a send stands in a1
abbrev pub Word : Party → (entry : HartState) → (w : ℕ) → Type 0
Word the_sender s w = w ≡ slice_index s.registers 11
Word the_receiver s w = Unit {0}

-- the word that it looked at, where that is the word which it takes
abbrev pub Found : Party → Kind → (v w : ℕ) → Type 0
Found the_sender K v w = Unit {0}
Found the_receiver K v w = IsFound K v w

-- ---- its accesses so far: two loads; those before it stores a word, where w is in a1; and that of the slot

abbrev pub looked : Party → Kind → RingBuffer → (u v : ℕ) → List Access
looked p K r u v = load (index_at p r) 4 u ∷ load (look_at p K r u) 4 v ∷ []

abbrev pub ready : Party → Kind → RingBuffer → (u c v w : ℕ) → List Access
ready the_sender K r u c v w = load r.head 4 u ∷ look_accesses r.copy K r u c v
ready the_receiver lamport r u c v w = looked the_receiver lamport r u v ++ load (r.slots + u) 4 w ∷ []
ready the_receiver fastforward r u c v w = looked the_receiver fastforward r u v

-- what it stores to the slot
abbrev pub put : Party → (w : ℕ) → ℕ
put the_sender w = w
put the_receiver w = 0

abbrev pub all_accesses : Party → Kind → RingBuffer → (w u c v : ℕ) → List Access
all_accesses the_sender K r w u c v = send_accesses K r w u c v
all_accesses the_receiver K r w u c v = receive_accesses K r w u v

abbrev pub Effect : Party → Kind → RingBuffer → (s z : HartState) → (count : ℕ) → List Access → Type 0
Effect the_sender K r s z count did = SendEffect K r s z count did
Effect the_receiver K r s z count did = ReceiveEffect K r s z count did

-- ---- what holds of the registers x, after the words ws

-- it has loaded nothing; its index
pub record Fresh (n : ℕ) (p : Party) (k : Block) (c : Course) (ws x : List ℕ) (t : Part) : Type 0 where
  pub same : c.entry.registers ≡ x
  pub frame : Frame n p k c 0 x
  pub level : Level t
  pub words : t.words ≡ ws
  pub did : c.did ≡ []

pub record Indexed (n : ℕ) (p : Party) (k : Block) (r : RingBuffer) (c : Course) (m : ℕ) (ws x : List ℕ) (t : Part) : Type 0 where
  pub frame : Frame n p k c m x
  pub word : Word p c.entry (slice_index x 11)
  pub knows : Knows p (slice_index x 5) t
  pub level : Level t
  pub words : t.words ≡ ws
  pub did : c.did ≡ load (index_at p r) 4 (slice_index x 5) ∷ []

-- it has looked, and what it read is in register i
pub record Seen (n : ℕ) (p : Party) (K : Kind) (k : Block) (r : RingBuffer) (c : Course) (m i : ℕ) (ws x : List ℕ) (t : Part) : Type 0 where
  pub frame : Frame n p k c m x
  pub word : Word p c.entry (slice_index x 11)
  pub knows : Looked p K r (slice_index x 5) (slice_index x i) t
  pub level : Level t
  pub words : t.words ≡ ws
  pub did : c.did ≡ looked p K r (slice_index x 5) (slice_index x i)

-- a word waits at the offset in x5 (Lamport's receiver)
pub record Waiting (n : ℕ) (k : Block) (r : RingBuffer) (c : Course) (m : ℕ) (ws x : List ℕ) (t : Part) : Type 0 where
  pub seen : ℕ
  pub frame : Frame n the_receiver k c m x
  pub knows : t.receiving ≡ waiting (slice_index x 5)
  pub level : Level t
  pub some : says_empty lamport (slice_index x 5) seen ≡ false
  pub words : t.words ≡ ws
  pub did : c.did ≡ looked the_receiver lamport r (slice_index x 5) seen

-- its copy of the tail says that there is no room, and this is what it has done since
pub record Past (n : ℕ) (k : Block) (r : RingBuffer) (c : Course) (m : ℕ) (ws x : List ℕ) (t : Part) (state : SenderState) (since : List Access) : Type 0 where
  pub copy : ℕ
  pub copies : r.copy ≡ Some (k.base + 4)
  pub frame : Frame n the_sender k c m x
  pub word : Word the_sender c.entry (slice_index x 11)
  pub knows : t.sending ≡ state
  pub level : Level t
  pub full : says_full lamport r (slice_index x 5) copy ≡ true
  pub after : slice_index x 7 ≡ next r (slice_index x 5)
  pub words : t.words ≡ ws
  pub did : c.did ≡ load r.head 4 (slice_index x 5) ∷ load (k.base + 4) 4 copy ∷ since

-- its index, what its copy says, what it read last, and whether it so saw that there is no room, or no word
pub record Choice (p : Party) (K : Kind) (r : RingBuffer) (no : Bool) : Type 0 where
  pub place : ℕ
  pub copy : ℕ
  pub seen : ℕ
  pub says : says_no p K r place copy seen ≡ no

-- it may store, at a place of which x5 and x7 are made
pub record Ready (n : ℕ) (p : Party) (K : Kind) (k : Block) (r : RingBuffer) (c : Course) (m : ℕ) (ws x : List ℕ) (t : Part) (five seven : ℕ → ℕ) : Type 0 where
  pub choice : Choice p K r false
  pub open choice use *
  pub frame : Frame n p k c m x
  pub word : Word p c.entry (slice_index x 11)
  pub found : Found p K seen (slice_index x 11)
  pub knows : MayStore p place (slice_index x 11) t
  pub level : Level t
  pub x5 : slice_index x 5 ≡ five place
  pub x7 : slice_index x 7 ≡ seven place
  pub words : t.words ≡ ws
  pub did : c.did ≡ ready p K r place copy seen (slice_index x 11)

-- it has stored to the slot, and the next offset is in register i
pub record Half (n : ℕ) (p : Party) (K : Kind) (k : Block) (r : RingBuffer) (c : Course) (m i : ℕ) (ws x : List ℕ) (t : Part) : Type 0 where
  pub choice : Choice p K r false
  pub open choice use *
  pub frame : Frame n p k c m x
  pub word : Word p c.entry (slice_index x 11)
  pub found : Found p K seen (slice_index x 11)
  pub knows : Stored p place t
  pub after : slice_index x i ≡ next r place
  pub words : t.words ≡ ws ++ slice_index x 11 ∷ []
  pub did : c.did ≡ ready p K r place copy seen (slice_index x 11) ++ store (write (r.slots + place) 4 (put p (slice_index x 11))) ∷ []

-- all its accesses are made, and it is to answer so
pub record Finished (n : ℕ) (p : Party) (K : Kind) (k : Block) (r : RingBuffer) (c : Course) (m : ℕ) (ws x : List ℕ) (t : Part) (answer : ℕ) : Type 0 where
  pub no : Bool
  pub choice : Choice p K r no
  pub open choice use *
  pub left : Left n p k c m x
  pub word : Word p c.entry (slice_index x 11)
  pub found : Found p K seen (slice_index x 11)
  pub level : Level t
  pub among : IsOffset k place
  pub words : t.words ≡ ws
  pub did : c.did ≡ all_accesses p K r (slice_index x 11) place copy seen
  pub answers : answer ≡ (if no then 0 else 1)

-- ---- the lines

abbrev pub Ended : (n : ℕ) → Party → Kind → Block → RingBuffer → Course → (m : ℕ) → (ws x : List ℕ) → Part → (answer : ℕ) → Type 0
Ended n p K k r c m ws x t answer = Finished n p K k r c m ws x t answer × (slice_index x 10 ≡ answer)

-- how many entries more a sender makes that looks past its copy
abbrev pub detour : Option ℕ → ℕ
detour None = 0
detour (Some c) = 4

abbrev pub more : Party → RingBuffer → ℕ
more the_sender r = detour r.copy
more the_receiver r = 0

abbrev SendRow : (n : ℕ) → Block → RingBuffer → Course → (ws : List ℕ) → At → (x : List ℕ) → Part → Type 0
SendRow n k r c ws at_04 x t = Indexed n the_sender k r c 1 ws x t
SendRow n k r c ws at_08 x t = Seen n the_sender lamport k r c 2 6 ws x t
SendRow n k r c ws at_0C x t = Seen n the_sender lamport k r c 3 6 ws x t × (slice_index x 7 ≡ slice_index x 5 + 4)
SendRow n k r c ws at_10 x t = Seen n the_sender lamport k r c 4 6 ws x t × (slice_index x 5 + 4 ≡ 4 * k.size)
SendRow n k r c ws at_14 x t = Seen n the_sender lamport k r c 5 6 ws x t × (slice_index x 7 ≡ next r (slice_index x 5))
SendRow n k r c ws at_18 x t = Ready n the_sender lamport k r c (6 + detour r.copy) ws x t (λ u. u) (λ u. next r u)
SendRow n k r c ws at_1C x t = Ready n the_sender lamport k r c (7 + detour r.copy) ws x t (λ u. k.base + u) (λ u. next r u)
SendRow n k r c ws at_20 x t = Half n the_sender lamport k r c (8 + detour r.copy) 7 ws x t
SendRow n k r c ws at_34 x t = Past n k r c 6 ws x t (placed (slice_index x 5)) []
SendRow n k r c ws at_38 x t =
    Past n k r c 7 ws x t (looks_past_copy lamport r (slice_index x 5) (slice_index x 6)) (load r.tail 4 (slice_index x 6) ∷ [])
SendRow n k r c ws at_3C x t = Past n k r c 8 ws x t (renewing (slice_index x 5) (slice_index x 6)) (load r.tail 4 (slice_index x 6) ∷ [])
    × (says_full lamport r (slice_index x 5) (slice_index x 6) ≡ false)
SendRow n k r c ws at_40 x t = Ready n the_sender lamport k r c 9 ws x t (λ u. u) (λ u. next r u) × (r.copy ≡ Some (k.base + 4))
SendRow n k r c ws line x t = ⊥

abbrev ReceiveRow : (n : ℕ) → Block → RingBuffer → Course → (ws : List ℕ) → At → (x : List ℕ) → Part → Type 0
ReceiveRow n k r c ws at_04 x t = Indexed n the_receiver k r c 1 ws x t
ReceiveRow n k r c ws at_08 x t = Seen n the_receiver lamport k r c 2 6 ws x t
ReceiveRow n k r c ws at_0C x t = Waiting n k r c 3 ws x t
ReceiveRow n k r c ws at_10 x t = Waiting n k r c 4 ws x t × (slice_index x 7 ≡ k.base + slice_index x 5)
ReceiveRow n k r c ws at_14 x t = Ready n the_receiver lamport k r c 5 ws x t (λ u. u) (λ u. k.base + u)
ReceiveRow n k r c ws at_18 x t = Ready n the_receiver lamport k r c 6 ws x t (λ u. u + 4) (λ u. k.base + u)
ReceiveRow n k r c ws at_1C x t = Ready n the_receiver lamport k r c 7 ws x t (λ u. u + 4) (λ u. k.base + u) × (slice_index x 5 ≡ 4 * k.size)
ReceiveRow n k r c ws at_20 x t = Ready n the_receiver lamport k r c 8 ws x t (λ u. next r u) (λ u. k.base + u)
ReceiveRow n k r c ws line x t = ⊥

-- FastForward's functions differ in the register that takes what is read in the slot
abbrev pub slot_register : Party → ℕ
slot_register the_sender = 6
slot_register the_receiver = 11

abbrev FastForwardRow : (n : ℕ) → Party → Block → RingBuffer → Course → (ws : List ℕ) → At → (x : List ℕ) → Part → Type 0
FastForwardRow n p k r c ws at_04 x t = Indexed n p k r c 1 ws x t
FastForwardRow n p k r c ws at_08 x t = Indexed n p k r c 2 ws x t × (slice_index x 7 ≡ k.base + slice_index x 5)
FastForwardRow n p k r c ws at_0C x t = Seen n p fastforward k r c 3 (slot_register p) ws x t × (slice_index x 7 ≡ k.base + slice_index x 5)
FastForwardRow n p k r c ws at_10 x t = Ready n p fastforward k r c 4 ws x t (λ u. u) (λ u. k.base + u)
FastForwardRow n p k r c ws at_14 x t = Ready n p fastforward k r c 5 ws x t (λ u. u + 4) (λ u. k.base + u)
FastForwardRow n p k r c ws at_18 x t = Ready n p fastforward k r c 6 ws x t (λ u. u + 4) (λ u. k.base + u) × (slice_index x 5 ≡ 4 * k.size)
FastForwardRow n p k r c ws at_1C x t = Ready n p fastforward k r c 7 ws x t (λ u. next r u) (λ u. k.base + u)
FastForwardRow n p k r c ws at_20 x t = Half n p fastforward k r c 8 5 ws x t
FastForwardRow n p k r c ws line x t = ⊥

abbrev pub OwnRow : (n : ℕ) → Party → Kind → Block → RingBuffer → Course → (ws : List ℕ) → At → (x : List ℕ) → Part → Type 0
OwnRow n the_sender lamport k r c ws line x t = SendRow n k r c ws line x t
OwnRow n the_receiver lamport k r c ws line x t = ReceiveRow n k r c ws line x t
OwnRow n p fastforward k r c ws line x t = FastForwardRow n p k r c ws line x t

-- the lines that all functions have in the same place, and those of each
abbrev pub Row : (n : ℕ) → Party → Kind → Block → RingBuffer → Course → (ws : List ℕ) → At → (x : List ℕ) → Part → Type 0
Row n p K k r c ws at_00 x t = Fresh n p k c ws x t
Row n p K k r c ws at_04 x t = Indexed n p k r c 1 ws x t
Row n p K k r c ws at_24 x t = Finished n p K k r c (9 + more p r) (ws ++ slice_index x 11 ∷ []) x t 1
Row n p K k r c ws at_28 x t = Ended n p K k r c (10 + more p r) (ws ++ slice_index x 11 ∷ []) x t 1
Row n p K k r c ws at_2C x t = Finished n p K k r c 8 ws x t 0
Row n p K k r c ws at_30 x t = Ended n p K k r c 9 ws x t 0
Row n p K k r c ws line x t = OwnRow n p K k r c ws line x t

pub record Inside (n : ℕ) (p : Party) (K : Kind) (k : Block) (r : RingBuffer) (ws : List ℕ) (c : Course) (s : HartState) (t : Part) : Type 0 where
  pub line : At
  pub place : s.pc ≡ 4 * (n + number line)
  pub row : Row n p K k r c ws line s.registers t

pub record Outside (p : Party) (K : Kind) (r : RingBuffer) (ws : List ℕ) (c : Course) (s : HartState) (t : Part) : Type 0 where
  pub level : Level t
  pub words : t.words ≡ ws
  pub effect : Effect p K r c.entry s c.count c.did

-- a party is in this call, or has ended it; its calls that returned 1 completed the words ws
abbrev pub CourseStands : (n : ℕ) → Party → Kind → Block → RingBuffer → Bool → List ℕ → Course → HartState → Part → Type 0
CourseStands n p K k r true ws c s t = Inside n p K k r ws c s t
CourseStands n p K k r false ws c s t = Outside p K r ws c s t

-- it is in a call, or in none with no word half passed
abbrev pub Stands : (n : ℕ) → Party → Kind → Block → RingBuffer → Bool → List ℕ → HartState → Part → Type 0
Stands n p K k r false ws s t = Level t × (t.words ≡ ws)
Stands n p K k r true ws s t = (c : Course) × Inside n p K k r ws c s t

pub any_course : (n : ℕ) (p : Party) (K : Kind) (k : Block) (r : RingBuffer) (b : Bool) (ws : List ℕ) (c : Course) (s : HartState) (t : Part)
    → CourseStands n p K k r b ws c s t → Stands n p K k r b ws s t
any_course n p K k r true ws c s t stands = (c, stands)
any_course n p K k r false ws c s t stands = (stands.level, stands.words)

-- what a line of a function may do: it stores to the block what the protocol allows, and nothing elsewhere
abbrev pub IsStore : Party → Kind → RingBuffer → ProtocolState → Write → Type 0
IsStore the_sender K r t w = IsSenderStore K r t.sending w
IsStore the_receiver K r t w = IsReceiverStore K r t.receiving w

abbrev pub Does : Party → Kind → RingBuffer → ProtocolState → Access → Type 0
Does p K r t (store w) = IsStore p K r t w
Does p K r t (exchange a old new) = ⊥
Does p K r t x = Unit {0}

pub record Moves (n : ℕ) (p : Party) (K : Kind) (k : Block) (r : RingBuffer) (b : Bool) (ws : List ℕ) (c : Course) (h : ℕ) (s : HartState)
    (t : ProtocolState) (v : ℕ) : Type 0 where
  pub plain : IsPlainNeed (need_of s)
  pub rule : Does p K r t (moved h s v)
  pub after : CourseStands n p K k r b ws (went c (moved h s v)) (advanced s v) (part p (next_by K r (role p) t (moved h s v)))

-- what a party's words are, by those that its calls completed: these, or besides the word in a1, of a call that is to return 1
abbrev pub WordsAre : (ws : List ℕ) → HartState → Part → Type 0
WordsAre ws s t = (Level t × (t.words ≡ ws)) ⊎ (t.words ≡ ws ++ slice_index s.registers 11 ∷ [])
