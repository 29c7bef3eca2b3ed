-- What packed entries stand for. A head is a row of equal entries; its numbers, or the plain entry that it is, are
-- the first of those that no head before it took.
use Rattle.std.specs.Prelude.{ℕ, ◌+◌, ◌-◌, ◌≡◌, ◌==◌, ◌&&◌, nat_lt, if◌then◌else◌, List, [], ◌∷◌, ◌++◌, Option, Some}
use Rattle.std.specs.Prelude.{None, length, drop, replicate, slice_index}
use Rattle.std.specs.List.{sum_by, slice_get, slice_index_or}
use Rattle.step_machine.specs.declared.events.Entry.{Entry}
use Rattle.step_machine.specs.declared.events.Entry.TheVariants as entry
use Rattle.step_machine.specs.declared.packed.Head.{Head}
use Rattle.step_machine.specs.declared.packed.Head.TheVariants as head

-- what a contract sees of packed entries: the entries, oldest first, the last head, and for how many more
-- there is room
pub record Packing : Type 0 where
  pub entries : List Entry
  pub last : Option Head
  pub room : ℕ

abbrev pub last_of : List Head → Option Head
last_of hs = slice_get hs (length hs - 1)

-- how many numbers belong to a head
abbrev pub numbers_of : Head → ℕ
numbers_of (head.Load h a) = 1
numbers_of (head.Store h a) = 1
numbers_of (head.Amo h a) = 2
numbers_of (head.Next h) = 1
numbers_of (head.Took h sender) = 1
numbers_of other = 0

-- how many plain entries
abbrev pub plain_of : Head → ℕ
plain_of head.Plain = 1
plain_of other = 0

-- how many equal entries follow its first
abbrev pub further_of : Head → ℕ
further_of (head.Inner h further) = further
further_of (head.Land h further) = further
further_of other = 0

-- a head's entry, where these numbers and plain entries begin with its own
abbrev pub entry_of : Head → List ℕ → List Entry → Entry
entry_of (head.Inner h further) ns ps = entry.Inner h
entry_of (head.Land h further) ns ps = entry.Land h
entry_of (head.Load h a) ns ps = entry.Load h a 4 (slice_index ns 0)
entry_of (head.Store h a) ns ps = entry.Store h a 4 (slice_index ns 0)
entry_of (head.Amo h a) ns ps = entry.Amo h a (slice_index ns 0) (slice_index ns 1)
entry_of (head.Fence h full) ns ps = entry.Fence h full
entry_of (head.Next h) ns ps = entry.Next h (Some (slice_index ns 0))
entry_of (head.Took h sender) ns ps = entry.Took h sender (slice_index ns 0)
entry_of head.Plain ns ps = slice_index_or ps 0 (entry.Inner 0)

-- all its entries
abbrev pub packed_entries : Head → List ℕ → List Entry → List Entry
packed_entries h ns ps = entry_of h ns ps ∷ replicate (further_of h) (entry_of h ns ps)

abbrev pub unpacked : List Head → List ℕ → List Entry → List Entry
unpacked [] ns ps = []
unpacked (h ∷ hs) ns ps = packed_entries h ns ps ++ unpacked hs (drop (numbers_of h) ns) (drop (plain_of h) ps)

-- the numbers and the plain entries are as many as the heads take
pub record IsBalanced (hs : List Head) (ns : List ℕ) (ps : List Entry) : Type 0 where
  pub numbers : sum_by numbers_of hs ≡ length ns
  pub plain : sum_by plain_of hs ≡ length ps

-- a head of one entry, which has n numbers and p plain entries
pub record IsSingle (h : Head) (n p : ℕ) : Type 0 where
  pub further : further_of h ≡ 0
  pub numbers : numbers_of h ≡ n
  pub plain : plain_of h ≡ p

-- a head of the same row with this entry at its end
pub record IsLonger (h : Head) (e : Entry) (longer : Head) : Type 0 where
  pub numbers : numbers_of longer ≡ numbers_of h
  pub plain : plain_of longer ≡ plain_of h
  pub further : further_of longer ≡ further_of h + 1
  pub first : (ns : List ℕ) (ps : List Entry) → entry_of h ns ps ≡ e
  pub same : (ns : List ℕ) (ps : List Entry) → entry_of longer ns ps ≡ e

-- the row with this entry more, where it is a row of such entries and may grow
abbrev pub longer : Head → Entry → Option Head
longer (head.Inner h further) (entry.Inner n) = if (h == n) && nat_lt further 65535 then Some (head.Inner h (further + 1)) else None
longer (head.Land h further) (entry.Land n) = if (h == n) && nat_lt further 65535 then Some (head.Land h (further + 1)) else None
longer h e = None

abbrev pub longer_last : Option Head → Entry → Option Head
longer_last None e = None
longer_last (Some h) e = longer h e
