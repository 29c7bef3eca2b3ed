-- Tokens, the places in memory that say which of them lie there, and who holds which along a run.
use Rattle.std.specs.Prelude.{ℕ, zero, suc, ◌+◌, ◌-◌, ◌&&◌, ◌||◌, nat_le, Bool, false, ◌≡◌, ◌⊎◌, ◌<◌, if◌then◌else◌, Option, None, Some, List, [], ◌∷◌, true}
use Rattle.std.specs.Prelude.{◌++◌}
use Rattle.std.specs.Int.{byte_at}
use Rattle.memory.specs.declared.writes.Write.{Write}
use Rattle.memory.specs.Writes.{joined, write, covers}
use Rattle.step_machine.specs.declared.events.Entry.{Entry}
use Rattle.step_machine.specs.Access.{Access, load, store, exchange, access_of}
use Rattle.step_machine.specs.Entries.{hart_of, opening_byte}
use Rattle.step_machine.specs.History.{OpeningValue, history_of}
use Rattle.step_machine.specs.Legal.{Legal}
use Rattle.store_buffers.specs.StoreBuffers.{memory_number}
use Rattle.queue_parties.specs.Positions.{IsInBytes}
use Rattle.certified_runs.specs.Views.{View, view_of, view_then, byte_then}

-- How many places there are; where each begins, and how many bytes it has; which tokens lie in it when its bytes are the number v; and
-- which bytes a token guards.
--
-- A lock word is a place: 0 says that the lock's token lies there, and any other number that it doesn't. A triple buffer's spare is one:
-- v says that the token of buffer v % 4 lies there. One word with a lock in each bit has a token for each
pub record TokenLayout : Type 0 where
  pub places : ℕ
  pub at : ℕ → ℕ
  pub width : ℕ → ℕ
  pub lies : (i v t : ℕ) → Bool
  pub guards : (t x : ℕ) → Bool

abbrev pub any_below : (n : ℕ) → (ℕ → Bool) → Bool
any_below zero f = false
any_below (suc n) f = f n || any_below n f

-- a write covers all bytes of place i, or none; and the number that it has there
abbrev pub covers_place : TokenLayout → Write → (i : ℕ) → Bool
covers_place q w i = nat_le w.addr (q.at i) && nat_le (q.at i + q.width i) (w.addr + w.width)

abbrev pub misses_place : TokenLayout → Write → (i : ℕ) → Bool
misses_place q w i = nat_le (q.at i + q.width i) w.addr || nat_le (w.addr + w.width) (q.at i)

abbrev pub number_laid : TokenLayout → Write → (i : ℕ) → ℕ
number_laid q w i = joined (λ j. byte_at (q.at i + j - w.addr) w.value) (q.width i)

-- by this write token t lies in place i; in some place
abbrev pub lays_in : TokenLayout → Write → (t i : ℕ) → Bool
lays_in q w t i = covers_place q w i && q.lies i (number_laid q w i) t

abbrev pub lays : TokenLayout → Write → (t : ℕ) → Bool
lays q w t = any_below q.places (lays_in q w t)

-- ---- who holds which token: what an access makes of that, and which accesses a hart may make

-- of each token the hart that holds it: none if the token lies in a place, or is on its way there in a store buffer
abbrev pub Holders : Type 0
Holders = ℕ → Option ℕ

-- a token that a write lays down is nobody's, and one that an AMO finds is its hart's
abbrev pub laid : TokenLayout → Write → Holders → Holders
laid q w c = λ t. if lays q w t then None else c t

abbrev pub taken_by : TokenLayout → (h : ℕ) → Write → Holders → Holders
taken_by q h w c = λ t. if lays q w t then Some h else c t

-- a load takes nothing
abbrev pub holders_then : TokenLayout → (h : ℕ) → Access → Holders → Holders
holders_then q h (store w) c = laid q w c
holders_then q h (exchange a old new) c = laid q (write a 4 new) (taken_by q h (write a 4 old) c)
holders_then q h y c = c

-- A hart that holds these tokens writes each place wholly or not at all, lays down tokens that it holds, each in one place, and writes over
-- bytes only where it holds the tokens that guard them
pub record MayWrite (q : TokenLayout) (h : ℕ) (c : Holders) (w : Write) : Type 0 where
  pub whole : (i : ℕ) → i < q.places → (covers_place q w i ≡ true) ⊎ (misses_place q w i ≡ true)
  pub held : (t : ℕ) → lays q w t ≡ true → c t ≡ Some h
  pub once : (i j t : ℕ) → i < q.places → j < q.places → lays_in q w t i ≡ true → lays_in q w t j ≡ true → i ≡ j
  pub guarded : (t x : ℕ) → covers w x ≡ true → q.guards t x ≡ true → c t ≡ Some h

-- an AMO first takes what it finds
abbrev pub May : TokenLayout → (h : ℕ) → Holders → Access → Type 0
May q h c (store w) = MayWrite q h c w
May q h c (exchange a old new) = MayWrite q h (taken_by q h (write a 4 old) c) (write a 4 new)
May q h c y = Unit {0}

-- and loads only what it holds, which isn't asked of it
abbrev pub LoadsHeld : TokenLayout → (h : ℕ) → Holders → Access → Type 0
LoadsHeld q h c (load a width v) = (t x : ℕ) → IsInBytes a width x → q.guards t x ≡ true → c t ≡ Some h
LoadsHeld q h c y = Unit {0}

-- ---- along a run

abbrev pub holders_next : TokenLayout → Holders → Entry → Holders
holders_next q c e = holders_then q (hart_of e) (access_of e) c

abbrev pub holders : TokenLayout → Holders → List Entry → Holders
holders q c [] = c
holders q c (e ∷ es) = holders q (holders_next q c e) es

abbrev pub KeepsTokens : TokenLayout → Holders → List Entry → Type 0
KeepsTokens q c [] = Unit {0}
KeepsTokens q c (e ∷ es) = May q (hart_of e) c (access_of e) × KeepsTokens q (holders_next q c e) es

-- ---- what the laws speak of

-- where a run opens nobody holds a token that lies in a place, and it lies in no other
pub record OpensTokens (q : TokenLayout) (o : OpeningValue) (start : Holders) : Type 0 where
  pub free : (i t : ℕ) → i < q.places → q.lies i (memory_number o [] (q.at i) (q.width i)) t ≡ true → start t ≡ None
  pub once : (i j t : ℕ) → i < q.places → j < q.places → q.lies i (memory_number o [] (q.at i) (q.width i)) t ≡ true
      → q.lies j (memory_number o [] (q.at j) (q.width j)) t ≡ true → i ≡ j

-- a legal run of an opening, each of whose accesses its hart may make
pub record FollowsTokens (B : ℕ) (q : TokenLayout) (start : Holders) (o : OpeningValue) (es : List Entry) : Type 0 where
  pub opens : OpensTokens q o start
  pub legal : Legal B (history_of o es)
  pub keeps : KeepsTokens q start es

-- a byte after these entries, if each store reached memory as it was executed: that of the last store or AMO over it, by whatever hart
abbrev pub stored_from : (b x : ℕ) → List Entry → ℕ
stored_from b x [] = b
stored_from b x (e ∷ es) = stored_from (byte_then (access_of e) x b) x es

abbrev pub last_stored : OpeningValue → List Entry → (x : ℕ) → ℕ
last_stored o es x = stored_from (opening_byte o x) x es

-- an access lays token t down
abbrev pub lays_down : TokenLayout → Access → (t : ℕ) → Type 0
lays_down q (store w) t = lays q w t ≡ true
lays_down q (exchange a old new) t = lays q (write a 4 new) t ≡ true
lays_down q y t = ⊥

-- what is said of a token is so, as its hart then reads, where one of these entries lays it down
abbrev pub HandsOn : TokenLayout → (says : ℕ → View → Bool) → OpeningValue → (before es : List Entry) → Type 0
HandsOn q says o before [] = Unit {0}
HandsOn q says o before (e ∷ es) = ((t : ℕ) → lays_down q (access_of e) t → says t (view_then (access_of e) (view_of o before (hart_of e))) ≡ true)
    × HandsOn q says o (before ++ e ∷ []) es
