-- A role that harts play in turn: what the holders of a token do, as the acts of one hart. So what is known of a party that is one hart,
-- as a queue's sender, is known of a role that passes from hart to hart.
use Rattle.std.specs.Prelude.{ℕ, ◌==◌, if◌then◌else◌, Bool, false, Option, None, Some, List, [], ◌∷◌, ◌++◌, ◌≢◌, All, ◌≡◌, ◌&&◌}
use Rattle.memory.specs.declared.writes.Write.{Write}
use Rattle.memory.specs.Writes.{write}
use Rattle.step_machine.specs.declared.events.Entry.{Entry}
use Rattle.step_machine.specs.Access.{Access, exchange, land, access_of}
use Rattle.step_machine.specs.Entries.{hart_of, pending}
use Rattle.step_machine.specs.History.{OpeningValue}
use Rattle.step_machine.specs.declared.events.Entry.TheVariants as entry
use Rattle.queue_parties.specs.Parties.{QueueCounts}
use Rattle.slot_queue.specs.Queues.{Queue, IsQueue, IsAtRest}
use Rattle.slot_queue.specs.Ownership.{KeepsOwnership}
use Rattle.tokens.specs.Tokens.{TokenLayout, Holders, laid, taken_by, holders_next, FollowsTokens}

-- whose a token is by what has landed: a hart's until the store by which that hart laid it down lands
abbrev pub laid_first : TokenLayout → List Write → Holders → Holders
laid_first q [] m = m
laid_first q (w ∷ ws) m = laid q w m

abbrev pub next_in_memory : TokenLayout → (h : ℕ) → (pending : List Write) → Access → Holders → Holders
next_in_memory q h ws land m = laid_first q ws m
next_in_memory q h ws (exchange a old new) m = laid q (write a 4 new) (taken_by q h (write a 4 old) m)
next_in_memory q h ws y m = m

abbrev pub in_memory : TokenLayout → (before : List Entry) → Entry → Holders → Holders
in_memory q before e m = next_in_memory q (hart_of e) (pending (hart_of e) before) (access_of e) m

abbrev pub is_holder : Option ℕ → (h : ℕ) → Bool
is_holder None h = false
is_holder (Some g) h = g == h

-- An entry as hart V's, where its hart `holds` the role's token, and where the token is `theirs` by what has landed: the loads, stores and AMOs
-- of who holds it, and the landings of those stores. Fences are left out, and so are a hart's loads while the store by which it laid the
-- token down is pending, since they may read what is V's then
abbrev pub as_role : (V : ℕ) → (holds theirs : Bool) → Entry → Entry
as_role V b l (entry.Load h a width v) = if b then entry.Load V a width v else (if l then entry.Inner h else entry.Load h a width v)
as_role V b l (entry.Store h a width v) = entry.Store (if b then V else h) a width v
as_role V b l (entry.Amo h a old new) = entry.Amo (if b then V else h) a old new
as_role V b l (entry.Fence h full) = entry.Inner h
as_role V b l (entry.Land h) = entry.Land (if l then V else h)
as_role V b l e = e

-- a run in which hart V plays the role of token s
abbrev pub played : TokenLayout → (s V : ℕ) → (before : List Entry) → (c m : Holders) → List Entry → List Entry
played q s V before c m [] = []
played q s V before c m (e ∷ es) = as_role V (is_holder (c s) (hart_of e)) (is_holder (m s) (hart_of e)) e
    ∷ played q s V (before ++ e ∷ []) (holders_next q c e) (in_memory q before e m) es

abbrev pub as_one_hart : TokenLayout → (s V : ℕ) → (start : Holders) → List Entry → List Entry
as_one_hart q s V start es = played q s V [] start start es

-- ---- of a queue

-- the sender of queue k is no hart of the run: it stands for whoever holds token s, and with it the run keeps the protocol of ownership
pub record FollowsRole (B : ℕ) (q : TokenLayout) (s : ℕ) (start : Holders) (k : Queue) (n : QueueCounts) (o : OpeningValue) (es : List Entry) : Type 0 where
  pub tokens : FollowsTokens B q start o es
  pub queue : IsQueue k
  pub role : All (λ e. hart_of e ≢ k.sender) es
  pub rest : IsAtRest k o [] n
  pub keeps : KeepsOwnership k n (as_one_hart q s k.sender start es)

-- token r alone, of which no byte is said
abbrev pub only : TokenLayout → (r : ℕ) → TokenLayout
only q r = record { places = q.places; at = q.at; width = q.width; lies = λ i v t. q.lies i v t && t == r; guards = λ t x. false }

-- no hart holds token r while it holds token s, nor takes it by the AMO that lays s down
abbrev pub HoldsApart : TokenLayout → (s r : ℕ) → Holders → List Entry → Type 0
HoldsApart q s r c [] = Unit {0}
HoldsApart q s r c (e ∷ es) = (c s ≡ Some (hart_of e) → (c r ≡ Some (hart_of e) → ⊥) × (holders_next q c e r ≡ Some (hart_of e) → ⊥))
    × HoldsApart q s r (holders_next q c e) es

-- the run in which the queue's sender and its receiver stand for whoever holds tokens s and r
abbrev pub as_two_harts : TokenLayout → (s r : ℕ) → Queue → (start : Holders) → List Entry → List Entry
as_two_harts q s r k start es = as_one_hart (only q r) r k.receiver start (as_one_hart q s k.sender start es)

-- the same where both roles pass, with tokens s and r
pub record FollowsRoles (B : ℕ) (q : TokenLayout) (s r : ℕ) (start : Holders) (k : Queue) (n : QueueCounts) (o : OpeningValue) (es : List Entry) : Type 0 where
  pub tokens : FollowsTokens B q start o es
  pub apart : HoldsApart q s r start es
  pub queue : IsQueue k
  pub sends : All (λ e. hart_of e ≢ k.sender) es
  pub receives : All (λ e. hart_of e ≢ k.receiver) es
  pub rest : IsAtRest k o [] n
  pub keeps : KeepsOwnership k n (as_two_harts q s r k start es)
