-- What the entries of a run did, each with the pc of its hart before it, and what of them is recalled of a violation or a loss.
use Rattle.std.specs.Prelude.{ℕ, zero, suc, ◌≡◌, ◌==◌, ◌&&◌, nat_le, nat_lt, if◌then◌else◌, Bool, Option, None, Some, List, [], ◌∷◌, ◌++◌}
use Rattle.memory.specs.declared.writes.Write.{Write}
use Rattle.memory.specs.Writes.{write}
use Rattle.step_machine.specs.declared.events.Event.{Event}
use Rattle.step_machine.specs.declared.events.Outcome.{Outcome}
use Rattle.step_machine.specs.declared.events.Outcome.TheVariants.{Did}
use Rattle.step_machine.specs.History.{OpeningValue, History, at_opening}
use Rattle.step_machine.specs.Access.{Access, load, store, exchange, access_of}
use Rattle.step_machine.specs.Entries.{hart_of}
use Rattle.step_machine.specs.Paths.{IsPc}
use Rattle.step_machine.specs.Runs.{Happens}
use Rattle.queue_parties.specs.Parties.{Party, other, QueueCounts}
use Rattle.slot_queue.specs.Ownership.{is_index_store}
use Rattle.slots_that_tell.specs.Slots.{is_tag, tag_of}
use Rattle.queue_layouts.specs.declared.AnyQueue.{AnyQueue}
use Rattle.queue_layouts.specs.declared.AnyQueue.TheVariants.{Indexed, Tagged}
use Rattle.queue_layouts.specs.Tagged.{slots_of}
use Rattle.ownership_runs.specs.declared.steps.Done.{Done}
use Rattle.ownership_runs.specs.declared.steps.Recalled.{Recalled}
use Rattle.ownership_runs.specs.declared.steps.Step.{Step}
use Rattle.ownership_runs.specs.Protocols.{entry_counts}

-- ---- the steps of a run

-- what an event did after a history
abbrev pub IsStepOf : (M : ℕ) → History → Outcome → List Step → Type 0
IsStepOf M t (Did e) steps = (pc : ℕ) × IsPc M t (hart_of e) pc × (steps ≡ record { entry = e; pc = pc } ∷ [])
IsStepOf M t nothing steps = steps ≡ []

-- what these events did, one after the other
abbrev pub AreStepsFrom : (B M : ℕ) → History → List Event → List Step → History → Type 0
AreStepsFrom B M t [] steps new = (steps ≡ []) × (new ≡ t)
AreStepsFrom B M t (ev ∷ evs) steps new = (o : Outcome) × (mid : History) × (first : List Step) × (rest : List Step) × Happens B M t ev o mid
    × IsStepOf M t o first × (steps ≡ first ++ rest) × AreStepsFrom B M mid evs rest new

-- what they did after the opening
pub record AreSteps (B M : ℕ) (o : OpeningValue) (events : List Event) (steps : List Step) : Type 0 where
  pub history : History
  pub from : AreStepsFrom B M (at_opening o) events steps history

-- the pc of the step before which this number of others come, or 0
abbrev pub pc_at : List Step → (place : ℕ) → ℕ
pc_at [] place = 0
pc_at (s ∷ ss) zero = s.pc
pc_at (s ∷ ss) (suc n) = pc_at ss n

-- ---- what a party did before

-- what an access stores, and what it loads, as if that were stored
abbrev pub stores : Access → Option Write
stores (store w) = Some w
stores (exchange a old new) = Some (write a 4 new)
stores x = None

abbrev pub loads : Access → Option Write
loads (load a w v) = Some (write a w v)
loads (exchange a old new) = Some (write a 4 old)
loads x = None

-- these bytes are the party's own index, or a tag
abbrev pub is_own_place : AnyQueue → Party → Write → Bool
is_own_place (Indexed q) p w = is_index_store q p w
is_own_place (Tagged q) p w = is_tag (slots_of q) w.addr w.width

-- these are the other's index, or the tag of position n
abbrev pub is_look : AnyQueue → Party → (n : ℕ) → Write → Bool
is_look (Indexed q) p n w = is_index_store q (other p) w
is_look (Tagged q) p n w = (w.addr == tag_of (slots_of q) n) && (w.width == q.tag_width)

-- the value of such bytes, at this pc, in place of what was recalled
abbrev pub or_last : (of : Write → Bool) → (pc : ℕ) → Option Done → Option Write → Option Done
or_last of pc last None = last
or_last of pc last (Some w) = if of w then Some (record { value = w.value; pc = pc }) else last

-- after a step of a hart, and after all of them
abbrev pub recalled_more : AnyQueue → (hart : ℕ) → Party → (n : ℕ) → Recalled → Step → Recalled
recalled_more q h p n r s = if hart_of s.entry == h then record {
  stored = or_last (is_own_place q p) s.pc r.stored (stores (access_of s.entry));
  looked = or_last (is_look q p n) s.pc r.looked (loads (access_of s.entry));
} else r

abbrev pub recalled_all : AnyQueue → (hart : ℕ) → Party → (n : ℕ) → Recalled → List Step → Recalled
recalled_all q h p n r [] = r
recalled_all q h p n r (s ∷ ss) = recalled_all q h p n (recalled_more q h p n r s) ss

-- a party's last store to its own index, or to a tag, and its last look at the other's, or at the tag of position n
abbrev pub recalled : AnyQueue → (hart : ℕ) → Party → (n : ℕ) → List Step → Recalled
recalled q h p n steps = recalled_all q h p n (record { stored = None; looked = None }) steps

abbrev pub hands_back : (k : ℕ) → (c after : QueueCounts) → Bool
hands_back k c after = nat_le c.taken k && nat_lt k after.taken

-- the pc of the first of these steps by which the receiver hands position k back
abbrev pub handed_back : AnyQueue → (k : ℕ) → QueueCounts → List Step → Option ℕ
handed_back q k c [] = None
handed_back q k c (s ∷ ss) = if hands_back k c (entry_counts q c s.entry) then Some s.pc
    else handed_back q k (entry_counts q c s.entry) ss
