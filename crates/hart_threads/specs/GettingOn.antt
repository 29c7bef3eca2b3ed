-- How far the harts of a record get, and how far they may.
use Rattle.std.specs.Prelude.{ℕ, ◌≡◌, ◌+◌, ◌≤◌, ◌<◌, true, List, [], ◌++◌, length, IsSomeAnd, option_map}
use Rattle.std.specs.List.{slice_get}
use Rattle.hart.specs.Steps.{need_of}
use Rattle.hart.specs.declared.status.Status.TheVariants as status
use Rattle.step_machine.specs.declared.events.Entry.{Entry}
use Rattle.step_machine.specs.History.{OpeningValue, History}
use Rattle.step_machine.specs.Entries.{own}
use Rattle.step_machine.specs.Paths.{after_entries, opens_as, state_of}
use Rattle.step_machine.specs.Banks.{is_over}
use Rattle.hart_threads.specs.Seats.{SeatView, may_wait}
use Rattle.hart_threads.specs.Parts.{landings}

-- after these entries of its own, or these and some more, hart h runs, and comes to a store, an AMO or a full fence
pub record ComesToWait (M : ℕ) (t : History) (h : ℕ) (before : List Entry) : Type 0 where
  pub more : List Entry
  pub rest : List Entry
  pub whole : own h t.entries ≡ before ++ more ++ rest
  pub there : IsSomeAnd (option_map (λ o. after_entries (opens_as M o) (before ++ more)) (slice_get t.opening.harts h))
      (λ s. (s.status ≡ status.Running) × (may_wait (need_of s) ≡ true))

-- hart h, which had made these entries before, has ended or stopped, has made n more of its own at least, or came to
-- what may have to wait
pub data GetsOn (n M : ℕ) (t : History) (h : ℕ) (before : List Entry) : Type 0 where
  over : IsSomeAnd (state_of M t h) (λ s. is_over s.status ≡ true) → GetsOn n M t h before
  goes : length before + n ≤ length (own h t.entries) → GetsOn n M t h before
  waits : ComesToWait M t h before → GetsOn n M t h before

-- the hart of an acting seat gets on from what the seat had done
abbrev pub SeatGetsOn : ℕ → ℕ → History → SeatView → Type 0
SeatGetsOn n M t s = s.acts ≡ true → GetsOn n M t s.hart s.diary

-- each hart does, from its opening
abbrev pub AllGetOn : ℕ → ℕ → History → Type 0
AllGetOn n M t = (h : ℕ) → h < length t.opening.harts → GetsOn n M t h []

-- the state in which an acting seat's hart opened is that of this opening
abbrev pub OpensAs : ℕ → OpeningValue → SeatView → Type 0
OpensAs M o s = s.acts ≡ true → s.first ≡ option_map (opens_as M) (slice_get o.harts s.hart)

-- each hart makes at most n entries of its own, and at most n of its stores land
abbrev pub AtMost : ℕ → History → Type 0
AtMost n t = (h : ℕ) → h < length t.opening.harts → (length (own h t.entries) ≤ n) × (length (landings h t.entries) ≤ n)
