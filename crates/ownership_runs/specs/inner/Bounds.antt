-- How large the counts of a run may be.
use Rattle.std.specs.Prelude.{ℕ, ◌-◌, ◌^◌, ◌≤◌}
use Rattle.queue_parties.specs.Parties.{QueueCounts}

-- by how much an entry may move a count on
abbrev pub STEP : ℕ
STEP = 2 ^ 64 - 2

-- what a count may be for a word to be found that stands for a later one
abbrev pub ROOM : ℕ
ROOM = 2 ^ 128 - 2 ^ 65

-- the parties' own counts are at most n, and what they know of the other's at most m
pub record AreCountsWithin (n m : ℕ) (c : QueueCounts) : Type 0 where
  pub published : c.published ≤ n
  pub taken : c.taken ≤ n
  pub known_taken : c.known_taken ≤ m
  pub known_published : c.known_published ≤ m
