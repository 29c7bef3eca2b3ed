-- What a certificate says of each record of a queue: of the number of some of its bytes, which it may be.
use Rattle.std.specs.Prelude.{ℕ, ◌≡◌, ◌+◌, ◌*◌, ◌≤◌}
use Rattle.slot_queue.specs.Queues.{Queue, slot_of}
use Rattle.certified_runs.specs.Views.{View, number_seen}

-- the number of `width` bytes from `at` on is one of low, low + step .. low + step * count
pub record Field : Type 0 where
  pub at : ℕ
  pub width : ℕ
  pub low : ℕ
  pub step : ℕ
  pub count : ℕ

abbrev pub MeetsField : Queue → (k : ℕ) → View → Field → Type 0
MeetsField q k m f = (j : ℕ) × (j ≤ f.count) × (number_seen m (slot_of q k + f.at) f.width ≡ f.low + f.step * j)
