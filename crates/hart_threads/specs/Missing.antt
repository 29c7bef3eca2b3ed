-- Which seats gathering asks for: one of each role for each hart, and no other.
use Rattle.std.specs.Prelude.{ℕ, ◌≡◌, ◌<◌, ◌==◌, Bool, true, false, not, ◌&&◌, if◌then◌else◌, nat_lt, List, count_by}
use Rattle.std.specs.List.{list_any}
use Rattle.hart_threads.specs.Seats.{SeatView}

abbrev pub sits_at : ℕ → SeatView → Bool
sits_at h s = s.hart == h

abbrev pub acts_for : ℕ → SeatView → Bool
acts_for h s = (s.hart == h) && s.acts

abbrev pub lands_for : ℕ → SeatView → Bool
lands_for h s = (s.hart == h) && not s.acts

-- the hart has exactly one seat of each role
abbrev pub is_seated : ℕ → List SeatView → Bool
is_seated h seats = (count_by (acts_for h) seats == 1) && (count_by (lands_for h) seats == 1)

-- of n harts, h is one without exactly one seat of each role, or h is no hart and has a seat
unfoldable pub is_missing : ℕ → List SeatView → ℕ → Bool
is_missing n seats h = if nat_lt h n then not (is_seated h seats) else list_any (sits_at h) seats

-- the least number that passes the test
pub record IsFirst (test : ℕ → Bool) (h : ℕ) : Type 0 where
  pub here : test h ≡ true
  pub below : (k : ℕ) → k < h → test k ≡ false

-- nothing is missing
abbrev pub IsComplete : ℕ → List SeatView → Type 0
IsComplete n seats = (h : ℕ) → is_missing n seats h ≡ false
