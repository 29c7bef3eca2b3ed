-- Ranks of a hart's states, as forms over their variables, that fall along each of its instructions of a kind: so at most as many of these follow
-- on one another as the greatest rank.
use Rattle.std.specs.Prelude.{ℕ, zero, suc, ◌+◌, ◌&&◌, ◌||◌, not, nat_lt, if◌then◌else◌, Bool, true, false, Option}
use Rattle.std.specs.Prelude.{None, Some, List, [], ◌∷◌, take, length, get_or}
use Rattle.std.specs.Option.{is_some}
use Rattle.step_machine.specs.History.{OpeningValue}
use Rattle.queue_certificates.specs.Forms.{Form, number, lifted, substituted, differences, raised, most, fits_in}
use Rattle.queue_certificates.specs.States.{KnownState}
use Rattle.queue_certificates.specs.Steps.{all_below, instruction_at}
use Rattle.queue_certificates.specs.Cases.{Arrow, Cases, leaf, split, with_low, with_high, may_exceed}
use Rattle.queue_certificates.specs.Certificates.{QueueCertificate, part_of, state_at, next_states}
use Rattle.queue_checker.specs.Flaws.{first_below, unless}
use Rattle.queue_progress.specs.Stays.{code_of, moves, most_owned, looks}
use Rattle.queue_progress.specs.Harts.{moves_some, fewest_owned, differs}

abbrev pub greater : ℕ → ℕ → ℕ
greater a b = if nat_lt a b then b else a

abbrev pub option_or_zero : Option ℕ → ℕ
option_or_zero None = 0
option_or_zero (Some n) = n

-- f is surely less than g, where the variables lie in these ranges
abbrev pub is_less : List (Option ℕ) → Form → Form → Bool
is_less rs f g = fits_in (most rs (record { constant = f.constant + 1; factors = differences f.factors g.factors })) (Some g.constant)

-- of a hart's states, by their numbers
abbrev pub rank_at : List Form → (n : ℕ) → Form
rank_at ranks n = get_or ranks n (number 0)

-- what f says of each leaf that may be, and of the rank there
abbrev pub each_ranked : (Form → KnownState → Form → List Arrow → Bool) → (rank : Form) → KnownState → Cases → Bool
each_ranked f r k (leaf d arrows) = f r k d arrows
each_ranked f r k (split j v low high) = each_ranked f r (with_low k j v) low
    && (not (may_exceed v (get_or k.ranges j (Some 0))) || each_ranked f (raised j (v + 1) r) (with_high k j v) high)

-- each of the states that may follow is found at a lower rank
abbrev pub all_fall : List Form → (rank : Form) → List KnownState → List Arrow → Bool
all_fall ranks r [] arrows = true
all_fall ranks r (k ∷ ks) [] = false
all_fall ranks r (k ∷ ks) (a ∷ arrows) = is_less k.ranges (substituted (rank_at ranks a.to) a.forms) (lifted r) && all_fall ranks r ks arrows

-- where it is cut, the first alone
abbrev pub follow_fall : List Form → (rank : Form) → (cut : Bool) → Option (List KnownState) → List Arrow → Bool
follow_fall ranks r cut None arrows = false
follow_fall ranks r cut (Some ks) arrows = all_fall ranks r (if cut then take 1 ks else ks) arrows

-- the greatest of f's numbers below n
abbrev pub greatest_below : (n : ℕ) → (f : ℕ → ℕ) → ℕ
greatest_below zero f = 0
greatest_below (suc n) f = greater (greatest_below n f) (f n)

abbrev pub never_cut : KnownState → Form → Bool
never_cut k d = false

-- a leaf of hart h that isn't of another kind goes on at lower ranks
abbrev pub leaf_falls : QueueCertificate → (h : ℕ) → (code : List ℕ) → (other cut : KnownState → Form → Bool) → List Form → (rank : Form) → KnownState
    → Form → List Arrow → Bool
leaf_falls c h code other cut ranks r k d arrows = other k d || follow_fall ranks r (cut k d) (next_states c h code k d) arrows

-- the greatest number that the rank of state n may be, if there is one
abbrev pub most_rank : QueueCertificate → (h : ℕ) → List Form → (n : ℕ) → Option ℕ
most_rank c h ranks n = most (state_at c h n).known.ranges (rank_at ranks n)

-- one more than the greatest number that a rank may be
abbrev pub bound_of : QueueCertificate → (h : ℕ) → List Form → ℕ
bound_of c h ranks = greatest_below (length (part_of c h).states) (λ n. option_or_zero (most_rank c h ranks n)) + 1

-- so does each, and no rank comes to N
module _ (o : OpeningValue) (c : QueueCertificate) (h : ℕ) where
  abbrev pub state_falls : (other cut : KnownState → Form → Bool) → List Form → (n : ℕ) → Bool
  state_falls other cut ranks n =
      each_ranked (leaf_falls c h (code_of o h) other cut ranks) (rank_at ranks n) (state_at c h n).known (state_at c h n).cases

  abbrev pub falls : (other cut : KnownState → Form → Bool) → List Form → Bool
  falls other cut ranks = all_below (length (part_of c h).states) (state_falls other cut ranks)

  -- the first state of which the rank doesn't fall, or has no greatest number
  abbrev pub first_level : (other cut : KnownState → Form → Bool) → List Form → Option ℕ
  first_level other cut ranks =
      first_below (length (part_of c h).states) (λ n. unless (state_falls other cut ranks n && is_some (most_rank c h ranks n)) n)

  abbrev pub are_below : List Form → (N : ℕ) → Bool
  are_below ranks N = all_below (length (part_of c h).states) (λ n. is_less (state_at c h n).known.ranges (rank_at ranks n) (number N))

  abbrev pub are_ranks : (other cut : KnownState → Form → Bool) → List Form → (N : ℕ) → Bool
  are_ranks other cut ranks N = falls other cut ranks && are_below ranks N

  -- it moves the count of queue i, or owns no more than K positions; or it looks at the other's index
  abbrev pub not_idle : (i K : ℕ) → KnownState → Form → Bool
  not_idle i K k d = moves c h (code_of o h) i k d || fits_in (most_owned i k) (Some K)

  abbrev pub not_blind : (i : ℕ) → KnownState → Form → Bool
  not_blind i k d = moves c h (code_of o h) i k d || looks c h i k (instruction_at (code_of o h) k.pc)

  -- it moves one of its counts, or owns no more than K positions of one of its queues; or it surely doesn't lack just these, or looks at one of them
  abbrev pub not_hart_idle : (K : ℕ) → KnownState → Form → Bool
  not_hart_idle K k d = moves_some c h (code_of o h) k d || fits_in (fewest_owned c h (length c.queues) k) (Some K)

  abbrev pub not_hart_blind : (K : ℕ) → (lacks : List ℕ) → KnownState → Form → Bool
  not_hart_blind K lacks k d = moves_some c h (code_of o h) k d || differs c h K lacks k (instruction_at (code_of o h) k.pc)

  abbrev pub keeps_pace : (i K : ℕ) → List Form → (N : ℕ) → Bool
  keeps_pace i K ranks N = are_ranks (not_idle i K) never_cut ranks N

  abbrev pub keeps_looking : (i : ℕ) → List Form → (L : ℕ) → Bool
  keeps_looking i ranks L = are_ranks (not_blind i) never_cut ranks L
