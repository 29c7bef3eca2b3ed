-- What the ranks of a certificate show of a party of a queue, or of a hart.
use Rattle.std.specs.Prelude.{ℕ, ◌+◌, ◌==◌, ◌&&◌, ◌||◌, not, nat_lt, if◌then◌else◌, Bool, Option, None, Some, List, [], ◌∷◌, map, length, get_or}
use Rattle.std.specs.Str.{bytes_eq}
use Rattle.step_machine.specs.History.{OpeningValue}
use Rattle.queue_certificates.specs.Forms.{Form, number}
use Rattle.queue_certificates.specs.States.{KnownState}
use Rattle.queue_certificates.specs.Steps.{all_below}
use Rattle.queue_certificates.specs.Certificates.{QueueCertificate, queue_at, part_of}
use Rattle.queue_certificates.specs.declared.goal.Goal.{Goal}
use Rattle.queue_certificates.specs.declared.goal.Goal.TheVariants as goal
use Rattle.queue_progress.specs.Stays.{code_of, moves}
use Rattle.queue_progress.specs.Told.{may_learn}
use Rattle.queue_progress.specs.Harts.{is_side, each_lacking}
use Rattle.queue_progress.specs.Falling.{are_ranks, bound_of, first_level, greatest_below, keeps_looking, keeps_pace, never_cut, not_blind, not_hart_blind}
use Rattle.queue_progress.specs.Falling.{not_hart_idle, not_idle, option_or_zero}
use Rattle.queue_progress.specs.declared.pace.Pace.{Pace}
use Rattle.queue_progress.specs.declared.pace.Placed.{Placed}
use Rattle.queue_progress.specs.declared.pace.Progress.{Progress}
use Rattle.queue_progress.specs.declared.pace.Progress.TheVariants as found
use Rattle.queue_progress.specs.declared.pace.ToldProgress.{ToldProgress}
use Rattle.queue_progress.specs.declared.pace.ToldProgress.TheVariants.{Within, Endless, Unranked}

-- ---- what the ranks of a hart's states are for, in the order of its goals

-- how many ranks a goal has
abbrev pub width_of : Goal → ℕ
width_of (goal.Queue i K) = 2
width_of other = 1

-- how many positions the hart may own while it waits, by a goal of this queue, or of all its queues together
abbrev pub owned_by : (wanted : Option ℕ) → Goal → Option ℕ
owned_by (Some n) (goal.Queue i K) = if i == n then Some K else None
owned_by (Some n) (goal.Tags i) = if i == n then Some 0 else None
owned_by (Some n) (goal.Together K) = None
owned_by None (goal.Together K) = Some K
owned_by None other = None

abbrev pub placed_by : (place : ℕ) → (owned : Option ℕ) → (later : Option Placed) → Option Placed
placed_by place (Some K) later = Some (record { place = place; owned = K })
placed_by place None later = later

-- the first such goal, of those whose ranks begin at this place
abbrev pub placed_from : (wanted : Option ℕ) → (place : ℕ) → List Goal → Option Placed
placed_from wanted place [] = None
placed_from wanted place (g ∷ gs) = placed_by place (owned_by wanted g) (placed_from wanted (place + width_of g) gs)

abbrev pub goal_of : QueueCertificate → (h : ℕ) → (wanted : Option ℕ) → Option Placed
goal_of c h wanted = placed_from wanted 0 (part_of c h).goals

-- after the ranks of all goals comes one for each set of queues that the hart may lack
abbrev pub lacking_from : (place : ℕ) → List (List ℕ) → (lacks : List ℕ) → ℕ
lacking_from place [] lacks = place
lacking_from place (first ∷ others) lacks = if bytes_eq first lacks then place else lacking_from (place + 1) others lacks

abbrev pub width_from : (width : ℕ) → List Goal → ℕ
width_from width [] = width
width_from width (g ∷ gs) = width_from (width + width_of g) gs

abbrev pub goals_width : QueueCertificate → (h : ℕ) → ℕ
goals_width c h = width_from 0 (part_of c h).goals

-- ---- ranks, of each state the one at a place; where a state has fewer it is 0

abbrev pub ranks_at : QueueCertificate → (h place : ℕ) → List Form
ranks_at c h place = map (λ s. get_or s.ranks place (number 0)) (part_of c h).states

abbrev pub place_in : Option Placed → ℕ
place_in None = 0
place_in (Some p) = p.place

-- of a hart's goal for queue i its first ranks, and its second ones
abbrev pub idle_ranks : QueueCertificate → (h i : ℕ) → List Form
idle_ranks c h i = ranks_at c h (place_in (goal_of c h (Some i)))

abbrev pub blind_ranks : QueueCertificate → (h i : ℕ) → List Form
blind_ranks c h i = ranks_at c h (place_in (goal_of c h (Some i)) + 1)

-- for queue t of those with tags, which are numbered on
abbrev pub told_ranks : QueueCertificate → (h t : ℕ) → List Form
told_ranks c h t = idle_ranks c h (length c.queues + t)

-- for all its queues together
abbrev pub together_ranks : QueueCertificate → (h : ℕ) → List Form
together_ranks c h = ranks_at c h (place_in (goal_of c h None))

abbrev pub lacking_ranks : QueueCertificate → (h : ℕ) → (lacks : List ℕ) → List Form
lacking_ranks c h lacks = ranks_at c h (lacking_from (goals_width c h) (part_of c h).lacking lacks)

-- ---- of a party of a queue

-- At most `pace` instructions in a row are idle, and at most `sight` blind: it goes on
abbrev pub keeps_going : OpeningValue → QueueCertificate → (h i : ℕ) → Pace → Bool
keeps_going o c h i g = keeps_pace o c h i g.owned (idle_ranks c h i) g.pace && keeps_looking o c h i (blind_ranks c h i) g.sight

abbrev pub row_by : (shown : Bool) → (N : ℕ) → (level : Option ℕ) → ToldProgress
row_by shown N level = if shown then Within N else Endless (option_or_zero level)

-- what ranks show of instructions of a kind
abbrev pub row_bound : OpeningValue → QueueCertificate → (h : ℕ) → (other cut : KnownState → Form → Bool) → List Form → ToldProgress
row_bound o c h other cut ranks = row_by (are_ranks o c h other cut ranks (bound_of c h ranks)) (bound_of c h ranks) (first_level o c h other cut ranks)

abbrev pub progress_with : (K : ℕ) → (pace sight : ToldProgress) → Progress
progress_with K (Within N) (Within L) = found.GoesOn (record { owned = K; pace = N; sight = L })
progress_with K (Within N) (Endless n) = found.NoLook n
progress_with K (Within N) Unranked = found.Unranked
progress_with K (Endless n) sight = found.NoPace n
progress_with K Unranked sight = found.Unranked

-- where a party owns at most K positions while it waits, fewer than the queue has
abbrev pub progress_owning : OpeningValue → QueueCertificate → (h i : ℕ) → (owned : Option Placed) → Progress
progress_owning o c h i None = found.Unranked
progress_owning o c h i (Some p) = if nat_lt p.owned (queue_at c i).capacity
    then progress_with p.owned (row_bound o c h (not_idle o c h i p.owned) never_cut (idle_ranks c h i))
    (row_bound o c h (not_blind o c h i) never_cut (blind_ranks c h i))
    else found.Unranked

-- of hart h, a party of queue i with indices
abbrev pub progress_of : OpeningValue → QueueCertificate → (h i : ℕ) → Progress
progress_of o c h i = progress_owning o c h i (goal_of c h (Some i))

-- ---- of a party of queue t with tags: it goes on along the first arrow where it may learn that the slot is its own

abbrev pub told_within : OpeningValue → QueueCertificate → (h t N : ℕ) → Bool
told_within o c h t N = are_ranks o c h (moves c h (code_of o h) (length c.queues + t)) (may_learn c h (code_of o h) (length c.queues + t)) (told_ranks c h t) N

abbrev pub told_by : OpeningValue → QueueCertificate → (h t : ℕ) → Option Placed → ToldProgress
told_by o c h t None = Unranked
told_by o c h t (Some p) =
    row_bound o c h (moves c h (code_of o h) (length c.queues + t)) (may_learn c h (code_of o h) (length c.queues + t)) (told_ranks c h t)

abbrev pub told_progress_of : OpeningValue → QueueCertificate → (h t : ℕ) → ToldProgress
told_progress_of o c h t = told_by o c h t (goal_of c h (Some (length c.queues + t)))

-- ---- of a hart, for all its queues together

-- At most `pace` of its instructions in a row move none of its counts while it owns more than K positions of each of its queues. And whichever
-- of its queues it lacks, at most `sight` do so and look at none of those
abbrev pub hart_keeps_going : OpeningValue → QueueCertificate → (h : ℕ) → Pace → Bool
hart_keeps_going o c h g = are_ranks o c h (not_hart_idle o c h g.owned) never_cut (together_ranks c h) g.pace
    && each_lacking c h (length c.queues) [] (λ lacks. are_ranks o c h (not_hart_blind o c h g.owned lacks) never_cut (lacking_ranks c h lacks) g.sight)

-- K is less than the capacity of each of its queues
abbrev pub is_few : QueueCertificate → (h K : ℕ) → Bool
is_few c h K = all_below (length c.queues) (λ i. not (is_side c h i) || nat_lt K (queue_at c i).capacity)

-- the greatest of the bounds by what it may lack
abbrev pub sight_of : QueueCertificate → (h : ℕ) → ℕ
sight_of c h = greatest_below (length (part_of c h).lacking) (λ j. bound_of c h (ranks_at c h (goals_width c h + j)))

abbrev pub pace_owning : QueueCertificate → (h K : ℕ) → Pace
pace_owning c h K = record { owned = K; pace = bound_of c h (together_ranks c h); sight = sight_of c h }

abbrev pub hart_pace_by : OpeningValue → QueueCertificate → (h : ℕ) → Option Placed → Option Pace
hart_pace_by o c h None = None
hart_pace_by o c h (Some p) =
    if is_few c h p.owned && hart_keeps_going o c h (pace_owning c h p.owned) then Some (pace_owning c h p.owned) else None

abbrev pub hart_pace_of : OpeningValue → QueueCertificate → (h : ℕ) → Option Pace
hart_pace_of o c h = hart_pace_by o c h (goal_of c h None)
