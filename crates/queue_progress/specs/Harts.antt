-- A hart that is a party of several queues with indices: what its instructions do for all of them together.
use Rattle.std.specs.Prelude.{ℕ, zero, suc, ◌≡◌, ◌==◌, ◌+◌, ◌<◌, ◌++◌, ◌&&◌, ◌||◌, not, nat_le, nat_lt, if◌then◌else◌, Bool, true, false}
use Rattle.std.specs.Prelude.{Option, None, Some, List, [], ◌∷◌, length}
use Rattle.std.specs.List.{list_any}
use Rattle.std.specs.Option.{is_some}
use Rattle.rv_decode.specs.declared.instruction.Instr.{Instr}
use Rattle.step_machine.specs.declared.events.Entry.{Entry}
use Rattle.step_machine.specs.Access.{access_of}
use Rattle.queue_parties.specs.Parties.{Party, QueueCounts, count}
use Rattle.slot_queue.specs.Queues.{Queue}
use Rattle.slot_queue.specs.Ownership.{hart, party_of, counts_next, end}
use Rattle.queue_certificates.specs.Forms.{Form, fits_in}
use Rattle.queue_certificates.specs.States.{KnownState}
use Rattle.queue_certificates.specs.Steps.{all_below, share_at}
use Rattle.queue_certificates.specs.Certificates.{QueueCertificate, queue_at}
use Rattle.queue_checker.specs.Accesses.{any_below}
use Rattle.queue_progress.specs.Stays.{moves, most_owned, looks}
use Rattle.queue_progress.specs.Rows.{counts_at, LooksBy}

-- ---- a leaf

abbrev pub is_side : QueueCertificate → (h i : ℕ) → Bool
is_side c h i = is_some (party_of (queue_at c i) h)

-- of how many of the first n queues hart h is a party
abbrev pub sides : QueueCertificate → (h n : ℕ) → ℕ
sides c h zero = 0
sides c h (suc n) = (if is_side c h n then 1 else 0) + sides c h n

-- its instruction moves one of its counts on
abbrev pub moves_some : QueueCertificate → (h : ℕ) → (code : List ℕ) → KnownState → Form → Bool
moves_some c h code k d = any_below (length c.queues) (λ i. is_side c h i && moves c h code i k d)

abbrev pub lesser : Option ℕ → Option ℕ → Option ℕ
lesser None b = b
lesser (Some a) None = Some a
lesser (Some a) (Some b) = Some (if nat_le a b then a else b)

-- the most positions that it may own of one of its first n queues: of the one of which that is the least
abbrev pub fewest_owned : QueueCertificate → (h n : ℕ) → KnownState → Option ℕ
fewest_owned c h zero k = None
fewest_owned c h (suc n) k = lesser (if is_side c h n then most_owned n k else None) (fewest_owned c h n k)

-- ---- where it lacks some of its queues: it owns at most K positions of just these

abbrev pub is_among : List ℕ → (i : ℕ) → Bool
is_among lacks i = list_any (λ j. j == i) lacks

-- of queue i it surely owns more, or it looks at it, if it lacks it; if it doesn't, it surely owns no more
abbrev pub differs_at : QueueCertificate → (h K i : ℕ) → (lacks : Bool) → KnownState → Option Instr → Bool
differs_at c h K i true k instruction = nat_lt K (share_at k i).owned.constant || looks c h i k instruction
differs_at c h K i false k instruction = fits_in (most_owned i k) (Some K)

-- so of a queue: then it doesn't lack just these, or looks at one of them
abbrev pub differs : QueueCertificate → (h K : ℕ) → (lacks : List ℕ) → KnownState → Option Instr → Bool
differs c h K lacks k instruction =
    any_below (length c.queues) (λ i. is_side c h i && differs_at c h K i (is_among lacks i) k instruction)

-- where it lacks these, and some of the first n of its queues; it is never asked about none
abbrev pub each_lacking : QueueCertificate → (h n : ℕ) → (lacks : List ℕ) → (Is : List ℕ → Bool) → Bool
each_lacking c h zero [] Is = true
each_lacking c h zero (i ∷ lacks) Is = Is (i ∷ lacks)
each_lacking c h (suc n) lacks Is =
    each_lacking c h n lacks Is && (if is_side c h n then each_lacking c h n (n ∷ lacks) Is else true)

-- ---- an entry of the hart's, by those before it

abbrev pub owns_more : Queue → Option Party → (K : ℕ) → QueueCounts → Bool
owns_more q None K d = true
owns_more q (Some p) K d = nat_lt (count p d + K) (end q p d)

-- of queue i, if it is a party of it
abbrev pub has_more : QueueCertificate → (h K : ℕ) → List Entry → (i : ℕ) → Bool
has_more c h K es i = owns_more (queue_at c i) (party_of (queue_at c i) h) K (counts_at c i es)

abbrev pub has_more_of_all : QueueCertificate → (h K : ℕ) → List Entry → Bool
has_more_of_all c h K es = all_below (length c.queues) (has_more c h K es)

-- it leaves each of the hart's counts
abbrev pub LeavesCounts : QueueCertificate → (h : ℕ) → List Entry → Entry → Type 0
LeavesCounts c h es e = (i : ℕ) → i < length c.queues → (p : Party) → h ≡ hart (queue_at c i) p
    → count p (counts_next (queue_at c i) (counts_at c i es) e) ≡ count p (counts_at c i es)

-- and where it loads the other's index of a queue, the hart has more of that queue after these entries
abbrev pub HasMoreWhereItLooks : QueueCertificate → (h K : ℕ) → (es : List Entry) → Entry → Type 0
HasMoreWhereItLooks c h K es e = (i : ℕ) → i < length c.queues → (p : Party) → h ≡ hart (queue_at c i) p → LooksBy (queue_at c i) p (access_of e)
    → has_more c h K es i ≡ true

pub record IsHartIdle (c : QueueCertificate) (h K : ℕ) (es : List Entry) (e : Entry) : Type 0 where
  pub stays : LeavesCounts c h es e
  pub owns : has_more_of_all c h K es ≡ true

pub record IsHartBlind (c : QueueCertificate) (h K : ℕ) (lacks : List ℕ) (es : List Entry) (e : Entry) : Type 0 where
  pub stays : LeavesCounts c h es e
  pub waits : (i : ℕ) → i < length c.queues → has_more c h K es i ≡ not (is_among lacks i)
  pub unseen : HasMoreWhereItLooks c h K es e

pub record IsHartStuck (c : QueueCertificate) (h K : ℕ) (es : List Entry) (e : Entry) : Type 0 where
  pub stays : LeavesCounts c h es e
  pub finds : HasMoreWhereItLooks c h K (es ++ e ∷ []) e
