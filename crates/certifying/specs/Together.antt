-- What is found of a party of a queue: how soon it goes on in this queue, or in all its queues with indices together, as lines state it.
use Rattle.std.specs.Prelude.{ℕ, ◌+◌, ◌*◌, ◌==◌, ◌&&◌, nat_le, nat_lt, if◌then◌else◌, Bool, List, [], ◌∷◌, ◌++◌, length, codes, Option, None, Some}
use Rattle.std.specs.Fmt.{decimal}
use Rattle.step_machine.specs.History.{OpeningValue}
use Rattle.queue_certificates.specs.Certificates.{QueueCertificate}
use Rattle.queue_progress.specs.declared.pace.Pace.{Pace}
use Rattle.queue_progress.specs.declared.pace.Progress.{Progress}
use Rattle.queue_progress.specs.declared.pace.Progress.TheVariants as found
use Rattle.queue_progress.specs.declared.pace.ToldProgress.{ToldProgress}
use Rattle.queue_progress.specs.declared.pace.ToldProgress.TheVariants.{Within, Endless}
use Rattle.queue_progress.specs.declared.pace.ToldProgress.TheVariants as told
use Rattle.queue_progress.specs.Harts.{sides}
use Rattle.queue_progress.specs.Progress.{hart_pace_of, progress_of, told_progress_of}
use Rattle.records_written.specs.declared.parties.QueueNumber.{QueueNumber}
use Rattle.records_written.specs.declared.parties.QueueNumber.TheVariants.{Indexed, Tagged}
use Rattle.certifying.specs.declared.together.Both.{Both}
use Rattle.certifying.specs.declared.together.Bound.{Bound}
use Rattle.certifying.specs.declared.together.PartyProgress.{PartyProgress}
use Rattle.certifying.specs.declared.together.PartyProgress.TheVariants.{Alone, Together, NoPace, NoLook, Unranked}

-- of this number of a party's instructions in a row one moves its index, or finds few positions
abbrev pub bound_of : Pace → ℕ
bound_of pace = pace.pace + pace.sight + 2

-- and of this number of a hart's one moves one of its indices, or finds few positions of a queue
abbrev pub bound_together : QueueCertificate → (h : ℕ) → Pace → ℕ
bound_together c h pace = pace.pace + sides c h (length c.queues) * (pace.sight + 1) + 1

-- there are several queues, and not too many: what is found of a hart asks about each set of its queues
abbrev pub are_several : (queues : ℕ) → Bool
are_several queues = nat_lt 1 queues && nat_le queues 6

-- how soon hart h goes on in one of its queues, or finds that it has to wait for one, if it has several and that is shown
unfoldable pub pace_together : OpeningValue → QueueCertificate → (h : ℕ) → Option Pace
pace_together o c h = if are_several (sides c h (length c.queues)) then hart_pace_of o c h else None

-- what is shown of all its queues, or else this
abbrev pub or_together : QueueCertificate → (h : ℕ) → PartyProgress → Option Pace → PartyProgress
or_together c h other None = other
or_together c h other (Some g) = Together (record { owned = g.owned; within = bound_together c h g })

abbrev pub party_by : QueueCertificate → (h : ℕ) → Progress → (together : Option Pace) → PartyProgress
party_by c h (found.GoesOn g) together = Alone (record { owned = g.owned; within = bound_of g })
party_by c h (found.NoPace n) together = or_together c h (NoPace n) together
party_by c h (found.NoLook n) together = or_together c h (NoLook n) together
party_by c h found.Unranked together = or_together c h Unranked together

-- in queue i with indices, of which hart h is a party
unfoldable pub party_progress : OpeningValue → QueueCertificate → (h i : ℕ) → PartyProgress
party_progress o c h i = party_by c h (progress_of o c h i) (pace_together o c h)

-- of a party of a queue with tags, which waits for one slot at a time
abbrev pub party_told : ToldProgress → PartyProgress
party_told (Within N) = Alone (record { owned = 0; within = N + 1 })
party_told (Endless n) = NoPace n
party_told told.Unranked = Unranked

-- of a party of a queue of either kind, hart h
abbrev pub party_in : OpeningValue → QueueCertificate → QueueNumber → (h : ℕ) → PartyProgress
party_in o c (Indexed i) h = party_progress o c h i
party_in o c (Tagged t) h = party_told (told_progress_of o c h t)

-- the bounds of both parties, where both go on, and own fewer positions together than `capacity` while they wait
abbrev pub both_in : (capacity : ℕ) → (sender receiver : PartyProgress) → Option Both
both_in capacity (Alone s) (Alone r) = if nat_lt (s.owned + r.owned) capacity then Some (record { sends = s; receives = r }) else None
both_in capacity s r = None

-- ---- the line of one that goes on in all its queues together

unfoldable pub together_front : (i h : ℕ) → List ℕ
together_front i h =
    codes "queue " ++ (decimal i ++ (codes ": hart " ++ (decimal h ++ codes " moves on in this or another of its queues, or looks at one and finds ")))

-- of positions of that one
unfoldable pub positions_text : (n : ℕ) → List ℕ
positions_text n = codes "at most " ++ (decimal n ++ (codes " slots free, or " ++ (decimal n ++ codes " records")))

abbrev pub few_positions_text : (n : ℕ) → List ℕ
few_positions_text n =
    if n == 0 then codes "that it has to wait for it" else if n == 1 then codes "at most 1 slot free, or 1 record" else positions_text n

unfoldable pub whatever_end : (n : ℕ) → List ℕ
whatever_end n = codes ", within " ++ (decimal n ++ (codes " of its instructions, whatever others do" ++ 10 ∷ []))

abbrev pub together_line : (i h : ℕ) → Bound → List ℕ
together_line i h bound = together_front i h ++ few_positions_text bound.owned ++ whatever_end bound.within
