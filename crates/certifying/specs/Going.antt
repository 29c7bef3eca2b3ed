-- Whether the parties of queues go on, in words.
use Rattle.std.specs.Prelude.{ℕ, ◌+◌, ◌==◌, ◌&&◌, if◌then◌else◌, Bool, true, false, List, [], ◌∷◌, ◌++◌, codes}
use Rattle.std.specs.Fmt.{decimal}
use Rattle.step_machine.specs.History.{OpeningValue}
use Rattle.slot_queue.specs.Queues.{Queue}
use Rattle.queue_certificates.specs.Certificates.{QueueCertificate}
use Rattle.queue_checker.specs.declared.flaws.Flaw.TheVariants.{State}
use Rattle.certificate_reader.specs.Known.{known_at}
use Rattle.certifying.specs.Together.{together_line}
use Rattle.certifying.specs.Unread.{pc_place}
use Rattle.certifying.specs.declared.together.Both.{Both}
use Rattle.certifying.specs.declared.together.Bound.{Bound}
use Rattle.certifying.specs.declared.together.PartyProgress.{PartyProgress}
use Rattle.certifying.specs.declared.together.PartyProgress.TheVariants.{Alone, Together, NoPace, NoLook, Unranked}

-- ---- of one party of queue i, hart h: whether it sends, and its other party

unfoldable pub moves_front : (sends : Bool) → (i h : ℕ) → List ℕ
moves_front true i h = codes "queue " ++ (decimal i ++ (codes ": hart " ++ (decimal h ++ codes " publishes, or looks and finds ")))
moves_front false i h = codes "queue " ++ (decimal i ++ (codes ": hart " ++ (decimal h ++ codes " takes, or looks and finds ")))

-- of free slots, or of records
abbrev pub none_text : (sends : Bool) → List ℕ
none_text true = codes "no slot free"
none_text false = codes "no record"

abbrev pub one_text : (sends : Bool) → List ℕ
one_text true = codes "at most 1 slot free"
one_text false = codes "at most 1 record"

unfoldable pub many_text : (sends : Bool) → (n : ℕ) → List ℕ
many_text true n = codes "at most " ++ (decimal n ++ codes " slots free")
many_text false n = codes "at most " ++ (decimal n ++ codes " records")

abbrev pub few_text : (sends : Bool) → (n : ℕ) → List ℕ
few_text sends n = if n == 0 then none_text sends else if n == 1 then one_text sends else many_text sends n

unfoldable pub within_end : (n other : ℕ) → List ℕ
within_end n other = codes ", within " ++ (decimal n ++ (codes " of its instructions, whatever hart " ++ (decimal other ++ (codes " does" ++ 10 ∷ []))))

abbrev pub moves_line : (sends : Bool) → (i h other : ℕ) → Bound → List ℕ
moves_line sends i h other bound = moves_front sends i h ++ few_text sends bound.owned ++ within_end bound.within other

unfoldable pub idle_front : (sends : Bool) → (i h : ℕ) → List ℕ
idle_front true i h = codes "queue " ++ (decimal i ++ (codes ": not shown that hart " ++ (decimal h ++ codes " publishes, or finds no slot free: ")))
idle_front false i h = codes "queue " ++ (decimal i ++ (codes ": not shown that hart " ++ (decimal h ++ codes " takes, or finds no record: ")))

unfoldable pub blind_front : (sends : Bool) → (i h : ℕ) → List ℕ
blind_front true i h = codes "queue " ++ (decimal i ++ (codes ": not shown that hart " ++ (decimal h ++ codes " publishes, or looks for a free slot: ")))
blind_front false i h = codes "queue " ++ (decimal i ++ (codes ": not shown that hart " ++ (decimal h ++ codes " takes, or looks for a record: ")))

-- the first state of which the rank doesn't fall, with what is known there
abbrev pub level_end : OpeningValue → QueueCertificate → (h n : ℕ) → List ℕ
level_end o c h n = pc_place o c h n ++ 10 ∷ known_at c (State h n)

-- of a certificate without ranks
abbrev pub unranked_end : List ℕ
unranked_end = codes "the certificate has no ranks for it (tools/certify --rank finds them)" ++ 10 ∷ []

abbrev pub party_line : OpeningValue → QueueCertificate → (sends : Bool) → (i h other : ℕ) → PartyProgress → List ℕ
party_line o c sends i h other (Alone bound) = moves_line sends i h other bound
party_line o c sends i h other (Together bound) = together_line i h bound
party_line o c sends i h other (NoPace n) = idle_front sends i h ++ level_end o c h n
party_line o c sends i h other (NoLook n) = blind_front sends i h ++ level_end o c h n
party_line o c sends i h other Unranked = idle_front sends i h ++ unranked_end

-- ---- of both parties

-- of a queue with tags, or with indices
unfoldable pub moving_line : (tags : Bool) → (i : ℕ) → List ℕ
moving_line true i =
    codes "queue " ++ (decimal i ++ (codes ": whenever no store to a tag is pending and both harts run on, more is published or taken" ++ 10 ∷ []))
moving_line false i =
    codes "queue " ++ (decimal i ++ (codes ": whenever both indices have landed and both harts run on, more is published or taken" ++ 10 ∷ []))

-- the lines of both, and that they move on
abbrev pub moving_lines : (tags : Bool) → (i : ℕ) → Queue → Both → List ℕ
moving_lines tags i q both = moves_line true i q.sender q.receiver both.sends ++ moves_line false i q.receiver q.sender both.receives ++ moving_line tags i

unfoldable pub waiting_front : (i sender slots : ℕ) → List ℕ
waiting_front i sender slots = codes "queue " ++ (decimal i ++ (codes ": not shown that more is published or taken: hart " ++ (decimal sender
    ++ (codes " may wait for " ++ (decimal slots ++ codes " free slots and hart ")))))

unfoldable pub waiting_end : (receiver records capacity : ℕ) → List ℕ
waiting_end receiver records capacity =
    decimal receiver ++ (codes " for " ++ (decimal records ++ (codes " records, of " ++ (decimal capacity ++ 10 ∷ []))))

abbrev pub waiting_line : (i : ℕ) → Queue → (slots records : ℕ) → List ℕ
waiting_line i q slots records = waiting_front i q.sender slots ++ waiting_end q.receiver records q.capacity

-- of parties that go on, at least one of them only in all its queues together
unfoldable pub elsewhere_line : (i : ℕ) → List ℕ
elsewhere_line i = codes "queue "
    ++ (decimal i ++ (codes ": not shown that more is published or taken: its harts may move on elsewhere, or wait for one another" ++ 10 ∷ []))

abbrev pub goes_on : PartyProgress → Bool
goes_on (Alone bound) = true
goes_on (Together bound) = true
goes_on other = false

-- of parties that aren't shown to move on; no words where one doesn't go on, as its own line has it
abbrev pub still_line : (i : ℕ) → Queue → (sender receiver : PartyProgress) → List ℕ
still_line i q (Alone s) (Alone r) = waiting_line i q (s.owned + 1) (r.owned + 1)
still_line i q s r = if goes_on s && goes_on r then elsewhere_line i else []

unfoldable pub arrives_line : (i : ℕ) → List ℕ
arrives_line i = codes "queue " ++ (decimal i ++ (codes ": every run can go on until more is published or taken" ++ 10 ∷ []))

unfoldable pub arrives_or_ends_line : (i : ℕ) → List ℕ
arrives_or_ends_line i =
    codes "queue " ++ (decimal i ++ (codes ": every run can go on until more is published or taken, or one of its harts has ended" ++ 10 ∷ []))

-- of two that move on, by whether neither is ever stopped, and whether both always run
abbrev pub arriving_line : (i : ℕ) → (unstopped run : Bool) → List ℕ
arriving_line i false run = []
arriving_line i true true = arrives_line i
arriving_line i true false = arrives_or_ends_line i
