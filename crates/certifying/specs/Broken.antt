-- The lines of an answer where drawn runs were judged: of one that breaks a queue's protocol, of one that loses a record of it, or of all that keep it.
use Rattle.std.specs.Prelude.{ℕ, ◌-◌, ◌%◌, nat_lt, take, if◌then◌else◌, Bool, true, false, List, [], ◌∷◌, ◌++◌, codes, Option, Some, None}
use Rattle.std.specs.Fmt.{decimal}
use Rattle.step_machine.specs.declared.events.Event.{Event}
use Rattle.step_machine.specs.History.{OpeningValue}
use Rattle.recorder.specs.Writing.{canon}
use Rattle.queue_parties.specs.Parties.{Party, all_at, other, the_receiver, the_sender}
use Rattle.queue_layouts.specs.declared.AnyQueue.{AnyQueue}
use Rattle.queue_layouts.specs.declared.AnyQueue.TheVariants.{Indexed, Tagged}
use Rattle.queue_certificates.specs.Certificates.{QueueCertificate}
use Rattle.ownership_runs.specs.declared.losses.Loss.{Loss}
use Rattle.ownership_runs.specs.declared.violations.Violation.{Violation}
use Rattle.ownership_runs.specs.declared.violations.Owned.{Owned}
use Rattle.ownership_runs.specs.declared.runs.Moved.{Moved}
use Rattle.ownership_runs.specs.declared.steps.Done.{Done}
use Rattle.ownership_runs.specs.declared.steps.Recalled.{Recalled}
use Rattle.ownership_runs.specs.declared.steps.Step.{Step}
use Rattle.ownership_runs.specs.Keeping.{slots_in}
use Rattle.ownership_runs.specs.Protocols.{party_for}
use Rattle.ownership_runs.specs.Steps.{handed_back, pc_at, recalled}
use Rattle.certifying.specs.Descriptions.{form_by, instruction_place}
use Rattle.certifying.specs.Queues.{any_queue, any_start, tagged_number}

-- ---- a violation

-- by whether a record is lost, too
abbrev pub broken_verdict : (lost : Bool) → List ℕ
broken_verdict true = codes "broken: "
broken_verdict false = codes "does not keep the protocol described: "

abbrev pub broken_line : (lost : Bool) → OpeningValue → Violation → (pc : ℕ) → List ℕ
broken_line lost o b pc = broken_verdict lost ++ instruction_place o b.hart pc ++ 10 ∷ []

unfoldable pub stored_text : (i : ℕ) → Violation → List ℕ
stored_text i b = codes "queue " ++ (decimal i ++ (codes ": it stored " ++ (decimal b.value ++ (codes " to the " ++ (decimal b.width
    ++ (codes " bytes at " ++ decimal b.addr))))))

unfoldable pub positions_text : Owned → List ℕ
positions_text o = codes ", and owned positions " ++ (decimal o.from ++ (codes " to " ++ decimal (o.end - 1)))

abbrev pub owned_text : Option Owned → List ℕ
owned_text None = codes ", and is neither party"
owned_text (Some o) = if nat_lt o.from o.end then positions_text o else codes ", and owned no position"

-- what was stored, and what the hart owned then
abbrev pub stored_line : (i : ℕ) → Violation → List ℕ
stored_line i b = stored_text i b ++ owned_text b.owned ++ 10 ∷ []

unfoldable pub other_than_indices : List ℕ
other_than_indices =
    codes "another protocol may fit: that of a queue that overwrites, that has several senders or receivers, or whose slots tell whose they are" ++ 10 ∷ []

unfoldable pub other_than_tags : List ℕ
other_than_tags =
    codes "another protocol may fit: that of a queue that overwrites, that has several senders or receivers, or of two indices and slots" ++ 10 ∷ []

-- of a queue that may be one with tags
abbrev pub other_line : (t : Option ℕ) → List ℕ
other_line None = other_than_indices
other_line (Some t) = other_than_tags

unfoldable pub shown_line : (B : ℕ) → List ℕ
shown_line B = codes "shown by this schedule, whose last event it is, with --buffer " ++ (decimal B ++ (codes ":" ++ 10 ∷ []))

-- the index that a party stores, and the one that it loads
abbrev pub index_name : Party → List ℕ
index_name the_sender = codes "its head"
index_name the_receiver = codes "its tail"

abbrev pub own_name : AnyQueue → Party → List ℕ
own_name (Indexed q) p = index_name p
own_name (Tagged q) p = codes "a tag"

abbrev pub look_name : AnyQueue → Party → List ℕ
look_name (Indexed q) p = index_name (other p)
look_name (Tagged q) p = codes "that slot's tag"

-- the slot of the hart's next position
unfoldable pub next_line : (i size next : ℕ) → List ℕ
next_line i size next = codes "queue " ++ (decimal i ++ (codes ": its next position is " ++ (decimal next ++ (codes ", in slot "
    ++ (decimal (next % size) ++ 10 ∷ [])))))

-- what it stored to its own index before, or to a tag
unfoldable pub before_line : (i : ℕ) → (name : List ℕ) → Option Done → List ℕ
before_line i name None = []
before_line i name (Some done) = codes "queue " ++ (decimal i ++ (codes ": before, it stored " ++ (decimal done.value ++ (codes " to " ++ (name
    ++ (codes ", at pc " ++ (decimal done.pc ++ 10 ∷ [])))))))

-- what it found at its last look
unfoldable pub looked_line : (i : ℕ) → (name : List ℕ) → Option Done → List ℕ
looked_line i name None = codes "queue " ++ (decimal i ++ (codes ": it never loaded " ++ (name ++ 10 ∷ [])))
looked_line i name (Some done) = codes "queue " ++ (decimal i ++ (codes ": it last loaded " ++ (name ++ (codes " at pc " ++ (decimal done.pc
    ++ (codes ", and got " ++ (decimal done.value ++ 10 ∷ [])))))))

abbrev pub recalled_lines : AnyQueue → (i : ℕ) → Party → (next : ℕ) → Recalled → List ℕ
recalled_lines q i p next r = next_line i (slots_in q) next ++ before_line i (own_name q p) r.stored ++ looked_line i (look_name q p) r.looked

-- of what a party did before, in these steps
abbrev pub before_lines : AnyQueue → (i hart : ℕ) → Option Party → Option Owned → List Step → List ℕ
before_lines q i h (Some p) (Some o) steps = recalled_lines q i p o.from (recalled q h p o.from steps)
before_lines q i h p o steps = []

-- the lines of the store, which is one of these steps
abbrev pub store_lines : (lost : Bool) → OpeningValue → AnyQueue → (i : ℕ) → Violation → List Step → List ℕ
store_lines lost o q i b steps = broken_line lost o b (pc_at steps b.place) ++ stored_line i b
    ++ before_lines q i b.hart (party_for q b.hart) b.owned (take b.place steps)

-- and those of the queue as it is described
abbrev pub broken_front : (lost : Bool) → OpeningValue → QueueCertificate → (i : ℕ) → Violation → List Step → List ℕ
broken_front lost o c i b steps = store_lines lost o (any_queue c i) i b steps ++ form_by c i (tagged_number c i) ++ other_line (tagged_number c i)

abbrev pub schedule_lines : (B : ℕ) → (part : List Event) → List ℕ
schedule_lines B part = shown_line B ++ canon part

-- ---- a loss

unfoldable pub lost_front : List ℕ
lost_front = codes "a record is lost: "

abbrev pub lost_line : OpeningValue → Loss → (pc : ℕ) → List ℕ
lost_line o l pc = lost_front ++ instruction_place o l.hart pc ++ 10 ∷ []

unfoldable pub loaded_text : (i : ℕ) → Loss → List ℕ
loaded_text i l = codes "queue " ++ (decimal i ++ (codes ": it loaded " ++ (decimal l.value ++ (codes " from the " ++ (decimal l.width
    ++ (codes " bytes at " ++ decimal l.addr))))))

unfoldable pub sent_text : Loss → List ℕ
sent_text l = codes ", of position " ++ (decimal l.position ++ (codes ", whose byte at " ++ (decimal l.byte ++ (codes " was sent as "
    ++ (decimal l.sent ++ 10 ∷ [])))))

-- what was loaded, and what was sent
abbrev pub loaded_line : (i : ℕ) → Loss → List ℕ
loaded_line i l = loaded_text i l ++ sent_text l

-- where the slot was handed back before the load
unfoldable pub handed_line : (i : ℕ) → (pc : Option ℕ) → List ℕ
handed_line i None = []
handed_line i (Some pc) = codes "queue " ++ (decimal i ++ (codes ": handed back at pc " ++ (decimal pc ++ 10 ∷ [])))

abbrev pub lost_text : (B : ℕ) → OpeningValue → QueueCertificate → (i : ℕ) → (part : List Event) → Loss → List Step → List ℕ
lost_text B o c i part l steps = lost_line o l (pc_at steps l.place) ++ loaded_line i l
    ++ handed_line i (handed_back (any_queue c i) l.position (all_at (any_start c i)) (take l.place steps)) ++ schedule_lines B part

unfoldable pub unlost_line : (number size i : ℕ) → List ℕ
unlost_line number size i = codes "queue " ++ (decimal i ++ (codes ": no record is lost in " ++ (decimal number ++ (codes " drawn runs of "
    ++ (decimal size ++ (codes " events" ++ 10 ∷ []))))))

-- ---- both

abbrev pub broken_text : (B : ℕ) → OpeningValue → QueueCertificate → (i : ℕ) → Violation → (part : List Event) → Loss → List Step → List ℕ
broken_text B o c i b part l steps = broken_front true o c i b steps ++ lost_text B o c i part l steps

-- no drawn run loses a record after a first violation that is described
unfoldable pub unlost_after_line : (number size i : ℕ) → List ℕ
unlost_after_line number size i = codes "queue " ++ (decimal i ++ (codes ": no record is lost after such a store in " ++ (decimal number
    ++ (codes " drawn runs of " ++ (decimal size ++ (codes " events" ++ 10 ∷ []))))))

-- that no record is lost is asked where the protocol described has such a store of the hart then
abbrev pub unlost_if : (described : Bool) → (number size i : ℕ) → List ℕ
unlost_if true number size i = unlost_after_line number size i
unlost_if false number size i = []

abbrev pub other_text : (number size B : ℕ) → OpeningValue → QueueCertificate → (i : ℕ) → (part : List Event) → Violation → List Step → List ℕ
other_text number size B o c i part b steps = broken_front false o c i b steps ++ unlost_if b.described number size i ++ schedule_lines B part

-- ---- runs that keep the protocol

unfoldable pub runs_front : (i number size : ℕ) → List ℕ
runs_front i number size = codes "queue " ++ (decimal i ++ (codes ": kept in " ++ (decimal number ++ (codes " drawn runs of " ++ (decimal size
    ++ codes " events")))))

unfoldable pub runs_end : Moved → List ℕ
runs_end moved = codes ", in which " ++ (decimal moved.published ++ (codes " positions were published and " ++ (decimal moved.taken
    ++ (codes " taken" ++ 10 ∷ []))))

abbrev pub runs_line : (number size i : ℕ) → Moved → List ℕ
runs_line number size i moved = runs_front i number size ++ runs_end moved
