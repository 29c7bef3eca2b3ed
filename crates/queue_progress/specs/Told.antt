-- A party of a queue whose slots tell: how many of its instructions in a row may get it no further, and what its states show of that.
use Rattle.std.specs.Prelude.{ℕ, ◌≡◌, ◌++◌, ◌==◌, ◌&&◌, Bool, true, false, All, Option, Some, List, [], ◌∷◌}
use Rattle.rv_decode.specs.declared.instruction.Instr.{Instr}
use Rattle.rv_decode.specs.declared.instruction.Instr.TheVariants.{Load}
use Rattle.step_machine.specs.declared.events.Entry.{Entry}
use Rattle.step_machine.specs.Access.{Access, load, access_of}
use Rattle.step_machine.specs.Entries.{pending}
use Rattle.queue_parties.specs.Parties.{Party, QueueCounts, count, all_at}
use Rattle.slots_that_tell.specs.Slots.{Slots, tag_of, is_tag}
use Rattle.slots_that_tell.specs.Telling.{teller_hart, told_counts}
use Rattle.queue_layouts.specs.Tagged.{slots_of}
use Rattle.queue_certificates.specs.Forms.{Form}
use Rattle.queue_certificates.specs.States.{Share, KnownState}
use Rattle.queue_certificates.specs.Steps.{share_at, instruction_at}
use Rattle.queue_certificates.specs.Certificates.{QueueCertificate, tagged_at, tagged_start, next_states}
use Rattle.queue_progress.specs.Rows.{all_moved}

-- ---- runs

-- the queue's slots, and its counts after these entries
abbrev pub slots_at : QueueCertificate → (t : ℕ) → Slots
slots_at c t = slots_of (tagged_at c t)

abbrev pub told_counts_at : QueueCertificate → (t : ℕ) → List Entry → QueueCounts
told_counts_at c t es = told_counts (slots_at c t) (all_at (tagged_start c t)) es

abbrev pub teller_at : QueueCertificate → (t : ℕ) → Party → ℕ
teller_at c t p = teller_hart (slots_at c t) p

-- the access loads the tag of the party's own position, whole, and isn't told by it that the slot is its own: so the party has to wait
abbrev pub HasToWait : Slots → Party → QueueCounts → Access → Type 0
HasToWait q p c (load a width v) = (a ≡ tag_of q (count p c)) × (width ≡ q.tag_width) × (q.tells p (count p c) v ≡ false)
HasToWait q p c y = ⊥

-- after these entries one of the party's leaves its count, and isn't such a load
pub record IsToldStuck (c : QueueCertificate) (t : ℕ) (p : Party) (es : List Entry) (e : Entry) : Type 0 where
  pub stays : count p (told_counts_at c t (es ++ e ∷ [])) ≡ count p (told_counts_at c t es)
  pub goes : HasToWait (slots_at c t) p (told_counts_at c t es) (access_of e) → ⊥

-- no store to a tag is pending, of either party
abbrev pub TagsHaveLanded : Slots → List Entry → Type 0
TagsHaveLanded q es = (p : Party) → All (λ w. is_tag q w.addr w.width ≡ false) (pending (teller_hart q p) es)

abbrev pub told_moved_at : QueueCertificate → (t : ℕ) → List Entry → ℕ
told_moved_at c t es = all_moved (told_counts_at c t es)

-- ---- what its states show

abbrev pub is_load : Option Instr → Bool
is_load (Some (Load op rd rs1 offset)) = true
is_load other = false

-- two states may follow, and in the first the party owns a position of queue i, where it didn't surely own one
abbrev pub learns : (i : ℕ) → Share → Option (List KnownState) → Bool
learns i s (Some (told ∷ still ∷ [])) = (s.owned.constant == 0) && ((share_at told i).owned.constant == 1)
learns i s next = false

-- The instruction loads the own position's tag, by which hart h may be told that the slot is its own: it goes on along the first arrow then
abbrev pub may_learn : QueueCertificate → (h : ℕ) → (code : List ℕ) → (i : ℕ) → KnownState → Form → Bool
may_learn c h code i k d = is_load (instruction_at code k.pc) && learns i (share_at k i) (next_states c h code k d)
