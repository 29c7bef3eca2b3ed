-- What an instruction of a party does for a queue with indices, as its leaf says: whether it moves the party's own index, whether it loads
-- the other's, and how many positions the party owns there.
use Rattle.std.specs.Prelude.{ℕ, ◌&&◌, nat_lt, Bool, true, false, Option, None, Some, List, [], ◌∷◌, get_or}
use Rattle.rv_decode.specs.declared.instruction.Instr.{Instr}
use Rattle.rv_decode.specs.declared.instruction.Instr.TheVariants.{Load}
use Rattle.hart.specs.Effects.{load_width}
use Rattle.step_machine.specs.History.{OpeningValue}
use Rattle.queue_certificates.specs.Forms.{Form, plus, minus, lifted, is_same, most}
use Rattle.queue_certificates.specs.States.{Share, KnownState}
use Rattle.queue_certificates.specs.Steps.{share_at, addresses, is_look}
use Rattle.queue_certificates.specs.Certificates.{QueueCertificate, queue_at, no_hart, next_states}

-- the own count of the second is surely further than that of the first; the second has one variable more, which comes first
abbrev pub is_further : Share → Share → Bool
is_further s t = nat_lt s.own.constant t.own.constant && is_same 0 (plus (lifted s.own) (minus t.own (lifted s.own))) t.own

abbrev pub all_further : (i : ℕ) → Share → List KnownState → Bool
all_further i s [] = true
all_further i s (k ∷ ks) = is_further s (share_at k i) && all_further i s ks

abbrev pub follow_further : (i : ℕ) → Share → Option (List KnownState) → Bool
follow_further i s None = false
follow_further i s (Some ks) = all_further i s ks

-- of queue i: the instruction moves hart h's count on, in every state that may follow; so does one that none follows, as where the hart ends
abbrev pub moves : QueueCertificate → (h : ℕ) → (code : List ℕ) → (i : ℕ) → KnownState → Form → Bool
moves c h code i k d = follow_further i (share_at k i) (next_states c h code k d)

-- the most positions that it may own
abbrev pub most_owned : (i : ℕ) → KnownState → Option ℕ
most_owned i k = most k.ranges (share_at k i).owned

-- it loads the other's index, whole
abbrev pub looks : QueueCertificate → (h i : ℕ) → KnownState → Option Instr → Bool
looks c h i k (Some (Load op rd rs1 offset)) = is_look (queue_at c) h (addresses (queue_at c) k rs1 offset) (load_width op) i
looks c h i k other = false

abbrev pub code_of : OpeningValue → (h : ℕ) → List ℕ
code_of o h = (get_or o.harts h no_hart).code
