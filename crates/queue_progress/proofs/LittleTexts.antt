-- The text of one slot, for ever: its harts load both indices at pcs 0 and 4, branch back at 8 if the slot isn't theirs, and move their own
-- at pc 20. A row begins after that.
use Rattle.std.proofs.Common.{◌≡◌, true, false, List, [], ◌∷◌, refl}
use Rattle.rv_decode.specs.Meaning.{meaning}
use Rattle.queue_certificates.proofs.OneSlotQueue.{text, certificate}
use Rattle.queue_certificates.specs.Tags.{told_by_store}
use Rattle.queue_certificates.specs.Forms.{Form, number}
use Rattle.queue_progress.specs.Falling.{keeps_pace, keeps_looking}

abbrev idle : List Form
idle = number 5 ∷ number 4 ∷ number 3 ∷ number 2 ∷ number 1 ∷ number 0 ∷ number 6 ∷ []

abbrev blind : List Form
blind = number 1 ∷ number 0 ∷ number 3 ∷ number 2 ∷ number 1 ∷ number 0 ∷ number 2 ∷ []

-- state 2 no higher than state 3
abbrev level : List Form
level = number 5 ∷ number 4 ∷ number 2 ∷ number 2 ∷ number 1 ∷ number 0 ∷ number 6 ∷ []

sender_keeps_pace : keeps_pace text certificate 0 0 0 idle 7 ≡ true
unfolding meaning told_by_store
sender_keeps_pace = refl

receiver_keeps_looking : keeps_looking text certificate 1 0 blind 4 ≡ true
unfolding meaning told_by_store
receiver_keeps_looking = refl

sender_no_sooner : keeps_pace text certificate 0 0 0 idle 6 ≡ false
unfolding meaning told_by_store
sender_no_sooner = refl

level_falls_nowhere : keeps_pace text certificate 0 0 0 level 7 ≡ false
unfolding meaning told_by_store
level_falls_nowhere = refl
