-- The text of one slot, for ever: its words are the head, the tail and the slot.
use Rattle.std.proofs.Common.{ℕ, ◌≡◌, [], ◌∷◌, Some, None, refl, true, false}
use Rattle.rv_decode.specs.Meaning.{meaning}
use Rattle.queue_certificates.proofs.OneSlotQueue.{text, certificate}
use Rattle.hart_safety.specs.declared.regions.Region.{Region}
use Rattle.hart_safety.specs.Stops.{first_stop}
use Rattle.hart_safety.specs.Ends.{first_end}
use Rattle.hart_safety.specs.Touched.{touched_of}
use Rattle.queue_certificates.specs.Tags.{told_by_store}

abbrev bytes : (from to : ℕ) → Region
bytes from to = record { from = from; to = to }

-- neither hart is stopped where memory has the three words
sender_goes_on : first_stop 3 text certificate 0 ≡ None
unfolding meaning told_by_store
sender_goes_on = refl

receiver_goes_on : first_stop 3 text certificate 1 ≡ None
unfolding meaning told_by_store
receiver_goes_on = refl

-- of two words both stop at pc 12, at the slot
sender_stops : first_stop 2 text certificate 0 ≡ Some 3
unfolding meaning told_by_store
sender_stops = refl

receiver_stops : first_stop 2 text certificate 1 ≡ Some 3
unfolding meaning told_by_store
receiver_stops = refl

-- both go round for ever
sender_runs_on : first_end text certificate 0 ≡ None
unfolding meaning told_by_store
sender_runs_on = refl

receiver_runs_on : first_end text certificate 1 ≡ None
unfolding meaning told_by_store
receiver_runs_on = refl

-- the sender stores to its head and the slot, and the receiver to its tail; each loads both, and the receiver the slot too
sender_stores : touched_of true text certificate 0 ≡ record { regions = bytes 0 3 ∷ bytes 8 11 ∷ []; unbounded = None }
unfolding meaning told_by_store
sender_stores = refl

sender_loads : touched_of false text certificate 0 ≡ record { regions = bytes 0 7 ∷ []; unbounded = None }
unfolding meaning told_by_store
sender_loads = refl

receiver_stores : touched_of true text certificate 1 ≡ record { regions = bytes 4 7 ∷ []; unbounded = None }
unfolding meaning told_by_store
receiver_stores = refl

receiver_loads : touched_of false text certificate 1 ≡ record { regions = bytes 0 11 ∷ []; unbounded = None }
unfolding meaning told_by_store
receiver_loads = refl
