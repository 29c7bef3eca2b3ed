-- The order in which a trace performed its operations: loads and AMOs at their own places, a hart's
-- k-th store at the place of its k-th landing, and last the stores without such a landing, hart by hart.
use Rattle.std.specs.Prelude.{ℕ, zero, suc, ◌==◌, Bool, ◌&&◌, if◌then◌else◌, max, List, [], ◌∷◌, ◌++◌, length, drop, option_to_list}
use Rattle.std.specs.List.{slice_get}
use Rattle.step_machine.specs.Entries.{hart_of, lands}
use Rattle.step_machine.specs.History.{History}
use Rattle.step_machine.specs.declared.events.Entry.{Entry}
use Rattle.step_machine.specs.Access.{Access, load, exchange, land, access_of}
use Rattle.ztso_axioms.specs.Operations.{is_store}

-- the places of the entries that pass a test, where the entries begin at place n
abbrev pub places_of : (Entry → Bool) → ℕ → List Entry → List ℕ
places_of test n [] = []
places_of test n (e ∷ es) = if test e then n ∷ places_of test (suc n) es else places_of test (suc n) es

abbrev pub is_store_of : ℕ → Entry → Bool
is_store_of h e = is_store e && (hart_of e == h)

-- the places of hart h's stores
abbrev pub store_places : ℕ → List Entry → List ℕ
store_places h es = places_of (is_store_of h) 0 es

-- what an access at this place performs: a load and an AMO themselves, a landing this store
abbrev pub performed_at : ℕ → List ℕ → Access → List ℕ
performed_at place landing (load a width v) = place ∷ []
performed_at place landing (exchange a old new) = place ∷ []
performed_at place landing land = landing
performed_at place landing other = []

-- what an entry performs, after the entries before it: the hart's k-th landing the hart's k-th store
-- among all entries
abbrev pub performed_by : List Entry → List Entry → Entry → List ℕ
performed_by all earlier e = performed_at (length earlier) (option_to_list (slice_get (store_places (hart_of e) all) (lands (hart_of e) earlier))) (access_of e)

abbrev pub performed_after : List Entry → List Entry → List Entry → List ℕ
performed_after all earlier [] = []
performed_after all earlier (e ∷ es) = performed_by all earlier e ++ performed_after all (earlier ++ e ∷ []) es

-- the stores of hart h without a landing of the same number
abbrev pub left_places : ℕ → List Entry → List ℕ
left_places h es = drop (lands h es) (store_places h es)

-- the same of the harts below n, hart by hart
abbrev pub left_below : ℕ → List Entry → List ℕ
left_below zero es = []
left_below (suc n) es = left_below n es ++ left_places n es

-- one more than the greatest hart that has an entry
abbrev pub hart_bound : List Entry → ℕ
hart_bound [] = 0
hart_bound (e ∷ es) = max (suc (hart_of e)) (hart_bound es)

abbrev pub order : History → List ℕ
order t = performed_after t.entries [] t.entries ++ left_below (hart_bound t.entries) t.entries
