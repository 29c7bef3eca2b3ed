-- Which lists of entries memory and store buffers of B stores allow: what each entry needs of those
-- before it. An AMO's new word stands with its hart's path, where its operation is known.
use Rattle.std.specs.Prelude.{ℕ, ◌≡◌, ◌<◌, IsTrue, List, [], ◌∷◌, ◌++◌, length, All}
use Rattle.step_machine.specs.declared.events.Entry.{Entry}
use Rattle.step_machine.specs.History.{OpeningValue, History}
use Rattle.memory.specs.declared.writes.Write.{Write}
use Rattle.step_machine.specs.Access.{Access, nothing, load, store, exchange, fence, land, access_of}
use Rattle.step_machine.specs.Entries.{hart_of, pending, read}
use Rattle.step_machine.specs.Paths.{Path}

-- this access may come where its hart has this pending and would read this
abbrev pub AllowedBy : ℕ → List Write → (ℕ → ℕ → ℕ) → Access → Type 0
AllowedBy B pending reads nothing = Unit {0}
AllowedBy B pending reads (load a width v) = v ≡ reads a width
AllowedBy B pending reads (store w) = length pending < B
AllowedBy B pending reads (exchange a old new) = (pending ≡ []) × (old ≡ reads a 4)
AllowedBy B pending reads (fence full) = IsTrue full → pending ≡ []
AllowedBy B pending reads land = 0 < length pending

-- this entry may come after these
abbrev pub Allowed : ℕ → OpeningValue → List Entry → Entry → Type 0
Allowed B o before e = AllowedBy B (pending (hart_of e) before) (read o before (hart_of e)) (access_of e)

abbrev pub LegalAfter : ℕ → OpeningValue → List Entry → List Entry → Type 0
LegalAfter B o before [] = Unit {0}
LegalAfter B o before (e ∷ es) = Allowed B o before e × LegalAfter B o (before ++ e ∷ []) es

-- each entry may come after those before it
abbrev pub Legal : ℕ → History → Type 0
Legal B t = LegalAfter B t.opening [] t.entries

abbrev pub IsOfHarts : OpeningValue → Entry → Type 0
IsOfHarts o e = hart_of e < length o.harts

-- a history that is legal, in which every hart keeps a path and every entry is of a hart
pub record WellFormed (B M : ℕ) (t : History) : Type 0 where
  pub legal : Legal B t
  pub paths : (h : ℕ) → h < length t.opening.harts → Path M t h
  pub of_harts : All (IsOfHarts t.opening) t.entries
