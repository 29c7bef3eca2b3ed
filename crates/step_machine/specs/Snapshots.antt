-- Snapshots: what a machine held at the end of a history, without the history.
use Rattle.std.specs.Prelude.{ℕ, ◌≡◌, List, [], ◌∷◌, length}
use Rattle.hart.specs.State.{HartView}
use Rattle.hart.specs.Saved.{SavedView, IsSavedOf}
use Rattle.memory.specs.declared.writes.Write.{Write}
use Rattle.memory.specs.Words.{written_since}
use Rattle.step_machine.specs.History.{History}
use Rattle.step_machine.specs.Standing.{RepresentsHistory}
use Rattle.step_machine.specs.inner.Config.{Config}

-- what a contract sees of a snapshot: how many entries came before it, where each hart stood, what was
-- pending, and the words of memory up to the last that differs from the opening's
pub record SnapshotView : Type 0 where
  pub count : ℕ
  pub harts : List SavedView
  pub buffers : List (List Write)
  pub words : List ℕ

-- where each of these harts stands
abbrev pub AreSaved : List HartView → List SavedView → Type 0
AreSaved [] [] = Unit {0}
AreSaved [] (x ∷ xs) = ⊥
AreSaved (v ∷ vs) [] = ⊥
AreSaved (v ∷ vs) (x ∷ xs) = IsSavedOf v x × AreSaved vs xs

-- it is what the machine holds
pub record IsSavedFrom (c : Config) (s : SnapshotView) : Type 0 where
  pub harts : AreSaved c.harts s.harts
  pub buffers : s.buffers ≡ c.stored.buffers
  pub words : s.words ≡ written_since c.stored.first c.stored.words

-- it was taken at the end of the history
pub record IsTakenAt (B M : ℕ) (t : History) (s : SnapshotView) : Type 0 where
  pub count : s.count ≡ length t.entries
  pub held : Config
  pub stands : RepresentsHistory B M t held
  pub saved : IsSavedFrom held s
