-- What a machine holds when it is put back to a snapshot. No public clause names it.
use Rattle.std.specs.Prelude.{ℕ, ◌≡◌, ◌≤◌, ◌++◌, List, [], ◌∷◌, length, drop, Some}
use Rattle.std.specs.List.{slice_get}
use Rattle.hart.specs.State.{HartView}
use Rattle.hart.specs.Saved.{SavedView, put_back}
use Rattle.memory.specs.declared.writes.Write.{Write}
use Rattle.step_machine.specs.Snapshots.{SnapshotView}
use Rattle.step_machine.specs.inner.Stored.{Stored}
use Rattle.step_machine.specs.inner.Config.{Config}

-- each element changed by the one at its place in another list, as far as that goes
abbrev pub changed_by : {X Y : Type 0} → (X → Y → X) → List X → List Y → List X
changed_by f [] ys = []
changed_by f (x ∷ xs) [] = x ∷ xs
changed_by f (x ∷ xs) (y ∷ ys) = f x y ∷ changed_by f xs ys

abbrev pub restored_harts : List HartView → List SavedView → List HartView
restored_harts hs ss = changed_by put_back hs ss

abbrev pub restored_stored : List (List Write) → List ℕ → Stored → Stored
restored_stored bs ws s = record s { buffers = bs; words = ws ++ drop (length ws) s.first }

abbrev pub restored_config : SnapshotView → Config → Config
restored_config s c = record { harts = restored_harts c.harts s.harts; stored = restored_stored s.buffers s.words c.stored }

-- each hart has been given as many words and has made as many reports
pub record AreWithin (hs : List HartView) (ss : List SavedView) : Type 0 where
  pub count : length ss ≡ length hs
  pub given : (h : ℕ) (v : HartView) (x : SavedView) → slice_get hs h ≡ Some v → slice_get ss h ≡ Some x → x.given ≤ length v.first.inbox
  pub reports : (h : ℕ) (v : HartView) (x : SavedView) → slice_get hs h ≡ Some v → slice_get ss h ≡ Some x → x.reports ≤ length v.reports
