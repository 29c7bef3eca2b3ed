-- Nodes of a graph, level by level, in the order in which a search met them: `next` leads from a node by a step.
use Rattle.std.specs.Prelude.{ℕ, zero, suc, ◌≡◌, ◌<◌, ◌≤◌, List, Some}
use Rattle.std.specs.List.{slice_get}
use Rattle.step_machine.specs.Positions.{Position, next_position}
use Rattle.litmus.specs.LitmusTests.{LitmusTest}
use Rattle.surveys.specs.Wanted.{IsWantedAt}

-- this many steps can lead to the node from the first one
abbrev pub IsLedToBy : {Node Step : Type 0} → (next : Node → Step → Node) → (first : Node) → (count : ℕ) → Node → Type 0
IsLedToBy next first zero node = node ≡ first
IsLedToBy {Node = Node} {Step = Step} next first (suc count) node =
    (before : Node) × (step : Step) × IsLedToBy next first count before × (node ≡ next before step)

-- fewer than this many steps lead to no node that is wanted
abbrev pub AreFewest : {Node Step : Type 0} → (next : Node → Step → Node) → (Wanted : Node → Type 0) → (first : Node) → (count : ℕ) → Type 0
AreFewest {Node = Node} next Wanted first count = (fewer : ℕ) (node : Node) → fewer < count → IsLedToBy next first fewer node → Wanted node → ⊥

-- the node is one of the first `count` of these
pub record IsAmong {Node : Type 0} (count : ℕ) (nodes : List Node) (node : Node) : Type 0 where
  pub place : ℕ
  pub before : place < count
  pub there : slice_get nodes place ≡ Some node

-- each step from the node leads to one of the first `count` of these
abbrev pub LeadsInto : {Node Step : Type 0} → (next : Node → Step → Node) → (count : ℕ) → (nodes : List Node) → Node → Type 0
LeadsInto {Step = Step} next count nodes node = (step : Step) → IsAmong count nodes (next node step)

-- a search may go on from the node: it isn't wanted, and each step leads to one of the first `count` of these
pub record IsExpanded {Node Step : Type 0} (next : Node → Step → Node) (Wanted : Node → Type 0) (count : ℕ) (nodes : List Node) (node : Node) : Type 0 where
  pub leads : LeadsInto next count nodes node
  pub unwanted : Wanted node → ⊥

-- At most `depth` steps lead to none but the first `level` of these nodes. None of the first `done` is wanted, and a step from one
-- of these leads to none but the first `level`.
pub record IsSearched {Node Step : Type 0} (next : Node → Step → Node) (Wanted : Node → Type 0) (first : Node) (nodes : List Node)
    (done level depth : ℕ) : Type 0 where
  pub near : (count : ℕ) (node : Node) → count ≤ depth → IsLedToBy next first count node → IsAmong level nodes node
  pub gone_on : (number : ℕ) (node : Node) → number < done → slice_get nodes number ≡ Some node → IsExpanded next Wanted level nodes node

-- ---- the positions of a machine, for what a test asks about

abbrev pub AreFewestFor : (B : ℕ) → LitmusTest → (first : Position) → (count : ℕ) → Type 0
AreFewestFor B test first count = AreFewest (next_position B) (IsWantedAt test) first count
