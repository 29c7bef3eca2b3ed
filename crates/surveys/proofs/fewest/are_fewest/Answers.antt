use Rattle.std.proofs.Common.{rules, ◌≡◌, ℕ, zero, suc, ◌+◌, ◌<◌, ◌≤◌, inl, inr, List, Some, sym, subst, arith}
use Rattle.std.specs.Prelude.{IsTrue, slice_index}
use Rattle.std.specs.List.{slice_get}
use Rattle.std.proofs.lemmas.Bool.{cases_lt}
use Rattle.surveys.proofs.fewest.are_fewest.Goals as goal
use Rattle.surveys.specs.inner.Levels.{IsLedToBy, AreFewest, IsExpanded, IsAmong, IsSearched}

-- What the levels of a search say of how many steps lead to what is wanted.

-- it is among more of them
pub among_more : {X : Type 0} {xs : List X} {count more : ℕ} (x : X) → count ≤ more → IsAmong count xs x → IsAmong more xs x
among_more x few is = record { place = is.place; before = omega (arith, few, is.before); there = is.there }

goes_on_more : {Node Step : Type 0} {next : Node → Step → Node} {Wanted : Node → Type 0} {nodes : List Node} {count more : ℕ} (node : Node)
    → count ≤ more → IsExpanded next Wanted count nodes node → IsExpanded next Wanted more nodes node
goes_on_more {next = next} node few goes = record {
  leads = λ step. among_more (next node step) few (goes.leads step);
  unwanted = goes.unwanted;
}

-- each node of the level leads into the next
pub searched_level : {Node Step : Type 0} {next : Node → Step → Node} {Wanted : Node → Type 0} {first : Node} {nodes : List Node} {done level depth : ℕ}
    (more : ℕ) → level ≤ more
    → ((number : ℕ) (node : Node) → done ≤ number → number < level → slice_get nodes number ≡ Some node → IsExpanded next Wanted more nodes node)
    → IsSearched next Wanted first nodes done level depth → IsSearched next Wanted first nodes level more (depth + 1)
searched_level {Node = Node} {next = next} {Wanted = Wanted} {first = first} {nodes = nodes} {done = done} {level = level} {depth = depth}
    more few goes searched = record {
      near = nearer;
      gone_on = all;
    }
  where
    all : (number : ℕ) (node : Node) → number < level → slice_get nodes number ≡ Some node → IsExpanded next Wanted more nodes node
    all number node before there = elim (cases_lt number done) [
      | inl less ↦ goes_on_more node few (searched.gone_on number node less there)
      | inr later ↦ goes number node later before there
    ]

    nearer : (count : ℕ) (node : Node) → count ≤ depth + 1 → IsLedToBy next first count node → IsAmong more nodes node
    nearer zero node most led = among_more node few (searched.near 0 node (omega arith) led)
    nearer (suc count) node most led =
        let is = searched.near count led.0 (omega (arith, most)) led.2 in
        subst (IsAmong more nodes) (sym led.3) ((all is.place led.0 is.before is.there).leads led.1)

-- where none of the last level is wanted either
pub fewest : {Node Step : Type 0} {next : Node → Step → Node} {Wanted : Node → Type 0} {first : Node} {nodes : List Node} {done level depth : ℕ}
    → ((number : ℕ) (node : Node) → done ≤ number → number < level → slice_get nodes number ≡ Some node → Wanted node → ⊥)
    → IsSearched next Wanted first nodes done level depth → AreFewest next Wanted first (depth + 1)
fewest {Node = Node} {Wanted = Wanted} {nodes = nodes} {done = done} {level = level} none searched = λ count node few led.
    let is = searched.near count node (omega (arith, few)) led in unwanted is.place node is.before is.there
  where
    unwanted : (number : ℕ) (node : Node) → number < level → slice_get nodes number ≡ Some node → Wanted node → ⊥
    unwanted number node before there = elim (cases_lt number done) [
      | inl less ↦ (searched.gone_on number node less there).unwanted
      | inr later ↦ none number node later before there
    ]

pub loop-end-preserved : goal.loop-end-preserved
loop-end-preserved g c =
    let yes : IsTrue c.in_ok-all_go_on.field-0 = search rules in
    record {
      right = c.in_ok-all_go_on.ensures.right;
      within = search rules;
      searched = searched_level (slice_index c.args.ends.now c.loop-end.end-index) c.if-end-level.false (c.in_ok-all_go_on.ensures.go yes)
          c.loop-end.invariant.searched;
    }
