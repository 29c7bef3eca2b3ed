-- One pass over a list, in which pieces of one size are left out: what holds at the place it has come to.
use Rattle.std.proofs.Common.{◌≡◌, ℕ, suc, ◌+◌, ◌-◌, ◌*◌, ◌<◌, ◌≤◌, Bool, true, false, List, length, subst, arith, min, inl, inr}
use Rattle.std.proofs.lemmas.List.{drop_min, length-append, length-take, length-drop}
use Rattle.std.proofs.Math.Nat.{suc-mul, eq-or-lt_of_le}
use Rattle.step_machine.specs.declared.events.Event.{Event}
use Rattle.shrink.specs.Shrinking.{IsPartOf, without}
use Rattle.shrink.proofs.PartLaws.{part_whole, part_of_part, part_without}

-- these pieces were tried, and none of them can go
pub record NoneBefore (Ends : List Event → Type 0) (now : List Event) (size from : ℕ) : Type 0 where
  pub pieces : ℕ
  pub there : from ≡ min (pieces * size) (length now)
  pub none : (k : ℕ) → k < pieces → Ends (without (k * size) size now) → ⊥

-- what is left of the old events at this place of the pass
pub record Passing (Ends : List Event → Type 0) (old now : List Event) (size from : ℕ) (gone : Bool) : Type 0 where
  pub ends : Ends now
  pub part : IsPartOf now old
  pub went : gone ≡ true → length now < length old
  pub stayed : gone ≡ false → now ≡ old
  pub none_can : gone ≡ false → NoneBefore Ends now size from

pub pass_start : (Ends : List Event → Type 0) (old : List Event) (size : ℕ) → Ends old → Passing Ends old old size 0 false
pass_start Ends old size ends = grind (arith, part_whole)

pub length-without : (from count : ℕ) (es : List Event) → from + count ≤ length es → length (without from count es) + count ≡ length es
length-without from count es within = grind (arith, length-append, length-take, length-drop)

-- the piece goes
pub pass_without : (Ends : List Event → Type 0) (old now left : List Event) (size from count : ℕ) (gone : Bool)
    → Passing Ends old now size from gone → 1 ≤ count → from + count ≤ length now → left ≡ without from count now
    → Ends left → Passing Ends old left size from true
pass_without Ends old now left size from count gone pass some within is ends = grind (
  arith,
  part_of_part (without from count now) now old (part_without from count now) pass.part,
  part_without from count now,
  length-without from count now within,
)

without-min : (from size : ℕ) (es : List Event) → from ≤ length es → without from (min size (length es - from)) es ≡ without from size es
without-min from size es within = grind (arith, drop_min (from + size) es)

-- the piece stays
pub pass_beyond : (Ends : List Event → Type 0) (old now left : List Event) (size from count : ℕ) (gone : Bool)
    → Passing Ends old now size from gone → from < length now → count ≡ min size (length now - from)
    → left ≡ without from count now → (Ends left → ⊥) → Passing Ends old now size (from + count) gone
pass_beyond Ends old now left size from count gone pass within cut is stays = record {
  ends = pass.ends;
  part = pass.part;
  went = pass.went;
  stayed = pass.stayed;
  none_can = λ none. further (pass.none_can none);
}
  where
    further : NoneBefore Ends now size from → NoneBefore Ends now size (from + count)
    further before = record {
      pieces = suc before.pieces;
      there = rw (suc-mul before.pieces size) (omega (arith, before.there, within, cut));
      none = tried;
    }
      where
        here : from ≡ before.pieces * size
        here = omega (arith, before.there, within)

        tried : (k : ℕ) → k < suc before.pieces → Ends (without (k * size) size now) → ⊥
        tried k below ends =
            elim (eq-or-lt_of_le {n = k} {m = before.pieces} (omega (arith, below))) [
              | inl same ↦ stays (rw (is, cut, without-min from size now (omega (arith, within)), here, ← same) ends)
              | inr less ↦ before.none k less ends
            ]

-- pieces of one event are single events
pub single_events : (Ends : List Event → Type 0) (es : List Event)
    → ((k : ℕ) → k * 1 < length es → Ends (without (k * 1) 1 es) → ⊥) → (i : ℕ) → i < length es → Ends (without i 1 es)
    → ⊥
single_events Ends es none i within = let one : i * 1 ≡ i = omega arith in subst (λ (k : ℕ). k < length es → Ends (without k 1 es) → ⊥) one (none i) within
