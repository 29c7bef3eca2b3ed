-- The first violation of a run: there is none exactly where each entry keeps the protocol.
use Rattle.std.proofs.Common.{ℕ, suc, ◌+◌, ◌≡◌, Bool, true, false, List, [], ◌∷◌, ◌++◌, length, Some, None, refl, sym, ap, ◌∙◌, arith}
use Rattle.std.specs.Prelude.{if◌then◌else◌}
use Rattle.step_machine.specs.declared.events.Entry.{Entry}
use Rattle.queue_parties.specs.Parties.{QueueCounts, KeepsEach}
use Rattle.queue_parties.proofs.Parties.{keeps-at}
use Rattle.queue_layouts.specs.declared.AnyQueue.{AnyQueue}
use Rattle.ownership_runs.specs.{Violation, KeepsOne, Keeps, HasSlot, entry_counts, run_counts, keeps_entry, violation_at, violation_from}
use Rattle.ownership_runs.specs.{first_ownership_violation, IsFirstViolation}
use Rattle.ownership_runs.proofs.Decisions.{decides-entry, keeps-each, each-keeps}

module _ (q : AnyQueue) (some : HasSlot q) where
  abbrev Each : QueueCounts → List Entry → Type 0
  Each c es = KeepsEach (entry_counts q) (KeepsOne q) c es

  kept-from : (place : ℕ) (c : QueueCounts) (es : List Entry) → violation_from q place c es ≡ None → Each c es
  kept-from place c [] none = tt
  kept-from place c (e ∷ es) none = by (λ more. kept-from (place + 1) (entry_counts q c e) es more) (keeps_entry q c e) refl none
    where
      by : (violation_from q (place + 1) (entry_counts q c e) es ≡ None → Each (entry_counts q c e) es) → (b : Bool) → keeps_entry q c e ≡ b
          → (if b then violation_from q (place + 1) (entry_counts q c e) es else Some (violation_at q place c e)) ≡ None → Each c (e ∷ es)
      by rest true is later = ((decides-entry q some c e).0 is, rest later)
      by rest false is later = cc

  none-from : (place : ℕ) (c : QueueCounts) (es : List Entry) → Each c es → violation_from q place c es ≡ None
  none-from place c [] keeps = refl
  none-from place c (e ∷ es) keeps =
      ap (λ b. if b then violation_from q (place + 1) (entry_counts q c e) es else Some (violation_at q place c e)) ((decides-entry q some c e).1 keeps.0)
      ∙ none-from (place + 1) (entry_counts q c e) es keeps.1

  -- the first violation among entries, of which the first stands at `place`
  record IsFirstFrom (place : ℕ) (c : QueueCounts) (es : List Entry) (b : Violation) : Type 0 where
    front : List Entry
    entry : Entry
    back : List Entry
    is : es ≡ front ++ entry ∷ back
    keeps : Each c front
    breaks : KeepsOne q (run_counts q c front) entry → ⊥
    violation : b ≡ violation_at q (place + length front) (run_counts q c front) entry

  first-from : (place : ℕ) (c : QueueCounts) (es : List Entry) (b : Violation) → violation_from q place c es ≡ Some b → IsFirstFrom place c es b
  first-from place c [] b some = cc
  first-from place c (e ∷ es) b found = by (λ more. first-from (place + 1) (entry_counts q c e) es b more) (keeps_entry q c e) refl found
    where
      later : keeps_entry q c e ≡ true → IsFirstFrom (place + 1) (entry_counts q c e) es b → IsFirstFrom place c (e ∷ es) b
      later ok first =
          let further : place + 1 + length first.front ≡ place + suc (length first.front) = omega arith in
          record {
            front = e ∷ first.front;
            entry = first.entry;
            back = first.back;
            is = ap (λ xs. e ∷ xs) first.is;
            keeps = ((decides-entry q some c e).0 ok, first.keeps);
            breaks = first.breaks;
            violation = first.violation ∙ ap (λ (n : ℕ). violation_at q n (run_counts q (entry_counts q c e) first.front) first.entry) further;
          }

      by : (violation_from q (place + 1) (entry_counts q c e) es ≡ Some b → IsFirstFrom (place + 1) (entry_counts q c e) es b) → (ok : Bool)
          → keeps_entry q c e ≡ ok
          → (if ok then violation_from q (place + 1) (entry_counts q c e) es else Some (violation_at q place c e)) ≡ Some b → IsFirstFrom place c (e ∷ es) b
      by rest true is more = later is (rest more)
      by rest false is here =
          let at : place ≡ place + 0 = omega arith in
          let same : violation_at q place c e ≡ b = cc in
          record {
            front = [];
            entry = e;
            back = es;
            is = refl;
            keeps = tt;
            breaks = λ keeps. (let ok = (decides-entry q some c e).1 keeps in cc);
            violation = sym same ∙ ap (λ (n : ℕ). violation_at q n c e) at;
          }

  pub kept-all : (c : QueueCounts) (es : List Entry) → first_ownership_violation q c es ≡ None → Keeps q c es
  kept-all c es none = each-keeps q c es (kept-from 0 c es none)

  pub none-first : (c : QueueCounts) (es : List Entry) → Keeps q c es → first_ownership_violation q c es ≡ None
  none-first c es keeps = none-from 0 c es (keeps-each q c es keeps)

  pub is-first : (c : QueueCounts) (es : List Entry) (b : Violation) → first_ownership_violation q c es ≡ Some b → IsFirstViolation q c es b
  is-first c es b found =
      let first = first-from 0 c es b found in
      let at : 0 + length first.front ≡ length first.front = omega arith in
      let violation : b ≡ violation_at q (length first.front) (run_counts q c first.front) first.entry =
      first.violation ∙ ap (λ (n : ℕ). violation_at q n (run_counts q c first.front) first.entry) at in
      record {
        front = first.front;
        entry = first.entry;
        back = first.back;
        is = first.is;
        place = sym (ap (λ (x : Violation). x.place) violation);
        keeps = each-keeps q c first.front first.keeps;
        breaks = λ keeps. first.breaks (keeps-at (entry_counts q) (KeepsOne q) c first.front first.entry []
            (keeps-each q c (first.front ++ first.entry ∷ []) keeps));
        violation = violation;
      }
