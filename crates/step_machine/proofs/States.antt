-- What a hart's state keeps of its opening, whatever its entries (for proofs about
-- further programs).
use Rattle.std.proofs.Common.{arith, ◌≡◌, ℕ, List, [], ◌∷◌, length, Some, refl, sym, ◌∙◌, ap, subst}
use Rattle.std.specs.Prelude.{option_map, slice_index, slice_set}
use Rattle.std.specs.List.{slice_get}
use Rattle.std.proofs.Math.ListN.{length-set}
use Rattle.hart.specs.{HartState, advanced}
use Rattle.hart.proofs.Advances.{advanced-code, advanced-words, registers-are_kept}
use Rattle.step_machine.specs.Names.{Entry, HartOpeningValue, History, own, number_read, after_entries, opens_as, state_of}
use Rattle.step_machine.proofs.Follows.{state_after}

-- its code, the number of words of memory, how many registers it has, and that x0 is 0
pub record KeepsOpening (M : ℕ) (o : HartOpeningValue) (s : HartState) : Type 0 where
  pub code : s.code ≡ o.code
  pub words : s.words ≡ M
  pub registers : length s.registers ≡ length o.registers
  pub zero : slice_index s.registers 0 ≡ 0

first_is_0 : (xs : List ℕ) → slice_index (slice_set xs 0 0) 0 ≡ 0
first_is_0 [] = refl
first_is_0 (x ∷ xs) = refl

opens_keeps : (M : ℕ) (o : HartOpeningValue) → KeepsOpening M o (opens_as M o)
opens_keeps M o = record { code = refl; words = refl; registers = length-set o.registers 0 0; zero = first_is_0 o.registers }

after_entries-keep : (M : ℕ) (o : HartOpeningValue) (s : HartState) (es : List Entry) → KeepsOpening M o s → KeepsOpening M o (after_entries s es)
after_entries-keep M o s [] keeps = keeps
after_entries-keep M o s (e ∷ es) keeps =
    grind (arith, advanced-code, advanced-words, registers-are_kept, after_entries-keep M o (advanced s (number_read e)) es)

pub state_keeps : (M : ℕ) (t : History) (h : ℕ) (o : HartOpeningValue) (s : HartState)
    → slice_get t.opening.harts h ≡ Some o → state_of M t h ≡ Some s → KeepsOpening M o s
state_keeps M t h o s here is =
    let some : Some (state_after M (own h t.entries) o) ≡ Some s = sym (ap (option_map (state_after M (own h t.entries))) here) ∙ is in
    let same : state_after M (own h t.entries) o ≡ s = cc in
    subst (KeepsOpening M o) same (after_entries-keep M o (opens_as M o) (own h t.entries) (opens_keeps M o))
