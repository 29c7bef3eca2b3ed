-- The own entries of a hart that opens with a function.
use Rattle.std.specs.Prelude.{option_map}
use Rattle.spsc_queue.proofs.Common.{ℕ, ◌≡◌, false, List, [], ◌∷◌, ◌++◌, Some, sym, ◌∙◌, ap, subst, HartState, Entry, OpeningValue, history_of, hart_of}
use Rattle.spsc_queue.proofs.Common.{is_land, is_own, own, number_read, state_of, Listed, StandsIn, HasFunction}
use Rattle.hart.specs.Steps.{advanced}
use Rattle.step_machine.proofs.{state_after, state_keeps}
use Rattle.spsc_queue.proofs.Courses.{Equipped}
pub use Rattle.store_buffers.proofs.OwnEntries.{joined_on, path_upto, made_by, known_hart, same_state, next_state, own_parts, land_is, own_is}

-- a hart that opens with a function is in a state, and has the function there
module _ (M : ℕ) (o : OpeningValue) (h n : ℕ) (listing : List Listed) (has : HasFunction o h n listing) (es : List Entry) where
  abbrev pub state_here : HartState
  state_here = state_after M (own h es) has.opens

  pub is_here : state_of M (history_of o es) h ≡ Some state_here
  is_here = ap (option_map (state_after M (own h es))) has.is

  pub equipped : (s : HartState) → state_of M (history_of o es) h ≡ Some s → Equipped M n listing s
  equipped s at =
      let keeps = state_keeps M (history_of o es) h has.opens s has.is at in
      record {
        code = subst (λ ws. StandsIn ws n listing) (sym keeps.code) has.code;
        words = keeps.words;
        size = keeps.registers ∙ has.registers;
        zero = keeps.zero;
      }

-- the same of the state of a hart that opens with a function
module _ (M : ℕ) (o : OpeningValue) (h n : ℕ) (listing : List Listed) (has : HasFunction o h n listing) (es : List Entry) (e : Entry) where
  pub here_same : is_own h e ≡ false → state_here M o h n listing has es ≡ state_here M o h n listing has (es ++ e ∷ [])
  here_same off =
      let one : Some (state_here M o h n listing has es) ≡ Some (state_here M o h n listing has (es ++ e ∷ [])) = sym (is_here M o h n listing has es)
      ∙ same_state M o es e h off (state_here M o h n listing has (es ++ e ∷ [])) (is_here M o h n listing has (es ++ e ∷ [])) in cc

  pub here_next : hart_of e ≡ h → is_land e ≡ false
      → advanced (state_here M o h n listing has es) (number_read e) ≡ state_here M o h n listing has (es ++ e ∷ [])
  here_next mine act = next_state M o es e h mine act (state_here M o h n listing has es) (state_here M o h n listing has (es ++ e ∷ []))
      (is_here M o h n listing has es) (is_here M o h n listing has (es ++ e ∷ []))
