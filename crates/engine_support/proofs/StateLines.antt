-- The lines of a state text, one more at a time.
use Rattle.std.proofs.Common.{arith, ◌≡◌, ℕ, ◌+◌, ◌*◌, [], ◌++◌, get_or, Option, Some, option_map, refl}
use Rattle.texts.proofs.ResultLaws.{some_is}
use Rattle.hart.specs.State.{HartState}
use Rattle.hart.specs.declared.status.Status.{Status}
use Rattle.step_machine.specs.Names.{History, memory_word}
use Rattle.engine_support.specs.StateText.{hart_line, register_line, word_line, registers_shown, hart_text, hart_shown, harts_shown, words_shown}
use Rattle.engine_support.proofs.OutcomeLaws.{flat_map_counted}

pub registers_shown-none : (o : Option HartState) → registers_shown o 0 ≡ []
unfolding registers_shown
registers_shown-none o = grind arith

pub registers_shown-more : (o : Option HartState) (n v : ℕ)
    → option_map (λ (s : HartState). get_or s.registers n 0) o ≡ Some v
    → registers_shown o (n + 1) ≡ registers_shown o n ++ register_line n v
unfolding registers_shown
registers_shown-more o n v e = grind (arith, flat_map_counted, get_or, some_is)

pub hart_text-is : (h count pc : ℕ) (status : Status) (o : Option HartState)
    → option_map (λ (s : HartState). s.status) o ≡ Some status → option_map (λ (s : HartState). s.pc) o ≡ Some pc
    → hart_text h o count ≡ hart_line h status pc count ++ registers_shown o 32
unfolding hart_text
hart_text-is h count pc status o e f = grind (arith, some_is)

pub harts_shown-none : (M : ℕ) (t : History) → harts_shown M t 0 ≡ []
unfolding harts_shown
harts_shown-none M t = refl

pub words_shown-none : (t : History) → words_shown t 0 ≡ []
unfolding words_shown
words_shown-none t = refl

pub harts_shown-more : (M : ℕ) (t : History) (n : ℕ) → harts_shown M t (n + 1) ≡ harts_shown M t n ++ hart_shown M t n
unfolding harts_shown
harts_shown-more M t n = flat_map_counted (hart_shown M t) n

pub words_shown-more : (t : History) (n : ℕ) → words_shown t (n + 1) ≡ words_shown t n ++ word_line (4 * n) (memory_word t.opening t.entries (4 * n))
unfolding words_shown
words_shown-more t n = flat_map_counted (λ k. word_line (4 * k) (memory_word t.opening t.entries (4 * k))) n
