-- What a test says of a machine: by the last registers of its harts and the last words of memory.
use Rattle.std.specs.Prelude.{ℕ, ◌≡◌, ◌<◌, Bool, true, false, not, [], length, slice_index, Some, option_map, unwrap_or}
use Rattle.std.specs.List.{slice_get}
use Rattle.hart.specs.declared.status.Status.TheVariants as status
use Rattle.step_machine.specs.History.{History}
use Rattle.step_machine.specs.Entries.{pending, memory_word}
use Rattle.step_machine.specs.Paths.{state_of}
use Rattle.step_machine.specs.Positions.{Position}
use Rattle.step_machine.specs.inner.Stored.{buffer_of, word_at}
use Rattle.litmus.specs.declared.symbols.Place.{Place}
use Rattle.litmus.specs.declared.symbols.Place.TheVariants as place
use Rattle.litmus.specs.declared.verdict.Quantifier.{Quantifier}
use Rattle.litmus.specs.declared.verdict.Quantifier.TheVariants.{Exists, NotExists, ForAll}
use Rattle.litmus.specs.declared.verdict.Verdict.{Verdict}
use Rattle.litmus.specs.declared.verdict.Verdict.TheVariants.{Holds, Fails, Unfinished}
use Rattle.litmus.specs.Formulas.{truth}
use Rattle.litmus.specs.LitmusTests.{LitmusTest}

-- the hart has ended, and all its stores have landed
abbrev pub HasFinished : ℕ → History → ℕ → Type 0
HasFinished M t h = (option_map (λ s. s.status) (state_of M t h) ≡ Some status.Ended) × (pending h t.entries ≡ [])

-- each hart has
abbrev pub IsFinished : ℕ → History → Type 0
IsFinished M t = (h : ℕ) → h < length t.opening.harts → HasFinished M t h

-- the value of a register in the hart's last state, or of a word of memory
abbrev pub final_value : ℕ → History → Place → ℕ
final_value M t (place.Register h n) = unwrap_or (option_map (λ s. slice_index s.registers n) (state_of M t h)) 0
final_value M t (place.Word a) = memory_word t.opening t.entries a

-- whether an outcome in which the condition is so is one that the test asks for
abbrev pub is_satisfied : Quantifier → Bool → Bool
is_satisfied Exists true_there = true_there
is_satisfied NotExists true_there = not true_there
is_satisfied ForAll true_there = true_there

-- the test's answer to a history
abbrev pub IsVerdict : ℕ → LitmusTest → History → Verdict → Type 0
IsVerdict M q t Holds = IsFinished M t × (is_satisfied q.quantifier (truth (final_value M t) q.condition) ≡ true)
IsVerdict M q t Fails = IsFinished M t × (is_satisfied q.quantifier (truth (final_value M t) q.condition) ≡ false)
IsVerdict M q t Unfinished = IsFinished M t → ⊥

-- ---- the same of a machine's position, whatever led there

abbrev pub HasFinishedAt : Position → ℕ → Type 0
HasFinishedAt p h = (option_map (λ s. s.status) (slice_get p.harts h) ≡ Some status.Ended) × (buffer_of p.stored h ≡ [])

abbrev pub IsFinishedAt : Position → Type 0
IsFinishedAt p = (h : ℕ) → h < length p.harts → HasFinishedAt p h

abbrev pub value_there : Position → Place → ℕ
value_there p (place.Register h n) = unwrap_or (option_map (λ s. slice_index s.registers n) (slice_get p.harts h)) 0
value_there p (place.Word a) = word_at p.stored a

abbrev pub IsVerdictAt : LitmusTest → Position → Verdict → Type 0
IsVerdictAt q p Holds = IsFinishedAt p × (is_satisfied q.quantifier (truth (value_there p) q.condition) ≡ true)
IsVerdictAt q p Fails = IsFinishedAt p × (is_satisfied q.quantifier (truth (value_there p) q.condition) ≡ false)
IsVerdictAt q p Unfinished = IsFinishedAt p → ⊥
