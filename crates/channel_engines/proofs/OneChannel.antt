-- What answers `channel` is one answer.
use Rattle.std.proofs.Common.{arith, ◌≡◌, ℕ, ◌<◌, inl, inr, Bool, true, false, List, [], All, Result, Ok, Err, ap}
use Rattle.std.specs.Prelude.{Some}
use Rattle.std.proofs.lemmas.List.{get_or-take, length-take-le}
use Rattle.step_machine.specs.History.{History}
use Rattle.step_machine.proofs.Running.{run-one}
use Rattle.recorder.specs.Versions.{ScheduleValue}
use Rattle.poll_close.specs.Layout.{Layout}
use Rattle.poll_close.specs.{AreWords, Ring, AcceptedAt, opening_over, FitsAt, IsBeyond, ZeroAt, ZeroWordAt}
use Rattle.engine_support.specs.declared.fault.Refusal.{Refusal}
use Rattle.engine_support.specs.{Output, AreAlike, schedules}
use Rattle.engine_support.specs.Runs.{Runs}
use Rattle.engine_support.proofs.{one_difference, runs_or_differs, alike_after, one_after, one_schedule, same_output}
use Rattle.channel_engines.specs.Lists.{list_texts}
use Rattle.channel_engines.specs.Channels.{HasNoChannel, IsChannelAnswer, IsChannelRun, IsDelivery, IsUnreported}
use Rattle.channel_engines.proofs.ListTexts.{one_list_text}

-- ---- the first word that is 0

neither_before : (i m : ℕ) → (i < m → ⊥) → (m < i → ⊥) → i ≡ m
neither_before i m early late = omega arith

none_before : (ws : List ℕ) (j n : ℕ) → ZeroAt ws j → ZeroAt ws n → j < n → ⊥
none_before ws j n first other less = grind (arith, length-take-le, get_or-take)

no_list_before : (lists : List (List ℕ)) (i j m n : ℕ) → ZeroWordAt lists i j → ZeroWordAt lists m n → i < m → ⊥
no_list_before lists i j m n first other less = grind (arith, length-take-le, get_or-take)

one_zero : (lists : List (List ℕ)) (i j m n : ℕ) → ZeroWordAt lists i j → ZeroWordAt lists m n → (i ≡ m) × (j ≡ n)
one_zero lists i j m n first other = grind (arith, neither_before, no_list_before, none_before)

-- ---- the first reason

too_far : (M n : ℕ) (l : Layout) → FitsAt M n l → IsBeyond M n l → ⊥
too_far M n l is beyond = grind arith

no_zero : (lists : List (List ℕ)) (i j : ℕ) → All AreWords lists → ZeroWordAt lists i j → ⊥
no_zero lists i j words found = (words i [] found.within j 0 found.zero.within).1 found.zero.zero

pub one_channel_refusal : (ring : Ring) (M : ℕ) (l : Layout) (lists : List (List ℕ)) (r s : Refusal)
    → HasNoChannel ring M l lists r → HasNoChannel ring M l lists s → r ≡ s
one_channel_refusal ring M l lists r s none other = grind (arith, one_zero, too_far)

pub channel_or_refusal : (ring : Ring) (M : ℕ) (l : Layout) (lists : List (List ℕ)) (r : Refusal)
    → AcceptedAt ring M lists l → HasNoChannel ring M l lists r → ⊥
channel_or_refusal ring M l lists r is none = grind (arith, no_zero)

-- ---- the answer

module _ (ring : Ring) (B M : ℕ) (l : Layout) (parsed : ScheduleValue) (lists : List (List ℕ)) where
  abbrev IsReason : Refusal → Type 0
  IsReason = IsUnreported ring B M l parsed lists

  -- the lists and the place are judged first, and then a record
  pub one_reason : (r s : Refusal) → IsReason r → IsReason s → r ≡ s
  one_reason r s (inl none) (inl other) = one_channel_refusal ring M l lists r s none other
  one_reason r s (inl none) (inr other) = absurd (channel_or_refusal ring M l lists r other.within none)
  one_reason r s (inr other) (inl none) = absurd (channel_or_refusal ring M l lists s other.within none)
  one_reason r s (inr first) (inr other) = one_difference B M (opening_over ring lists l) parsed r s first.differs other.differs

  pub ran_or_reason : (history : History) (r : Refusal) → AcceptedAt ring M lists l → Runs B M (opening_over ring lists l) parsed (Ok history) → IsReason r → ⊥
  ran_or_reason history r within ran (inl none) = channel_or_refusal ring M l lists r within none
  ran_or_reason history r within ran (inr other) = runs_or_differs B M (opening_over ring lists l) parsed history r ran other.differs

  no_reason : (finish : Bool) (a : Output) (r : Refusal) → IsDelivery ring B M l finish parsed lists a → IsReason r → ⊥
  no_reason finish a r is =
      ran_or_reason is.is_reported.ran.0 r is.is_reported.within is.is_reported.ran.1

  one_delivery : (a b : Output) → IsDelivery ring B M l false parsed lists a → IsDelivery ring B M l false parsed lists b → a ≡ b
  one_delivery a b is other = grind (arith, run-one, same_output)

  alike_run : (finish : Bool) (a b : Result Output Refusal) → IsChannelRun ring B M l finish parsed lists a → IsChannelRun ring B M l finish parsed lists b
      → AreAlike a b
  alike_run finish a b is other = grind (arith, no_reason, one_reason)

  one_channel_run : (a b : Result Output Refusal) → IsChannelRun ring B M l false parsed lists a → IsChannelRun ring B M l false parsed lists b → a ≡ b
  one_channel_run (Ok a) (Ok b) is other = ap (λ (out : Output). Ok out) (one_delivery a b is other)
  one_channel_run (Ok a) (Err s) is none = absurd (no_reason false a s is none)
  one_channel_run (Err r) (Ok b) none is = absurd (no_reason false b r is none)
  one_channel_run (Err r) (Err s) none other = ap (λ (x : Refusal). Err x) (one_reason r s none other)

module _ (ring : Ring) (B M : ℕ) (l : Layout) (schedule input : List ℕ) where
  abbrev IsAnswer : (finish : Bool) → Result Output Refusal → Type 0
  IsAnswer finish = IsChannelAnswer ring B M l finish (Some schedule) (Some input)

  pub alike_channel : (a b : Result Output Refusal) → IsAnswer true a → IsAnswer true b → AreAlike a b
  alike_channel = alike_after schedules (λ r s. r ≡ s) one_schedule AreAlike (λ r s e. e) schedule _ (λ parsed.
      alike_after list_texts (λ r s. r ≡ s) one_list_text AreAlike (λ r s e. e) input _ (λ lists. alike_run ring B M l parsed lists true))

  pub one_channel : (a b : Result Output Refusal) → IsAnswer false a → IsAnswer false b → a ≡ b
  one_channel = one_after schedules one_schedule schedule _ (λ parsed. one_after list_texts one_list_text input _
      (λ lists. one_channel_run ring B M l parsed lists))
