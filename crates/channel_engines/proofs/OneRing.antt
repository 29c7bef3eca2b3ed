-- What answers `ring` is one answer where all runs are clean, and where they aren't each answer tells of
-- that.
use Rattle.std.proofs.Common.{◌≡◌, ℕ, suc, ◌+◌, ◌-◌, Bool, true, false, List, [], ◌∷◌, ◌++◌, length, Result, Ok, refl, sym, ap, ap₂, subst, ◌∙◌, arith, inl}
use Rattle.std.proofs.Common.{inr, Err}
use Rattle.std.specs.Prelude.{Some, None, codes}
use Rattle.std.specs.Fmt.{decimal}
use Rattle.std.specs.List.{slice_get}
use Rattle.step_machine.specs.Names.{History, OpeningValue, at_opening, Run}
use Rattle.step_machine.proofs.Running.{run-one}
use Rattle.drawn_runs.specs.Samples.{DrawnRuns, schedule_in}
use Rattle.poll_close.specs.{first_violation, opening_over, RefusesAt}
use Rattle.poll_close.specs.Layout.{layout_of, Layout}
use Rattle.poll_close.specs.declared.place.BlockPlace.{BlockPlace}
use Rattle.poll_close.proofs.ViolationLaws.{first_law}
use Rattle.engine_support.specs.declared.fault.Refusal.{Refusal}
use Rattle.engine_support.specs.declared.fault.Role.TheVariants.{Sender, Receiver}
use Rattle.engine_support.specs.{After, Format, FindsUpToReads}
use Rattle.engine_support.proofs.InputLaws.{IsOne, alike_after}
use Rattle.judged_runs.specs.Finding.{schedules_from}
use Rattle.judged_runs.specs.Telling.{AreRuns}
use Rattle.judged_runs.proofs.Histories.{runs_one}
use Rattle.ring_trials.specs.Answers.{IsTrialsOutput, IsCleanOutput, IsUncleanOutput, clean_text, sender_line, sender_lines}
use Rattle.ring_trials.specs.UserChannel.{ring_of, lists_of, layout_from, start_of}
use Rattle.ring_trials.specs.Trials.{AreTotals, channel_schedule, closed_in, most_of}
use Rattle.ring_trials.specs.declared.user_channel.UserChannel.{UserChannel}
use Rattle.ring_trials.specs.declared.runs.Total.{Total}
use Rattle.channel_engines.specs.Lists.{list_texts}
use Rattle.channel_engines.specs.UserChannels.{ring_over, programs}
use Rattle.channel_engines.specs.Rings.{AreAlikeRuns, AreDrawn, IsUserChannel, IsRingAnswer}
use Rattle.channel_engines.proofs.ListTexts.{one_list_text}
use Rattle.channel_engines.proofs.OneChannel.{channel_or_refusal, one_channel_refusal}
use Rattle.channel_engines.proofs.OneUserChannel.{one_program}
use Rattle.poll_close.specs.declared.faults.RefusedAt.{RefusedAt}
use Rattle.engine_support.specs.declared.fault.Fault.{Fault}
use Rattle.channel_engines.specs.Channels.{fault_from}
use Rattle.channel_engines.proofs.ChannelLaws.{refusal_as}

-- ---- the lines of totals

-- these are the totals of these runs, from this sender on
abbrev AreTotalsFrom : List History → (first : ℕ) → List Total → Type 0
AreTotalsFrom ts i totals = (k : ℕ) (s : Total) → slice_get totals k ≡ Some s → (s.most ≡ most_of (i + k) ts) × (s.closed ≡ closed_in (i + k) ts)

totals_rest : (ts : List History) (i : ℕ) (x : Total) (xs : List Total) → AreTotalsFrom ts i (x ∷ xs) → AreTotalsFrom ts (i + 1) xs
totals_rest ts i x xs are k s is =
    let here : i + suc k ≡ i + 1 + k = omega arith in
    subst (λ (n : ℕ). (s.most ≡ most_of n ts) × (s.closed ≡ closed_in n ts)) here (are (suc k) s is)

one_total : (ts : List History) (i : ℕ) (x y : Total) (xs ys : List Total) → AreTotalsFrom ts i (x ∷ xs) → AreTotalsFrom ts i (y ∷ ys) → x ≡ y
one_total ts i x y xs ys are also =
    let first = are 0 x refl in
    let other = also 0 y refl in
    ap₂ (λ (m c : ℕ). record { most = m; closed = c }) (first.0 ∙ sym other.0) (first.1 ∙ sym other.1)

one_lines : (ts : List History) (i : ℕ) (xs ys : List Total) (lists : List (List ℕ)) → length xs ≡ length ys → AreTotalsFrom ts i xs → AreTotalsFrom ts i ys
    → sender_lines i xs lists ≡ sender_lines i ys lists
one_lines ts i [] [] lists e are also = refl
one_lines ts i [] (y ∷ ys) lists e are also = absurd (omega (arith, e))
one_lines ts i (x ∷ xs) [] lists e are also = absurd (omega (arith, e))
one_lines ts i (x ∷ xs) (y ∷ ys) [] e are also = refl
one_lines ts i (x ∷ xs) (y ∷ ys) (list ∷ lists) e are also =
    ap₂ (λ (a b : List ℕ). a ++ b) (ap (λ (t : Total). sender_line i t (length list)) (one_total ts i x y xs ys are also))
    (one_lines ts (i + 1) xs ys lists (omega (arith, e)) (totals_rest ts i x xs are) (totals_rest ts i y ys also))

from_first : (ts : List History) (totals : List Total) → AreTotals ts totals → AreTotalsFrom ts 0 totals
from_first ts totals are k s is = grind (arith)

-- ---- runs of channels with the same words

module _ (d : DrawnRuns) (channel also : UserChannel) (rings : ring_of channel ≡ ring_of also) (lists : lists_of channel ≡ lists_of also)
    (layouts : layout_from channel ≡ layout_from also) where
  starts : start_of channel ≡ start_of also
  starts = λ i. opening_over (rings i) (lists i) (layouts i)

  -- so the runs of one aren't all clean where those of the other aren't
  clean_or_not : (a b : List ℕ) → IsCleanOutput d channel a → IsUncleanOutput d also b → ⊥
  clean_or_not a b is other =
      let number = other.is_told.number in
      let has = other.is_told.is_first.has in
      let mine = is.clean.good number (omega arith) other.is_told.is_first.within in
      let run : Run d.B d.M (start_of channel) (channel_schedule d channel number) has.history =
      subst (λ (o : OpeningValue). Run d.B d.M o (schedule_in d (length o.harts) number) has.history) (sym starts) has.run in
      let same : mine.history ≡ has.history =
      run-one d.B d.M (at_opening (start_of channel)) (channel_schedule d channel number) mine.history has.history mine.run run in
      let none : first_violation (layout_from channel) (lists_of channel) mine.history.entries ≡ None =
      (first_law (layout_from channel) (lists_of channel) mine.history.entries).1 mine.kept in
      let some : first_violation (layout_from channel) (lists_of channel) mine.history.entries ≡ Some other.is_told.flaw =
      ap (λ (t : History). first_violation (layout_from channel) (lists_of channel) t.entries) same
      ∙ ap₂ (λ (l : Layout) (ls : List (List ℕ)). first_violation l ls has.history.entries) layouts lists ∙ has.breaks in absurd cc

  one_clean : (a b : List ℕ) → IsCleanOutput d channel a → IsCleanOutput d also b → a ≡ b
  one_clean a b is other =
      let first = is.clean.counted in
      let second = other.clean.counted in
      let all = schedules_from (channel_schedule d channel) 0 (d.number - 0) in
      let others : AreRuns d.B d.M (start_of channel) all second.histories =
      subst (λ (o : OpeningValue). AreRuns d.B d.M o (schedules_from (schedule_in d (length o.harts)) 0 (d.number - 0)) second.histories)
      (sym starts) second.runs in
      let runs : first.histories ≡ second.histories = runs_one d.B d.M (start_of channel) all first.histories second.histories first.runs others in
      let ts = second.histories in
      let firsts : AreTotalsFrom ts 0 is.totals =
      subst (λ (hs : List History). AreTotalsFrom hs 0 is.totals) runs (from_first first.histories is.totals first.totals_are) in
      let seconds : AreTotalsFrom ts 0 other.totals = from_first ts other.totals second.totals_are in
      let counts : length is.totals ≡ length other.totals =
      first.count ∙ ap (λ (ls : List (List ℕ)). length ls) lists ∙ sym second.count in
      is.text_is ∙ ap (λ (ls : List (List ℕ)). clean_text d.number is.totals ls) lists
      ∙ ap (λ (lines : List ℕ). codes "clean " ++ decimal d.number ++ codes " runs" ++ 10 ∷ lines)
      (one_lines ts 0 is.totals other.totals (lists_of also) counts firsts seconds)
      ∙ sym other.text_is

-- what is told of both
outputs_alike : (d : DrawnRuns) (channel also : UserChannel) → ring_of channel ≡ ring_of also
    → lists_of channel ≡ lists_of also → layout_from channel ≡ layout_from also
    → (a b : List ℕ × Bool) → IsTrialsOutput d channel a → IsTrialsOutput d also b → AreAlikeRuns (Ok a) (Ok b)
outputs_alike d channel also rings lists layouts (a, true) (b, true) is other = one_clean d channel also rings lists layouts a b is other
outputs_alike d channel also rings lists layouts (a, true) (b, false) is other =
    clean_or_not d channel also rings lists layouts a b is other
outputs_alike d channel also rings lists layouts (a, false) (b, true) is other =
    clean_or_not d also channel (sym rings) (sym lists) (sym layouts) b a other is
outputs_alike d channel also rings lists layouts (a, false) (b, false) is other = tt

-- ---- the answer

module _ (d : DrawnRuns) (place : BlockPlace) (sends receives : List ℕ) (ls : List (List ℕ)) where
  module _ (channel also : UserChannel) (is : IsUserChannel place sends receives ls channel) (other : IsUserChannel place sends receives ls also) where
    same_rings : ring_of channel ≡ ring_of also
    same_rings = ap₂ ring_over (is.sends_are ∙ sym other.sends_are) (is.receives_are ∙ sym other.receives_are)

    same_layouts : layout_from channel ≡ layout_from also
    same_layouts = ap (λ (p : BlockPlace). layout_of p []) (is.lies ∙ sym other.lies)

    same_output : (a b : List ℕ × Bool) → IsTrialsOutput d channel a
        → IsTrialsOutput d also b → AreAlikeRuns (Ok a) (Ok b)
    same_output = outputs_alike d channel also same_rings (is.lists_are ∙ sym other.lists_are) same_layouts

  one_drawn : (a b : Result (List ℕ × Bool) Refusal) → AreDrawn d place sends receives ls a → AreDrawn d place sends receives ls b → AreAlikeRuns a b
  one_drawn a b is other = grind (arith, channel_or_refusal, one_channel_refusal, same_output)

pub one_ring : (d : DrawnRuns) (place : BlockPlace) (sender receiver input : List ℕ) (a b : Result (List ℕ × Bool) Refusal)
    → IsRingAnswer d place (Some sender) (Some receiver) (Some input) a → IsRingAnswer d place (Some sender) (Some receiver) (Some input) b → AreAlikeRuns a b
one_ring d place sender receiver input =
    after (programs Sender) (one_program Sender) sender _ (λ sends. after (programs Receiver) (one_program Receiver) receiver _
    (λ receives. after list_texts one_list_text input _ (λ ls. one_drawn d place sends receives ls)))
  where
    after : {V : Type 0} (form : Format V) (is : IsOne form (λ r s. r ≡ s)) (bytes : List ℕ) (Next : V → Result (List ℕ × Bool) Refusal → Type 0)
        → ((v : V) (a b : Result (List ℕ × Bool) Refusal) → Next v a → Next v b → AreAlikeRuns a b)
        → (a b : Result (List ℕ × Bool) Refusal) → After form (Some bytes) Next a → After form (Some bytes) Next b → AreAlikeRuns a b
    after form is = alike_after form (λ r s. r ≡ s) is AreAlikeRuns (λ r s e. e)

-- ---- why no runs are drawn

-- there is no channel
pub not_drawn : (d : DrawnRuns) (place : BlockPlace) (sends receives : List ℕ) (lists : List (List ℕ)) {Y : Type 0} (seen : Y → List ℕ × Bool)
    (because : RefusedAt) (fault : Fault) → fault ≡ fault_from because → RefusesAt (ring_over sends receives) d.M lists (layout_of place []) because
    → FindsUpToReads {X = Y} (AreDrawn d place sends receives lists) seen (Err fault)
not_drawn d place sends receives lists {Y = Y} seen because fault holds refuses =
    elim (refusal_as (ring_over sends receives) d.B d.M place lists because refuses) [
      | inl none ↦ subst (λ (f : Fault). FindsUpToReads {X = Y} (AreDrawn d place sends receives lists) seen (Err f)) (sym (holds ∙ none)) tt
      | inr is ↦
          subst (λ (f : Fault). FindsUpToReads {X = Y} (AreDrawn d place sends receives lists) seen (Err f)) (sym (holds ∙ is.1))
          (record { why = because; unfilled = is.2; refuses = refuses; is_fault = is.1 })
    ]
