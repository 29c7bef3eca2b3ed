-- One event more of a run that is judged.
use Rattle.std.proofs.Common.{ℕ, ◌≡◌, ◌+◌, ◌<◌, List, [], ◌∷◌, ◌++◌, length, take, get_or, Option, Some, None, refl, sym, ap, subst, ◌∙◌, append_assoc}
use Rattle.std.proofs.Common.{append-nil}
use Rattle.std.proofs.lemmas.List.{take_more}
use Rattle.step_machine.specs.declared.events.Event.{Event}
use Rattle.step_machine.specs.declared.events.Entry.{Entry}
use Rattle.step_machine.specs.declared.events.Outcome.{Outcome}
use Rattle.step_machine.specs.declared.events.Outcome.TheVariants as outcome
use Rattle.step_machine.specs.Names.{OpeningValue, History, at_opening, FitsIn, reported, Happens, RepresentsHistory, MovesBy, BeginsAnew, RepresentsRunFrom}
use Rattle.step_machine.specs.Names.{Config}
use Rattle.step_machine.proofs.Running.{RunFrom-more}
use Rattle.poll_close.specs.Layout.{Layout}
use Rattle.poll_close.specs.Violations.{violation_of, or_later, violation_after, first_violation, AreNotes}
use Rattle.poll_close.specs.declared.clean.Violation.{Violation}
use Rattle.poll_close.specs.declared.clean.Share.{Share}
use Rattle.ring_trials.specs.UserChannel.{lists_of, layout_from, start_of, ring_of, OpensOver}
use Rattle.ring_trials.specs.Trials.{AreNoted, entries_with, IsChannelJudged, IsChannelJudgedAt}
use Rattle.ring_trials.specs.declared.user_channel.UserChannel.{UserChannel}
use Rattle.poll_close.proofs.Delivering.{channel-fits}

or_later-assoc : (a b c : Option Violation) → or_later (or_later a b) c ≡ or_later a (or_later b c)
or_later-assoc None b c = refl
or_later-assoc (Some a) b c = refl

or_later-none : (a : Option Violation) → or_later a None ≡ a
or_later-none None = refl
or_later-none (Some a) = refl

after_more : (l : Layout) (lists : List (List ℕ)) (before es : List Entry) (e : Entry)
    → violation_after l lists before (es ++ e ∷ []) ≡ or_later (violation_after l lists before es) (violation_of l lists (before ++ es) e)
after_more l lists before [] e =
    or_later-none (violation_of l lists before e) ∙ ap (λ ds. violation_of l lists ds e) (sym (append-nil before))
after_more l lists before (d ∷ es) e =
    ap (or_later (violation_of l lists before d)) (after_more l lists (before ++ d ∷ []) es e
    ∙ ap (λ ds. or_later (violation_after l lists (before ++ d ∷ []) es) (violation_of l lists ds e)) (append_assoc before (d ∷ []) es))
    ∙ sym (or_later-assoc (violation_of l lists before d) (violation_after l lists (before ++ d ∷ []) es) (violation_of l lists (before ++ d ∷ es) e))

first_more : (l : Layout) (lists : List (List ℕ)) (es : List Entry) (e : Entry)
    → first_violation l lists (es ++ e ∷ []) ≡ or_later (first_violation l lists es) (violation_of l lists es e)
first_more l lists es e = after_more l lists [] es e

-- an entry was noted where there was no violation yet
pub noted_entry : (channel : UserChannel) (es : List Entry) (e : Entry) (found new : Option Violation)
    (shares more : List Share) → AreNoted channel es found shares → found ≡ None
    → (AreNotes (reported 0 es) shares → new ≡ violation_of (layout_from channel) (lists_of channel) es e)
    → (AreNotes (reported 0 es) shares → new ≡ None → AreNotes (reported 0 (es ++ e ∷ [])) more) → length more ≡ length shares
    → AreNoted channel (es ++ e ∷ []) new more
noted_entry channel es e found new shares more noted none violation notes count = record {
  violation = violation (noted.notes none)
      ∙ ap (λ b. or_later b (violation_of (layout_from channel) (lists_of channel) es e)) (sym none ∙ noted.violation)
      ∙ sym (first_more (layout_from channel) (lists_of channel) es e);
  notes = notes (noted.notes none);
  count = count ∙ noted.count;
}

-- and where there was one already
pub noted_before : (channel : UserChannel) (es : List Entry) (e : Entry) (found : Option Violation) (first : Violation)
    (shares : List Share) → AreNoted channel es found shares
    → found ≡ Some first → AreNoted channel (es ++ e ∷ []) found shares
noted_before channel es e found first shares noted some = record {
  violation = some ∙ ap (λ b. or_later b (violation_of (layout_from channel) (lists_of channel) es e)) (sym some ∙ noted.violation)
      ∙ sym (first_more (layout_from channel) (lists_of channel) es e);
  notes = λ none. cc;
  count = noted.count;
}

happens_entries : (B M : ℕ) (t u : History) (ev : Event) (o : Outcome) → Happens B M t ev o u → u.entries ≡ entries_with t.entries o
happens_entries B M t u ev (outcome.Did e) happens = ap (λ (h : History). h.entries) happens.after
happens_entries B M t u ev outcome.Waited happens = ap (λ (h : History). h.entries) happens.after
happens_entries B M t u ev outcome.NothingToLand happens = ap (λ (h : History). h.entries) happens.after
happens_entries B M t u ev outcome.Over happens = ap (λ (h : History). h.entries) happens.after
happens_entries B M t u ev outcome.NoHart happens = ap (λ (h : History). h.entries) happens.after

happens_opening : (B M : ℕ) (t u : History) (ev : Event) (o : Outcome) → Happens B M t ev o u → u.opening ≡ t.opening
happens_opening B M t u ev (outcome.Did e) happens = ap (λ (h : History). h.opening) happens.after
happens_opening B M t u ev outcome.Waited happens = ap (λ (h : History). h.opening) happens.after
happens_opening B M t u ev outcome.NothingToLand happens = ap (λ (h : History). h.opening) happens.after
happens_opening B M t u ev outcome.Over happens = ap (λ (h : History). h.opening) happens.after
happens_opening B M t u ev outcome.NoHart happens = ap (λ (h : History). h.opening) happens.after

pub judged_more : (B M : ℕ) (channel : UserChannel) (evs : List Event) (ev : Event) (o : Outcome) (c d : Config)
    (found new : Option Violation) (shares more : List Share)
    → IsChannelJudgedAt B M channel evs c found shares → MovesBy B M ev o c d
    → ((es : List Entry) → AreNoted channel es found shares → AreNoted channel (entries_with es o) new more)
    → IsChannelJudgedAt B M channel (evs ++ ev ∷ []) d new more
judged_more B M channel evs ev o c d found new shares more judged moves noted =
    let moved = moves judged.history judged.stands in record {
      history = moved.0;
      run = RunFrom-more B M (at_opening (start_of channel)) evs judged.history ev o moved.0 judged.run moved.1;
      opening = happens_opening B M judged.history moved.0 ev o moved.1 ∙ judged.opening;
      stands = moved.2;
      noted = subst (λ (es : List Entry). AreNoted channel es new more) (sym (happens_entries B M judged.history moved.0 ev o moved.1))
          (noted judged.history.entries judged.noted);
    }

-- one event of a list more
pub judged_next : (B M : ℕ) (channel : UserChannel) (events : List Event) (i : ℕ) (none : Event) (o : Outcome) (c d : Config) (found new : Option Violation)
    (shares more : List Share) → i < length events → IsChannelJudgedAt B M channel (take i events) c found shares → MovesBy B M (get_or events i none) o c d
    → ((es : List Entry) → AreNoted channel es found shares → AreNoted channel (entries_with es o) new more)
    → IsChannelJudgedAt B M channel (take (i + 1) events) d new more
judged_next B M channel events i none o c d found new shares more within judged moves noted =
    subst (λ (evs : List Event). IsChannelJudgedAt B M channel evs d new more) (sym (take_more events i none within))
    (judged_more B M channel (take i events) (get_or events i none) o c d found new shares more judged moves noted)

-- at the opening
pub judged_none : (B M : ℕ) (channel : UserChannel) (c d : Config) (shares : List Share)
    → RepresentsRunFrom B M (start_of channel) c → BeginsAnew B M c d → AreNotes [] shares
    → length shares ≡ length (lists_of channel) → IsChannelJudgedAt B M channel [] d None shares
judged_none B M channel c d shares stands anew notes count = record {
  history = at_opening (start_of channel);
  run = refl;
  opening = refl;
  stands = subst (λ (o : OpeningValue). RepresentsHistory B M (at_opening o) d) stands.2 (anew stands.0 stands.1);
  noted = record { violation = refl; notes = λ none. notes; count = count };
}

pub judged_at : (B M : ℕ) (channel : UserChannel) (events : List Event) (c : Config) (found : Option Violation) (shares : List Share)
    → IsChannelJudgedAt B M channel events c found shares
    → IsChannelJudged B M channel events found shares × RepresentsRunFrom B M (start_of channel) c
judged_at B M channel events c found shares judged =
    (record { history = judged.history; run = judged.run; noted = judged.noted }, (judged.history, judged.stands, judged.opening))

-- ---- a channel's machine opens

pub opening_fits : (M : ℕ) (channel : UserChannel) (o : OpeningValue) → OpensOver M channel o → FitsIn M o
opening_fits M channel o opens = channel-fits (ring_of channel) M (lists_of channel) (layout_from channel) o opens.short opens.accepted opens.is
