-- The text of a run whose events are drawn as it is written.
use Rattle.std.proofs.Common.{◌≡◌, ◌+◌, ℕ, suc, Bool, true, false, cond, List, [], ◌∷◌, ◌++◌, length, map, refl, sym, ap, ◌∙◌, arith}
use Rattle.std.specs.Prelude.{codes, ◌==◌}
use Rattle.rand_core.specs.Stream.{Stream, next_u32}
use Rattle.step_machine.specs.declared.events.Event.{Event}
use Rattle.texts.specs.Runs.{repetitions_of}
use Rattle.texts.proofs.RunLaws.{turn-same, turn-other, turns-end}
use Rattle.recorder.specs.{drawn, drawn_words, is_same, repetition_text, schedule_tokens, tokens_text}
use Rattle.recorder.proofs.Runs.{before_others, decides, to_write, token_before}
use Rattle.drawn_runs.specs.declared.draws.Burst.{Burst}
use Rattle.drawn_runs.specs.declared.draws.Draw.{Draw}
use Rattle.drawn_runs.specs.declared.draws.Draw.TheVariants.{Uniform, Bursts}
use Rattle.drawn_runs.specs.Draws.{burst_by, burst_events, event_by, events_by, no_burst}
use Rattle.sampling.specs.Outcomes.{schedule_text}

-- ---- the events that are still to be drawn

-- those of these words, with this burst under way
abbrev events_of : Draw → (harts : ℕ) → Burst → List ℕ → List Event
events_of Uniform harts b words = map (drawn harts) words
events_of Bursts harts b words = burst_events harts b words

one_of : (by : Draw) (harts : ℕ) (b : Burst) (word : ℕ) (words : List ℕ)
    → events_of by harts b (word ∷ words) ≡ event_by by harts b word ∷ events_of by harts (burst_by by harts b word) words
one_of Uniform harts b word words = refl
one_of Bursts harts b word words = refl

-- those of the next n words
abbrev pub events_left : Draw → (harts : ℕ) → Burst → (n : ℕ) → Stream → List Event
events_left by harts b n stream = events_of by harts b (drawn_words n stream)

pub all_left : (by : Draw) (harts n : ℕ) (stream : Stream) → events_left by harts no_burst n stream ≡ events_by by harts (drawn_words n stream)
all_left Uniform harts n stream = refl
all_left Bursts harts n stream = refl

pub none_left : (by : Draw) (harts n : ℕ) (b : Burst) (stream : Stream) → n ≡ 0 → events_left by harts b n stream ≡ []
unfolding drawn_words
none_left Uniform harts n b stream none = ap (λ (k : ℕ). events_left Uniform harts b k stream) none
none_left Bursts harts n b stream none = ap (λ (k : ℕ). events_left Bursts harts b k stream) none

-- the next word was given
pub one_left : (by : Draw) (harts n rest word : ℕ) (b : Burst) (before after : Stream) (one : Event × Burst) → n ≡ suc rest
    → (word, after) ≡ next_u32 before → one ≡ (event_by by harts b word, burst_by by harts b word)
    → events_left by harts b n before ≡ one.0 ∷ events_left by harts one.1 rest after
unfolding drawn_words
one_left by harts n rest word b before after one is given drawn =
    ap (λ (k : ℕ). events_left by harts b k before) is
    ∙ ap (λ (p : ℕ × Stream). events_of by harts b (p.0 ∷ drawn_words rest p.1)) (sym given)
    ∙ one_of by harts b word (drawn_words rest after)
    ∙ ap (λ (p : Event × Burst). p.0 ∷ events_left by harts p.1 rest after) (sym drawn)

-- ---- the text

-- the first event was drawn, and a space written
pub text-begun : (event : Event) (events rest : List Event) → events ≡ event ∷ rest → codes " " ++ to_write event 1 rest ≡ schedule_text events
unfolding schedule_tokens repetitions_of
text-begun event events rest is =
    let some : (length (event ∷ rest) == 0) ≡ false = grind arith in
    sym (ap schedule_text is ∙ ap (λ (b : Bool). cond b [] (codes " " ++ schedule_tokens (event ∷ rest))) some)

-- nor is there a text without an event
pub text-none : (by : Draw) (harts n : ℕ) (stream : Stream) → n ≡ 0 → schedule_text (events_by by harts (drawn_words n stream)) ≡ []
text-none by harts n stream none = ap schedule_text (sym (all_left by harts n stream) ∙ none_left by harts n no_burst stream none)

-- an event goes on with the run
pub text-same : (event next : Event) (times : ℕ) (left rest : List Event) (out whole : List ℕ) → left ≡ next ∷ rest → is_same event next ≡ true
    → out ++ to_write event times left ≡ whole → out ++ to_write event (times + 1) rest ≡ whole
text-same event next times left rest out whole is same so_far =
    turn-same is_same decides tokens_text token_before before_others event next times 0 (next ∷ rest) out whole (omega arith) same
    (ap (λ (events : List Event). out ++ to_write event times events) (sym is) ∙ so_far)

-- an event ends it
pub text-other : (event next : Event) (times : ℕ) (left rest : List Event) (out new whole : List ℕ) → left ≡ next ∷ rest → is_same event next ≡ false
    → out ++ to_write event times left ≡ whole → new ≡ out ++ token_before (event, times) → new ++ to_write next 1 rest ≡ whole
text-other event next times left rest out new whole is other so_far written =
    turn-other is_same decides tokens_text token_before before_others event next times 0 (next ∷ rest) out new whole (omega arith) other
    (ap (λ (events : List Event). out ++ to_write event times events) (sym is) ∙ so_far) written

-- no event is left
pub text-ended : (event : Event) (times : ℕ) (left : List Event) (out whole : List ℕ) → left ≡ [] → out ++ to_write event times left ≡ whole
    → out ++ repetition_text (event, times) ≡ whole
text-ended event times left out whole none so_far =
    turns-end is_same decides tokens_text token_before before_others event times 0 [] out _ whole (omega arith)
    (ap (λ (events : List Event). out ++ to_write event times events) (sym none) ∙ so_far) refl
