-- Events that are drawn in bursts, one more at a time.
use Rattle.std.proofs.Common.{◌≡◌, ℕ, ◌+◌, List, [], ◌∷◌, ◌++◌, refl, sym, ap, ap₂, ◌∙◌, add-one, subst}
use Rattle.rand_core.specs.Stream.{Stream, next_u32}
use Rattle.step_machine.specs.declared.events.Event.{Event}
use Rattle.recorder.specs.Drawing.{drawn_words, left_after}
use Rattle.recorder.proofs.Drawn.{words-suc}
use Rattle.drawn_runs.specs.declared.draws.Burst.{Burst}
use Rattle.drawn_runs.specs.Draws.{burst_event, burst_after, burst_events, no_burst}
use Rattle.step_machine.specs.declared.events.Outcome.{Outcome}
use Rattle.step_machine.specs.Names.{History, Happens, RunFrom}

-- the burst after these words
abbrev pub burst_in : (harts : ℕ) → Burst → List ℕ → Burst
burst_in harts b [] = b
burst_in harts b (word ∷ words) = burst_in harts (burst_after harts b word) words

events-more : (harts : ℕ) (b : Burst) (words : List ℕ) (word : ℕ)
    → burst_events harts b (words ++ word ∷ []) ≡ burst_events harts b words ++ burst_event harts (burst_in harts b words) word ∷ []
events-more harts b [] word = refl
events-more harts b (w ∷ words) word = ap (λ (rest : List Event). burst_event harts b w ∷ rest) (events-more harts (burst_after harts b w) words word)

burst-more : (harts : ℕ) (b : Burst) (words : List ℕ) (word : ℕ)
    → burst_in harts b (words ++ word ∷ []) ≡ burst_after harts (burst_in harts b words) word
burst-more harts b [] word = refl
burst-more harts b (w ∷ words) word = burst-more harts (burst_after harts b w) words word

-- what is drawn after i words: their events, and the burst after them
pub record AreInBursts (harts i : ℕ) (first : Stream) (events : List Event) (burst : Burst) : Type 0 where
  pub events_are : events ≡ burst_events harts no_burst (drawn_words i first)
  pub burst_is : burst ≡ burst_in harts no_burst (drawn_words i first)

pub bursts-none : (harts : ℕ) (first : Stream) (events : List Event) → events ≡ [] → AreInBursts harts 0 first events no_burst
unfolding drawn_words
bursts-none harts first events none = record { events_are = none; burst_is = refl }

pub left-none : (first : Stream) → first ≡ left_after 0 first
unfolding left_after
left-none first = refl

pub bursts-more : (harts i word : ℕ) (first before after : Stream) (old new : List Event) (burst : Burst) (one : Event × Burst)
    → AreInBursts harts i first old burst → before ≡ left_after i first → (word, after) ≡ next_u32 before
    → one ≡ (burst_event harts burst word, burst_after harts burst word) → new ≡ old ++ one.0 ∷ [] → AreInBursts harts (i + 1) first new one.1
bursts-more harts i word first before after old new burst one so_far was given drawn pushed =
    let is : word ≡ (next_u32 (left_after i first)).0 =
    ap (λ (p : ℕ × Stream). p.0) given ∙ ap (λ (s : Stream). (next_u32 s).0) was in
    let words : drawn_words (i + 1) first ≡ drawn_words i first ++ word ∷ [] =
    ap (λ (n : ℕ). drawn_words n first) (add-one i) ∙ words-suc i first ∙ ap (λ (w : ℕ). drawn_words i first ++ w ∷ []) (sym is) in
    record {
      events_are = pushed ∙ ap (λ (p : Event × Burst). old ++ p.0 ∷ []) drawn
          ∙ ap₂ (λ (es : List Event) (b : Burst). es ++ burst_event harts b word ∷ []) so_far.events_are so_far.burst_is
          ∙ sym (events-more harts no_burst (drawn_words i first) word) ∙ ap (burst_events harts no_burst) (sym words);
      burst_is = ap (λ (p : Event × Burst). p.1) drawn ∙ ap (λ (b : Burst). burst_after harts b word) so_far.burst_is
          ∙ sym (burst-more harts no_burst (drawn_words i first) word) ∙ ap (burst_in harts no_burst) (sym words);
    }

-- ---- a run and its last event

-- the history before the last event, and what then happened
pub record LastHappens (B M : ℕ) (t : History) (events : List Event) (event : Event) (new : History) : Type 0 where
  pub before : History
  pub outcome : Outcome
  pub ran : RunFrom B M t events before
  pub happens : Happens B M before event outcome new

pub last_happens : (B M : ℕ) (t : History) (events : List Event) (event : Event) (new : History) → RunFrom B M t (events ++ event ∷ []) new
    → LastHappens B M t events event new
last_happens B M t [] event new run =
    record { before = t; outcome = run.0; ran = refl; happens = subst (λ (u : History). Happens B M t event run.0 u) (sym run.3) run.2 }
last_happens B M t (e ∷ events) event new run =
    let rest = last_happens B M run.1 events event new run.3 in
    record { before = rest.before; outcome = rest.outcome; ran = (run.0, run.1, run.2, rest.ran); happens = rest.happens }
