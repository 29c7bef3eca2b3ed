-- A generator's words, one more at a time.
use Rattle.std.proofs.Common.{◌≡◌, ℕ, zero, suc, ◌+◌, ◌*◌, ◌<◌, ◌≤◌, List, [], ◌∷◌, ◌++◌, refl, ap, ◌∙◌, add-one, map, arith}
use Rattle.std.proofs.lemmas.Bool.{lt-ltb, le-ltb}
use Rattle.std.proofs.lemmas.List.Elements.{All-nil, All-cons}
use Rattle.rand_core.specs.Stream.{Stream, next_u32}
use Rattle.step_machine.specs.declared.events.Event.{Event}
use Rattle.recorder.specs.{hart_of_event, OfHarts, drawn, drawn_words, left_after}

left_after-suc : (i : ℕ) (stream : Stream) → left_after (suc i) stream ≡ (next_u32 (left_after i stream)).1
unfolding left_after
left_after-suc zero stream = refl
left_after-suc (suc i) stream = left_after-suc i (next_u32 stream).1

pub words-suc : (i : ℕ) (stream : Stream) → drawn_words (suc i) stream ≡ drawn_words i stream ++ (next_u32 (left_after i stream)).0 ∷ []
unfolding drawn_words left_after
words-suc zero stream = refl
words-suc (suc i) stream = ap (λ (rest : List ℕ). (next_u32 stream).0 ∷ rest) (words-suc i (next_u32 stream).1)

drawn-more : (harts : ℕ) (front : List ℕ) (word : ℕ) → map (drawn harts) (front ++ word ∷ []) ≡ map (drawn harts) front ++ drawn harts word ∷ []
drawn-more harts [] word = refl
drawn-more harts (c ∷ front) word = ap (λ (rest : List Event). drawn harts c ∷ rest) (drawn-more harts front word)

-- one more word was given
pub left_more : (i word : ℕ) (first before after : Stream) → before ≡ left_after i first → (word, after) ≡ next_u32 before → after ≡ left_after (i + 1) first
left_more i word first before after was given = grind (arith, left_after-suc i first, add-one i)

pub words-more : (harts i word : ℕ) (first before after : Stream) (old new : List Event)
    → old ≡ map (drawn harts) (drawn_words i first) → before ≡ left_after i first → (word, after) ≡ next_u32 before
    → new ≡ old ++ drawn harts word ∷ [] → new ≡ map (drawn harts) (drawn_words (i + 1) first)
words-more harts i word first before after old new so_far was given pushed = grind (
  arith,
  drawn-more harts (drawn_words i first) (next_u32 (left_after i first)).0,
  words-suc i first,
  add-one i,
)

-- what is left after some words and then some more
pub left_after-sum : (more before : ℕ) (stream : Stream) → left_after more (left_after before stream) ≡ left_after (before + more) stream
unfolding left_after
left_after-sum more zero stream = let same : more ≡ 0 + more = omega arith in ap (λ (n : ℕ). left_after n stream) same
left_after-sum more (suc before) stream =
    let next : suc (before + more) ≡ suc before + more = omega arith in
    left_after-sum more before (next_u32 stream).1 ∙ ap (λ (n : ℕ). left_after n stream) next

-- one more schedule was drawn
pub left_after-more : (size number : ℕ) (first before after : Stream) → before ≡ left_after (number * size) first → after ≡ left_after size before
    → after ≡ left_after ((number + 1) * size) first
left_after-more size number first before after was drawn = grind (arith, left_after-sum)

-- ---- what was drawn is of these harts

pub drawn-hart : (harts word : ℕ) → 1 ≤ harts → hart_of_event (drawn harts word) < harts
drawn-hart harts word some = grind (arith, lt-ltb, le-ltb)

pub drawn-harts : (harts : ℕ) (front : List ℕ) → 1 ≤ harts → harts ≤ 64 → OfHarts (map (drawn harts) front)
drawn-harts harts [] some most = All-nil (λ (e : Event). hart_of_event e < 64)
drawn-harts harts (word ∷ front) some most = All-cons (λ (e : Event). hart_of_event e < 64) (drawn harts word)
    (map (drawn harts) front) (omega (arith, drawn-hart harts word some)) (drawn-harts harts front some most)
