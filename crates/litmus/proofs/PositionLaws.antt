-- What a test says of a position it says of each history that ends there.
use Rattle.std.proofs.Common.{◌≡◌, ℕ, not, ◌&&◌, ◌||◌, List, [], ◌∷◌, ◌++◌, Option, refl, sym, ◌∙◌, ap, arith}
use Rattle.std.specs.Prelude.{All, map, option_map, unwrap_or, slice_index, ◌==◌}
use Rattle.std.proofs.lemmas.List.Elements.{All-nil, All-cons, All-head, All-tail}
use Rattle.hart.specs.State.{HartState}
use Rattle.step_machine.specs.Names.{History, Position, IsPositionOf}
use Rattle.litmus.specs.{Place, Verdict, Holds, Fails, Unfinished, Formula, is, negation, both, either, truth, places, LitmusTest, IsThere, IsFinished}
use Rattle.litmus.specs.{IsFinishedAt, IsVerdict, IsVerdictAt, final_value, is_satisfied, value_there}
use Rattle.litmus.specs.declared.symbols.Place.TheVariants as place

value_ends : (harts M : ℕ) (t : History) (p : Position) (x : Place) → IsPositionOf M t p → IsThere harts M x → value_there p x ≡ final_value M t x
value_ends harts M t p (place.Register h n) ends there =
    ap (λ (so : Option HartState). unwrap_or (option_map (λ s. slice_index s.registers n) so) 0) (ends.states h)
value_ends harts M t p (place.Word a) ends there = ends.words a there

values_end : (harts M : ℕ) (t : History) (p : Position) (ps : List Place) → IsPositionOf M t p → All (IsThere harts M) ps
    → map (value_there p) ps ≡ map (final_value M t) ps
values_end harts M t p [] ends there = refl
values_end harts M t p (x ∷ ps) ends there = λ k.
    value_ends harts M t p x ends (All-head (IsThere harts M) x ps there) k ∷ values_end harts M t p ps ends (All-tail (IsThere harts M) x ps there) k

pub values_read : (harts M : ℕ) (t : History) (p : Position) (ps lefts : List Place) (values : List ℕ) → IsPositionOf M t p
    → All (IsThere harts M) ps → ps ≡ lefts → values ≡ map (value_there p) ps → values ≡ map (final_value M t) lefts
values_read harts M t p ps lefts values ends there same read = read ∙ values_end harts M t p ps ends there ∙ ap (map (final_value M t)) same

-- what stands in either of two lists stands in both together
pub all_left : {X : Type 0} (P : X → Type 0) (xs ys : List X) → All P (xs ++ ys) → All P xs
all_left P [] ys all = All-nil P
all_left P (x ∷ xs) ys all = All-cons P x xs (All-head P x (xs ++ ys) all) (all_left P xs ys (All-tail P x (xs ++ ys) all))

pub all_right : {X : Type 0} (P : X → Type 0) (xs ys : List X) → All P (xs ++ ys) → All P ys
all_right P [] ys all = all
all_right P (x ∷ xs) ys all = all_right P xs ys (All-tail P x (xs ++ ys) all)

truth_ends : (harts M : ℕ) (t : History) (p : Position) (f : Formula) → IsPositionOf M t p → All (IsThere harts M) (places f)
    → truth (value_there p) f ≡ truth (final_value M t) f
truth_ends harts M t p (is x v) ends there = ap (λ (n : ℕ). n == v) (value_ends harts M t p x ends (there 0 x (omega arith)))
truth_ends harts M t p (negation f) ends there = ap not (truth_ends harts M t p f ends there)
truth_ends harts M t p (both f g) ends there = λ k.
    truth_ends harts M t p f ends (all_left (IsThere harts M) (places f) (places g) there) k
    && truth_ends harts M t p g ends (all_right (IsThere harts M) (places f) (places g) there) k
truth_ends harts M t p (either f g) ends there = λ k.
    truth_ends harts M t p f ends (all_left (IsThere harts M) (places f) (places g) there) k
    || truth_ends harts M t p g ends (all_right (IsThere harts M) (places f) (places g) there) k

finished_by : (M : ℕ) (t : History) (p : Position) → IsPositionOf M t p → IsFinishedAt p → IsFinished M t
finished_by M t p ends all h within =
    let there = all h (omega (arith, ends.count)) in (
      ap (option_map (λ s. s.status)) (sym (ends.states h)) ∙ there.0,
      sym (ends.pending h) ∙ there.1,
    )

finished_at : (M : ℕ) (t : History) (p : Position) → IsPositionOf M t p → IsFinished M t → IsFinishedAt p
finished_at M t p ends all h within =
    let there = all h (omega (arith, ends.count)) in (
      ap (option_map (λ s. s.status)) (ends.states h) ∙ there.0,
      ends.pending h ∙ there.1,
    )

pub verdict_ends : (harts M : ℕ) (t : History) (p : Position) (q : LitmusTest) (v : Verdict) → IsPositionOf M t p
    → All (IsThere harts M) (places q.condition) → IsVerdictAt q p v → IsVerdict M q t v
verdict_ends harts M t p q Holds ends there judged = (
  finished_by M t p ends judged.0,
  ap (is_satisfied q.quantifier) (sym (truth_ends harts M t p q.condition ends there)) ∙ judged.1,
)
verdict_ends harts M t p q Fails ends there judged = (
  finished_by M t p ends judged.0,
  ap (is_satisfied q.quantifier) (sym (truth_ends harts M t p q.condition ends there)) ∙ judged.1,
)
verdict_ends harts M t p q Unfinished ends there judged = λ finished. judged (finished_at M t p ends finished)
