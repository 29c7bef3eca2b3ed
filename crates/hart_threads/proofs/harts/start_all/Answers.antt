use Rattle.std.proofs.Common.{◌≡◌, List, [], ◌∷◌, ◌++◌, refl, sym, ap, subst, ◌∙◌, append_assoc, arith}
use Rattle.std.specs.Prelude.{map, All}
use Rattle.std.proofs.lemmas.List.{map-append}
use Rattle.std.proofs.lemmas.List.Elements.{All-push}
use Rattle.hart_threads.proofs.harts.start_all.Goals as goal

-- a handle more, whose promise is p
module _ {H P : Type 0} (promise : H → P) (hs grown : List H) (h : H) (p : P) (more : grown ≡ hs ++ h ∷ []) (is : promise h ≡ p) where
  -- which is of the next of the seats that are left
  same_more : {S V : Type 0} (given : P → S) (seat : S → V) (out later : List S) (whole : List V) (s : S)
      → map (λ h. seat (given (promise h))) hs ++ map seat out ≡ whole → out ≡ s ∷ later → given p ≡ s
      → map (λ h. seat (given (promise h))) grown ++ map seat later ≡ whole
  same_more given seat out later whole s same next here =
      let one : seat (given (promise h)) ≡ seat s = ap (λ (x : P). seat (given x)) is ∙ ap seat here in
      let mapped = map-append (λ (h : H). seat (given (promise h))) hs (h ∷ []) in
      let joined = append_assoc (map (λ (h : H). seat (given (promise h))) hs) (seat s ∷ []) (map seat later) in
      cc (one, mapped, joined, ap (map seat) next, ap (map (λ (h : H). seat (given (promise h)))) more)

  asked_more : {A B : Type 0} (gate : P → A) (turns : P → B) (a : A) (n : B) → All (λ h. (gate (promise h) ≡ a) × (turns (promise h) ≡ n)) hs
      → gate p ≡ a → turns p ≡ n → All (λ h. (gate (promise h) ≡ a) × (turns (promise h) ≡ n)) grown
  asked_more gate turns a n all gated counted =
      subst (All (λ h. (gate (promise h) ≡ a) × (turns (promise h) ≡ n))) (sym more)
      (All-push (λ h. (gate (promise h) ≡ a) × (turns (promise h) ≡ n)) hs h all (ap gate is ∙ gated, ap turns is ∙ counted))

pub loop-held-preserved : goal.loop-held-preserved
loop-held-preserved g c = record {
  same = same_more (λ h. h.promise) _ _ _ _ c.push_reserved.ensures.items c.in-Ok.ensures.ok (λ p. p.given.value) (λ s. s.seat) _ _ _ _
      c.loop-held.invariant.same c.in-Some.ensures.steps.0 c.of.ensures;
  asked = asked_more (λ h. h.promise) _ _ _ _ c.push_reserved.ensures.items c.in-Ok.ensures.ok (λ p. p.gate.value) (λ p. p.turns) _ _
      c.loop-held.invariant.asked c.of-in-loop-held.ensures refl;
  room = omega (arith, c.in-Some.ensures.steps.1);
  few = omega (arith, c.in-Some.ensures.steps.1);
}
