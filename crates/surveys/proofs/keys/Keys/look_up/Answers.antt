use Rattle.std.proofs.Common.{◌≡◌, ◌++◌, ◌∙◌, Bool, true, not, eqb, IsTrue, ℕ, inl, inr, List, [], ◌∷◌, length, refl, sym, ap, subst, arith, append-nil}
use Rattle.std.proofs.Common.{append_assoc}
use Rattle.std.specs.List.{AllZip, Contains}
use Rattle.std.proofs.lemmas.Bool.{false≢true}
use Rattle.surveys.specs.declared.keys.Draft.{Draft}
use Rattle.surveys.proofs.KeyLaws.{contains_there}
use Rattle.surveys.proofs.PartRows.{zipped_more, zipped_none}
use Rattle.surveys.proofs.keys.Keys.look_up.Goals as goal
use Rattle.surveys.proofs.keys.Keys.look_up.Goals.{then-slot-ne0, else-slot-ne0}

-- what is answered of a draft
abbrev IsSaid : (N : ℕ) → (keys : List (List ℕ)) → Draft N → Bool → Type 0
IsSaid N keys draft is_known = IsTrue is_known → Contains keys draft.key

not_zero : (slot : ℕ) → not (eqb slot 0) ≡ true → slot ≡ 0 → ⊥
not_zero slot tested is = false≢true (subst (λ (n : ℕ). not (eqb n 0) ≡ true) is tested)

pub loop-draft-2-preserved : goal.loop-draft-2-preserved
loop-draft-2-preserved g c =
    let steps = c.in-Some.ensures.steps in
    let said = IsSaid g.row.N c.args.self.now in
    let first : said c.in-Some.draft.now c.if-slot-ne0.push = elim c.if-slot-ne0.branch [
      | then-slot-ne0 w ↦ λ yes. contains_there c.args.self.now _ c.in-Some.draft.now.key (w.is_at.ensures.0 (sym w.push-is ∙ yes))
      | else-slot-ne0 w ↦ λ yes. absurd (not_zero c.in-Some.slot.now (sym w.push-is ∙ yes) w.if-slot-ne0.false)
    ] in
    record {
      count = omega (arith, c.loop-draft-2.invariant.count, ap length steps.0, ap length steps.1);
      known = λ rest all.
          let pushed : c.push-in-loop-draft-2.new.self.items ++ rest ≡ c.loop-draft-2.known.items ++ (c.if-slot-ne0.push ∷ rest) =
          ap (λ (ks : List Bool). ks ++ rest) c.in_ok-push-2.ensures.items ∙ append_assoc c.loop-draft-2.known.items (c.if-slot-ne0.push ∷ []) rest in
          subst (AllZip said c.args.drafts.now) (sym pushed) (c.loop-draft-2.invariant.known (c.if-slot-ne0.push ∷ rest)
          ((zipped_more said c.loop-draft-2.draft-iterator.a.rest.now c.next.new.self.a.rest.now (c.if-slot-ne0.push ∷ rest) rest
          c.in-Some.draft.now c.if-slot-ne0.push steps.0 refl).1 (first, all)));
    }

pub returns : goal.returns
returns g c =
    let said = IsSaid g.row.N c.args.self.now in
    let ended : length c.loop-draft-2.draft-iterator.a.rest.now ≡ 0 = elim c.in-None.ensures.steps [
      | inl a ↦ a.1.0
      | inr b ↦ c.loop-draft-2.invariant.count ∙ b.1.0
    ] in
    subst (AllZip said c.args.drafts.now) (append-nil c.loop-draft-2.known.items)
    (c.loop-draft-2.invariant.known [] (zipped_none said c.loop-draft-2.draft-iterator.a.rest.now [] ended (inl ended)))
