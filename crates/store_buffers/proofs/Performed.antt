-- What has reached memory, of any program: the first n stores of a hart of which n have landed, and it stays there.
use Rattle.std.proofs.Common.{ℕ, ◌+◌, ◌<◌, ◌≤◌, ◌≡◌, ◌≢◌, ◌==◌, ◌⊎◌, inl, inr, Bool, true, false, List, [], ◌∷◌, ◌++◌, refl, sym, ◌∙◌, ap, subst, arith}
use Rattle.std.proofs.Common.{append-nil, append_assoc, Some}
use Rattle.std.specs.Prelude.{option_to_list}
use Rattle.std.specs.List.{slice_get}
use Rattle.std.proofs.lemmas.Bool.{cases_eq, eqb-true}
use Rattle.memory.specs.declared.writes.Write.{Write}
use Rattle.step_machine.specs.declared.events.Entry.{Entry}
use Rattle.step_machine.specs.Names.{OpeningValue, history_of, Access, land, access_of, hart_of, landed_by, written_by, land_of, own_stores, lands}
use Rattle.step_machine.specs.Names.{landed_after, write_by_count, landed_by_count_after, Legal}
use Rattle.step_machine.proofs.{lands-append, landed_after-append, landed-counted}
use Rattle.store_buffers.specs.StoreBuffers.{IsGloballyPerformed}

reached_after : (whole : List Entry) (h n : ℕ) (w : Write) (before es : List Entry) → slice_get (own_stores h whole) n ≡ Some w
    → lands h before ≤ n → n < lands h (before ++ es) → (xs : List Write) × (ys : List Write) × (landed_by_count_after whole before es ≡ xs ++ w ∷ ys)
reached_after whole h n w before [] is from below =
    absurd (let none : lands h (before ++ []) ≡ lands h before = ap (lands h) (append-nil before) in omega arith)
reached_after whole h n w before (e ∷ es) is from below =
    at (access_of e) refl (hart_of e == h) refl (cases_eq (lands h before) n)
    (λ on. reached_after whole h n w (before ++ e ∷ []) es is on (subst (λ xs. n < lands h xs) (sym (append_assoc before (e ∷ []) es)) below))
  where
    Found : Type 0
    Found = (xs : List Write) × (ys : List Write) × (landed_by_count_after whole before (e ∷ es) ≡ xs ++ w ∷ ys)

    Later : Type 0
    Later = (xs : List Write) × (ys : List Write) × (landed_by_count_after whole (before ++ e ∷ []) es ≡ xs ++ w ∷ ys)

    more : Later → Found
    more l = (
      write_by_count whole before e ++ l.0,
      l.1,
      ap (λ ws. write_by_count whole before e ++ ws) l.2 ∙ sym (append_assoc (write_by_count whole before e) l.0 (w ∷ l.1)),
    )

    one : lands h (before ++ e ∷ []) ≡ lands h before + land_of h e
    one = lands-append h before (e ∷ []) ∙ (let same : land_of h e + 0 ≡ land_of h e = omega arith in ap (λ m. lands h before + m) same)

    passed : (x : Access) → access_of e ≡ x → (b : Bool) → (hart_of e == h) ≡ b → landed_by b x ≡ 0 → lands h (before ++ e ∷ []) ≤ n
    passed x does b mine none =
        let still : land_of h e ≡ 0 = ap (landed_by (hart_of e == h)) does ∙ ap (λ c. landed_by c x) mine ∙ none in omega (arith, one)

    at : (x : Access) → access_of e ≡ x → (b : Bool) → (hart_of e == h) ≡ b → (lands h before ≡ n) ⊎ (lands h before ≢ n)
        → (lands h (before ++ e ∷ []) ≤ n → Later) → Found
    at land does false mine c on = more (on (passed land does false mine refl))
    at land does true mine (inr other) on =
        let once : land_of h e ≡ 1 = ap (landed_by (hart_of e == h)) does ∙ ap (λ c. landed_by c land) mine in
        more (on (omega (arith, one, other)))
    at land does true mine (inl here) on =
        let hart : hart_of e ≡ h = eqb-true (hart_of e) h mine in
        let written : write_by_count whole before e ≡ w ∷ [] =
        ap (written_by (option_to_list (slice_get (own_stores (hart_of e) whole) (lands (hart_of e) before)))) does
        ∙ ap (λ g. option_to_list (slice_get (own_stores g whole) (lands g before))) hart
        ∙ ap (λ k. option_to_list (slice_get (own_stores h whole) k)) here ∙ ap option_to_list is in
        ([], landed_by_count_after whole (before ++ e ∷ []) es, ap (λ ws. ws ++ landed_by_count_after whole (before ++ e ∷ []) es) written)
    at x does b mine c on = more (on (passed x does b mine refl))

pub reached : (B : ℕ) (o : OpeningValue) (es : List Entry) (h n : ℕ) (w : Write) → Legal B (history_of o es)
    → slice_get (own_stores h es) n ≡ Some w → n < lands h es → IsGloballyPerformed es w
reached B o es h n w legal is below =
    let found = reached_after es h n w [] es is (omega arith) below in
    record { earlier = found.0; later = found.1; is = landed-counted B (history_of o es) legal ∙ found.2 }

-- and what has reached memory has at every later moment
pub reached_later : (es fs : List Entry) (w : Write) → IsGloballyPerformed es w → IsGloballyPerformed (es ++ fs) w
reached_later es fs w h = record {
  earlier = h.earlier;
  later = h.later ++ landed_after es fs;
  is = landed_after-append [] es fs ∙ ap (λ ws. ws ++ landed_after es fs) h.is ∙ append_assoc h.earlier (w ∷ h.later) (landed_after es fs);
}
