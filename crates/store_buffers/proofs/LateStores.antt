-- Where a pending store came from: what holds of each store that a hart made late enough holds of all that are pending.
use Rattle.std.proofs.Common.{ℕ, ◌+◌, ◌<◌, ◌≤◌, ◌≡◌, ◌==◌, ◌⊎◌, inl, inr, if◌then◌else◌, List, [], ◌∷◌, ◌++◌, length, drop, refl, sym, ◌∙◌, ap, subst, arith}
use Rattle.std.proofs.Common.{append-nil, append_assoc, length-append}
use Rattle.std.specs.Prelude.{All}
use Rattle.std.proofs.lemmas.Bool.{cases_eq, cases_lt, eq-eqb, ne_eqb}
use Rattle.std.proofs.lemmas.List.{drop-append-le, drop_all}
use Rattle.std.proofs.lemmas.List.Elements.{All-nil, All-cons, All-append}
use Rattle.memory.specs.declared.writes.Write.{Write}
use Rattle.step_machine.specs.declared.events.Entry.{Entry}
use Rattle.step_machine.specs.Names.{Access, nothing, load, store, exchange, fence, land, access_of, hart_of, stored_by, own_store, own_stores}
use Rattle.step_machine.proofs.Appended.{stores-append}
use Rattle.store_buffers.specs.StoreBuffers.{LeavesByteBy, LeavesByteAt, AllLeaveByte}

pub stores-cases : (g : ℕ) (e : Entry) → (own_store g e ≡ []) ⊎ ((w : Write) × (own_store g e ≡ w ∷ []) × (hart_of e ≡ g) × (access_of e ≡ store w))
stores-cases g e = by (access_of e) refl
  where
    Cases : Access → Type 0
    Cases x = (stored_by (hart_of e == g) x ≡ []) ⊎ ((w : Write) × (stored_by (hart_of e == g) x ≡ w ∷ []) × (hart_of e ≡ g) × (x ≡ store w))

    by : (x : Access) → access_of e ≡ x → (own_store g e ≡ []) ⊎ ((w : Write) × (own_store g e ≡ w ∷ []) × (hart_of e ≡ g) × (access_of e ≡ store w))
    by (store w) does = elim (cases_eq (hart_of e) g) [
      | inl same ↦ inr (w, ap (stored_by (hart_of e == g)) does ∙ ap (λ b. if b then w ∷ [] else []) (eq-eqb (hart_of e) g same), same, does)
      | inr apart ↦ inl (ap (stored_by (hart_of e == g)) does ∙ ap (λ b. if b then w ∷ [] else []) (ne_eqb (hart_of e) g apart))
    ]
    by other does = inl (ap (stored_by (hart_of e == g)) does)

module _ (P : Write → Type 0) (g l : ℕ) where
  -- each that isn't among the first l of the hart's stores
  pub late-stores : (before es : List Entry)
      → ((es1 : List Entry) (e : Entry) (es2 : List Entry) (w : Write) → es ≡ es1 ++ e ∷ es2 → hart_of e ≡ g → access_of e ≡ store w
      → l < length (own_stores g (before ++ (es1 ++ e ∷ []))) → P w)
      → All P (drop l (own_stores g before)) → All P (drop l (own_stores g (before ++ es)))
  late-stores before [] here all = subst (λ xs. All P (drop l (own_stores g xs))) (sym (append-nil before)) all
  late-stores before (e ∷ es) here all =
      subst (λ xs. All P (drop l (own_stores g xs))) (append_assoc before (e ∷ []) es)
      (late-stores (before ++ e ∷ []) es
      (λ es1 e1 es2 w is mine does late. here (e ∷ es1) e1 es2 w (ap (λ xs. e ∷ xs) is) mine does
      (subst (λ xs. l < length (own_stores g xs)) (append_assoc before (e ∷ []) (es1 ++ e1 ∷ [])) late))
      (subst (λ ws. All P (drop l ws)) (sym
      (stores-append g before (e ∷ []) ∙ ap (λ ws. own_stores g before ++ ws) (append-nil (own_store g e))))
      (by (stores-cases g e))))
    where
      by : (own_store g e ≡ [])
          ⊎ ((w : Write) × (own_store g e ≡ w ∷ []) × (hart_of e ≡ g) × (access_of e ≡ store w))
          → All P (drop l (own_stores g before ++ own_store g e))
      by (inl none) = subst (λ ws. All P (drop l ws)) (sym (ap (λ ws. own_stores g before ++ ws) none ∙ append-nil (own_stores g before))) all
      by (inr one) = subst (λ ws. All P (drop l (own_stores g before ++ ws))) (sym one.1) (at (cases_lt (length (own_stores g before)) l))
        where
          made : own_stores g (before ++ ([] ++ e ∷ [])) ≡ own_stores g before ++ one.0 ∷ []
          made = stores-append g before (e ∷ []) ∙ ap (λ ws. own_stores g before ++ ws) (append-nil (own_store g e) ∙ one.1)

          at : (length (own_stores g before) < l) ⊎ (l ≤ length (own_stores g before)) → All P (drop l (own_stores g before ++ one.0 ∷ []))
          at (inr le) = subst (All P) (sym (drop-append-le l (own_stores g before) (one.0 ∷ []) le))
              (All-append P (drop l (own_stores g before)) (one.0 ∷ []) all (All-cons P one.0 []
              (here [] e es one.0 refl one.2 one.3
              (let long : length (own_stores g (before ++ ([] ++ e ∷ []))) ≡ length (own_stores g before) + 1 =
              ap length made ∙ length-append (own_stores g before) (one.0 ∷ []) in
              omega (arith, long, le))) (All-nil P)))
          at (inl less) = subst (All P) (sym (drop_all l (own_stores g before ++ one.0 ∷ [])
              (let long : length (own_stores g before ++ one.0 ∷ []) ≡ length (own_stores g before) + 1 = length-append (own_stores g before) (one.0 ∷ []) in
              omega (arith, long, less)))) (All-nil P)

-- all entries leave a byte if each does
pub all-by-parts : (x : ℕ) (es : List Entry)
    → ((es1 : List Entry) (e : Entry) (es2 : List Entry) → es ≡ es1 ++ e ∷ es2 → LeavesByteBy x (access_of e))
    → AllLeaveByte x es
all-by-parts x [] parts = tt
all-by-parts x (e ∷ es) parts = (parts [] e es refl, all-by-parts x es (λ es1 e1 es2 is. parts (e ∷ es1) e1 es2 (ap (λ xs. e ∷ xs) is)))

-- and so of one hart's
pub at-by-parts : (h x : ℕ) (es : List Entry)
    → ((es1 : List Entry) (e : Entry) (es2 : List Entry) → es ≡ es1 ++ e ∷ es2 → hart_of e ≡ h → LeavesByteBy x (access_of e)) → LeavesByteAt h x es
at-by-parts h x [] parts = tt
at-by-parts h x (e ∷ es) parts = (parts [] e es refl, at-by-parts h x es (λ es1 e1 es2 is. parts (e ∷ es1) e1 es2 (ap (λ xs. e ∷ xs) is)))

pub leaves-at : (h x : ℕ) (es1 : List Entry) (e : Entry) (es2 : List Entry) → LeavesByteAt h x (es1 ++ e ∷ es2) → hart_of e ≡ h → LeavesByteBy x (access_of e)
leaves-at h x [] e es2 all own = all.0 own
leaves-at h x (d ∷ es1) e es2 all own = leaves-at h x es1 e es2 all.1 own

pub leaves-part : (h x : ℕ) (es fs gs : List Entry) → LeavesByteAt h x (es ++ (fs ++ gs)) → LeavesByteAt h x fs
leaves-part h x [] [] gs all = tt
leaves-part h x [] (e ∷ fs) gs all = (all.0, leaves-part h x [] fs gs all.1)
leaves-part h x (e ∷ es) fs gs all = leaves-part h x es fs gs all.1

pub at-end : (h x : ℕ) (es : List Entry) (e : Entry) → LeavesByteAt h x es → (hart_of e ≡ h → LeavesByteBy x (access_of e)) → LeavesByteAt h x (es ++ e ∷ [])
at-end h x [] e all last = (last, tt)
at-end h x (d ∷ es) e all last = (all.0, at-end h x es e all.1 last)
