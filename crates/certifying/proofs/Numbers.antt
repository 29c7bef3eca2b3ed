-- The numbers of queues, of either kind, and lines by such numbers.
use Rattle.std.proofs.Common.{arith, ℕ, zero, suc, ◌≡◌, ◌+◌, ◌-◌, ◌<◌, ◌≤◌, Bool, true, false, List, [], ◌∷◌, ◌++◌, length, drop, refl, sym, ap, subst, ◌∙◌}
use Rattle.std.specs.Prelude.{nat_lt, Option, None, Some, if◌then◌else◌}
use Rattle.std.proofs.lemmas.Bool.{ltb-false, ltb-true}
use Rattle.queue_certificates.specs.Certificates.{QueueCertificate}
use Rattle.engine_support.specs.OpeningTexts.{numbered}
use Rattle.certifying.specs.Queues.{queue_count, tagged_number}

numbered_below : (i n : ℕ) → i < n → (if nat_lt i n then None else Some (i - n)) ≡ None
numbered_below i n less = grind (arith, less)

numbered_from : (n t : ℕ) → (if nat_lt (n + t) n then None else Some (n + t - n)) ≡ Some t
numbered_from n t = grind arith

pub is_indexed : (c : QueueCertificate) (i : ℕ) → i < length c.queues → tagged_number c i ≡ None
is_indexed c i less = numbered_below i (length c.queues) less

pub is_tagged : (c : QueueCertificate) (t : ℕ) → tagged_number c (length c.queues + t) ≡ Some t
is_tagged c t = numbered_from (length c.queues) t

-- what holds of each queue with indices and of each with tags holds of each
pub of_either : (c : QueueCertificate) (P : (i : ℕ) → (t : Option ℕ) → Type 0) → ((i : ℕ) → i < length c.queues → P i None)
    → ((t : ℕ) → t < length c.tagged → P (length c.queues + t) (Some t)) → (i : ℕ) → i < queue_count c → P i (tagged_number c i)
of_either c P indexed tagged i less = at (nat_lt i (length c.queues)) refl
  where
    n : ℕ
    n = length c.queues

    at : (below : Bool) → nat_lt i n ≡ below → P i (if below then None else Some (i - n))
    at true is = indexed i (ltb-true i n is)
    at false is =
        let from : n ≤ i = ltb-false i n is in
        let there : n + (i - n) ≡ i = omega (arith, from) in
        subst (λ (j : ℕ). P j (Some (i - n))) there (tagged (i - n) (omega (arith, from, less)))

-- the lines from one element on
pub one-more : {A : Type 0} (text : ℕ → List ℕ) (n i : ℕ) (xs : List A) → i < length xs
    → numbered (λ t (x : A). text t) n (drop i xs) ≡ text n ++ numbered (λ t (x : A). text t) (n + 1) (drop (i + 1) xs)
one-more text n i [] less = absurd (omega (arith, less))
one-more text n zero (x ∷ xs) less = refl
one-more {A} text n (suc i) (x ∷ xs) less =
    let on : suc i + 1 ≡ suc (i + 1) = omega arith in
    one-more text n i xs (omega (arith, less)) ∙ ap (λ (m : ℕ). text n ++ numbered (λ t (x : A). text t) (n + 1) (drop m (x ∷ xs))) (sym on)
