-- The leaf of a state's cases at which a hart is in that state: what is said of each leaf that may be is so there.
use Rattle.std.proofs.Common.{ℕ, ◌+◌, ◌≡◌, inl, inr, Bool, true, List, length, get_or}
use Rattle.std.proofs.lemmas.Bool.{and_parts, cases_lt}
use Rattle.hart.specs.State.{HartState}
use Rattle.queue_certificates.specs.{View, AllCounts, Form, KnownState, MeansAt, QueueCertificate, queue_at, tagged_at, own_of, SharesTold}
use Rattle.queue_certificates.specs.Cases.{Arrow, Cases, leaf, split, with_low, with_high, each_leaf}
use Rattle.queue_certificates.proofs.Forms.{less_at}
use Rattle.queue_certificates.proofs.States.{means-low, means-high, exceeds}
use Rattle.queue_certificates.proofs.TagShares.{told-low, told-high}
use Rattle.queue_certificates.proofs.Accepted.{otherwise}

module _ (c : QueueCertificate) (h : ℕ) (s : HartState) (m : View) (cs : AllCounts) where
  -- of state k, with these numbers for its variables
  pub record AtLeaf (xs : List ℕ) (k : KnownState) (t : Cases) : Type 0 where
    pub known : KnownState
    pub handed : Form
    pub arrows : List Arrow
    pub numbers : List ℕ
    pub means : MeansAt (queue_at c) (length c.queues) (own_of c h) h numbers known s m cs
    pub told : (us : AllCounts) → SharesTold c h xs k us → SharesTold c h numbers known us
    pub passes : (f : KnownState → Form → List Arrow → Bool) → each_leaf f k t ≡ true → f known handed arrows ≡ true

  pub at-leaf : (xs : List ℕ) (k : KnownState) (t : Cases) → MeansAt (queue_at c) (length c.queues) (own_of c h) h xs k s m cs → AtLeaf xs k t
  at-leaf xs k (leaf d arrows) means = record {
    known = k;
    handed = d;
    arrows = arrows;
    numbers = xs;
    means = means;
    told = λ us is. is;
    passes = λ f ok. ok;
  }
  at-leaf xs k (split j v low high) means = elim (cases_lt v (get_or xs j 0)) [
    | inr under ↦ (let at = at-leaf xs (with_low k j v) low (means-low (queue_at c) (length c.queues) (own_of c h) h xs k s m cs j v means under) in
        record {
          known = at.known;
          handed = at.handed;
          arrows = at.arrows;
          numbers = at.numbers;
          means = at.means;
          told = λ us is. at.told us
              (told-low (tagged_at c) (length c.tagged) (queue_at c) (length c.queues) (own_of c) (length c.harts) h xs k us j v means.ranges under is);
          passes = λ f ok. at.passes f (and_parts _ _ ok).0;
        })
    | inl over ↦ (let at = at-leaf (less_at j (v + 1) xs) (with_high k j v) high
        (means-high (queue_at c) (length c.queues) (own_of c h) h xs k s m cs j v means over) in
        record {
          known = at.known;
          handed = at.handed;
          arrows = at.arrows;
          numbers = at.numbers;
          means = at.means;
          told = λ us is. at.told us
              (told-high (tagged_at c) (length c.tagged) (queue_at c) (length c.queues) (own_of c) (length c.harts) h xs k us j v means.ranges over is);
          passes = λ f ok. at.passes f
              (otherwise _ _ (exceeds (queue_at c) (length c.queues) (own_of c h) h k.ranges xs j v means.ranges over) (and_parts _ _ ok).1);
        })
  ]
