-- One of the states that may follow says what is so of queues with tags: after an access that is of none of them, or with one share changed.
use Rattle.std.proofs.Common.{ℕ, ◌+◌, ◌<◌, ◌≤◌, ◌≡◌, ◌≢◌, ◌⊎◌, inl, inr, true, Some, List, [], ◌∷◌, length, get_or, refl, sym, ◌∙◌, ap, subst, arith}
use Rattle.std.specs.Prelude.{set}
use Rattle.std.proofs.lemmas.Bool.{cases_eq, cases_lt}
use Rattle.std.proofs.lemmas.List.{get_or-set_same, get_or-set_other, set_past}
use Rattle.hart.specs.State.{HartState}
use Rattle.step_machine.specs.Access.{Access, load}
use Rattle.slot_queue.specs.Queues.{Queue}
use Rattle.queue_parties.specs.Parties.{Party}
use Rattle.slots_that_tell.specs.Telling.{teller_hart, told_access}
use Rattle.queue_certificates.specs.{OwnWord, View, AllCounts, Share, no_share, KnownState, HasShare, MeansAt, party_in, is_tagged, HasAtLeast, with_share}
use Rattle.queue_certificates.specs.{AreTold}
use Rattle.queue_layouts.specs.Tagged.{slots_of}
use Rattle.queue_layouts.specs.declared.tagged.TaggedQueue.{TaggedQueue}
use Rattle.queue_certificates.proofs.Steps.{IsAmong}
use Rattle.queue_certificates.proofs.TagCounts.{load-kept}
use Rattle.queue_certificates.proofs.TagShares.{IsSameShare, same-least, tagged-fine, teller-is}
use Rattle.queue_certificates.proofs.TagKept.{Keeps, AllKeep}

module _ (tagged : ℕ → TaggedQueue) (T : ℕ) (queues : ℕ → Queue) (N : ℕ) (own_of : ℕ → List OwnWord) (H h : ℕ) where
  -- one of these states says what is so, of both kinds of queues, over one variable more
  abbrev pub IsAmongTold : List ℕ → List KnownState → HartState → View → (cs us : AllCounts) → Type 0
  IsAmongTold xs [] s m cs us = ⊥
  IsAmongTold xs (k ∷ ks) s m cs us = ((x : ℕ) × MeansAt queues N (own_of h) h (x ∷ xs) k s m cs × AreTold tagged T N h (x ∷ xs) k us)
      ⊎ IsAmongTold xs ks s m cs us

  -- what an access makes of the counts of queues with tags
  abbrev pub told_by : Access → AllCounts → AllCounts
  told_by y us = λ t. told_access (slots_of (tagged t)) (party_in (tagged t) h) y (us t)

-- ---- shares after an access

module _ (tagged : ℕ → TaggedQueue) (T : ℕ) (queues : ℕ → Queue) (N : ℕ) (own_of : ℕ → List OwnWord) (H h : ℕ) (xs : List ℕ) (k : KnownState) where
  -- at these counts all that says the same of queue t is right
  abbrev pub Stays : AllCounts → (t : ℕ) → Type 0
  Stays us t = (p : Party) → h ≡ teller_hart (slots_of (tagged t)) p → (x : ℕ) (s : Share)
      → IsSameShare xs (x ∷ xs) (get_or k.shares (N + t) no_share) s → HasAtLeast (tagged t) p (us t) (x ∷ xs) s

  pub among-kept : (ks : List KnownState) (z : HartState) (m : View) (cs us : AllCounts) → ((t : ℕ) → t < T → Stays us t) → AllKeep N k ks
      → IsAmong queues N own_of h xs ks z m cs → IsAmongTold tagged T queues N own_of H h xs ks z m cs us
  among-kept [] z m cs us stays keeps w = absurd w
  among-kept (j ∷ ks) z m cs us stays keeps (inr w) = inr (among-kept ks z m cs us stays keeps.1 w)
  among-kept (j ∷ ks) z m cs us stays keeps (inl w) = inl (
    w.0,
    w.1,
    λ t less p at. stays t less p at w.0 (get_or j.shares (N + t) no_share) (keeps.0.same (N + t) (omega arith) w.0 xs),
  )

  pub among-same : (ks : List KnownState) (z : HartState) (m : View) (cs us vs : AllCounts) → ((t : ℕ) → us t ≡ vs t)
      → IsAmongTold tagged T queues N own_of H h xs ks z m cs us → IsAmongTold tagged T queues N own_of H h xs ks z m cs vs
  among-same [] z m cs us vs same w = absurd w
  among-same (j ∷ ks) z m cs us vs same (inr w) = inr (among-same ks z m cs us vs same w)
  among-same (j ∷ ks) z m cs us vs same (inl w) = inl (
    w.0,
    w.1,
    λ t less p at. subst (λ c. HasAtLeast (tagged t) p c (w.0 ∷ xs) (get_or j.shares (N + t) no_share)) (same t) (w.2 t less p at),
  )

  -- with the share of queue t changed
  pub set-means : (t : ℕ) (u : Share) (j : KnownState) (ys : List ℕ) (z : HartState) (m : View) (cs : AllCounts) → MeansAt queues N (own_of h) h ys j z m cs
      → MeansAt queues N (own_of h) h ys (with_share (N + t) u j) z m cs
  set-means t u j ys z m cs means = record {
    ranges = means.ranges;
    pc = means.pc;
    registers = means.registers;
    words = means.words;
    shares = λ i less p at. subst (HasShare (queues i) p (cs i) ys)
        (sym (get_or-set_other j.shares (N + t) i u no_share (λ same. omega (arith, same, less)))) (means.shares i less p at);
  }

  pub set-told : (t : ℕ) (u : Share) (j : KnownState) (x : ℕ) (us : AllCounts) → Keeps N k j → ((i : ℕ) → i < T → i ≢ t → Stays us i)
      → (length k.shares ≤ N + t → Stays us t)
      → ((p : Party) → h ≡ teller_hart (slots_of (tagged t)) p → HasAtLeast (tagged t) p (us t) (x ∷ xs) u)
      → AreTold tagged T N h (x ∷ xs) (with_share (N + t) u j) us
  set-told t u j x us keeps others unlisted here i less = by (cases_eq i t)
    where
      kept : (i : ℕ) → Stays us i → (ss : List Share) → get_or ss (N + i) no_share ≡ get_or j.shares (N + i) no_share → (p : Party)
          → h ≡ teller_hart (slots_of (tagged i)) p → HasAtLeast (tagged i) p (us i) (x ∷ xs) (get_or ss (N + i) no_share)
      kept i stays ss same p at = subst (HasAtLeast (tagged i) p (us i) (x ∷ xs)) (sym same)
          (stays p at x (get_or j.shares (N + i) no_share) (keeps.same (N + i) (omega arith) x xs))

      listed : (N + t < length j.shares) ⊎ (length j.shares ≤ N + t) → (p : Party) → h ≡ teller_hart (slots_of (tagged t)) p
          → HasAtLeast (tagged t) p (us t) (x ∷ xs) (get_or (set j.shares (N + t) u) (N + t) no_share)
      listed (inl short) p at = subst (HasAtLeast (tagged t) p (us t) (x ∷ xs)) (sym (get_or-set_same j.shares (N + t) u no_share short)) (here p at)
      listed (inr past) p at = kept t (unlisted (omega (arith, past, keeps.long))) (set j.shares (N + t) u)
          (ap (λ ss. get_or ss (N + t) no_share) (set_past j.shares (N + t) u past)) p at

      by : (i ≡ t) ⊎ (i ≢ t) → (p : Party) → h ≡ teller_hart (slots_of (tagged i)) p
          → HasAtLeast (tagged i) p (us i) (x ∷ xs) (get_or (set j.shares (N + t) u) (N + i) no_share)
      by (inl same) = subst (λ i. (p : Party) → h ≡ teller_hart (slots_of (tagged i)) p
          → HasAtLeast (tagged i) p (us i) (x ∷ xs) (get_or (set j.shares (N + t) u) (N + i) no_share)) (sym same)
          (listed (cases_lt (N + t) (length j.shares)))
      by (inr far) = kept i (others i less far) (set j.shares (N + t) u)
          (get_or-set_other j.shares (N + t) (N + i) u no_share (λ same. far (omega (arith, same))))

  module _ (us : AllCounts) (are : (t : ℕ) → t < T → is_tagged (tagged t) ≡ true) (told : AreTold tagged T N h xs k us) where
    -- where an access leaves the counts,
    pub same-stays : (y : Access) (t : ℕ) → t < T → ((p : Party) → h ≡ teller_hart (slots_of (tagged t)) p
        → told_access (slots_of (tagged t)) (Some p) y (us t) ≡ us t) → Stays (told_by tagged T queues N own_of H h y us) t
    same-stays y t less same p at x s says = subst (λ c. HasAtLeast (tagged t) p c (x ∷ xs) s)
        (sym (ap (λ o. told_access (slots_of (tagged t)) o y (us t)) (teller-is (slots_of (tagged t)) (tagged-fine (tagged t) (are t less)) h p at)
        ∙ same p at))
        (same-least (tagged t) p (us t) xs (x ∷ xs) (get_or k.shares (N + t) no_share) s says (told t less p at))

    -- and where it loads
    module _ (a width v : ℕ) where
      loaded : (t : ℕ) → t < T → (p : Party) → h ≡ teller_hart (slots_of (tagged t)) p → (ys : List ℕ) (s : Share)
          → IsSameShare xs ys (get_or k.shares (N + t) no_share) s
          → HasAtLeast (tagged t) p (told_by tagged T queues N own_of H h (load a width v) us t) ys s
      loaded t less p at ys s says = subst (λ o. HasAtLeast (tagged t) p (told_access (slots_of (tagged t)) o (load a width v) (us t)) ys s)
          (sym (teller-is (slots_of (tagged t)) (tagged-fine (tagged t) (are t less)) h p at))
          (load-kept (tagged t) (tagged-fine (tagged t) (are t less)) p (us t) xs ys (get_or k.shares (N + t) no_share) (told t less p at) a width v s says)

      pub load-stays : (t : ℕ) → t < T → Stays (told_by tagged T queues N own_of H h (load a width v) us) t
      load-stays t less p at x s says = loaded t less p at (x ∷ xs) s says

      pub load-told-all : AreTold tagged T N h xs k (told_by tagged T queues N own_of H h (load a width v) us)
      load-told-all t less p at = loaded t less p at xs (get_or k.shares (N + t) no_share) (record { own = refl; owned = refl })
