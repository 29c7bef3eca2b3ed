-- What is found of a party, or of a hart, is so: its ranks fall, and none comes to these numbers.
use Rattle.std.proofs.Common.{ℕ, ◌≡◌, ◌&&◌, if◌then◌else◌, Bool, true, false, Option, None, Some, List, length, refl, subst, ◌+◌}
use Rattle.std.specs.Prelude.{nat_lt}
use Rattle.step_machine.specs.History.{OpeningValue}
use Rattle.queue_certificates.specs.Forms.{Form}
use Rattle.queue_certificates.specs.States.{KnownState}
use Rattle.queue_certificates.specs.{QueueCertificate, queue_at}
use Rattle.queue_progress.specs.declared.pace.Progress.TheVariants.{GoesOn}
use Rattle.queue_progress.specs.declared.pace.Progress.TheVariants as found
use Rattle.queue_progress.specs.declared.pace.ToldProgress.TheVariants.{Within, Endless, Unranked}
use Rattle.queue_progress.specs.{Pace, Placed, ToldProgress, code_of, moves, may_learn, are_ranks, bound_of, first_level, never_cut, not_blind, not_idle}
use Rattle.queue_progress.specs.{blind_ranks, goal_of, hart_keeps_going, hart_pace_by, hart_pace_of, idle_ranks, is_few, keeps_going, pace_owning}
use Rattle.queue_progress.specs.{progress_of, progress_owning, progress_with, row_by, row_bound, told_by, told_progress_of, told_ranks, told_within}

module _ (o : OpeningValue) (c : QueueCertificate) (h : ℕ) where
  row-shown : (other cut : KnownState → Form → Bool) (ranks : List Form) (N : ℕ) → row_bound o c h other cut ranks ≡ Within N
      → are_ranks o c h other cut ranks N ≡ true
  row-shown other cut ranks N is = by (are_ranks o c h other cut ranks (bound_of c h ranks)) refl is
    where
      by : (shown : Bool) → are_ranks o c h other cut ranks (bound_of c h ranks) ≡ shown
          → row_by shown (bound_of c h ranks) (first_level o c h other cut ranks) ≡ Within N → are_ranks o c h other cut ranks N ≡ true
      by true all is = let same : bound_of c h ranks ≡ N = cc in subst (λ n. are_ranks o c h other cut ranks n ≡ true) same all
      by false all is = absurd (cc)

  with-shown : (i K : ℕ) (g : Pace) (pace sight : ToldProgress)
      → ((N : ℕ) → pace ≡ Within N → are_ranks o c h (not_idle o c h i K) never_cut (idle_ranks c h i) N ≡ true)
      → ((N : ℕ) → sight ≡ Within N → are_ranks o c h (not_blind o c h i) never_cut (blind_ranks c h i) N ≡ true)
      → progress_with K pace sight ≡ GoesOn g → keeps_going o c h i g ≡ true
  with-shown i K g (Within N) (Within L) paces sees is =
      let same : record { owned = K; pace = N; sight = L } ≡ g = cc in
      subst (λ (x : Pace). keeps_going o c h i x ≡ true) same (rw (paces N refl, sees L refl) refl)
  with-shown i K g (Within N) (Endless n) paces sees is = absurd (cc)
  with-shown i K g (Within N) Unranked paces sees is = absurd (cc)
  with-shown i K g (Endless n) sight paces sees is = absurd (cc)
  with-shown i K g Unranked sight paces sees is = absurd (cc)

  pub shown : (i : ℕ) (g : Pace) → progress_of o c h i ≡ GoesOn g → keeps_going o c h i g ≡ true
  shown i g is = by (goal_of c h (Some i)) is
    where
      when : (p : Placed) (few : Bool) → (if few then progress_with p.owned (row_bound o c h (not_idle o c h i p.owned) never_cut (idle_ranks c h i))
          (row_bound o c h (not_blind o c h i) never_cut (blind_ranks c h i)) else found.Unranked) ≡ GoesOn g → keeps_going o c h i g ≡ true
      when p true is = with-shown i p.owned g (row_bound o c h (not_idle o c h i p.owned) never_cut (idle_ranks c h i))
          (row_bound o c h (not_blind o c h i) never_cut (blind_ranks c h i)) (row-shown (not_idle o c h i p.owned) never_cut (idle_ranks c h i))
          (row-shown (not_blind o c h i) never_cut (blind_ranks c h i)) is
      when p false is = absurd (cc)

      by : (owned : Option Placed) → progress_owning o c h i owned ≡ GoesOn g → keeps_going o c h i g ≡ true
      by None is = absurd (cc)
      by (Some p) is = when p (nat_lt p.owned (queue_at c i).capacity) is

  pub told_shown : (t N : ℕ) → told_progress_of o c h t ≡ Within N → told_within o c h t N ≡ true
  told_shown t N is = by (goal_of c h (Some (length c.queues + t))) is
    where
      by : (owned : Option Placed) → told_by o c h t owned ≡ Within N → told_within o c h t N ≡ true
      by None is = absurd (cc)
      by (Some p) is =
          row-shown (moves c h (code_of o h) (length c.queues + t)) (may_learn c h (code_of o h) (length c.queues + t)) (told_ranks c h t) N is

  pub hart_shown : (g : Pace) → hart_pace_of o c h ≡ Some g → hart_keeps_going o c h g ≡ true
  hart_shown g is = by (goal_of c h None) is
    where
      when : (K : ℕ) (few goes : Bool) → hart_keeps_going o c h (pace_owning c h K) ≡ goes
          → (if few && goes then Some (pace_owning c h K) else None) ≡ Some g → hart_keeps_going o c h g ≡ true
      when K true true all is = let same : pace_owning c h K ≡ g = cc in subst (λ (x : Pace). hart_keeps_going o c h x ≡ true) same all
      when K true false all is = absurd (cc)
      when K false goes all is = absurd (cc)

      by : (owned : Option Placed) → hart_pace_by o c h owned ≡ Some g → hart_keeps_going o c h g ≡ true
      by None is = absurd (cc)
      by (Some p) is = when p.owned (is_few c h p.owned) (hart_keeps_going o c h (pace_owning c h p.owned)) refl is
