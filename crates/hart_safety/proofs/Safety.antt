-- In every run a hart that goes on from each of its leaves isn't stopped, runs if it runs on from each, and touches its regions alone.
use Rattle.std.proofs.Common.{ℕ, ◌<◌, ◌≤◌, ◌≡◌, ◌⊎◌, inl, inr, Bool, true, false, None, Some, List, [], ◌∷◌, ◌++◌, length, refl, sym, ◌∙◌, subst}
use Rattle.std.specs.Prelude.{slice_set}
use Rattle.std.specs.List.{slice_get}
use Rattle.std.proofs.lemmas.Bool.{and_parts, eqb-true}
use Rattle.std.proofs.lemmas.Option.{get_or_from_slice_get}
use Rattle.hart.specs.{HartState, need_of, advanced}
use Rattle.hart.specs.declared.status.Stop.{Stop}
use Rattle.hart.specs.declared.status.Status.{Status}
use Rattle.hart.specs.declared.status.Status.TheVariants as status
use Rattle.step_machine.specs.declared.events.Entry.{Entry}
use Rattle.step_machine.specs.Names.{HartOpeningValue, OpeningValue, history_of, access_of, hart_of, is_land, WellFormed, number_read, opens_as, state_of}
use Rattle.step_machine.proofs.OwnRuns.{kept-front, state_there}
use Rattle.queue_certificates.specs.{View, AllCounts, ActsByCounts, IsCertifiedOfQueues, Form, KnownState, instruction_at, Arrow, each_leaf, QueueCertificate}
use Rattle.queue_certificates.specs.{queue_at, start_at, no_hart, HasFields, MeetsFields, IsOwnByte, IsAtState, IsInState, told_beside, accepts, part_of}
use Rattle.queue_certificates.specs.{state_at, next_states, all_lead, is_closed}
use Rattle.queue_certificates.proofs.{CertifiedSets, holds, next_is, every_state, at-below, nobody_told, nothing_sent, untold, OfHart, fine, of-hart}
use Rattle.queue_certificates.proofs.{accepted-certifies, sets}
use Rattle.queue_certificates.proofs.AtLeaf.{AtLeaf, at-leaf}
use Rattle.queue_checker.specs.Flaws.{hart_at, unless}
use Rattle.queue_checker.proofs.FlawLaws.{same-unless, same-below}
use Rattle.hart_safety.specs.Leaves.{first_failing}
use Rattle.hart_safety.specs.Stops.{goes_on_at, first_stop}
use Rattle.hart_safety.specs.Ends.{runs_on_at, first_end}
use Rattle.hart_safety.specs.Regions.{IsInNone}
use Rattle.hart_safety.specs.Touched.{SparesByte, nothing_touched, target_of, touched_at, touched_of}
use Rattle.hart_safety.proofs.AtLeaves.{reaches-leaf}
use Rattle.hart_safety.proofs.Going.{KeepsGoing, IsGoing, settled-going, next-going, runs-inside}
use Rattle.hart_safety.proofs.Stopping.{leaf-goes}
use Rattle.hart_safety.proofs.Following.{never-past, leaf-runs}
use Rattle.hart_safety.proofs.Sharing.{IsSpared, Spares, spared}
use Rattle.hart_safety.proofs.Touching.{landing, leaf-spares}

-- where no state fails, each of its leaves passes
each-passes : (f : KnownState → Form → List Arrow → Bool) (c : QueueCertificate) (h : ℕ) → first_failing f c h ≡ None → (n : ℕ)
    → n < length (part_of c h).states → each_leaf f (state_at c h n).known (state_at c h n).cases ≡ true
each-passes f c h none = at-below (length (part_of c h).states) (λ n. each_leaf f (state_at c h n).known (state_at c h n).cases)
    ((same-below (length (part_of c h).states) (λ n. each_leaf f (state_at c h n).known (state_at c h n).cases)
    (λ n. unless (each_leaf f (state_at c h n).known (state_at c h n).cases) n)
    (λ n. same-unless (each_leaf f (state_at c h n).known (state_at c h n).cases) n)).empty none)

module _ (B M : ℕ) (o : OpeningValue) (c : QueueCertificate) (ok : accepts o c ≡ true) where
  -- what is said of records that are sent, and of queues with tags, plays no part here
  in-state : (h : ℕ) (s : HartState) (m : View) (cs us : AllCounts) → IsAtState c h s m cs us → IsInState c h s m cs
  in-state h s m cs us in' runs = let w = in' runs in (w.0, w.1, (w.2.0, w.2.1))

  plain : (h : ℕ) (s : HartState) (m : View) (cs : AllCounts) (e : Entry)
      → ActsByCounts M o (length c.queues) (queue_at c) (HasFields c) (MeetsFields c) h s m cs e
      → ActsByCounts M o (length c.queues) (queue_at c) nobody_told nothing_sent h s m cs e
  plain h s m cs e = untold M o (length c.queues) (queue_at c) (HasFields c) (MeetsFields c) h s m cs e

  acts-code : (h : ℕ) (s : HartState) (m : View) (cs : AllCounts) (e : Entry)
      → ActsByCounts M o (length c.queues) (queue_at c) nobody_told nothing_sent h s m cs e → (hart_at o h).code ≡ s.code
  acts-code h s m cs e acts = sym (subst (λ x. s.code ≡ x.code) (sym (get_or_from_slice_get o.harts h acts.opens no_hart acts.is)) acts.code)

  acts-wide : (h : ℕ) (s : HartState) (m : View) (cs : AllCounts) (e : Entry)
      → ActsByCounts M o (length c.queues) (queue_at c) nobody_told nothing_sent h s m cs e → 32 ≤ length s.registers
  acts-wide h s m cs e acts = subst (λ n. 32 ≤ n) (sym acts.size) (of-hart M o c ok h acts.opens acts.is).registers

  -- ---- what is so of a hart as it opens, and after each instruction if it was so before, is so in every run

  module _ (h : ℕ) (P : HartState → Type 0) (opens : (x : HartOpeningValue) → slice_get o.harts h ≡ Some x → P (opens_as M x))
      (next : (s : HartState) (m : View) (cs : AllCounts) (e : Entry) → IsInState c h s m cs → P s
      → ActsByCounts M o (length c.queues) (queue_at c) nobody_told nothing_sent h s m cs e → P (advanced s (number_read e))) where
    abbrev IsSo : ℕ → HartState → View → (cs us : AllCounts) → Type 0
    IsSo g s m cs us = IsAtState c g s m cs us × (g ≡ h → P s)

    certified : IsCertifiedOfQueues M o (length c.queues) (queue_at c) (HasFields c) (MeetsFields c) (told_beside c) (start_at c) (IsOwnByte c) IsSo
    certified = let all = accepted-certifies M o c ok in record {
      frame = λ g s m n cs ds us vs so bytes same beside. (all.frame g s m n cs ds us vs so.0 bytes same beside, so.1);
      opens = λ g x is. (all.opens g x is, λ same. opens x (subst (λ i. slice_get o.harts i ≡ Some x) same is));
      steps = λ g s m cs us e so acts knows. (
        all.steps g s m cs us e so.0 acts knows,
        λ same. next s m cs e (subst (λ i. IsInState c i s m cs) same (in-state g s m cs us so.0)) (so.1 same)
            (subst (λ i. ActsByCounts M o (length c.queues) (queue_at c) nobody_told nothing_sent i s m cs e) same (plain g s m cs e acts)),
      );
      writes = λ g s m cs us e so. all.writes g s m cs us e so.0;
      keeps = λ g s m cs us e so. all.keeps g s m cs us e so.0;
      apart = λ g s m cs us e so. all.apart g s m cs us e so.0;
      record_frame = all.record_frame;
      publishes = λ g s m cs us e so. all.publishes g s m cs us e so.0;
      takes = λ g s m cs us e so. all.takes g s m cs us e so.0;
    }

    abbrev so_sets : CertifiedSets B M o
    so_sets = record (sets B M o c ok) { Among = IsSo; certified = certified }

    always : (es : List Entry) → WellFormed B M (history_of o es) → (s : HartState) → state_of M (history_of o es) h ≡ Some s → P s
    always es run s at = (every_state so_sets es run h s at).1 refl

  module _ (h : ℕ) where
    abbrev code : List ℕ
    code = (hart_at o h).code

    -- the leaf at which a hart acts
    module _ (s : HartState) (m : View) (cs : AllCounts) (e : Entry) (in' : IsInState c h s m cs)
        (acts : ActsByCounts M o (length c.queues) (queue_at c) nobody_told nothing_sent h s m cs e) where
      abbrev state : ℕ
      state = (in' acts.can.running).0

      at : AtLeaf c h s m cs (in' acts.can.running).2.0 (state_at c h state).known (state_at c h state).cases
      at = let w = in' acts.can.running in at-leaf c h s m cs w.2.0 (state_at c h w.0).known (state_at c h w.0).cases w.2.1

      same-code : code ≡ s.code
      same-code = acts-code h s m cs e acts

      -- ---- no hart is stopped

      keeps-going : first_stop M o c h ≡ None → IsGoing s → KeepsGoing (need_of s)
      keeps-going none = leaf-goes M o c h at.numbers at.known s m cs e acts (acts-wide h s m cs e acts) (fine M o c ok) at.means
          (subst (λ ws. goes_on_at M c ws at.known ≡ true) same-code (at.passes (λ k d arrows. goes_on_at M c code k)
          (each-passes (λ k d arrows. goes_on_at M c code k) c h none state (in' acts.can.running).1)))

      -- ---- and none ends

      keeps-running : first_end o c h ≡ None → KeepsGoing (need_of s) → (advanced s (number_read e)).status ≡ status.Running
      keeps-running none keeps = leaf-runs M o c h at.numbers at.known s m cs e acts (acts-wide h s m cs e acts) (fine M o c ok) at.means at.handed at.arrows
          keeps (subst (λ ws. runs_on_at c ws at.known ≡ true) same-code (at.passes (λ k d arrows. runs_on_at c code k)
          (each-passes (λ k d arrows. runs_on_at c code k) c h none state (in' acts.can.running).1)))
          (at.passes (λ k d arrows. all_lead c h (next_states c h s.code k d) arrows)
          (subst (λ ws. is_closed c h ws (state_at c h state).known (state_at c h state).cases ≡ true) (sym acts.code)
          ((of-hart M o c ok h acts.opens acts.is).closed state (in' acts.can.running).1)))
          (λ n listed. never-past c s.code (state_at c h n).known (state_at c h n).cases
          (subst (λ ws. each_leaf (λ k d arrows. runs_on_at c ws k) (state_at c h n).known (state_at c h n).cases ≡ true) same-code
          (each-passes (λ k d arrows. runs_on_at c code k) c h none n listed)))

    module _ (none : first_stop M o c h ≡ None) where
      pub not_stopped : (es : List Entry) → WellFormed B M (history_of o es) → (s : HartState) → state_of M (history_of o es) h ≡ Some s
          → (why : Stop) → s.status ≡ status.Stopped why → ⊥
      not_stopped es run s at = (always h IsGoing (λ x is. settled-going _ refl)
          (λ s m cs e in' going acts. next-going s acts.can.running going (number_read e) (keeps-going s m cs e in' acts none going)) es run s at).unstopped

      pub runs_or_ended : h < length o.harts → (es : List Entry) → WellFormed B M (history_of o es)
          → (s : HartState) × (state_of M (history_of o es) h ≡ Some s) × ((s.status ≡ status.Running) ⊎ (s.status ≡ status.Ended))
      runs_or_ended known es run = let there = state_there M (history_of o es) h known in
          (there.0, there.1, by there.0.status refl (not_stopped es run there.0 there.1))
        where
          by : {x : Status} (t : Status) → x ≡ t → ((why : Stop) → x ≡ status.Stopped why → ⊥) → (x ≡ status.Running) ⊎ (x ≡ status.Ended)
          by status.Running is never = inl is
          by status.Ended is never = inr is
          by (status.Stopped why) is never = absurd (never why is)

      module _ (never : first_end o c h ≡ None) where
        opens-running : (x : HartOpeningValue) → slice_get o.harts h ≡ Some x → (opens_as M x).status ≡ status.Running
        opens-running x is = runs-inside (opens_as M x) x.code 0 (record {
          before = record { code = x.code; words = M; registers = slice_set x.registers 0 0; pc = 0; inbox = x.inbox; status = status.Running };
          is = refl;
          runs = refl;
          code_is = refl;
          pc_is = refl;
        }) (λ past. never-past c x.code (state_at c h (part_of c h).first).known (state_at c h (part_of c h).first).cases
            (subst (λ y. each_leaf (λ k d arrows. runs_on_at c y.code k) (state_at c h (part_of c h).first).known
            (state_at c h (part_of c h).first).cases ≡ true) (get_or_from_slice_get o.harts h x no_hart is)
            (each-passes (λ k d arrows. runs_on_at c code k) c h never (part_of c h).first of.first))
            (eqb-true (state_at c h (part_of c h).first).known.pc 0 (and_parts _ _ (and_parts _ _ (and_parts _ _ (and_parts _ _ of.opens).0).0).0).1 ∙ past))
          where
            of : OfHart M o c ok h x
            of = of-hart M o c ok h x is

        pub runs : h < length o.harts → (es : List Entry) → WellFormed B M (history_of o es)
            → (s : HartState) × (state_of M (history_of o es) h ≡ Some s) × (s.status ≡ status.Running)
        runs known es run = let there = state_there M (history_of o es) h known in (
          there.0,
          there.1,
          (always h (λ s. IsGoing s × (s.status ≡ status.Running)) (λ x is. (settled-going _ refl, opens-running x is))
              (λ s m cs e in' so acts. (let keeps = keeps-going s m cs e in' acts none so.0 in
              (next-going s acts.can.running so.0 (number_read e) keeps, keeps-running s m cs e in' acts never keeps)))
              es run there.0 there.1).1,
        )

  -- ---- what a hart touches

  leaves-outside : (stores : Bool) (h x : ℕ) → (touched_of stores o c h).unbounded ≡ None → IsInNone x (touched_of stores o c h).regions
      → (s : HartState) (m : View) (cs : AllCounts) (d : Entry) → IsInState c h s m cs
      → ActsByCounts M o (length c.queues) (queue_at c) nobody_told nothing_sent h s m cs d → SparesByte stores x (access_of d)
  leaves-outside stores h x none out s m cs d in' acts =
      let w = in' acts.can.running in
      let at = reaches-leaf (touched_at stores c (hart_at o h).code) (Spares x)
      (λ n k before spares. (spared stores c (hart_at o h).code x n k before spares).1)
      c h s m cs w.0 w.2 w.1 nothing_touched (none, out) in
      leaf-spares M o c h at.numbers at.known s m cs d acts (acts-wide h s m cs d acts) (fine M o c ok) at.means x stores
      (subst (λ ws. IsSpared x (target_of stores c at.known (instruction_at ws at.known.pc))) (acts-code h s m cs d acts)
      (spared stores c (hart_at o h).code x at.state at.known at.before at.so).0)

  pub spares_outside : (stores : Bool) (es : List Entry) (e : Entry) → WellFormed B M (history_of o (es ++ e ∷ [])) → is_land e ≡ false
      → (touched_of stores o c (hart_of e)).unbounded ≡ None → (x : ℕ) → IsInNone x (touched_of stores o c (hart_of e)).regions
      → SparesByte stores x (access_of e)
  spares_outside stores es e run act none x out = next_is (sets B M o c ok) (hart_of e) (λ cs us. SparesByte stores x) (λ cs us. landing x stores)
      (λ s m cs us d in' acts knows. leaves-outside stores (hart_of e) x none out s m cs d (in-state (hart_of e) s m cs us in')
      (plain (hart_of e) s m cs d acts)) es e run (holds (sets B M o c ok) es (kept-front B M o es (e ∷ []) run)) refl
