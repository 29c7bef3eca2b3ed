use Rattle.std.proofs.Common.{◌<◌, length, ap, subst, sym, arith, ℕ, ◌+◌, ◌*◌, ◌%◌, ◌≤◌, ◌≡◌, ◌==◌, ◌||◌, inl, inr, Bool, true, false, Option, None, Some, refl}
use Rattle.std.proofs.lemmas.Result.{IfOk-weaker}
use Rattle.std.specs.Prelude.{option_map}
use Rattle.std.proofs.lemmas.Bool.{or_cases, eqb-true}
use Rattle.std.specs.List.{slice_get}
use Rattle.memory.specs.Writes.{is_width}
use Rattle.hart.specs.State.{HartState}
use Rattle.hart.specs.Steps.{need_of}
use Rattle.hart.specs.declared.need.Need.{Need}
use Rattle.hart.specs.declared.need.Need.TheVariants as need
use Rattle.hart.specs.declared.need.Report.TheVariants as report
use Rattle.step_machine.specs.declared.events.Outcome.{Outcome}
use Rattle.step_machine.specs.Names.{OpeningValue, History, hart_of, Adds, Happens, HartOpeningValue, with_entry, Access, load, store, exchange, land, is_land}
use Rattle.step_machine.specs.Names.{access_of, is_landing, own, CanMake, IsPlace, IsInRange, after_entries, opens_as, state_of, number_read}
use Rattle.step_machine.proofs.Running.{hart_follows}
use Rattle.step_machine.specs.declared.events.Entry.{Entry}
use Rattle.step_machine.specs.declared.events.Event.{Event}
use Rattle.step_machine.specs.Paths.{entry_of}
use Rattle.step_machine.proofs.Decides.{need_of-in_range}
use Rattle.step_machine.proofs.Follows.{Path-hart, Path-last}
use Rattle.step_machine.proofs.States.{state_keeps}
use Rattle.ownership_runs.specs.inner.LossNoting.{AreLossNotes, IsSeenIn}
use Rattle.ownership_runs.proofs.Views.{event-seen}
use Rattle.ownership_runs.proofs.judging_losses.note_event.Goals as goal
use Rattle.ownership_runs.specs.inner.Logging.{IsWithin, IsAccessWithin}

-- The accesses of a run are of memory's bytes.

-- a width is 1, 2 or 4
few : (w : ℕ) → is_width w ≡ true → w ≤ 4
few w is = elim (or_cases (w == 1 || w == 2) (w == 4) is) [
  | inl short ↦ elim (or_cases (w == 1) (w == 2) short) [
    | inl one ↦ (let at = eqb-true w 1 one in omega (arith, at))
    | inr two ↦ (let at = eqb-true w 2 two in omega (arith, at))
  ]
  | inr four ↦ (let at = eqb-true w 4 four in omega (arith, at))
]

within : (M w a : ℕ) → IsPlace M w a → IsWithin M a w
within M w a place =
    let most : w ≤ 4 = few w place.0 in
    let in_word : a % 4 + w ≤ 4 = place.1 in
    let below : a < 4 * M = place.2 in
    (omega (arith, in_word, below), most)

of-need : (M h v : ℕ) (n : Need) → IsInRange M n → IsAccessWithin M (access_of (entry_of h n v))
of-need M h v (need.Load a width) place = within M width a place
of-need M h v (need.Store a width w) place = within M width a place
of-need M h v (need.Amo a op rs2) place = within M 4 a place
of-need M h v (need.Report (report.Took i w)) place = tt
of-need M h v (need.Report (report.Closed i)) place = tt
of-need M h v n place = tt

module _ (B M : ℕ) (t : History) (ev : Event) (e : Entry) (u : History) (adds : Adds B M t ev e u) where
  of-state : (o : HartOpeningValue) (s : HartState) → slice_get t.opening.harts (hart_of e) ≡ Some o → state_of M t (hart_of e) ≡ Some s
      → is_land e ≡ false → IsAccessWithin M (access_of e)
  of-state o s here is act =
      let makes : CanMake s e = Path-last M t (hart_of e) e s refl act adds.follows.path is in
      subst (λ (d : Entry). IsAccessWithin M (access_of d)) (sym makes.made)
      (of-need M (hart_of e) (number_read e) (need_of s) (need_of-in_range M s (state_keeps M t (hart_of e) o s here is).words))

  of-hart : (found : Option HartOpeningValue) → slice_get t.opening.harts (hart_of e) ≡ found → is_land e ≡ false → IsAccessWithin M (access_of e)
  of-hart None none act = absurd (Path-hart M (with_entry t e) (hart_of e) adds.follows.path none)
  of-hart (Some o) here act = of-state o (after_entries (opens_as M o) (own (hart_of e) t.entries)) here
      (ap (option_map (λ (p : HartOpeningValue). after_entries (opens_as M p) (own (hart_of e) t.entries))) here) act

  pub access-within : IsAccessWithin M (access_of e)
  access-within = by (is_land e) refl
    where
      landing : (x : Access) → is_landing x ≡ true → IsAccessWithin M x
      landing land on = tt
      landing x on = cc

      by : (b : Bool) → is_land e ≡ b → IsAccessWithin M (access_of e)
      by true lands = landing (access_of e) lands
      by false act = of-hart (slice_get t.opening.harts (hart_of e)) refl act

-- a memory of more words has them too
pub wider : (M N : ℕ) → M ≤ N → (x : Access) → IsAccessWithin M x → IsAccessWithin N x
wider M N more (load a w v) at = (omega (arith, more, at.0), at.1)
wider M N more (store w) at = (omega (arith, more, at.0), at.1)
wider M N more (exchange a old new) at = (omega (arith, more, at.0), at.1)
wider M N more x at = tt

pub note_entry-requires : goal.note_entry-requires
note_entry-requires g c =
    let t = c.args.machine.now.history in
    let u = c.step.new.self.history in
    let e = c.in-Did.entry in
    let adds : Adds g.row.B g.row.M t c.args.event e u =
    subst (λ (o : Outcome). Happens g.row.B g.row.M t c.args.event o u) c.in-Did.is c.in_ok-entry.ensures.happens in
    let hart = subst (λ (o : OpeningValue). hart_of e < length o.harts) (sym c.in_ok-entry.ensures.opening) (hart_follows g.row.B g.row.M t e adds.follows) in (
      omega arith,
      (
        c.requires.size,
        (
          c.requires.some_slot,
          (hart, (access-within g.row.B g.row.M t c.args.event e u adds, (c.requires.counts, c.requires.place))),
        ),
      ),
    )

pub returns-in-Did-clause-noted : goal.returns-in-Did-clause-noted
returns-in-Did-clause-noted g c =
    let B = g.row.B in
    let M = g.row.M in
    let q = c.args.queue.now in
    let t = c.args.machine.now.history in
    let u = c.step.new.self.history in
    let e = c.in-Did.entry in
    let adds : Adds B M t c.args.event e u = subst (λ (o : Outcome). Happens B M t c.args.event o u) c.in-Did.is c.in_ok-entry.ensures.happens in
    let seen : IsSeenIn q t.opening t.entries c.landing-landing.result e =
    event-seen B M q t u c.args.event e c.landing-landing.result c.landing-landing.ensures adds in
    IfOk-weaker c.note_entry.result _ _
    (λ new was start are.
    subst
    (λ (o : OpeningValue). IsSeenIn q o t.entries c.landing-landing.result e → AreLossNotes c.args.since M q o start t.entries c.args.log.now.items c.args.notes
    → AreLossNotes c.args.since M q o start u.entries c.note_entry.new.log.items new) c.in_ok-entry.ensures.opening
    (was start t.entries (ap (λ (v : History). v.entries) adds.after)) seen are)
    c.note_entry.ensures.noted
