-- A meaning that every entry keeps holds at the end of every run, and gives clean reports there.
use Rattle.std.proofs.Common.{◌≡◌, ℕ, suc, ◌+◌, ◌≤◌, inl, inr, List, [], ◌∷◌, length, All, Result, refl, sym, ap, subst, arith}
use Rattle.std.specs.Prelude.{IfOk}
use Rattle.std.proofs.lemmas.List.Elements.{All-nil, All-cons}
use Rattle.hart.specs.declared.need.Report.{Report}
use Rattle.step_machine.specs.declared.events.Event.{Event}
use Rattle.step_machine.specs.declared.events.Outcome.{Outcome}
use Rattle.step_machine.specs.Names.{OpeningValue, History, FitsIn, IsShort, at_opening, reported, WellFormed, Happens, Run, RunFrom}
use Rattle.step_machine.proofs.Running.{shape_of, kept-happens, kept-at_opening}
use Rattle.poll_close.specs.Layout.{Layout, senders_from}
use Rattle.poll_close.specs.{Ring, opening_over, Meaning, AcceptedAt, FitsHart, Opens, Keeps, Cleans, Delivers}

-- what has been known of a history since its opening
pub record Known (ring : Ring) (means : Meaning) (B M : ℕ) (lists : List (List ℕ)) (S : Layout) (t : History) : Type 0 where
  pub opening : t.opening ≡ opening_over ring lists S
  pub kept : WellFormed B M t
  pub meant : means B M lists S t

module _ (ring : Ring) (means : Meaning) (keeps : Keeps ring means) (B M : ℕ) (lists : List (List ℕ)) (S : Layout) (accepted : AcceptedAt ring M lists S) where
  pub known-happens : (t : History) (ev : Event) (o : Outcome) (new : History) → Known ring means B M lists S t
      → Happens B M t ev o new → Known ring means B M lists S new
  unfolding Keeps
  known-happens t ev o new known h =
      let kept : WellFormed B M new = kept-happens B M t ev o new known.kept h in
      elim (shape_of B M t ev o new h) [
        | inl a ↦ subst (Known ring means B M lists S) (sym a.2.after) (record {
          opening = known.opening;
          kept = subst (WellFormed B M) a.2.after kept;
          meant = keeps B M lists S t a.0 accepted known.opening known.kept a.2.follows known.meant;
        })
        | inr i ↦ subst (Known ring means B M lists S) (sym i.after) known
      ]

  pub known-run : (t : History) (evs : List Event) (new : History) → Known ring means B M lists S t → RunFrom B M t evs new → Known ring means B M lists S new
  known-run t [] new known run = subst (Known ring means B M lists S) (sym run) known
  known-run t (ev ∷ evs) new known run = known-run run.1 evs new (known-happens t ev run.0 run.1 known run.2) run.3

pub run-known : (ring : Ring) (means : Meaning) (B M : ℕ) (lists : List (List ℕ)) (S : Layout) (evs : List Event)
    (t : History) → Opens ring means → Keeps ring means → AcceptedAt ring M lists S
    → Run B M (opening_over ring lists S) evs t → Known ring means B M lists S t
unfolding Opens
run-known ring means B M lists S evs t opens keeps accepted run =
    let o : OpeningValue = opening_over ring lists S in
    known-run ring means keeps B M lists S accepted (at_opening o) evs t
    (record { opening = refl; kept = kept-at_opening B M o; meant = opens B M lists S accepted }) run

pub delivers : (ring : Ring) (means : Meaning) (B M : ℕ) (lists : List (List ℕ)) (S : Layout) (evs : List Event)
    (t : History) (o : OpeningValue) (reports : List Report) → Opens ring means → Keeps ring means → Cleans ring means
    → AcceptedAt ring M lists S → o ≡ opening_over ring lists S → Run B M o evs t → reports ≡ reported 0 t.entries
    → Delivers B M o lists evs reports
unfolding Opens
delivers ring means B M lists S evs t o reports opens keeps cleans accepted is run answer =
    let first : Known ring means B M lists S (at_opening o) = record {
      opening = is;
      kept = kept-at_opening B M o;
      meant = subst (λ (p : OpeningValue). means B M lists S (at_opening p)) (sym is) (opens B M lists S accepted);
    } in
    let last : Known ring means B M lists S t = known-run ring means keeps B M lists S accepted (at_opening o) evs t first run in
    record { history = t; run = run; answer = answer; clean = rw answer (cleans B M lists S t accepted last.opening last.kept last.meant) }

senders-short : (code : List ℕ) (S : Layout) (i : ℕ) (lists : List (List ℕ)) → length code ≤ 4096 → All IsShort (senders_from code S i lists)
senders-short code S i [] short = All-nil IsShort
senders-short code S i (ws ∷ lists) short = All-cons IsShort _ _ short (senders-short code S (i + 1) lists short)

pub senders-length : (code : List ℕ) (S : Layout) (i : ℕ) (lists : List (List ℕ)) → length (senders_from code S i lists) ≡ length lists
senders-length code S i [] = refl
senders-length code S i (ws ∷ lists) = ap (λ n. suc n) (senders-length code S (i + 1) lists)

pub channel-fits : (ring : Ring) (M : ℕ) (lists : List (List ℕ)) (S : Layout) (o : OpeningValue) → FitsHart ring
    → AcceptedAt ring M lists S → o ≡ opening_over ring lists S → FitsIn M o
channel-fits ring M lists S o short accepted is = grind (arith, senders-length, All-cons, senders-short)

-- what holds of the value of an Ok holds of it by implication
pub if_ok : {A E : Type 0} (P Q : A → Type 0) → ((a : A) → P a → Q a) → (r : Result A E) → IfOk r P → IfOk r Q
if_ok P Q more h3 h = grind arith

pub delivers-as : (B M : ℕ) (o p : OpeningValue) (lists : List (List ℕ)) (evs : List Event) (reports : List Report) → o ≡ p
    → Delivers B M o lists evs reports → Delivers B M p lists evs reports
delivers-as B M o p lists evs reports is d = subst (λ (q : OpeningValue). Delivers B M q lists evs reports) is d
