-- The laws of sets alone.
use Rattle.std.proofs.Common.{ℕ, ◌≡◌, ◌≤◌, Bool, true, false, List, [], ◌∷◌, ◌++◌, Some, length}
use Rattle.step_machine.specs.declared.events.Entry.{Entry}
use Rattle.step_machine.specs.Names.{OpeningValue, history_of, access_of, hart_of, is_land, own_stores, lands, Legal, WellFormed, state_of}
use Rattle.step_machine.proofs.{LegalAfter-back, LegalAfter-front, balanced}
use Rattle.hart.specs.State.{HartState}
use Rattle.store_buffers.specs.StoreBuffers.{IsOnlyWriter}
use Rattle.certified_runs.specs.Views.{View, view_of, view_then}
use Rattle.certified_runs.specs.Certified.{no_protocol, IsCertified}
use Rattle.certified_runs.proofs.Views.{own_view}
use Rattle.certified_runs.proofs.Every.{IsCounted, Holds, holds}

pub own_act : (B : ℕ) (o : OpeningValue) (h x : ℕ) (es : List Entry) (e : Entry) → Legal B (history_of o (es ++ e ∷ []))
    → hart_of e ≡ h → is_land e ≡ false → view_of o (es ++ e ∷ []) h x ≡ view_then (access_of e) (view_of o es h) x
own_act B o h x es e legal mine act =
    let le : lands h es ≤ length (own_stores h es) = balanced B (history_of o es) h (LegalAfter-front B o [] es (e ∷ []) legal) in
    own_view B o h x es e le (LegalAfter-back B o [] es (e ∷ []) legal).0 mine act

module _ (B M : ℕ) (o : OpeningValue) (own : ℕ → ℕ → Bool) (states : ℕ → HartState → View → Bool)
    (c : IsCertified M o no_protocol tt (λ h x. own h x ≡ true) (λ h s m c. states h s m ≡ true)) (es : List Entry)
    (run : WellFormed B M (history_of o es)) where
  nothing_counts : IsCounted B M o (Unit {0}) no_protocol tt (λ h s m c. states h s m ≡ true) (λ done. tt) (λ done. Unit {0})
  nothing_counts = record {
    opens = λ h. tt;
    left = λ h done e off run k may. tt;
    owned = λ h x done e off run k may owns. absurd owns;
    acted = λ h done e mine. tt;
    lands = λ h c. tt;
    first = tt;
    knows = λ h done k. tt;
    goes_on = λ done e run k may stands. tt;
  }

  all_holds : Holds B M o (Unit {0}) no_protocol tt (λ h s m c. states h s m ≡ true) (λ done. tt) (λ h x. own h x ≡ true) c (λ done. Unit {0})
      nothing_counts es
  all_holds = holds B M o (Unit {0}) no_protocol tt (λ h s m c. states h s m ≡ true) (λ done. tt) (λ h x. own h x ≡ true) c (λ done. Unit {0})
      nothing_counts es run

  pub in_states : (h : ℕ) (s : HartState) → state_of M (history_of o es) h ≡ Some s → states h s (view_of o es h) ≡ true
  in_states h s at = all_holds.within h s at

  pub alone : (h x : ℕ) → own h x ≡ true → IsOnlyWriter h x es
  alone h x mine = all_holds.alone h x mine
