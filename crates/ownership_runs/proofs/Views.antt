-- An entry changes what a hart reads only where it stores, or where the store that it lands is.
use Rattle.std.proofs.Common.{ℕ, ◌-◌, ◌<◌, ◌≤◌, ◌≡◌, ◌==◌, Bool, true, false, None, Some, List, [], ◌∷◌, ◌++◌, length, take, drop, refl, sym, ap, subst, ◌∙◌}
use Rattle.std.specs.Prelude.{if◌then◌else◌, unwrap_or}
use Rattle.std.specs.Int.{byte_at}
use Rattle.std.proofs.lemmas.Bool.{eqb-true}
use Rattle.std.proofs.lemmas.Bool.Decides.{Decides-ltb}
use Rattle.memory.specs.declared.writes.Write.{Write}
use Rattle.memory.specs.Writes.{write, covers, newest_of}
use Rattle.memory.proofs.WholeWords.{newest_of-append}
use Rattle.step_machine.specs.declared.events.Entry.{Entry}
use Rattle.step_machine.specs.Names.{OpeningValue, Access, store, exchange, land, access_of, hart_of, stored_by, landed_by, written_by, own_stores}
use Rattle.step_machine.specs.Names.{lands, pending, own_store, read_byte, memory_byte, is_landing, History, Adds, IsFor}
use Rattle.step_machine.specs.declared.events.Event.{Event}
use Rattle.step_machine.specs.declared.events.Event.TheVariants as event
use Rattle.step_machine.proofs.{LegalAfter-front, balanced, hart_follows, pending-last, memory_byte-other, memory_byte-write}
use Rattle.store_buffers.proofs.Effects.{stored_none, landed_none, pending-quiet, pending-more, pending-first}
use Rattle.queue_layouts.specs.declared.AnyQueue.{AnyQueue}
use Rattle.ownership_runs.specs.inner.Logging.{changed_by, first_of, landing_of, sender_of}
use Rattle.ownership_runs.specs.inner.LossNoting.{IsSeenIn}

module _ (o : OpeningValue) (es : List Entry) (e : Entry) (l : Write) (x : ℕ)
    (landing : access_of e ≡ land → l ≡ first_of (pending (hart_of e) es)) where
  -- ---- memory

  abbrev Memory : Type 0
  Memory = memory_byte o (es ++ e ∷ []) x ≡ memory_byte o es x

  written : (w : Write) → written_by (take 1 (pending (hart_of e) es)) (access_of e) ≡ w ∷ [] → covers w x ≡ false → Memory
  written w does off = memory_byte-write o es e w x does ∙ ap (λ b. if b then byte_at (x - w.addr) w.value else memory_byte o es x) off

  memory-same : (a : Access) → access_of e ≡ a → covers (changed_by l a) x ≡ false → Memory
  memory-same (exchange a old new) does off = written (write a 4 new) (ap (written_by (take 1 (pending (hart_of e) es))) does) off
  memory-same land does off = by (pending (hart_of e) es) refl
    where
      by : (ws : List Write) → pending (hart_of e) es ≡ ws → Memory
      by [] none = memory_byte-other o es e x (ap (written_by (take 1 (pending (hart_of e) es))) does ∙ ap (take 1) none)
      by (w ∷ ws) some = written w (ap (written_by (take 1 (pending (hart_of e) es))) does ∙ ap (take 1) some)
          (sym (ap (λ v. covers v x) (landing does ∙ ap first_of some)) ∙ off)
  memory-same a does off = memory_byte-other o es e x (ap (written_by (take 1 (pending (hart_of e) es))) does)

  -- ---- what is pending of a hart

  module _ (h : ℕ) (le : lands h es ≤ length (own_stores h es)) where
    abbrev Pending : Type 0
    Pending = newest_of x None (pending h (es ++ e ∷ [])) ≡ newest_of x None (pending h es)

    quiet : stored_by (hart_of e == h) (access_of e) ≡ [] → landed_by (hart_of e == h) (access_of e) ≡ 0 → Pending
    quiet stored landed = ap (newest_of x None) (pending-quiet es e h le stored landed)

    own : (hart_of e == h) ≡ true → (a : Access) → access_of e ≡ a → covers (changed_by l a) x ≡ false → Pending
    own mine (store w) does off = ap (newest_of x None) (pending-more es e h le w (ap (stored_by (hart_of e == h)) does ∙ ap (λ b. stored_by b (store w)) mine)
        (ap (landed_by (hart_of e == h)) does))
        ∙ newest_of-append x None (pending h es) (w ∷ [])
        ∙ ap (λ b. if b then Some (byte_at (x - w.addr) w.value) else newest_of x None (pending h es)) off
    own mine land does off = by (pending h es) refl
      where
        one : landed_by (hart_of e == h) (access_of e) ≡ 1
        one = ap (landed_by (hart_of e == h)) does ∙ ap (λ b. landed_by b land) mine

        none : stored_by (hart_of e == h) (access_of e) ≡ []
        none = ap (stored_by (hart_of e == h)) does

        by : (ws : List Write) → pending h es ≡ ws → Pending
        by [] empty = ap (newest_of x None) (pending-last h es e le ∙ ap (λ n. drop n (pending h es ++ own_store h e)) one
            ∙ ap (λ ws. drop 1 (pending h es ++ ws)) none ∙ ap (λ ws. drop 1 (ws ++ [])) empty ∙ sym empty)
        by (w ∷ ws) some = ap (newest_of x None) (pending-first es e h le w ws some none one)
            ∙ sym (ap (newest_of x None) some
            ∙ ap (λ b. newest_of x (if b then Some (byte_at (x - w.addr) w.value) else None) ws)
            (sym (ap (λ v. covers v x) (landing does ∙ ap first_of (same some))) ∙ off))
          where
            same : pending h es ≡ w ∷ ws → pending (hart_of e) es ≡ w ∷ ws
            same is = ap (λ g. pending g es) (eqb-true (hart_of e) h mine) ∙ is
    own mine a does off = quiet (ap (stored_by (hart_of e == h)) does) (ap (landed_by (hart_of e == h)) does)

    pending-same : covers (changed_by l (access_of e)) x ≡ false → Pending
    pending-same off = by (hart_of e == h) refl
      where
        by : (b : Bool) → (hart_of e == h) ≡ b → Pending
        by true mine = own mine (access_of e) refl off
        by false other = quiet (ap (λ b. stored_by b (access_of e)) other ∙ stored_none (access_of e))
            (ap (λ b. landed_by b (access_of e)) other ∙ landed_none (access_of e))

    pub seen-same : covers (changed_by l (access_of e)) x ≡ false → read_byte o (es ++ e ∷ []) h x ≡ read_byte o es h x
    seen-same off = ap (λ f. unwrap_or f (memory_byte o (es ++ e ∷ []) x)) (pending-same off)
        ∙ ap (unwrap_or (newest_of x None (pending h es))) (memory-same (access_of e) refl off)

-- ---- after an event

landing-is : (t : History) (e : Entry) (ev : Event) → IsFor ev e → hart_of e < length t.opening.harts → access_of e ≡ land
    → landing_of t ev ≡ first_of (pending (hart_of e) t.entries)
landing-is t e (event.Act h) acts hart does = absurd (let lands = ap is_landing does in let not = acts.1 in cc)
landing-is t e (event.Land h) lands hart does =
    let mine : hart_of e ≡ h = ap hart_of lands in
    ap (λ b. if b then first_of (pending h t.entries) else write 0 0 0)
    ((Decides-ltb h (length t.opening.harts)).1 (subst (λ (g : ℕ). g < length t.opening.harts) mine hart))
    ∙ ap (λ (g : ℕ). first_of (pending g t.entries)) (sym mine)

pub event-seen : (B M : ℕ) (q : AnyQueue) (t u : History) (ev : Event) (e : Entry) (l : Write) → l ≡ landing_of t ev → Adds B M t ev e u
    → IsSeenIn q t.opening t.entries l e
event-seen B M q t u ev e l is adds x off = seen-same t.opening t.entries e l x
    (λ does. is ∙ landing-is t e ev adds.for_event (hart_follows B M t e adds.follows) does) (sender_of q)
    (balanced B t (sender_of q) (LegalAfter-front B t.opening [] t.entries (e ∷ []) adds.follows.legal)) off
