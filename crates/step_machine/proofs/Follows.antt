-- Which entries can follow a history: those that the hart's state makes and that memory and buffers allow.
use Rattle.std.proofs.Common.{arith, ◌≡◌, ℕ, false, List, [], ◌∷◌, ◌++◌, Option, Some, None, sym, ◌∙◌, ap, subst, eq-eqb, append-nil}
use Rattle.std.specs.List.{slice_get}
use Rattle.std.specs.Prelude.{option_map, if◌then◌else◌}
use Rattle.hart.specs.{HartState, advanced}
use Rattle.step_machine.specs.Names.{Entry, HartOpeningValue, History, with_entry, hart_of, is_land, is_own, own, number_read, CanMake, after_entries, opens_as}
use Rattle.step_machine.specs.Names.{state_of, PathOf, Path, Allowed, Legal, Event, CanFollow, IsFor, event_of}
use Rattle.step_machine.specs.declared.events.Entry.TheVariants as entry
use Rattle.step_machine.proofs.Appended.{own-append, after_entries-append, Makes-append, Makes-front, Makes-back, LegalAfter-append, LegalAfter-back}

pub event_of-for : (ev : Event) (e : Entry) → IsFor ev e → event_of e ≡ ev
event_of-for ev e for_it = grind arith

-- an entry of the hart's own at the end
pub own-mine : (h : ℕ) (es : List Entry) (e : Entry) → hart_of e ≡ h → is_land e ≡ false → own h (es ++ e ∷ []) ≡ own h es ++ e ∷ []
own-mine h es e mine act = grind (arith, own-append, eq-eqb)

pub own-other : (h : ℕ) (es : List Entry) (e : Entry) → is_own h e ≡ false → own h (es ++ e ∷ []) ≡ own h es
own-other h es e other = own-append h es (e ∷ []) ∙ ap (λ b. own h es ++ (if b then e ∷ [] else [])) other ∙ append-nil (own h es)

-- the state at the end of a path, with one entry more
abbrev pub state_after : ℕ → List Entry → HartOpeningValue → HartState
state_after M es o = after_entries (opens_as M o) es

abbrev pub advance_by : Entry → HartState → HartState
advance_by e s = advanced s (number_read e)

state_after-last : (M : ℕ) (so : Option HartOpeningValue) (es : List Entry) (e : Entry)
    → option_map (state_after M (es ++ e ∷ [])) so ≡ option_map (advance_by e) (option_map (state_after M es) so)
state_after-last M so es e = grind (arith, after_entries-append)

pub state_of-mine : (M : ℕ) (t : History) (h : ℕ) (e : Entry) → hart_of e ≡ h → is_land e ≡ false
    → state_of M (with_entry t e) h ≡ option_map (advance_by e) (state_of M t h)
state_of-mine M t h e mine act = grind (arith, own-mine h t.entries e mine act, state_after-last M (slice_get t.opening.harts h) (own h t.entries) e)

pub state_of-other : (M : ℕ) (t : History) (h : ℕ) (e : Entry) → is_own h e ≡ false → state_of M (with_entry t e) h ≡ state_of M t h
state_of-other M t h e other = ap (λ es. option_map (state_after M es) (slice_get t.opening.harts h)) (own-other h t.entries e other)

path_on : (M : ℕ) (so : Option HartOpeningValue) (es : List Entry) (e : Entry) (s : HartState) → PathOf M so es
    → option_map (state_after M es) so ≡ Some s → CanMake s e → PathOf M so (es ++ e ∷ [])
path_on M so es e s p is can = grind (arith, Makes-append)

path_last : (M : ℕ) (so : Option HartOpeningValue) (es : List Entry) (e : Entry) (s : HartState)
    → PathOf M so (es ++ e ∷ []) → option_map (state_after M es) so ≡ Some s → CanMake s e
path_last M None es e s p is = absurd p
path_last M (Some o) es e s p is = grind (arith, Makes-back (opens_as M o) es (e ∷ []) p)

path_front : (M : ℕ) (so : Option HartOpeningValue) (es : List Entry) (e : Entry) → PathOf M so (es ++ e ∷ []) → PathOf M so es
path_front M so es e p = grind (arith, Makes-front)

-- the hart's path goes on by an entry that its state makes
pub Path-mine : (M : ℕ) (t : History) (h : ℕ) (e : Entry) (s : HartState) → hart_of e ≡ h → is_land e ≡ false
    → Path M t h → state_of M t h ≡ Some s → CanMake s e → Path M (with_entry t e) h
Path-mine M t h e s mine act p is can = grind (arith, own-mine, path_on)

-- the last entry of a path is one that the state before it makes
pub Path-last : (M : ℕ) (t : History) (h : ℕ) (e : Entry) (s : HartState) → hart_of e ≡ h → is_land e ≡ false
    → Path M (with_entry t e) h → state_of M t h ≡ Some s → CanMake s e
Path-last M t h e s mine act p is =
    path_last M (slice_get t.opening.harts h) (own h t.entries) e s (subst (PathOf M (slice_get t.opening.harts h)) (own-mine h t.entries e mine act) p) is

pub Path-other : (M : ℕ) (t : History) (h : ℕ) (e : Entry) → is_own h e ≡ false → Path M t h → Path M (with_entry t e) h
Path-other M t h e other p = subst (PathOf M (slice_get t.opening.harts h)) (sym (own-other h t.entries e other)) p

-- only a hart has a path
pub Path-hart : (M : ℕ) (t : History) (h : ℕ) → Path M t h → slice_get t.opening.harts h ≡ None → ⊥
Path-hart M t h p none = subst (λ (so : Option HartOpeningValue). PathOf M so (own h t.entries)) none p

pub Legal-last : (B : ℕ) (t : History) (e : Entry) → Legal B (with_entry t e) → Allowed B t.opening t.entries e
Legal-last B t e l = (LegalAfter-back B t.opening [] t.entries (e ∷ []) l).0

pub Legal-on : (B : ℕ) (t : History) (e : Entry) → Legal B t → Allowed B t.opening t.entries e → Legal B (with_entry t e)
Legal-on B t e l a = LegalAfter-append B t.opening [] t.entries (e ∷ []) l (a, tt)

-- an entry that its hart's state makes and that memory and buffers allow can follow
pub follows : (B M : ℕ) (t : History) (h : ℕ) (s : HartState) (e : Entry) → hart_of e ≡ h → is_land e ≡ false
    → Legal B t → Path M t h → state_of M t h ≡ Some s → CanMake s e → Allowed B t.opening t.entries e
    → CanFollow B M t e
follows B M t h s e mine act l p is can a = grind (arith, Legal-on, Path-mine)

-- and no other entry of the hart's own can
pub act_only : (B M : ℕ) (t : History) (h : ℕ) (s : HartState) (d : Entry) → hart_of d ≡ h → is_land d ≡ false
    → state_of M t h ≡ Some s → CanFollow B M t d → CanMake s d × Allowed B t.opening t.entries d
act_only B M t h s d mine act is f = (Path-last M t h d s mine act (subst (Path M (with_entry t d)) mine f.path) is, Legal-last B t d f.legal)

-- a landing of a hart that has a pending store can follow
pub land_follows : (B M : ℕ) (t : History) (h : ℕ) → Legal B t → Path M t h → Allowed B t.opening t.entries (entry.Land h) → CanFollow B M t (entry.Land h)
land_follows B M t h l p a = grind (arith, Legal-on, Path-other)
