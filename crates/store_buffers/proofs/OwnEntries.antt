-- A hart's own entries in a run: what its state makes, and what other entries leave.
use Rattle.std.proofs.Common.{ℕ, ◌<◌, ◌≡◌, ◌==◌, not, ◌&&◌, Bool, true, false, List, [], ◌∷◌, ◌++◌, length, Some, refl, sym, ◌∙◌, ap, subst, append_assoc}
use Rattle.std.specs.Prelude.{All, option_map}
use Rattle.std.specs.List.{slice_get}
use Rattle.std.proofs.Math.Seq.{drop-append_seam}
use Rattle.std.proofs.lemmas.List.Elements.{All-head, All-drop}
use Rattle.std.proofs.lemmas.Bool.{eq-eqb, eqb-true}
use Rattle.hart.specs.{HartState, advanced}
use Rattle.step_machine.specs.declared.events.Entry.{Entry}
use Rattle.step_machine.specs.Names.{OpeningValue, history_of, Access, land, hart_of, is_landing, is_land, is_own, own, number_read, CanMake, state_of, PathOf}
use Rattle.step_machine.specs.Names.{Path, WellFormed, IsOfHarts}
use Rattle.step_machine.proofs.{own-append, advance_by, state_of-mine, state_of-other, Path-last}
use Rattle.step_machine.proofs.OwnRuns.{path_front}

pub joined_on : (before done : List Entry) (e : Entry) (more : List Entry) → before ++ (done ++ e ∷ more) ≡ ((before ++ done) ++ e ∷ []) ++ more
joined_on before done e more = sym (append_assoc before done (e ∷ more)) ∙ sym (append_assoc (before ++ done) (e ∷ []) more)

pub path_upto : (M : ℕ) (o : OpeningValue) (h : ℕ) (es fs : List Entry) → Path M (history_of o (es ++ fs)) h → Path M (history_of o es) h
path_upto M o h es fs p = path_front M (slice_get o.harts h) (own h es) (own h fs) (subst (PathOf M (slice_get o.harts h)) (own-append h es fs) p)

-- a hart's own entry is what its state makes
pub made_by : (B M : ℕ) (o : OpeningValue) (before done : List Entry) (e : Entry) (more : List Entry)
    → WellFormed B M (history_of o (before ++ (done ++ e ∷ more))) → is_land e ≡ false → (s : HartState)
    → hart_of e < length o.harts → state_of M (history_of o (before ++ done)) (hart_of e) ≡ Some s → CanMake s e
made_by B M o before done e more run act s known is =
    Path-last M (history_of o (before ++ done)) (hart_of e) e s refl act (path_upto M o (hart_of e) ((before ++ done) ++ e ∷ []) more
    (subst (λ xs. Path M (history_of o xs) (hart_of e)) (joined_on before done e more) (run.paths (hart_of e) known))) is

-- the hart of each entry is one, and so has a state
pub known_hart : (o : OpeningValue) (front : List Entry) (e : Entry) (more : List Entry) → All (IsOfHarts o) (front ++ e ∷ more) → hart_of e < length o.harts
known_hart o front e more all = All-head (IsOfHarts o) e more
    (subst (All (IsOfHarts o)) (drop-append_seam front (e ∷ more)) (All-drop (IsOfHarts o) (length front) (front ++ e ∷ more) all))

-- a hart that does nothing by an entry keeps its state, and one that acts goes on from it
module _ (M : ℕ) (o : OpeningValue) (es : List Entry) (e : Entry) (h : ℕ) where
  pub same_state : is_own h e ≡ false → (s : HartState) → state_of M (history_of o (es ++ e ∷ [])) h ≡ Some s → state_of M (history_of o es) h ≡ Some s
  same_state off s is = sym (state_of-other M (history_of o es) h e off) ∙ is

  pub next_state : hart_of e ≡ h → is_land e ≡ false → (s z : HartState) → state_of M (history_of o es) h ≡ Some s
      → state_of M (history_of o (es ++ e ∷ [])) h ≡ Some z → advanced s (number_read e) ≡ z
  next_state mine act s z before after =
      let goes : Some (advanced s (number_read e)) ≡ Some z = sym (ap (option_map (advance_by e)) before) ∙ sym (state_of-mine M (history_of o es) h e mine act)
      ∙ after in cc

pub own_parts : (h : ℕ) (e : Entry) → is_own h e ≡ true → (hart_of e ≡ h) × (is_land e ≡ false)
own_parts h e on = at (hart_of e == h) refl (is_land e) refl
  where
    at : (b : Bool) → (hart_of e == h) ≡ b → (l : Bool) → is_land e ≡ l → (hart_of e ≡ h) × (is_land e ≡ false)
    at true same false act = (eqb-true (hart_of e) h same, act)
    at true same true land_e = let no : false ≡ true = sym (ap (λ b. b && not true) same) ∙ sym (ap (λ l. (hart_of e == h) && not l) land_e) ∙ on in cc
    at false other l act = let no : false ≡ true = sym (ap (λ b. b && not (is_land e)) other) ∙ on in cc

pub land_is : (x : Access) → is_landing x ≡ true → x ≡ land
land_is land is = refl
land_is x is = cc

pub own_is : (h : ℕ) (e : Entry) → hart_of e ≡ h → is_land e ≡ false → is_own h e ≡ true
own_is h e mine act = ap (λ b. b && not (is_land e)) (eq-eqb (hart_of e) h mine) ∙ ap not act
