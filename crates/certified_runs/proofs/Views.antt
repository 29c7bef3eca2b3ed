-- What one entry makes of a hart's view of a byte that no other hart writes.
use Rattle.std.proofs.Common.{ℕ, ◌-◌, ◌≤◌, ◌≡◌, ◌≢◌, ◌==◌, Bool, true, false, if◌then◌else◌, Option, Some, None, List, [], ◌∷◌, ◌++◌, length, take, drop, refl}
use Rattle.std.proofs.Common.{sym, ◌∙◌, ap, subst, append-nil}
use Rattle.std.specs.Prelude.{All, unwrap_or}
use Rattle.std.specs.Int.{byte_at}
use Rattle.std.proofs.lemmas.Bool.{eqb-true, eq-eqb}
use Rattle.std.proofs.lemmas.List.Elements.{All-nil, All-cons, All-append, All-drop}
use Rattle.memory.specs.declared.writes.Write.{Write}
use Rattle.memory.specs.Writes.{write, covers, newest_of}
use Rattle.memory.proofs.WholeWords.{newest_of-append}
use Rattle.step_machine.specs.declared.events.Entry.{Entry}
use Rattle.step_machine.specs.Names.{OpeningValue, Access, store, exchange, land, access_of, hart_of, stored_by, landed_by, written_by}
use Rattle.step_machine.specs.Names.{own_store, land_of, is_land, is_landing, own_stores, lands, pending, write_of, landed, opening_byte, read_byte, read}
use Rattle.step_machine.specs.Names.{AllowedBy, Allowed}
use Rattle.step_machine.proofs.Appended.{landed-last, pending-last}
use Rattle.store_buffers.specs.StoreBuffers.{LeavesByte, LeavesByteBy, IsOnlyWriter}
use Rattle.store_buffers.proofs.Reading.{view}
use Rattle.certified_runs.specs.Views.{byte_then}

chosen : (c : Bool) (b op : ℕ) (g : Option ℕ) → unwrap_or (if c then Some b else g) op ≡ (if c then b else unwrap_or g op)
chosen true b op g = refl
chosen false b op g = refl

core : (x op : ℕ) (f : Option ℕ) (mine : List Write) (y : Access) → is_landing y ≡ false → ((a old new : ℕ) → y ≡ exchange a old new → mine ≡ [])
    → unwrap_or (newest_of x (newest_of x f (written_by (take 1 mine) y)) (drop (landed_by true y) (mine ++ stored_by true y))) op
    ≡ byte_then y x (unwrap_or (newest_of x f mine) op)
core x op f mine (store w) act none =
    ap (λ g. unwrap_or g op) (newest_of-append x f mine (w ∷ []))
    ∙ chosen (covers w x) (byte_at (x - w.addr) w.value) op (newest_of x f mine)
core x op f mine (exchange a old new) act none = subst (λ ws. unwrap_or (newest_of x (newest_of x f (write a 4 new ∷ [])) (ws ++ [])) op
    ≡ byte_then (exchange a old new) x (unwrap_or (newest_of x f ws) op)) (sym (none a old new refl))
    (chosen (covers (write a 4 new) x) (byte_at (x - a) new) op f)
core x op f mine land act none = absurd (let no : true ≡ false = act in cc)
core x op f mine other act none = ap (λ ws. unwrap_or (newest_of x f ws) op) (append-nil mine)

-- after an act of its own a hart reads what it wrote, and else what it read before
pub own_view : (B : ℕ) (o : OpeningValue) (a x : ℕ) (es : List Entry) (e : Entry) → lands a es ≤ length (own_stores a es) → Allowed B o es e → hart_of e ≡ a
    → is_land e ≡ false → read_byte o (es ++ e ∷ []) a x ≡ byte_then (access_of e) x (read_byte o es a x)
own_view B o a x es e le allowed mine act =
    view o (es ++ e ∷ []) a x
    ∙ ap (λ ws. unwrap_or (newest_of x (newest_of x None ws) (pending a (es ++ e ∷ []))) (opening_byte o x)) (landed-last es e)
    ∙ ap (λ g. unwrap_or (newest_of x g (pending a (es ++ e ∷ []))) (opening_byte o x)) (newest_of-append x None (landed es) (write_of es e))
    ∙ ap (λ ws. unwrap_or (newest_of x (newest_of x f (write_of es e)) ws) (opening_byte o x)) (pending-last a es e le)
    ∙ ap (λ b. unwrap_or (newest_of x (newest_of x f (write_of es e))
    (drop (landed_by b (access_of e)) (pending a es ++ stored_by b (access_of e)))) (opening_byte o x)) (eq-eqb (hart_of e) a mine)
    ∙ ap (λ ws. unwrap_or (newest_of x (newest_of x f (written_by (take 1 ws) (access_of e)))
    (drop (landed_by true (access_of e)) (pending a es ++ stored_by true (access_of e)))) (opening_byte o x)) same
    ∙ core x (opening_byte o x) f (pending a es) (access_of e) act empty
    ∙ ap (byte_then (access_of e) x) (sym (view o es a x))
  where
    f : Option ℕ
    f = newest_of x None (landed es)

    same : pending (hart_of e) es ≡ pending a es
    same = ap (λ h. pending h es) mine

    empty : (b old new : ℕ) → access_of e ≡ exchange b old new → pending a es ≡ []
    empty b old new is =
        let here : AllowedBy B (pending (hart_of e) es) (read o es (hart_of e)) (exchange b old new) =
        subst (λ y. AllowedBy B (pending (hart_of e) es) (read o es (hart_of e)) y) is allowed in
        sym same ∙ here.0

stored-off : (x : ℕ) (b : Bool) (y : Access) → (b ≡ true → LeavesByteBy x y) → All (LeavesByte x) (stored_by b y)
stored-off x true (store w) leaves = All-cons (LeavesByte x) w [] (leaves refl) (All-nil (LeavesByte x))
stored-off x false (store w) leaves = All-nil (LeavesByte x)
stored-off x b y leaves = All-nil (LeavesByte x)

-- a byte stays its hart's own where other harts leave it
pub alone_next : (a x : ℕ) (es : List Entry) (e : Entry) → ((g : ℕ) → lands g es ≤ length (own_stores g es)) → IsOnlyWriter a x es
    → (hart_of e ≢ a → LeavesByteBy x (access_of e)) → IsOnlyWriter a x (es ++ e ∷ [])
alone_next a x es e le alone leaves g other = subst (All (LeavesByte x)) (sym (pending-last g es e (le g)))
    (All-drop (LeavesByte x) (land_of g e) (pending g es ++ own_store g e)
    (All-append (LeavesByte x) (pending g es) (own_store g e) (alone g other) (stored-off x (hart_of e == g) (access_of e)
    (λ is. leaves (λ same. other (sym (eqb-true (hart_of e) g is) ∙ same))))))
