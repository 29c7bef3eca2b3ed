-- What a hart would read at an address, once its stores have landed, is what every hart reads there.
use Rattle.std.proofs.Common.{ℕ, zero, suc, ◌<◌, ◌≤◌, ◌≡◌, ◌≢◌, ◌==◌, ◌⊎◌, inl, inr, Bool, true, false, Option, None, List, [], ◌∷◌, ◌++◌, length, take, drop}
use Rattle.std.proofs.Common.{refl, sym, ◌∙◌, ap, subst, arith, append-nil, append_assoc}
use Rattle.std.specs.Prelude.{All, unwrap_or}
use Rattle.std.proofs.lemmas.Bool.{cases_eq, eqb-true, eq-eqb}
use Rattle.std.proofs.lemmas.List.Elements.{All-nil, All-cons, All-append, All-take, All-drop}
use Rattle.memory.specs.declared.writes.Write.{Write}
use Rattle.memory.specs.Writes.{write, covers, newest_of}
use Rattle.memory.proofs.WholeWords.{newest_of-append}
use Rattle.step_machine.specs.declared.events.Entry.{Entry}
use Rattle.step_machine.specs.Names.{OpeningValue, history_of, Access, nothing, load, store, exchange, fence, land, access_of, hart_of, stored_by, landed_by}
use Rattle.step_machine.specs.Names.{written_by, own_store, land_of, own_stores, lands, pending, write_of, landed, opening_byte, memory_byte, read_byte}
use Rattle.step_machine.specs.Names.{AllowedBy, Allowed, LegalAfter, Legal}
use Rattle.step_machine.proofs.{stores-append, landed-last, pending-last, LegalAfter-back, LegalAfter-front, balanced-last, balanced}
use Rattle.store_buffers.specs.StoreBuffers.{LeavesByte, LeavesByteBy, AllLeaveByte, IsOnlyWriter}
use Rattle.store_buffers.proofs.Reading.{passed_over, view}
use Rattle.store_buffers.proofs.Effects.{pending-quiet, same-memory}

one : (x : ℕ) (f : Option ℕ) (w : Write) → covers w x ≡ false → newest_of x f (w ∷ []) ≡ f
one x f w off = passed_over x f (w ∷ []) (All-cons (LeavesByte x) w [] off (All-nil (LeavesByte x)))

over_end : (x : ℕ) (f : Option ℕ) (ws : List Write) (w : Write) → covers w x ≡ false → newest_of x f (ws ++ w ∷ []) ≡ newest_of x f ws
over_end x f ws w off = newest_of-append x f ws (w ∷ []) ∙ one x (newest_of x f ws) w off

-- an access that covers the byte by nothing that it writes
abbrev WritesPast : ℕ → Access → Type 0
WritesPast x (store w) = LeavesByte x w
WritesPast x (exchange a old new) = LeavesByte x (write a 4 new)
WritesPast x other = Unit {0}

core : (x : ℕ) (f : Option ℕ) (mine theirs : List Write) (b : Bool) (y : Access) → WritesPast x y → (b ≡ true → theirs ≡ mine)
    → (b ≡ false → All (LeavesByte x) theirs) → (y ≡ land → 0 < length theirs)
    → newest_of x (newest_of x f (written_by (take 1 theirs) y)) (drop (landed_by b y) (mine ++ stored_by b y)) ≡ newest_of x f mine
core x f mine theirs b nothing leaves same other some = ap (newest_of x f) (append-nil mine)
core x f mine theirs b (load a width v) leaves same other some = ap (newest_of x f) (append-nil mine)
core x f mine theirs b (fence full) leaves same other some = ap (newest_of x f) (append-nil mine)
core x f mine theirs true (store w) leaves same other some = over_end x f mine w leaves
core x f mine theirs false (store w) leaves same other some = ap (newest_of x f) (append-nil mine)
core x f mine theirs b (exchange a old new) leaves same other some =
    ap (λ g. newest_of x g (mine ++ [])) (one x f (write a 4 new) leaves) ∙ ap (newest_of x f) (append-nil mine)
core x f mine theirs false land leaves same other some =
    ap (λ g. newest_of x g (mine ++ [])) (passed_over x f (take 1 theirs) (All-take (LeavesByte x) 1 theirs (other refl)))
    ∙ ap (newest_of x f) (append-nil mine)
core x f [] theirs true land leaves same other some = absurd (let none : length theirs ≡ 0 = ap length (same refl) in omega (arith, none, some refl))
core x f (w ∷ ws) theirs true land leaves same other some =
    ap (λ ts. newest_of x (newest_of x f (take 1 ts)) (ws ++ [])) (same refl) ∙ ap (newest_of x (newest_of x f (w ∷ []))) (append-nil ws)

module _ (B : ℕ) (o : OpeningValue) (a x : ℕ) (es : List Entry) (e : Entry) (le : lands a es ≤ length (own_stores a es)) (allowed : Allowed B o es e)
    (alone : IsOnlyWriter a x es) where
  mine : (hart_of e == a) ≡ true → pending (hart_of e) es ≡ pending a es
  mine is = ap (λ h. pending h es) (eqb-true (hart_of e) a is)

  theirs : (hart_of e == a) ≡ false → All (LeavesByte x) (pending (hart_of e) es)
  theirs is = alone (hart_of e) (λ e1. grind (arith, is, e1, eq-eqb))

  some : access_of e ≡ land → 0 < length (pending (hart_of e) es)
  some is = subst (λ y. AllowedBy B (pending (hart_of e) es) (Rattle.step_machine.specs.Entries.read o es (hart_of e)) y) is allowed

  past : WritesPast x (access_of e) → read_byte o (es ++ e ∷ []) a x ≡ read_byte o es a x
  past leaves = view o (es ++ e ∷ []) a x ∙ ap (λ g. unwrap_or g (opening_byte o x))
      (ap (λ ws. newest_of x (newest_of x None ws) (pending a (es ++ e ∷ []))) (landed-last es e)
      ∙ ap (λ g. newest_of x g (pending a (es ++ e ∷ []))) (newest_of-append x None (landed es) (write_of es e))
      ∙ ap (newest_of x (newest_of x (newest_of x None (landed es)) (write_of es e))) (pending-last a es e le)
      ∙ core x (newest_of x None (landed es)) (pending a es) (pending (hart_of e) es) (hart_of e == a) (access_of e)
      leaves mine theirs some) ∙ sym (view o es a x)

  step : LeavesByteBy x (access_of e) → read_byte o (es ++ e ∷ []) a x ≡ read_byte o es a x
  step leaves = at (access_of e) refl leaves
    where
      past-by : (y : Access) → access_of e ≡ y → WritesPast x y → read_byte o (es ++ e ∷ []) a x ≡ read_byte o es a x
      past-by y does leaves = past (subst (WritesPast x) (sym does) leaves)

      at : (y : Access) → access_of e ≡ y → LeavesByteBy x y → read_byte o (es ++ e ∷ []) a x ≡ read_byte o es a x
      at nothing does leaves = past-by nothing does tt
      at (load b width v) does leaves = past-by (load b width v) does tt
      at (store w) does leaves = past-by (store w) does leaves
      at (exchange b old new) does (inr leaves) = past-by (exchange b old new) does leaves
      at (exchange b old new) does (inl same) =
          ap (λ ws. unwrap_or (newest_of x None ws) (memory_byte o (es ++ e ∷ []) x))
          (pending-quiet es e a le (ap (stored_by (hart_of e == a)) does) (ap (landed_by (hart_of e == a)) does))
          ∙ ap (unwrap_or (newest_of x None (pending a es))) (same-memory B o es e b old new does same allowed x)
      at (fence full) does leaves = past-by (fence full) does tt
      at land does leaves = past-by land does tt

stored-off : (x : ℕ) (b : Bool) (y : Access) → LeavesByteBy x y → All (LeavesByte x) (stored_by b y)
stored-off x true (store w) leaves = All-cons (LeavesByte x) w [] leaves (All-nil (LeavesByte x))
stored-off x false (store w) leaves = All-nil (LeavesByte x)
stored-off x b y leaves = All-nil (LeavesByte x)

stays : (a x : ℕ) (es : List Entry) (e : Entry) → ((g : ℕ) → lands g es ≤ length (own_stores g es)) → IsOnlyWriter a x es → LeavesByteBy x (access_of e)
    → IsOnlyWriter a x (es ++ e ∷ [])
stays a x es e le alone leaves g other = subst (All (LeavesByte x)) (sym (pending-last g es e (le g)))
    (All-drop (LeavesByte x) (land_of g e) (pending g es ++ own_store g e)
    (All-append (LeavesByte x) (pending g es) (own_store g e) (alone g other) (stored-off x (hart_of e == g) (access_of e) leaves)))

pub kept : (B : ℕ) (o : OpeningValue) (a x : ℕ) (es fs : List Entry) → ((g : ℕ) → lands g es ≤ length (own_stores g es)) → LegalAfter B o es fs
    → IsOnlyWriter a x es → AllLeaveByte x fs → (read_byte o (es ++ fs) a x ≡ read_byte o es a x) × IsOnlyWriter a x (es ++ fs)
kept B o a x es [] le legal alone leave = subst (λ zs. (read_byte o zs a x ≡ read_byte o es a x) × IsOnlyWriter a x zs) (sym (append-nil es)) (refl, alone)
kept B o a x es (e ∷ fs) le legal alone leave =
    let more = kept B o a x (es ++ e ∷ []) fs (λ g. balanced-last B o es g e legal.0 (le g)) legal.1 (stays a x es e le alone leave.0) leave.1 in
    subst (λ zs. (read_byte o zs a x ≡ read_byte o es a x) × IsOnlyWriter a x zs) (append_assoc es (e ∷ []) fs)
    (more.0 ∙ step B o a x es e (le a) legal.0 alone leave.0, more.1)

stores-off : (x h : ℕ) (fs : List Entry) → AllLeaveByte x fs → All (LeavesByte x) (own_stores h fs)
stores-off x h [] leave = All-nil (LeavesByte x)
stores-off x h (e ∷ fs) leave =
    All-append (LeavesByte x) (own_store h e) (own_stores h fs) (stored-off x (hart_of e == h) (access_of e) leave.0) (stores-off x h fs leave.1)

dropped-off : (x n : ℕ) (ws vs : List Write) → length ws ≤ n → All (LeavesByte x) vs → All (LeavesByte x) (drop n (ws ++ vs))
dropped-off x n [] vs le all = All-drop (LeavesByte x) n vs all
dropped-off x zero (w ∷ ws) vs le all = absurd (omega (arith, le))
dropped-off x (suc n) (w ∷ ws) vs le all = dropped-off x n ws vs (omega (arith, le)) all

-- hart a's view of a byte, once all that it had stored has landed, is every hart's
pub handed_over : (B : ℕ) (o : OpeningValue) (a h x : ℕ) (es fs : List Entry) → Legal B (history_of o (es ++ fs))
    → length (own_stores a es) ≤ lands a (es ++ fs) → IsOnlyWriter a x es → AllLeaveByte x fs → read_byte o (es ++ fs) h x ≡ read_byte o es a x
handed_over B o a h x es fs legal landed alone leave =
    let all = kept B o a x es fs (λ g. balanced B (history_of o es) g (LegalAfter-front B o [] es fs legal)) (LegalAfter-back B o [] es fs legal) alone leave in
    let own : All (LeavesByte x) (pending a (es ++ fs)) = subst (λ ws. All (LeavesByte x) (drop (lands a (es ++ fs)) ws)) (sym (stores-append a es fs))
    (dropped-off x (lands a (es ++ fs)) (own_stores a es) (own_stores a fs) landed (stores-off x a fs leave)) in
    ap (λ g. unwrap_or g (memory_byte o (es ++ fs) x)) (passed_over x None (pending h (es ++ fs)) (at (cases_eq h a) own all.1))
    ∙ sym (ap (λ g. unwrap_or g (memory_byte o (es ++ fs) x)) (passed_over x None (pending a (es ++ fs)) own)) ∙ all.0
  where
    at : (h ≡ a) ⊎ (h ≢ a) → All (LeavesByte x) (pending a (es ++ fs)) → IsOnlyWriter a x (es ++ fs) → All (LeavesByte x) (pending h (es ++ fs))
    at (inl is) own alone = subst (λ g. All (LeavesByte x) (pending g (es ++ fs))) (sym is) own
    at (inr other) own alone = alone h other
