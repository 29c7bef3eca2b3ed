-- What a load reads of a store that has reached memory.
use Rattle.std.proofs.Common.{ℕ, ◌-◌, ◌≡◌, Bool, true, false, if◌then◌else◌, List, [], ◌∷◌, Option, Some, None, refl, sym, ◌∙◌, ap}
use Rattle.std.specs.Prelude.{All, unwrap_or}
use Rattle.std.specs.Int.{byte_at}
use Rattle.std.proofs.lemmas.List.Elements.{All-head, All-tail}
use Rattle.memory.specs.declared.writes.Write.{Write}
use Rattle.memory.specs.Writes.{covers, byte_after, newest_of}
use Rattle.memory.proofs.WholeWords.{newest_of-append}
use Rattle.step_machine.specs.declared.events.Entry.{Entry}
use Rattle.step_machine.specs.Names.{OpeningValue, pending, landed, opening_byte, memory_byte, read_byte}
use Rattle.store_buffers.specs.StoreBuffers.{IsGloballyPerformed, LeavesByte}

pub passed_over : (x : ℕ) (found : Option ℕ) (ws : List Write) → All (LeavesByte x) ws → newest_of x found ws ≡ found
passed_over x found [] all = refl
passed_over x found (w ∷ ws) all =
    ap (λ c. newest_of x (if c then Some (byte_at (x - w.addr) w.value) else found) ws) (All-head (LeavesByte x) w ws all)
    ∙ passed_over x found ws (All-tail (LeavesByte x) w ws all)

-- a byte of the store, where nothing was written over it since
pub byte_seen : (o : OpeningValue) (es : List Entry) (w : Write) (h : IsGloballyPerformed es w) (x : ℕ) → covers w x ≡ true → All (LeavesByte x) h.later
    → memory_byte o es x ≡ byte_at (x - w.addr) w.value
byte_seen o es w h x on all =
    ap (λ ws. unwrap_or (newest_of x None ws) (opening_byte o x)) h.is
    ∙ ap (λ f. unwrap_or f (opening_byte o x)) (newest_of-append x None h.earlier (w ∷ h.later)
    ∙ ap (λ c. newest_of x (if c then Some (byte_at (x - w.addr) w.value) else newest_of x None h.earlier) h.later) on
    ∙ passed_over x (Some (byte_at (x - w.addr) w.value)) h.later all)

-- and so a hart reads it that has stored nothing there itself
pub read_seen : (o : OpeningValue) (es : List Entry) (w : Write) (h : IsGloballyPerformed es w) (hart x : ℕ) → covers w x ≡ true → All (LeavesByte x) h.later
    → All (LeavesByte x) (pending hart es) → read_byte o es hart x ≡ byte_at (x - w.addr) w.value
read_seen o es w h hart x on all own =
    ap (λ f. unwrap_or f (memory_byte o es x)) (passed_over x None (pending hart es) own) ∙ byte_seen o es w h x on all

-- what is found before a list counts where nothing is found in it
newest-found : (x d : ℕ) (found : Option ℕ) (ws : List Write) → unwrap_or (newest_of x found ws) d ≡ unwrap_or (newest_of x None ws) (unwrap_or found d)
newest-found x d found [] = refl
newest-found x d found (w ∷ ws) = at (covers w x) (λ e g. newest-found x e g ws)
  where
    b : ℕ
    b = byte_at (x - w.addr) w.value

    at : (c : Bool) → ((e : ℕ) (g : Option ℕ) → unwrap_or (newest_of x g ws) e ≡ unwrap_or (newest_of x None ws) (unwrap_or g e))
        → unwrap_or (newest_of x (if c then Some b else found) ws) d ≡ unwrap_or (newest_of x (if c then Some b else None) ws) (unwrap_or found d)
    at true more = more d (Some b) ∙ sym (more (unwrap_or found d) (Some b))
    at false more = more d found

-- what a hart reads is the newest of what has landed and then of its own pending stores
pub view : (o : OpeningValue) (es : List Entry) (a x : ℕ)
    → read_byte o es a x ≡ unwrap_or (newest_of x (newest_of x None (landed es)) (pending a es)) (opening_byte o x)
view o es a x = sym (newest-found x (opening_byte o x) (newest_of x None (landed es)) (pending a es))

pub newest-first : (x d : ℕ) (w : Write) (ws : List Write) → unwrap_or (newest_of x None (w ∷ ws)) d ≡ unwrap_or (newest_of x None ws) (byte_after w x d)
newest-first x d w ws = at (covers w x)
  where
    b : ℕ
    b = byte_at (x - w.addr) w.value

    at : (c : Bool) → unwrap_or (newest_of x (if c then Some b else None) ws) d ≡ unwrap_or (newest_of x None ws) (if c then b else d)
    at true = newest-found x d (Some b) ws
    at false = refl
