-- What one entry changes of all that is read off a history: an act by its hart's need, a landing by
-- the store that lands. All rings go by these two records and by nothing else of the machine.
use Rattle.std.proofs.Common.{ℕ, ◌≡◌, ◌≢◌, ◌==◌, Bool, true, false, List, [], ◌∷◌, ◌++◌, Some, if◌then◌else◌, refl, sym, subst, arith, eq-eqb, append-nil}
use Rattle.std.specs.Prelude.{T}
use Rattle.std.proofs.lemmas.Bool.Decides.{nat_tests}
use Rattle.hart.specs.{HartState, need_of, advanced}
use Rattle.hart.specs.declared.status.Status.TheVariants as status
use Rattle.hart.specs.declared.need.Need.{Need}
use Rattle.hart.specs.declared.need.Need.TheVariants as need
use Rattle.hart.specs.declared.need.Report.{Report}
use Rattle.hart.specs.declared.need.Report.TheVariants as report
use Rattle.step_machine.specs.declared.events.Entry.{Entry}
use Rattle.step_machine.specs.declared.events.Entry.TheVariants as entry
use Rattle.poll_close.specs.Layout.{Layout, StaysWithin, Touches}
use Rattle.poll_close.specs.{GoesOn, as_write, as_writes}
use Rattle.step_machine.proofs.{loads, word_in_memory-other, word_in_memory-write, pending-last, reported-last, balanced, some_first, act_only, state_of-mine}
use Rattle.step_machine.proofs.{state_of-other, Legal-last, states_land, pending-land, pending-other, land_of-other}
use Rattle.step_machine.specs.Names.{History, with_entry, hart_of, is_land, own_store, land_of, write_of, report_of, pending, read, reported, access_of}
use Rattle.step_machine.specs.Names.{WritesWord, word_in_memory, Allowed, Legal, CanFollow}
use Rattle.memory.specs.declared.writes.Write.{Write}
use Rattle.memory.specs.Writes.{write, IsWholeWord}
use Rattle.step_machine.specs.Paths.{entry_of, number_read, state_of}

-- the word that a need stores, with its address, and what it reports
abbrev pub stored_by : Need → List (ℕ × ℕ)
stored_by need.Inner = []
stored_by (need.Load a width) = []
stored_by (need.Store a width w) = (a, w) ∷ []
stored_by (need.Amo a op rs2) = []
stored_by (need.Fence full) = []
stored_by (need.Next w) = []
stored_by (need.Report r) = []
stored_by need.Exit = []
stored_by (need.Stop why) = []

abbrev pub reports_of_need : Need → List Report
reports_of_need need.Inner = []
reports_of_need (need.Load a width) = []
reports_of_need (need.Store a width w) = []
reports_of_need (need.Amo a op rs2) = []
reports_of_need (need.Fence full) = []
reports_of_need (need.Next w) = []
reports_of_need (need.Report r) = r ∷ []
reports_of_need need.Exit = []
reports_of_need (need.Stop why) = []

-- an act that leaves memory as it is, and loads or stores a whole word at such an address if any
abbrev pub IsNoAmo : (ℕ → Type 0) → Need → Type 0
IsNoAmo P need.Inner = Unit {0}
IsNoAmo P (need.Load a width) = T (width == 4) × P a
IsNoAmo P (need.Store a width w) = T (width == 4) × P a
IsNoAmo P (need.Amo a op rs2) = ⊥
IsNoAmo P (need.Fence full) = Unit {0}
IsNoAmo P (need.Next w) = Unit {0}
IsNoAmo P (need.Report r) = Unit {0}
IsNoAmo P need.Exit = Unit {0}
IsNoAmo P (need.Stop why) = ⊥

whole_width : (width : ℕ) (b : Bool) → (width == 4) ≡ b → T b → width ≡ 4
whole_width width b is plain = grind (arith, nat_tests)

-- the entry that hart h makes of a need, as each definition sees it
record Seen (h k : ℕ) (same : Bool) (es : List Entry) (n : Need) (e : Entry) : Type 0 where
  stores : own_store k e ≡ (if same then as_writes (stored_by n) else [])
  says : report_of k e ≡ (if same then reports_of_need n else [])
  lands : land_of k e ≡ 0
  writes : write_of es e ≡ []

seen : (P : ℕ → Type 0) (h k : ℕ) (same : Bool) (es : List Entry) (n : Need) (v : ℕ) → (h == k) ≡ same → IsNoAmo P n → Seen h k same es n (entry_of h n v)
seen P h k same es n v is plain = grind (arith, whole_width)

-- such a need's entry is no stop
goes_on : (P : ℕ → Type 0) (h : ℕ) (n : Need) (v : ℕ) → IsNoAmo P n → GoesOn (entry_of h n v)
goes_on P h n v plain = grind arith

-- and it touches such an address, if any
touches : (P : ℕ → Type 0) (l : Layout) (k h : ℕ) (n : Need) (v : ℕ) → IsNoAmo P n → ((a : ℕ) → P a → StaysWithin l k h a 4) → Touches l k (entry_of h n v)
touches P l k h n v plain reach = grind (arith, whole_width)

-- and what it writes, if it writes, is a whole word
writes_word : (P : ℕ → Type 0) (h : ℕ) (n : Need) (v : ℕ) → IsNoAmo P n
    → ((x : ℕ × ℕ) → stored_by n ≡ x ∷ [] → IsWholeWord (as_write x)) → WritesWord (access_of (entry_of h n v))
writes_word P h need.Inner v plain whole = tt
writes_word P h (need.Load a width) v plain whole = tt
writes_word P h (need.Store a width w) v plain whole =
    subst (λ (z : ℕ). IsWholeWord (write a z w)) (sym (whole_width width (width == 4) refl plain.0)) (whole (a, w) refl)
writes_word P h (need.Amo a op rs2) v plain whole = absurd plain
writes_word P h (need.Fence full) v plain whole = tt
writes_word P h (need.Next w) v plain whole = tt
writes_word P h (need.Report (report.Took i w)) v plain whole = tt
writes_word P h (need.Report (report.Closed i)) v plain whole = tt
writes_word P h need.Exit v plain whole = tt
writes_word P h (need.Stop why) v plain whole = absurd plain

-- an act by such a need, which stores a word if any
pub record Plain (P : ℕ → Type 0) (n : Need) : Type 0 where
  pub no_amo : IsNoAmo P n
  pub whole : (x : ℕ × ℕ) → stored_by n ≡ x ∷ [] → IsWholeWord (as_write x)

pub going : (P : ℕ → Type 0) (l : Layout) (n : ℕ) (B M : ℕ) (t : History) (h : ℕ) (s : HartState) (e : Entry)
    → state_of M t h ≡ Some s → CanFollow B M t e → hart_of e ≡ h → is_land e ≡ false
    → (s.status ≡ status.Running → Plain P (need_of s)) → ((a : ℕ) → P a → StaysWithin l n h a 4)
    → GoesOn e × WritesWord (access_of e) × Touches l n e
going P l n B M t h s e is can mine act plain reach = grind (
  arith,
  act_only B M t h s e mine act is can,
  goes_on P (hart_of e) (need_of s) (number_read e),
  writes_word P (hart_of e) (need_of s) (number_read e),
  touches P l n (hart_of e) (need_of s) (number_read e),
)

-- what a load read
reads_by : (B : ℕ) (t : History) (h a v : ℕ) → Allowed B t.opening t.entries (entry_of h (loads a) v) → v ≡ read t.opening t.entries h a 4
reads_by B t h a v allowed = allowed

-- hart h acted in state s, and read v
pub record Acted (M : ℕ) (t new : History) (h : ℕ) (s : HartState) (v : ℕ) : Type 0 where
  pub running : s.status ≡ status.Running
  pub state : state_of M new h ≡ Some (advanced s v)
  pub states : (k : ℕ) → k ≢ h → state_of M new k ≡ state_of M t k
  pub buffer : pending h new.entries ≡ pending h t.entries ++ as_writes (stored_by (need_of s))
  pub buffers : (k : ℕ) → k ≢ h → pending k new.entries ≡ pending k t.entries
  pub memory : (a : ℕ) → word_in_memory new.opening new.entries a ≡ word_in_memory t.opening t.entries a
  pub reports : reported h new.entries ≡ reported h t.entries ++ reports_of_need (need_of s)
  pub others : (k : ℕ) → k ≢ h → reported k new.entries ≡ reported k t.entries
  pub loaded : (a : ℕ) → need_of s ≡ loads a → v ≡ read t.opening t.entries h a 4

pub acted : (P : ℕ → Type 0) (B M : ℕ) (t : History) (h : ℕ) (s : HartState) (e : Entry) → Legal B t
    → state_of M t h ≡ Some s → CanFollow B M t e → hart_of e ≡ h → is_land e ≡ false
    → (s.status ≡ status.Running → Plain P (need_of s)) → Acted M t (with_entry t e) h s (number_read e)
acted P B M t h s e legal is can mine act no_amo = grind (
  arith,
  act_only B M t h s e mine act is can,
  seen P h h true t.entries (need_of s) (number_read e) (eq-eqb h h refl),
  seen P h,
  eq-eqb h h refl,
  state_of-mine M t h e mine act,
  state_of-other M t,
  pending-last h t.entries e (balanced B t h legal),
  pending-last,
  balanced B t h legal,
  balanced B t,
  append-nil,
  word_in_memory-other t.opening t.entries e,
  reported-last h t.entries e,
  reported-last,
  reads_by B t h,
  nat_tests,
)

-- hart h's oldest pending store x reached memory
pub record Landed (M : ℕ) (t new : History) (h : ℕ) (w : Write) (rest : List Write) : Type 0 where
  pub first : pending h t.entries ≡ w ∷ rest
  pub states : (k : ℕ) → state_of M new k ≡ state_of M t k
  pub buffer : pending h new.entries ≡ rest
  pub buffers : (k : ℕ) → k ≢ h → pending k new.entries ≡ pending k t.entries
  pub memory : (a : ℕ) → word_in_memory new.opening new.entries a ≡ (if w.addr == a then w.value else word_in_memory t.opening t.entries a)
  pub reports : (k : ℕ) → reported k new.entries ≡ reported k t.entries

pub landed : (B M : ℕ) (t : History) (h : ℕ) → Legal B t → CanFollow B M t (entry.Land h)
    → (w : Write) × (rest : List Write) × Landed M t (with_entry t (entry.Land h)) h w rest
landed B M t h legal can = grind (
  arith,
  some_first,
  Legal-last,
  states_land,
  pending-land,
  pending-other,
  land_of-other,
  word_in_memory-write,
  reported-last,
  append-nil,
)
