-- What the machine holds stays what its history says, over one more entry.
use Rattle.std.proofs.Common.{◌≡◌, ℕ, zero, suc, ◌*◌, ◌<◌, ◌==◌, Bool, false, not, ◌&&◌, if◌then◌else◌, List, [], ◌∷◌, ◌++◌, length, drop, set, get_or, Option}
use Rattle.std.proofs.Common.{Some, None, refl, sym, ◌∙◌, ap, subst, arith, append-nil, get_or-set_same, get_or-set_other}
use Rattle.std.specs.Prelude.{map, option_map, unwrap_or, All}
use Rattle.std.proofs.lemmas.List.Elements.{All-nil, All-cons, All-append}
use Rattle.std.specs.List.{slice_get}
use Rattle.std.proofs.lemmas.Bool.{eqb-true, eqb-false, eq-eqb, ne_eqb}
use Rattle.std.proofs.lemmas.Option.{slice_get_within, slice_get-map, get_or_from_slice_get}
use Rattle.std.proofs.Math.Seq.{map-set_same}
use Rattle.memory.specs.Writes.{WritesInWord, write, byte_after, newest_of, byte_of}
use Rattle.memory.proofs.Bytes.{byte_of-write}
use Rattle.hart.specs.{HartState, HartView, need_of, advanced, stepped, reports_after}
use Rattle.hart.specs.declared.need.Need.{Need}
use Rattle.hart.specs.declared.need.Report.{Report}
use Rattle.step_machine.specs.Names.{Entry, OpeningValue, History, with_entry, hart_of, is_land, is_own, own_store, land_of, report_of, reported, pending}
use Rattle.step_machine.specs.Names.{write_of, landed, opening_byte, memory_byte, Legal, Stored, HasAddress, written, Config, beginning, step_at, step_hart}
use Rattle.step_machine.specs.Names.{view_state, StoresRepresent, Represents}
use Rattle.step_machine.specs.declared.events.Entry.TheVariants as entry
use Rattle.step_machine.specs.Paths.{entry_of, number_read, opens_as, state_of}
use Rattle.memory.proofs.WholeWords.{newest_of-append}
use Rattle.step_machine.proofs.Appended.{pending-last, landed-last, reported-last}
use Rattle.step_machine.proofs.Landings.{balanced}
use Rattle.step_machine.proofs.Follows.{advance_by, state_of-mine, state_of-other}
use Rattle.memory.specs.declared.writes.Write.{Write}

-- one element written, and the elements beside it

pub slice_get-set_same : {X : Type 0} (xs : List X) (i : ℕ) (y : X) → i < length xs → slice_get (set xs i y) i ≡ Some y
slice_get-set_same [] i y lt = absurd (omega arith)
slice_get-set_same (x ∷ xs) zero y lt = refl
slice_get-set_same (x ∷ xs) (suc i) y lt = slice_get-set_same xs i y (omega arith)

pub slice_get-set_other : {X : Type 0} (xs : List X) (i k : ℕ) (y : X) → (k ≡ i → ⊥) → slice_get (set xs i y) k ≡ slice_get xs k
slice_get-set_other (x ∷ xs) zero zero y ne = absurd (ne refl)
slice_get-set_other (x ∷ xs) (suc i) (suc k) y ne = slice_get-set_other xs i k y (λ e. ne (ap suc e))
slice_get-set_other z other u y ne = refl

-- the harts after one of them stepped

step_at-same : (hs : List HartView) (h v : ℕ) (so : Option HartView) → slice_get hs h ≡ so
    → slice_get (step_at hs h v so) h ≡ option_map (λ (x : HartView). stepped x v) so
step_at-same hs h v so is = grind (arith, slice_get-set_same, slice_get_within)

step_at-other : (hs : List HartView) (h v k : ℕ) (so : Option HartView) → (k ≡ h → ⊥) → slice_get (step_at hs h v so) k ≡ slice_get hs k
step_at-other hs h v k so ne = grind (arith, slice_get-set_other)

map_stepped : (v : ℕ) (so : Option HartView) → option_map view_state (option_map (λ (x : HartView). stepped x v) so)
    ≡ option_map (λ (s : HartState). advanced s v) (option_map view_state so)
map_stepped v so = grind arith

own_is : (h k : ℕ) (e : Entry) (b : Bool) → hart_of e ≡ h → (h == k) ≡ b → is_own k e ≡ (b && not (is_land e))
own_is h k e b mine is = let at : (hart_of e == k) ≡ b = subst (λ (g : ℕ). (g == k) ≡ b) (sym mine) is in ap (λ c. c && not (is_land e)) at

-- the states after hart h made an entry e of its own and its list of harts stepped at h by what e read
pub states_stay : (M : ℕ) (t : History) (c : Config) (h : ℕ) (e : Entry) → Represents M t c → hart_of e ≡ h
    → is_land e ≡ false → (k : ℕ)
    → option_map view_state (slice_get (step_hart c h (number_read e)) k) ≡ state_of M (with_entry t e) k
states_stay M t c h e tied mine act k =
    grind (arith, eqb-true, step_at-same, map_stepped, advance_by, state_of-mine, eqb-false, own_is, ne_eqb, step_at-other, state_of-other)

-- a landing leaves every hart's state
pub states_land : (M : ℕ) (t : History) (h k : ℕ) → state_of M (with_entry t (entry.Land h)) k ≡ state_of M t k
states_land M t h k = grind (arith, state_of-other, own_is)

-- where the harts opened

first_at : (hs : List HartView) (h : ℕ) → option_map beginning (slice_get hs h) ≡ slice_get (map beginning hs) h
first_at hs h = sym (slice_get-map beginning hs h)

-- harts with the same openings, one by one
pub first_same : (hs gs : List HartView) (h : ℕ) → map beginning gs ≡ map beginning hs
    → option_map beginning (slice_get gs h) ≡ option_map beginning (slice_get hs h)
first_same hs gs h same = first_at gs h ∙ ap (λ (ss : List HartState). slice_get ss h) same ∙ sym (first_at hs h)

pub firsts_step_at : (hs : List HartView) (h v : ℕ) (so : Option HartView) → slice_get hs h ≡ so → map beginning (step_at hs h v so) ≡ map beginning hs
firsts_step_at hs h v None is = refl
firsts_step_at hs h v (Some x) is = map-set_same beginning hs h (stepped x v) x (ap beginning (sym (get_or_from_slice_get hs h x x is)))

-- a step leaves where each hart opened
pub firsts_stay : (M : ℕ) (t : History) (c : Config) (h v : ℕ) → Represents M t c → (k : ℕ)
    → option_map beginning (slice_get (step_hart c h v) k) ≡ option_map (opens_as M) (slice_get t.opening.harts k)
firsts_stay M t c h v tied k = first_same c.harts (step_hart c h v) k (firsts_step_at c.harts h v (slice_get c.harts h) refl) ∙ tied.firsts k

-- reports

if_self : {X : Type 0} (h : ℕ) (x y : X) → (if h == h then x else y) ≡ x
if_self h x y = ap (λ b. if b then x else y) (eq-eqb h h refl)

pub reports_after-entry : (rs : List Report) (n : Need) (h v : ℕ) → reports_after rs n ≡ rs ++ report_of h (entry_of h n v)
reports_after-entry rs n h v = grind (arith, if_self, append-nil)

pub report_of-other : (k : ℕ) (e : Entry) → (hart_of e == k) ≡ false → report_of k e ≡ []
report_of-other k e ne = grind arith

-- the reports after hart h, in state s, made e
pub reports_stay : (M : ℕ) (t : History) (c : Config) (h : ℕ) (e : Entry) (s : HartState) → Represents M t c
    → hart_of e ≡ h → state_of M t h ≡ Some s → e ≡ entry_of h (need_of s) (number_read e) → (k : ℕ) (w : HartView)
    → slice_get (step_hart c h (number_read e)) k ≡ Some w → w.reports ≡ reported k (with_entry t e).entries
reports_stay M t c h e s tied mine is made k w here =
    grind (arith, step_at-same, reports_after-entry, reported-last, eqb-true, eqb-false, report_of-other, ne_eqb, step_at-other, append-nil)

-- buffers

-- an entry that neither stores nor lands leaves what is pending
pub pending-other : (B : ℕ) (t : History) (k : ℕ) (e : Entry) → Legal B t → own_store k e ≡ [] → land_of k e ≡ 0
    → pending k (t.entries ++ e ∷ []) ≡ pending k t.entries
pending-other B t k e legal no_store no_land = grind (arith, pending-last, balanced, append-nil)

-- a store joins what is pending of its hart at the end
pub pending-store : (B : ℕ) (t : History) (h a width v : ℕ) → Legal B t
    → pending h (t.entries ++ entry.Store h a width v ∷ []) ≡ pending h t.entries ++ write a width v ∷ []
pending-store B t h a width v legal = pending-last h t.entries (entry.Store h a width v) (balanced B t h legal)
    ∙ ap (λ ps. pending h t.entries ++ ps) (if_self h (write a width v ∷ []) [])

-- a landing takes the first of what is pending of its hart
pub pending-land : (B : ℕ) (t : History) (h : ℕ) → Legal B t → pending h (t.entries ++ entry.Land h ∷ []) ≡ drop 1 (pending h t.entries)
pending-land B t h legal = grind (arith, pending-last, balanced, if_self, append-nil)

pub store_of-other : (h k a width v : ℕ) → (k ≡ h → ⊥) → own_store k (entry.Store h a width v) ≡ []
store_of-other h k a width v ne = ap (λ b. if b then write a width v ∷ [] else []) (ne_eqb h k (λ q. ne (sym q)))

pub land_of-other : (h k : ℕ) → (k ≡ h → ⊥) → land_of k (entry.Land h) ≡ 0
land_of-other h k ne = ap (λ b. if b then 1 else 0) (ne_eqb h k (λ q. ne (sym q)))

-- a buffer written at h is what is pending, where it is so at h, and the others stay
pub buffers_stay : (M : ℕ) (t : History) (c : Stored) (h : ℕ) (ps : List Write) (e : Entry) → StoresRepresent M t c
    → h < length c.buffers → ps ≡ pending h (t.entries ++ e ∷ [])
    → ((k : ℕ) → (k ≡ h → ⊥) → pending k (t.entries ++ e ∷ []) ≡ pending k t.entries) → (k : ℕ)
    → get_or (set c.buffers h ps) k [] ≡ pending k (t.entries ++ e ∷ [])
buffers_stay M t c h ps e tied within here others k = grind (arith, set, eqb-true, get_or-set_same, eqb-false, get_or-set_other)

-- what landed

pub in_words_other : (es : List Entry) (e : Entry) → write_of es e ≡ [] → All WritesInWord (landed es) → All WritesInWord (landed (es ++ e ∷ []))
in_words_other es e none small = subst (All WritesInWord) (sym (landed-last es e ∙ ap (λ ws. landed es ++ ws) none ∙ append-nil (landed es))) small

pub in_words_write : (es : List Entry) (e : Entry) (w : Write) → write_of es e ≡ w ∷ [] → WritesInWord w
    → All WritesInWord (landed es) → All WritesInWord (landed (es ++ e ∷ []))
in_words_write es e w is here small =
    subst (All WritesInWord) (sym (landed-last es e ∙ ap (λ ws. landed es ++ ws) is))
    (All-append WritesInWord (landed es) (w ∷ []) small (All-cons WritesInWord w [] here (All-nil WritesInWord)))

-- bytes

-- an entry that writes nothing leaves every byte
pub memory_byte-other : (o : OpeningValue) (es : List Entry) (e : Entry) (a : ℕ) → write_of es e ≡ [] → memory_byte o (es ++ e ∷ []) a ≡ memory_byte o es a
memory_byte-other o es e a none = ap (λ ws. unwrap_or (newest_of a None ws) (opening_byte o a))
    (landed-last es e ∙ ap (λ ws. landed es ++ ws) none ∙ append-nil (landed es))

-- an entry that writes changes the bytes that its write covers
pub memory_byte-write : (o : OpeningValue) (es : List Entry) (e : Entry) (w : Write) (a : ℕ)
    → write_of es e ≡ w ∷ [] → memory_byte o (es ++ e ∷ []) a ≡ byte_after w a (memory_byte o es a)
memory_byte-write o es e w a is = grind (arith, landed-last, newest_of-append)

-- words after a write say what memory says after it
pub bytes_stay : (M : ℕ) (t : History) (c : Stored) (e : Entry) (w : Write) → StoresRepresent M t c
    → length c.words ≡ M → HasAddress M w → write_of t.entries e ≡ w ∷ [] → (a : ℕ) → a < 4 * M
    → byte_of (written w c.words) a ≡ memory_byte t.opening (t.entries ++ e ∷ []) a
bytes_stay M t c e w tied count place is a below = grind (arith, byte_of-write, memory_byte-write)
