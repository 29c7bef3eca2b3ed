-- A machine stays fit for its memory, whatever the event.
use Rattle.std.proofs.Common.{◌≡◌, ℕ, ◌<◌, Bool, true, false, List, [], ◌∷◌, ◌++◌, length, drop, Option, Some, None, refl, ◌∙◌, arith}
use Rattle.std.specs.List.{slice_get}
use Rattle.std.proofs.lemmas.List.{length-set}
use Rattle.std.proofs.lemmas.List.Elements.{All-append, All-cons, All-drop, All-get_or, All-nil, All-set}
use Rattle.std.proofs.lemmas.Option.{slice_get_within}
use Rattle.memory.specs.Writes.{write}
use Rattle.memory.specs.declared.writes.Write.{Write}
use Rattle.hart.specs.{HartView, need_of, updated}
use Rattle.hart.specs.declared.need.Need.{Need}
use Rattle.hart.specs.declared.need.Need.TheVariants as need
use Rattle.hart.specs.declared.need.Report.TheVariants as report
use Rattle.hart.specs.declared.status.Status.{Status}
use Rattle.hart.specs.declared.status.Status.TheVariants as status
use Rattle.step_machine.specs.declared.events.Event.{Event}
use Rattle.step_machine.specs.declared.events.Event.TheVariants as event
use Rattle.step_machine.specs.declared.events.Entry.{Entry}
use Rattle.step_machine.specs.declared.events.Entry.TheVariants as entry
use Rattle.step_machine.specs.declared.events.Outcome.{Outcome}
use Rattle.step_machine.specs.declared.events.Outcome.TheVariants as outcome
use Rattle.step_machine.specs.Names.{hart_of, number_read, is_over, IsInRange, Stored, buffer_of, word_at, if_waits, outcome_for, land_in, write_first}
use Rattle.step_machine.specs.Names.{stored_after, stored_after_outcome, HasAddress, InMemory, FitStored, Config, Fit, act_in, act_outcome, land_outcome}
use Rattle.step_machine.specs.Names.{outcome_of, after_outcome}
use Rattle.step_machine.proofs.{need_of-in_range, fit_step, hart_at}

-- ---- buffers and memory

buffer_fits : (M : ℕ) (s : Stored) (h : ℕ) → FitStored M s → h < length s.buffers → InMemory M (buffer_of s h)
buffer_fits M s h fit within = All-get_or (InMemory M) s.buffers h [] within fit.pending

waits_or : (M : ℕ) (s : Stored) (b : Bool) (e : Entry) → FitStored M s → FitStored M (stored_after s e) → FitStored M (stored_after_outcome s (if_waits b e))
waits_or M s true e fit after = fit
waits_or M s false e fit after = after

store_fits : (M : ℕ) (s : Stored) (h a width v : ℕ) → FitStored M s → h < length s.buffers → HasAddress M (write a width v)
    → FitStored M (stored_after s (entry.Store h a width v))
store_fits M s h a width v fit within has =
    let last : InMemory M (write a width v ∷ []) = All-cons (HasAddress M) (write a width v) [] has (All-nil (HasAddress M)) in
    let all : InMemory M (buffer_of s h ++ write a width v ∷ []) =
    All-append (HasAddress M) (buffer_of s h) (write a width v ∷ []) (buffer_fits M s h fit within) last in
    record { words = fit.words; first = fit.first; pending = All-set (InMemory M) s.buffers h (buffer_of s h ++ write a width v ∷ []) all fit.pending }

amo_fits : (M : ℕ) (s : Stored) (h a old new : ℕ) → FitStored M s → FitStored M (stored_after s (entry.Amo h a old new))
amo_fits M s h a old new fit = record { words = length-set s.words _ _ ∙ fit.words; first = fit.first; pending = fit.pending }

need_fits : (B M : ℕ) (s : Stored) (h : ℕ) (n : Need) → FitStored M s → h < length s.buffers → IsInRange M n
    → FitStored M (stored_after_outcome s (outcome_for B s h n))
need_fits B M s h (need.Store a width w) fit within range =
    waits_or M s _ (entry.Store h a width w) fit (store_fits M s h a width w fit within (range.1, range.2))
need_fits B M s h (need.Amo a op rs2) fit within range =
    waits_or M s _ (entry.Amo h a (word_at s a) (updated op (word_at s a) rs2)) fit (amo_fits M s h a (word_at s a) (updated op (word_at s a) rs2) fit)
need_fits B M s h (need.Fence full) fit within range = waits_or M s _ (entry.Fence h full) fit fit
need_fits B M s h (need.Report (report.Took i w)) fit within range = fit
need_fits B M s h (need.Report (report.Closed i)) fit within range = fit
need_fits B M s h other fit within range = fit

length-write_first : (ps : List Write) (words : List ℕ) → length (write_first ps words) ≡ length words
length-write_first [] words = refl
length-write_first (p ∷ ps) words = length-set words _ _

land_fits : (M : ℕ) (s : Stored) (h : ℕ) (ps : List Write) (over : Bool) → FitStored M s → h < length s.buffers
    → FitStored M (stored_after_outcome s (land_in ps h over))
land_fits M s h [] true fit within = fit
land_fits M s h [] false fit within = fit
land_fits M s h (p ∷ ps) over fit within = record {
  words = length-write_first (buffer_of s h) s.words ∙ fit.words;
  first = fit.first;
  pending = All-set (InMemory M) s.buffers h (drop 1 (buffer_of s h)) (All-drop (HasAddress M) 1 (buffer_of s h) (buffer_fits M s h fit within)) fit.pending;
}

-- ---- and harts

pub buffers_kept : (s : Stored) (e : Entry) → length (stored_after s e).buffers ≡ length s.buffers
buffers_kept s e = grind (arith, length-set)

outcome_fits : (M : ℕ) (c : Config) (o : Outcome) → Fit M c → FitStored M (stored_after_outcome c.stored o) → Fit M (after_outcome c o)
outcome_fits M c (outcome.Did (entry.Land h)) fit stored =
    record { buffers = buffers_kept c.stored (entry.Land h) ∙ fit.buffers; harts = fit.harts; firsts = fit.firsts; stored = stored }
outcome_fits M c (outcome.Did e) fit stored =
    let moved = fit_step M c (hart_of e) (number_read e) fit in
    record { buffers = buffers_kept c.stored e ∙ moved.buffers; harts = moved.harts; firsts = moved.firsts; stored = stored }
outcome_fits M c o fit stored = fit

-- a hart that is there has a buffer
within_buffers : (M : ℕ) (c : Config) (h : ℕ) (v : HartView) → Fit M c → slice_get c.harts h ≡ Some v → h < length c.stored.buffers
within_buffers M c h v fit is = omega (arith, slice_get_within c.harts h v is, fit.buffers)

status_fits : (B M : ℕ) (c : Config) (h : ℕ) (v : HartView) (st : Status) → Fit M c → slice_get c.harts h ≡ Some v
    → FitStored M (stored_after_outcome c.stored (act_in st (outcome_for B c.stored h (need_of v.state))))
status_fits B M c h v status.Running fit is =
    need_fits B M c.stored h (need_of v.state) fit.stored (within_buffers M c h v fit is)
    (need_of-in_range M v.state (hart_at (λ w. w.state.words ≡ M) c.harts fit.harts h v is))
status_fits B M c h v other fit is = fit.stored

act_fits : (B M : ℕ) (c : Config) (h : ℕ) (so : Option HartView) → Fit M c → slice_get c.harts h ≡ so
    → FitStored M (stored_after_outcome c.stored (act_outcome B c h so))
act_fits B M c h None fit is = fit.stored
act_fits B M c h (Some v) fit is = status_fits B M c h v v.state.status fit is

landing_fits : (M : ℕ) (c : Config) (h : ℕ) (so : Option HartView) → Fit M c → slice_get c.harts h ≡ so
    → FitStored M (stored_after_outcome c.stored (land_outcome c h so))
landing_fits M c h None fit is = fit.stored
landing_fits M c h (Some v) fit is = land_fits M c.stored h (buffer_of c.stored h) (is_over v.state.status) fit.stored (within_buffers M c h v fit is)

-- a machine that is fit stays so over an event
pub fit_after : (B M : ℕ) (c : Config) (ev : Event) → Fit M c → Fit M (after_outcome c (outcome_of B c ev))
fit_after B M c (event.Act h) fit = outcome_fits M c (act_outcome B c h (slice_get c.harts h)) fit (act_fits B M c h (slice_get c.harts h) fit refl)
fit_after B M c (event.Land h) fit = outcome_fits M c (land_outcome c h (slice_get c.harts h)) fit (landing_fits M c h (slice_get c.harts h) fit refl)
