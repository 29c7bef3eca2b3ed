-- A step of one hart, a store, an AMO and a landing keep harts, buffers and memory fit for each other.
use Rattle.std.proofs.Common.{arith, ◌≡◌, ℕ, ◌<◌, Bool, List, length, set, get_or, drop, Option, Some, None, refl, sym, ◌∙◌, ap, subst}
use Rattle.std.specs.Prelude.{All, IfSome}
use Rattle.std.specs.List.{slice_get}
use Rattle.std.proofs.lemmas.Option.{slice_get_within, slice_get_read, get_or_from_slice_get}
use Rattle.std.proofs.lemmas.List.{length-set}
use Rattle.std.proofs.lemmas.List.Elements.{All-set, All-drop}
use Rattle.memory.specs.declared.writes.Write.{Write}
use Rattle.step_machine.specs.Names.{Outcome, IsInRange, Stored, HasAddress, InMemory, FitStored, stored_after_outcome, land_in, outcome_for, after_outcome}
use Rattle.step_machine.specs.Names.{Config, step_at, step_hart, Fit, IsNext, act_in, act_outcome}
use Rattle.hart.specs.{HartView, need_of, stepped}
use Rattle.hart.specs.declared.need.Need.{Need}
use Rattle.hart.specs.declared.status.Status.{Status}
use Rattle.hart.specs.declared.status.Status.TheVariants as status
use Rattle.hart.proofs.Advances.{advanced-words}
use Rattle.step_machine.proofs.Decides.{need_of-in_range}

-- the element x of the list, stepped in its place
pub stepped_in_place : (hs : List HartView) (h v : ℕ) (x : HartView) → h < length hs → x ≡ get_or hs h x
    → set hs h (stepped x v) ≡ step_at hs h v (slice_get hs h)
stepped_in_place hs h v x within is = ap (step_at hs h v) (sym (slice_get_read hs (length hs) h x refl within is))

pub length-step_at : (hs : List HartView) (h v : ℕ) (so : Option HartView) → length (step_at hs h v so) ≡ length hs
length-step_at hs h v so = grind (arith, length-set)

-- what a step keeps of a hart, it keeps of all harts
all_step_at : (P : HartView → Type 0) (hs : List HartView) (h v : ℕ) (so : Option HartView)
    → ((x : HartView) → P x → P (stepped x v)) → slice_get hs h ≡ so → All P hs → All P (step_at hs h v so)
all_step_at P hs h v None keeps is all = all
all_step_at P hs h v (Some x) keeps is all = All-set P hs h (stepped x v)
    (keeps x (subst P (get_or_from_slice_get hs h x x is) (all h x (slice_get_within hs h x is)))) all

pub fit_step : (M : ℕ) (c : Config) (h v : ℕ) → Fit M c → Fit M (record c { harts = step_hart c h v })
fit_step M c h v fit = record {
  buffers = fit.buffers ∙ sym (length-step_at c.harts h v (slice_get c.harts h));
  harts = all_step_at (λ x. x.state.words ≡ M) c.harts h v (slice_get c.harts h) (λ x words. advanced-words x.state v ∙ words) refl fit.harts;
  firsts = all_step_at (λ x. x.first.words ≡ M) c.harts h v (slice_get c.harts h) (λ x words. words) refl fit.firsts;
  stored = fit.stored;
}

pub fit_stepped : (M : ℕ) (c : Config) (h v : ℕ) (x y : HartView) → h < length c.harts → x ≡ get_or c.harts h x
    → y ≡ stepped x v → Fit M c → Fit M (record c { harts = set c.harts h y })
fit_stepped M c h v x y within is step fit = grind (arith, stepped_in_place, fit_step)

-- hart h, which is x, is ready to do what it needs
pub ready_in_place : (M : ℕ) (c : Config) (h : ℕ) (x : HartView) (n : Need) → h < length c.harts
    → x ≡ get_or c.harts h x → x.state.status ≡ status.Running → n ≡ need_of x.state
    → IfSome (slice_get c.harts h) (λ (v : HartView). 0 < v.room) → Fit M c
    → IsNext c h n × (h < length c.harts) × IsInRange M n
ready_in_place M c h x n within is running next room fit = grind (arith, slice_get_read, need_of-in_range)

-- a landing leaves the harts
pub land_leaves : (c : Config) (s : Stored) (o : Outcome) (ps : List Write) (h : ℕ) (over : Bool)
    → o ≡ land_in ps h over → s ≡ stored_after_outcome c.stored o → record c { stored = s } ≡ after_outcome c o
land_leaves c s o ps h over is after = grind arith

-- an act of a hart in this status
pub act_outcome-status : (B : ℕ) (c : Config) (h : ℕ) (x : HartView) (st : Status) → h < length c.harts
    → x ≡ get_or c.harts h x → x.state.status ≡ st
    → act_outcome B c h (slice_get c.harts h) ≡ act_in st (outcome_for B c.stored h (need_of x.state))
act_outcome-status B c h x st within is status_is = grind (arith, slice_get_read)

-- buffers and memory stay fit where a buffer's oldest store goes, whatever is written
pub fit_landed : (M : ℕ) (bs : List (List Write)) (ws us first : List ℕ) (h : ℕ) (ps qs : List Write)
    → FitStored M (record { buffers = bs; words = ws; first = first }) → h < length bs → ps ≡ get_or bs h ps → qs ≡ drop 1 ps → length us ≡ length ws
    → FitStored M (record { buffers = set bs h qs; words = us; first = first })
fit_landed M bs ws us first h ps qs fit within is rest same = record {
  words = same ∙ fit.words;
  first = fit.first;
  pending =
      All-set (InMemory M) bs h qs
      (subst (InMemory M) (sym rest) (All-drop (HasAddress M) 1 ps (subst (InMemory M) (sym is) (fit.pending h ps within))))
      fit.pending;
}
