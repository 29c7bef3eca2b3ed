-- Room for steps: making it changes nothing else, and it is never lost but by steps.
use Rattle.std.proofs.Common.{◌≡◌, ℕ, ◌+◌, ◌≤◌, ◌<◌, List, length, set, Option, Some, None, refl, sym, ◌∙◌, ap, subst, arith}
use Rattle.std.specs.Prelude.{map, Result, Ok, Err, OnOk, OnErr}
use Rattle.std.specs.List.{slice_get}
use Rattle.std.proofs.lemmas.Bool.{eqb-true, eqb-false}
use Rattle.std.proofs.lemmas.List.{length-map}
use Rattle.std.proofs.lemmas.Option.{slice_get_within, get_or_from_slice_get}
use Rattle.std.proofs.Math.Seq.{map-set_same}
use Rattle.hart.specs.State.{HartView}
use Rattle.step_machine.specs.inner.Config.{Config, without_room, beginning, SameButRoom, AllHaveRoom, roomy, roomy_in, roomy_at}
use Rattle.step_machine.proofs.Stays.{slice_get-set_same, slice_get-set_other}

pub same_self : (c : Config) → SameButRoom c c
same_self c = record { harts = refl; firsts = refl; stored = refl }

pub same_after : (c d e : Config) → SameButRoom c d → SameButRoom d e → SameButRoom c e
same_after c d e s t = record { harts = t.harts ∙ s.harts; firsts = t.firsts ∙ s.firsts; stored = t.stored ∙ s.stored }

same_in : {X : Type 0} (f : HartView → X) → ((n : ℕ) (v : HartView) → f (roomy n v) ≡ f v)
    → (hs : List HartView) (h n : ℕ) (so : Option HartView) → slice_get hs h ≡ so
    → map f (roomy_in hs h n so) ≡ map f hs
same_in f same hs h n None is = refl
same_in f same hs h n (Some v) is = map-set_same f hs h (roomy n v) v (same n v ∙ ap f (sym (get_or_from_slice_get hs h v v is)))

pub same_roomy : (c : Config) (h n : ℕ) → SameButRoom c (record c { harts = roomy_at c.harts h n })
same_roomy c h n = record {
  harts = same_in without_room (λ m v. refl) c.harts h n (slice_get c.harts h) refl;
  firsts = same_in beginning (λ m v. refl) c.harts h n (slice_get c.harts h) refl;
  stored = refl;
}

-- a hart written at h: what a test says of it and of the others
pub written_at_place : (P : HartView → Type 0) (hs : List HartView) (h k : ℕ) (x v : HartView) → h < length hs → P x
    → ((w : HartView) → slice_get hs k ≡ Some w → P w) → slice_get (set hs h x) k ≡ Some v → P v
written_at_place P hs h k x v within here others is = grind (arith, eqb-true, slice_get-set_same, set, slice_get-set_other, eqb-false)

more_in : (hs : List HartView) (h n r : ℕ) (so : Option HartView) → slice_get hs h ≡ so → AllHaveRoom r hs → AllHaveRoom r (roomy_in hs h n so)
more_in hs h n r None is all = all
more_in hs h n r (Some x) is all = λ k v got.
    let old : r ≤ x.room = all h x is in
    written_at_place (λ (w : HartView). r ≤ w.room) hs h k (roomy n x) v (slice_get_within hs h x is) (omega arith) (all k) got

-- no hart loses room
pub more_roomy : (hs : List HartView) (h n r : ℕ) → AllHaveRoom r hs → AllHaveRoom r (roomy_at hs h n)
more_roomy hs h n r all = more_in hs h n r (slice_get hs h) refl all

has_in : (hs : List HartView) (h n : ℕ) (v : HartView) (so : Option HartView) → slice_get hs h ≡ so → slice_get (roomy_in hs h n so) h ≡ Some v → n ≤ v.room
has_in hs h n v so is got = grind (arith, slice_get-set_same, slice_get_within)

-- the harts before the i-th have room for n steps
abbrev pub RoomBelow : ℕ → ℕ → List HartView → Type 0
RoomBelow i n hs = (k : ℕ) (v : HartView) → k < i → slice_get hs k ≡ Some v → n ≤ v.room

below_in : (hs : List HartView) (i n : ℕ) (so : Option HartView) → slice_get hs i ≡ so → RoomBelow i n hs → RoomBelow i n (roomy_in hs i n so)
below_in hs i n None is below = below
below_in hs i n (Some x) is below = λ k v lt got.
    written_at_place (λ (w : HartView). n ≤ w.room) hs i k (roomy n x) v (slice_get_within hs i x is) (omega arith) (λ w here. below k w lt here) got

pub room_below_more : (hs : List HartView) (i n : ℕ) → RoomBelow i n hs → RoomBelow (i + 1) n (roomy_at hs i n)
room_below_more hs i n below k v lt got = grind (arith, has_in, eqb-true, eqb-false, below_in)

pub room_below_next : (c d : Config) (i n : ℕ) → d ≡ record c { harts = roomy_at c.harts i n } → RoomBelow i n c.harts → RoomBelow (i + 1) n d.harts
room_below_next c d i n is below = subst (λ (k : Config). RoomBelow (i + 1) n k.harts) (sym is) (room_below_more c.harts i n below)

-- all harts have room where all before the end have it
pub all_have_room : (hs : List HartView) (i n : ℕ) → length hs ≤ i → RoomBelow i n hs → AllHaveRoom n hs
all_have_room hs i n end below h v got = let within : h < length hs = slice_get_within hs h v got in below h v (omega arith) got

pub same-length : (c d : Config) → SameButRoom c d → length d.harts ≡ length c.harts
same-length c d same = sym (length-map d.harts without_room) ∙ ap length same.harts ∙ length-map c.harts without_room

-- whatever the result, all stays but room
pub same_whichever : {E : Type 0} (c d : Config) (h n : ℕ) (r : Result (Unit {0}) E)
    → OnOk r (d ≡ record c { harts = roomy_at c.harts h n }) → OnErr r (d ≡ c) → SameButRoom c d
same_whichever c d h n (Ok x) ok err = subst (SameButRoom c) (sym ok) (same_roomy c h n)
same_whichever c d h n (Err e) ok err = subst (SameButRoom c) (sym err) (same_self c)

pub more_whichever : {E : Type 0} (c d : Config) (h n r : ℕ) (result : Result (Unit {0}) E)
    → OnOk result (d ≡ record c { harts = roomy_at c.harts h n }) → OnErr result (d ≡ c) → AllHaveRoom r c.harts
    → AllHaveRoom r d.harts
more_whichever c d h n r (Ok x) ok err all = subst (λ (k : Config). AllHaveRoom r k.harts) (sym ok) (more_roomy c.harts h n r all)
more_whichever c d h n r (Err e) ok err all = subst (λ (k : Config). AllHaveRoom r k.harts) (sym err) all
