-- What an access of a party comes to, where its instruction has an effect: the party's count after it, and the bytes that it does.
use Rattle.std.proofs.Common.{ℕ, ◌+◌, ◌<◌, ◌≤◌, ◌≡◌, if◌then◌else◌, Bool, true, false, Option, None, Some, List, refl, subst, arith, ◌==◌, ◌&&◌, ap, ◌∙◌, inl}
use Rattle.std.proofs.Common.{inr}
use Rattle.std.proofs.lemmas.Bool.{eqb-true, and_parts, and_from, cases_lt, eq-eqb, ltb-true, leb-true, lt-ltb, le-leb}
use Rattle.hart.specs.State.{HartState}
use Rattle.step_machine.specs.Access.{Access}
use Rattle.queue_parties.specs.Parties.{Party, the_sender, the_receiver}
use Rattle.certified_runs.specs.Views.{LoadsByte}
use Rattle.slot_queue.specs.Ownership.{party_of, after_access}
use Rattle.queue_certificates.specs.{AllCounts, kept_beside, Form, form_value, most, InRanges, QueueCertificate, queue_at, told_beside, WritesByte}
use Rattle.queue_certificates.specs.{published_by, most_published, number, plus, remainder, KnownValue, any, linear, index_for, signed_for, ends_as, has_bits}
use Rattle.queue_certificates.specs.{Share, Has, position_at, offset_at, is_slot, is_owned, filled_by}
use Rattle.queue_certificates.specs.declared.effect.Effect.{Effect}
use Rattle.queue_certificates.specs.declared.effect.Effect.TheVariants.{Leaves, Fills, Publishes, PublishesSome}
use Rattle.queue_certificates.proofs.Bounds.{value-below}
use Rattle.queue_certificates.proofs.Effects.{IsSent, Sends}
use Rattle.records_written.specs.{hart_by, size_in, slot_in, count_of, end_of, effect_counted, QueueNumber, is_filled, reads_byte}
use Rattle.std.specs.Prelude.{nat_lt, nat_le}
use Rattle.queue_parties.specs.Positions.{IsInBytes}
use Rattle.queue_parties.proofs.Positions.{far}
use Rattle.slot_queue.specs.Queues.{Queue, slot_of}
use Rattle.queue_certificates.proofs.Stores.{slot-place}
use Rattle.hart.specs.declared.status.Status.TheVariants as status

-- the counts after an access of hart h
abbrev pub indexed_then : QueueCertificate → (h : ℕ) → Access → AllCounts → AllCounts
indexed_then c h y cs = λ j. after_access (queue_at c j) (party_of (queue_at c j) h) y (cs j)

abbrev pub tagged_then : QueueCertificate → (h : ℕ) → Access → AllCounts → AllCounts
tagged_then c h y us = (kept_beside (told_beside c)).next h y us

-- Of the slot of the position j further than the party's count an access does byte b: the sender writes it, in this round of the slots; and
-- the receiver loads it, and owns the position
abbrev pub DoesByte : QueueCertificate → QueueNumber → Party → (cs us : AllCounts) → Access → (j b : ℕ) → Type 0
DoesByte c w the_sender cs us y j b = (j < size_in c w) × WritesByte y (slot_in c w (count_of w the_sender cs us + j) + b)
DoesByte c w the_receiver cs us y j b = (count_of w the_receiver cs us + j < end_of c w the_receiver cs us)
    × LoadsByte y (slot_in c w (count_of w the_receiver cs us + j) + b)

module _ (Does : (j b : ℕ) → Type 0) (n m : ℕ) where
  -- the count is n before the access, and m after it
  abbrev pub IsActed : Effect → Type 0
  IsActed Leaves = m ≡ n
  IsActed (Fills j offset width) = (m ≡ n) × ((b : ℕ) → offset ≤ b → b < offset + width → Does j b)
  IsActed (Publishes d) = m ≡ n + d
  IsActed (PublishesSome d) = m ≤ n + d

  -- by the access the hart comes to state z
  pub record Acted (f : Effect) (z : HartState) : Type 0 where
    pub upto : m ≤ n + most_published f
    pub done : z.status ≡ status.Running → IsActed f

  pub acted : (f : Effect) (z : HartState) → IsActed f → Acted f z
  acted f z is = record { upto = by f is; done = λ runs. is }
    where
      by : (f : Effect) → IsActed f → m ≤ n + most_published f
      by Leaves same = omega (arith, same)
      by (Fills j offset width) does = omega (arith, does.0)
      by (Publishes d) to = omega (arith, to)
      by (PublishesSome d) upto = upto

  -- a hart that stops hands nothing on
  pub stopped : (f : Effect) (z : HartState) → m ≡ n → (z.status ≡ status.Running → ⊥) → Acted f z
  stopped f z same ends = record { upto = omega (arith, same); done = λ runs. absurd (ends runs) }

  pub left : (f : Effect) (z : HartState) → m ≡ n → ◌≡◌ {A = Option Effect} (Some Leaves) (Some f) → Acted f z
  left f z same effect = subst (λ g. Acted g z) (let is : Leaves ≡ f = cc in is) (acted Leaves z same)

  -- the count moves by a form
  pub moved-by : (rs : List (Option ℕ)) (xs : List ℕ) → InRanges rs xs → (d : Form) (f : Effect) (z : HartState) → m ≡ n + form_value d xs
      → published_by d (most rs d) ≡ Some f → Acted f z
  moved-by rs xs ranges d f z to effect = by (most rs d) refl effect
    where
      by : (bound : Option ℕ) → most rs d ≡ bound → published_by d bound ≡ Some f → Acted f z
      by None bound effect = absurd (cc)
      by (Some v) bound effect = subst (λ g. Acted g z) (let same : (if v == d.constant then Publishes v else PublishesSome v) ≡ f = cc in same)
          (at (v == d.constant) refl)
        where
          below : form_value d xs ≤ v
          below = value-below rs d xs v ranges bound

          at : (t : Bool) → (v == d.constant) ≡ t → Acted (if t then Publishes v else PublishesSome v) z
          at false other = acted (PublishesSome v) z (omega (arith, to, below))
          at true same = acted (Publishes v) z (let is : v ≡ d.constant = eqb-true v d.constant same in
              let low : d.constant ≤ form_value d xs = omega arith in
              omega (arith, to, below, is, low))

-- what a sender sends
pub sends-act : (size : ℕ) (slot : ℕ → ℕ) (n m : ℕ) (f : Effect) (y : Access) (z : HartState) → Sends size slot n m f y z
    → Acted (λ j b. (j < size) × WritesByte y (slot (n + j) + b)) n m f z
sends-act size slot n m f y z sends = record { upto = sends.upto; done = λ runs. by f (sends.done runs) }
  where
    by : (f : Effect) → IsSent size slot n m f y → IsActed (λ j b. (j < size) × WritesByte y (slot (n + j) + b)) n m f
    by Leaves same = same
    by (Fills j offset width) sent = (sent.0, λ b from below. (sent.1, sent.2 b from below))
    by (Publishes d) to = to
    by (PublishesSome d) upto = upto

-- an effect that counts, of which each byte is done where that's so
pub counted-acts : (Does : (j b : ℕ) → Type 0) (n m : ℕ) (t : Bool) (effect : Option Effect) (z : HartState)
    → ((f : Effect) → effect ≡ Some f → Acted Does n m f z) → (f : Effect) → effect_counted t effect ≡ Some f → Acted (λ j b. (t ≡ true) × Does j b) n m f z
counted-acts Does n m true effect z acts f is = record { upto = (acts f is).upto; done = λ runs. all f ((acts f is).done runs) }
  where
    all : (f : Effect) → IsActed Does n m f → IsActed (λ j b. (true ≡ true) × Does j b) n m f
    all Leaves same = same
    all (Fills j offset width) does = (does.0, λ b from below. (refl, does.1 b from below))
    all (Publishes d) to = to
    all (PublishesSome d) upto = upto
counted-acts Does n m false None z acts f is = absurd (cc)
counted-acts Does n m false (Some g) z acts f is = by g (acts g refl) is
  where
    by : (g : Effect) → Acted Does n m g z → effect_counted false (Some g) ≡ Some f → Acted (λ j b. (false ≡ true) × Does j b) n m f z
    by Leaves a is = subst (λ g. Acted (λ j b. (false ≡ true) × Does j b) n m g z) (let same : Leaves ≡ f = cc in same)
        (record { upto = a.upto; done = a.done })
    by (Fills j offset width) a is = subst (λ g. Acted (λ j b. (false ≡ true) × Does j b) n m g z) (let same : Leaves ≡ f = cc in same)
        (record { upto = a.upto; done = λ runs. (a.done runs).0 })
    by (Publishes d) a is = subst (λ g. Acted (λ j b. (false ≡ true) × Does j b) n m g z) (let same : Publishes d ≡ f = cc in same)
        (record { upto = a.upto; done = a.done })
    by (PublishesSome d) a is = subst (λ g. Acted (λ j b. (false ≡ true) × Does j b) n m g z) (let same : PublishesSome d ≡ f = cc in same)
        (record { upto = a.upto; done = a.done })

-- what its instruction comes to, of a party of queue w; and by whether its bytes count
abbrev pub ActsBy : QueueCertificate → (w : QueueNumber) → (p : Party) → (cs us : AllCounts) → Effect → Access → HartState → Type 0
ActsBy c w p cs us f y z = Acted (DoesByte c w p cs us y) (count_of w p cs us)
    (count_of w p (indexed_then c (hart_by c w p) y cs) (tagged_then c (hart_by c w p) y us)) f z

abbrev pub CountsBy : QueueCertificate → (w : QueueNumber) → (p : Party) → (t : Bool) → (cs us : AllCounts) → Effect → Access → HartState → Type 0
CountsBy c w p t cs us f y z = Acted (λ j b. (t ≡ true) × DoesByte c w p cs us y j b) (count_of w p cs us)
    (count_of w p (indexed_then c (hart_by c w p) y cs) (tagged_then c (hart_by c w p) y us)) f z

-- Bytes that are shown to be of an owned position's slot, of a queue of either kind.

-- a party's count is n, and it owns the positions before `end`
module _ (queues : ℕ → Queue) (rs : List (Option ℕ)) (xs : List ℕ) (ranges : InRanges rs xs) (q : Queue) (s : Share) (n end : ℕ)
    (own : n ≡ form_value s.own xs) (upto : form_value s.own xs + form_value s.owned xs ≤ end) where
  -- where bytes lie that are shown to be owned, by the form of their address
  pub record LiesAt (f : Form) (a width : ℕ) : Type 0 where
    pub place : a ≡ slot_of q (n + position_at q s.own.constant f.constant) + offset_at q f.constant
    pub before : n + position_at q s.own.constant f.constant < end
    pub fits : offset_at q f.constant + width ≤ q.width

  pub lies-at : (f : Form) (a width : ℕ) → Has queues xs (linear f) a → is_owned rs q s (linear f) width ≡ true → LiesAt f a width
  lies-at f a width at ok =
      let two = and_parts (nat_lt (position_at q s.own.constant f.constant) s.owned.constant && nat_le (offset_at q f.constant + width) q.width)
      (is_slot rs q f (offset_at q f.constant) (remainder rs (plus s.own (number (position_at q s.own.constant f.constant))) q.size)) ok in
      let less : position_at q s.own.constant f.constant < s.owned.constant =
      ltb-true (position_at q s.own.constant f.constant) s.owned.constant (and_parts _ _ two.0).0 in
      record {
        place = slot-place q rs xs ranges s.own f n (position_at q s.own.constant f.constant) (offset_at q f.constant) a own at two.1;
        before = omega (arith, own, upto, less);
        fits = leb-true (offset_at q f.constant + width) q.width (and_parts _ _ two.0).1;
      }

  -- what reads those bytes reads no other byte of an owned slot, where no more than one round is owned
  pub exact-at : (f : Form) (a width : ℕ) → LiesAt f a width → end ≤ n + q.size → 1 ≤ q.size → (j b : ℕ) → n + j < end → b < q.width
      → a ≤ slot_of q (n + j) + b → slot_of q (n + j) + b < a + width
      → is_filled (position_at q s.own.constant f.constant) (offset_at q f.constant) width j b ≡ true
  exact-at f a width at round some j b below short from upto =
      let k : ℕ = position_at q s.own.constant f.constant in
      let x : ℕ = slot_of q (n + j) + b in
      let here : IsInBytes (slot_of q (n + j)) q.width (slot_of q (n + j) + b) = (omega arith, omega (arith, short)) in
      let there : IsInBytes (slot_of q (n + k)) q.width (slot_of q (n + j) + b) =
      (omega (arith, at.place, from), omega (arith, at.place, at.fits, upto)) in
      let same : k ≡ j = elim (cases_lt k j) [
        | inl less ↦ absurd (let apart : n + k + q.size ≤ n + j =
            far q.slots q.width q.size some (n + k) (n + j) x there here (omega (arith, less)) in omega (arith, apart, below, round))
        | inr most ↦ (elim (cases_lt j k) [
          | inl more ↦ absurd (let apart : n + j + q.size ≤ n + k =
              far q.slots q.width q.size some (n + j) (n + k) x here there (omega (arith, more)) in omega (arith, apart, at.before, round))
          | inr least ↦ omega (arith, most, least)
        ])
      ] in
      let place : a ≡ slot_of q (n + j) + offset_at q f.constant = at.place ∙ ap (λ i. slot_of q (n + i) + offset_at q f.constant) same in
      let low : offset_at q f.constant ≤ b = omega (arith, place, from) in
      let high : b < offset_at q f.constant + width = omega (arith, place, upto) in
      and_from ((k == j) && nat_le (offset_at q f.constant) b) _ (and_from (k == j) _ (eq-eqb k j same) (le-leb _ _ low)) (lt-ltb _ _ high)

  -- and where it is shown to be of an owned slot, or beside the slots
  pub exact-bytes : (Beside : Type 0) (place : KnownValue) (a width : ℕ) → Has queues xs place a → (is_owned rs q s place width ≡ false → Beside)
      → end ≤ n + q.size → 1 ≤ q.size → (j b : ℕ) → n + j < end → b < q.width → a ≤ slot_of q (n + j) + b → slot_of q (n + j) + b < a + width
      → (Beside → ⊥) → reads_byte (Some (filled_by rs q s place width)) j b ≡ true
  exact-bytes Beside (linear f) a width at beside round some j b below short from upto not = by (is_owned rs q s (linear f) width) refl
    where
      by : (t : Bool) → is_owned rs q s (linear f) width ≡ t
          → reads_byte (Some (if t then Fills (position_at q s.own.constant f.constant) (offset_at q f.constant) width else Leaves)) j b ≡ true
      by false is = absurd (not (beside is))
      by true is = exact-at f a width (lies-at f a width at is) round some j b below short from upto
  exact-bytes Beside other a width at beside round some j b below short from upto not = absurd (not (beside refl))

  -- an access that leaves the count does bytes there, if it does all from its address on
  pub bytes-act : (Does : (j b : ℕ) → Type 0) (m : ℕ) (z : HartState) (place : KnownValue) (a width : ℕ) → Has queues xs place a → m ≡ n
      → ((j b : ℕ) → n + j < end → a ≤ slot_of q (n + j) + b → slot_of q (n + j) + b < a + width → Does j b)
      → Acted Does n m (filled_by rs q s place width) z
  bytes-act Does m z any a width at same does = acted Does n m Leaves z same
  bytes-act Does m z (index_for i f) a width at same does = acted Does n m Leaves z same
  bytes-act Does m z (signed_for i f) a width at same does = acted Does n m Leaves z same
  bytes-act Does m z (ends_as b f) a width at same does = acted Does n m Leaves z same
  bytes-act Does m z (has_bits v b) a width at same does = acted Does n m Leaves z same
  bytes-act Does m z (linear f) a width at same does = by (is_owned rs q s (linear f) width) refl
    where
      by : (t : Bool) → is_owned rs q s (linear f) width ≡ t
          → Acted Does n m (if t then Fills (position_at q s.own.constant f.constant) (offset_at q f.constant) width else Leaves) z
      by false is = acted Does n m Leaves z same
      by true is = let there = lies-at f a width at is in
          acted Does n m (Fills (position_at q s.own.constant f.constant) (offset_at q f.constant) width) z (
            same,
            λ b from below. does (position_at q s.own.constant f.constant) b there.before (omega (arith, there.place, from))
                (omega (arith, there.place, below)),
          )
