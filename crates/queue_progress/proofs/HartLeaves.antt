-- What a leaf says of all queues of its hart together, an entry of a run does.
use Rattle.std.proofs.Common.{ℕ, zero, suc, ◌+◌, ◌<◌, ◌≤◌, ◌≡◌, ◌&&◌, ◌⊎◌, not, inl, inr, if◌then◌else◌, Bool, true, false, Option, Some, None, List, length}
use Rattle.std.proofs.Common.{refl, sym, ◌∙◌, ap, arith}
use Rattle.std.specs.Prelude.{nat_lt, nat_le}
use Rattle.std.specs.Option.{is_some}
use Rattle.std.proofs.lemmas.Bool.{and_parts, or_cases, ltb-true, lt-ltb}
use Rattle.hart.specs.State.{HartState}
use Rattle.step_machine.specs.declared.events.Entry.{Entry}
use Rattle.step_machine.specs.History.{OpeningValue}
use Rattle.queue_parties.specs.Parties.{Party, count}
use Rattle.slot_queue.specs.Ownership.{hart, party_of, end}
use Rattle.queue_certificates.specs.{Form, fits_in, KnownState, share_at, instruction_at, QueueCertificate, queue_at, accepts}
use Rattle.queue_certificates.proofs.{party-hart, fine}
use Rattle.queue_progress.specs.{code_of, moves, most_owned, looks, counts_at, is_side, moves_some, lesser, fewest_owned, is_among, differs_at, differs}
use Rattle.queue_progress.specs.{owns_more, has_more, LeavesCounts, IsHartBlind}
use Rattle.queue_progress.proofs.Leaves.{moves-on, owns-few, owns-many, looks-so}
use Rattle.queue_progress.proofs.Numbers.{Some-below, some-below}
use Rattle.queue_progress.proofs.Rows.{Executes}

module _ (B M : ℕ) (o : OpeningValue) (c : QueueCertificate) (ok : accepts o c ≡ true) (h : ℕ) where
  pub record IsSide (i : ℕ) : Type 0 where
    pub party : Party
    pub is : party_of (queue_at c i) h ≡ Some party
    pub mine : h ≡ hart (queue_at c i) party

  pub side-of : (i : ℕ) → i < length c.queues → is_side c h i ≡ true → IsSide i
  side-of i less is = by (party_of (queue_at c i) h) refl is
    where
      by : (t : Option Party) → party_of (queue_at c i) h ≡ t → is_some t ≡ true → IsSide i
      by None at some = absurd (cc)
      by (Some p) at some = record { party = p; is = at; mine = party-hart (queue_at c i) (fine M o c ok i less).0 h p at }

  -- of a queue of which it is a party, or is none
  pub side? : (i : ℕ) → i < length c.queues → IsSide i ⊎ ((es : List Entry) (K : ℕ) → has_more c h K es i ≡ true)
  side? i less = by (party_of (queue_at c i) h) refl
    where
      by : (t : Option Party) → party_of (queue_at c i) h ≡ t → IsSide i ⊎ ((es : List Entry) (K : ℕ) → has_more c h K es i ≡ true)
      by None at = inr (λ es K. ap (λ t. owns_more (queue_at c i) t K (counts_at c i es)) at)
      by (Some p) at = inl (record { party = p; is = at; mine = party-hart (queue_at c i) (fine M o c ok i less).0 h p at })

  module _ (K : ℕ) where
    pub more-is : (i : ℕ) (s : IsSide i) (es : List Entry)
        → has_more c h K es i ≡ nat_lt (count s.party (counts_at c i es) + K) (end (queue_at c i) s.party (counts_at c i es))
    more-is i s es = ap (λ t. owns_more (queue_at c i) t K (counts_at c i es)) s.is

    -- ---- leaves

    module _ (xs : List ℕ) (k : KnownState) (d : Form) (s : HartState) (done : List Entry) (e : Entry) (at : Executes B M o c ok h xs k d s done e) where
      pub moves-none : moves_some c h (code_of o h) k d ≡ true → LeavesCounts c h done e → ⊥
      moves-none goes stays =
          let w = some-below (length c.queues) (λ i. is_side c h i && moves c h (code_of o h) i k d) goes in
          let both = and_parts (is_side c h w.at) (moves c h (code_of o h) w.at k d) w.is in
          let side = side-of w.at w.less both.0 in
          moves-on B M o c ok h w.at w.less side.party side.mine xs k d s done e at both.1 (stays w.at w.less side.party side.mine)

      few-more : (i : ℕ) → i < length c.queues → IsSide i → fits_in (most_owned i k) (Some K) ≡ true → has_more c h K done i ≡ true → ⊥
      few-more i less side few so =
          let most : end (queue_at c i) side.party (counts_at c i done) ≤ count side.party (counts_at c i done) + K =
          owns-few B M o c ok h i less side.party side.mine xs k d s done e at K few in
          let owns : count side.party (counts_at c i done) + K < end (queue_at c i) side.party (counts_at c i done) =
          ltb-true (count side.party (counts_at c i done) + K) (end (queue_at c i) side.party (counts_at c i done)) (sym (more-is i side done) ∙ so) in
          omega (arith, most, owns)

      -- of the least of the most that it may own of each
      pub fewest-more : (n : ℕ) → n ≤ length c.queues → fits_in (fewest_owned c h n k) (Some K) ≡ true → ((i : ℕ) → i < n → has_more c h K done i ≡ true) → ⊥
      fewest-more zero low few each = absurd (cc)
      fewest-more (suc n) low few each = by (is_side c h n) refl few
          (λ fewer. fewest-more n (omega (arith, low)) fewer (λ i less. each i (omega (arith, less))))
        where
          least : (a b : ℕ) (t : Bool) → nat_le (if t then a else b) K ≡ true → (nat_le a K ≡ true) ⊎ (nat_le b K ≡ true)
          least a b true few = inl few
          least a b false few = inr few

          either : (a b : Option ℕ) → fits_in (lesser a b) (Some K) ≡ true → (fits_in a (Some K) ≡ true) ⊎ (fits_in b (Some K) ≡ true)
          either None b few = inr few
          either (Some a) None few = inl few
          either (Some a) (Some b) few = least a b (nat_le a b) few

          by : (t : Bool) → is_side c h n ≡ t → fits_in (lesser (if t then most_owned n k else None) (fewest_owned c h n k)) (Some K) ≡ true
              → (fits_in (fewest_owned c h n k) (Some K) ≡ true → ⊥) → ⊥
          by false is few rest = rest few
          by true is few rest = elim (either (most_owned n k) (fewest_owned c h n k) few) [
            | inl here ↦ few-more n (omega (arith, low)) (side-of n (omega (arith, low)) is) here (each n (omega arith))
            | inr there ↦ rest there
          ]

      pub not-blind : (lacks : List ℕ) → differs c h K lacks k (instruction_at (code_of o h) k.pc) ≡ true → IsHartBlind c h K lacks done e → ⊥
      not-blind lacks apart blind = by (is_among lacks w.at) (blind.waits w.at w.less) both.1
        where
          w : Some-below (length c.queues) (λ i. is_side c h i && differs_at c h K i (is_among lacks i) k (instruction_at (code_of o h) k.pc))
          w = some-below (length c.queues) (λ i. is_side c h i && differs_at c h K i (is_among lacks i) k (instruction_at (code_of o h) k.pc)) apart

          both : (is_side c h w.at ≡ true) × (differs_at c h K w.at (is_among lacks w.at) k (instruction_at (code_of o h) k.pc) ≡ true)
          both = and_parts (is_side c h w.at) (differs_at c h K w.at (is_among lacks w.at) k (instruction_at (code_of o h) k.pc)) w.is

          side : IsSide w.at
          side = side-of w.at w.less both.0

          -- of a queue of which it owns more
          owned-more : nat_lt K (share_at k w.at).owned.constant ≡ true → has_more c h K done w.at ≡ true
          owned-more many = more-is w.at side done
              ∙ lt-ltb (count side.party (counts_at c w.at done) + K) (end (queue_at c w.at) side.party (counts_at c w.at done))
              (owns-many B M o c ok h w.at w.less side.party side.mine xs k d s done e at K many)

          seen-more : looks c h w.at k (instruction_at (code_of o h) k.pc) ≡ true → has_more c h K done w.at ≡ true
          seen-more sees =
              blind.unseen w.at w.less side.party side.mine (looks-so B M o c ok h w.at w.less side.party side.mine xs k d s done e at sees)

          by : (t : Bool) → has_more c h K done w.at ≡ not t → differs_at c h K w.at t k (instruction_at (code_of o h) k.pc) ≡ true → ⊥
          by true without other = elim (or_cases (nat_lt K (share_at k w.at).owned.constant) (looks c h w.at k (instruction_at (code_of o h) k.pc)) other) [
            | inl many ↦ (let so : has_more c h K done w.at ≡ true = owned-more many in absurd (cc))
            | inr sees ↦ (let so : has_more c h K done w.at ≡ true = seen-more sees in absurd (cc))
          ]
          by false with few = few-more w.at w.less side few with
