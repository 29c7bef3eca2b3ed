use Rattle.std.proofs.Common.{[], ◌∷◌, ℕ, ◌≡◌, ◌≤◌, ◌<◌, ◌+◌, true, false, Option, Some, None, List, length, refl, sym, ap, ◌∙◌, subst, inl, inr, arith}
use Rattle.std.specs.Option.{option_map}
use Rattle.std.proofs.lemmas.Bool.{false_from_ne_true}
use Rattle.memory.specs.declared.writes.Write.{Write}
use Rattle.step_machine.specs.declared.events.Entry.{Entry}
use Rattle.step_machine.specs.Names.{access_of, hart_of}
use Rattle.queue_parties.specs.Parties.{Party, the_sender, the_receiver, QueueCounts, count, known, with_known}
use Rattle.slot_queue.specs.{index_word, least_count, end}
use Rattle.slots_that_tell.specs.Telling.{owned_end, IsTagStore}
use Rattle.queue_layouts.specs.declared.AnyQueue.{AnyQueue}
use Rattle.queue_layouts.specs.declared.AnyQueue.TheVariants.{Indexed, Tagged}
use Rattle.queue_layouts.specs.Tagged.{slots_of}
use Rattle.ownership_runs.proofs.Decisions.{decides-entry, keeps-each, each-keeps, MayStore, Moves, Owns, decides-store}
use Rattle.ownership_runs.proofs.First.{kept-all, none-first, is-first}
use Rattle.ownership_runs.proofs.laws.laws_of_violations.Goals as goal
use Rattle.ownership_runs.specs.{Owned, Violation, party_for, end_in, run_counts, HasSlot, owned_by, owning_all, slots_in, is_described, keeps_store, IsForeign}
use Rattle.ownership_runs.specs.{counts_before, first_ownership_violation, stored_of, violation_by}

-- A store that isn't described is one that the protocol doesn't have then, whatever the hart knows of the other party.

own-stays : (p : Party) (n : ℕ) (c : QueueCounts) → count p (with_known p n c) ≡ count p c
own-stays the_sender n c = refl
own-stays the_receiver n c = refl

is-known : (p : Party) (n : ℕ) (c : QueueCounts) → known p (with_known p n c) ≡ n
is-known the_sender n c = refl
is-known the_receiver n c = refl

-- ---- a party that has come as far, and knows of more, may store at least as much

module _ (p : Party) (d e : QueueCounts) (own : count p e ≡ count p d) (less : known p d ≤ known p e) where
  ends-later : (q : AnyQueue) → end_in q p d ≤ end_in q p e
  ends-later (Indexed q) = at p less
    where
      at : (p : Party) → known p d ≤ known p e → end q p d ≤ end q p e
      at the_sender less = omega (arith, less)
      at the_receiver less = less
  ends-later (Tagged q) = omega (arith, less)

  owns-more : (q : AnyQueue) (x : ℕ) → Owns q p d x → Owns q p e x
  owns-more (Indexed q) x owns = record {
    position = owns.position;
    from = subst (λ (n : ℕ). n ≤ owns.position) (sym own) owns.from;
    before = let later = ends-later (Indexed q) in omega (arith, owns.before, later);
    byte = owns.byte;
  }
  owns-more (Tagged q) x owns = record {
    position = owns.position;
    from = subst (λ (n : ℕ). n ≤ owns.position) (sym own) owns.from;
    before = let later = ends-later (Tagged q) in omega (arith, owns.before, later);
    byte = owns.byte;
    no_tag = owns.no_tag;
  }

  moves-more : (q : AnyQueue) (w : Write) → Moves q p d w → Moves q p e w
  moves-more (Indexed q) w moves =
      let later = ends-later (Indexed q) in
      let far : least_count q (count p d) w.value ≤ end q p e = omega (arith, moves.owned, later) in
      record {
        place = moves.place;
        width = moves.width;
        word = subst (λ (n : ℕ). w.value ≡ index_word q (least_count q n w.value)) (sym own) moves.word;
        owned = subst (λ (n : ℕ). least_count q n w.value ≤ end q p e) (sym own) far;
      }
  moves-more (Tagged q) w moves =
      let later = ends-later (Tagged q) in
      let far : count p d < owned_end (slots_of q) p e = omega (arith, moves.owned, later) in
      record {
        tag = subst (λ (n : ℕ). IsTagStore (slots_of q) p n w) (sym own) moves.tag;
        owned = subst (λ (n : ℕ). n < owned_end (slots_of q) p e) (sym own) far;
      }

  stores-more : (q : AnyQueue) (w : Write) → MayStore q (Some p) d w → MayStore q (Some p) e w
  stores-more q w (inl moves) = inl (moves-more q w moves)
  stores-more q w (inr fills) = inr (λ x over. elim (fills x over) [ inl out ↦ inl out | inr owns ↦ inr (owns-more q x owns) ])

-- ---- violations

never-stores : (q : AnyQueue) → HasSlot q → (p : Party) (c d : QueueCounts) (w : Write) → count p d ≡ count p c → known p d ≤ count p d + slots_in q
    → is_described q (Some p) c w ≡ false → keeps_store q (Some p) d w ≡ false
never-stores q some p c d w own most undescribed = false_from_ne_true (keeps_store q (Some p) d w)
    (λ keeps. (let all = owning_all q (Some p) c in
    let far : known p all ≡ count p c + slots_in q = is-known p (count p c + slots_in q) c in
    let described : is_described q (Some p) c w ≡ true = (decides-store q some (Some p) all w).1
    (stores-more p d all (own-stays p (count p c + slots_in q) c ∙ sym own) (omega (arith, most, own, far)) q w
    ((decides-store q some (Some p) d w).0 keeps)) in
    cc))

of-violation : (q : AnyQueue) → HasSlot q → (place h : ℕ) (c : QueueCounts) (w : Write) → is_described q (party_for q h) c w ≡ false
    → IsForeign q (violation_by q place h (party_for q h) c w)
of-violation q some place h c w undescribed p d party most from = at (party_for q h) party undescribed from
  where
    at : (t : Option Party) → t ≡ Some p → is_described q t c w ≡ false → option_map (λ (o : Owned). o.from) (owned_by q t c) ≡ Some (count p d)
        → keeps_store q (Some p) d w ≡ false
    at None none is owned = cc
    at (Some r) same is owned =
        let alike : r ≡ p = cc in
        let own : count r c ≡ count p d = cc in
        never-stores q some p c d w (sym own ∙ ap (λ (r : Party). count r c) alike) most (subst (λ (r : Party). is_described q (Some r) c w ≡ false) alike is)

pub is-foreign : (q : AnyQueue) → HasSlot q → (c : QueueCounts) (es : List Entry) (b : Violation) → first_ownership_violation q c es ≡ Some b
    → b.described ≡ false → IsForeign q b
is-foreign q some c es b found =
    let first = is-first q some c es b found in
    let x = access_of first.entry in
    let h = hart_of first.entry in
    subst (λ (v : Violation). v.described ≡ false → IsForeign q v) (sym first.violation)
    (of-violation q some (length first.front) h (counts_before q (party_for q h) (run_counts q c first.front) x) (stored_of x))

pub returns-clause-sound : goal.returns-clause-sound
returns-clause-sound c = λ q counts e some keeps. each-keeps q counts (e ∷ []) ((decides-entry q some counts e).0 keeps, tt)

pub returns-clause-complete : goal.returns-clause-complete
returns-clause-complete c = λ q counts e some keeps. (decides-entry q some counts e).1 (keeps-each q counts (e ∷ []) keeps).0

pub returns-clause-kept : goal.returns-clause-kept
returns-clause-kept c = λ q counts es some none. kept-all q some counts es none

pub returns-clause-none : goal.returns-clause-none
returns-clause-none c = λ q counts es some keeps. none-first q some counts es keeps

pub returns-clause-first : goal.returns-clause-first
returns-clause-first c = λ q counts es b some found. is-first q some counts es b found

pub returns-clause-foreign : goal.returns-clause-foreign
returns-clause-foreign c = λ q counts es b some found undescribed. is-foreign q some counts es b found undescribed
