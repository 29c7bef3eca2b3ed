-- What a step, a restart and words leave of a machine's position and of its opening.
use Rattle.std.proofs.Common.{◌≡◌, ℕ, ◌+◌, List, [], ◌∷◌, Some, refl, sym, ◌∙◌, ap, subst, arith, zero, suc, get_or}
use Rattle.std.specs.Prelude.{map, option_map, slice_set}
use Rattle.std.specs.List.{slice_get}
use Rattle.std.proofs.lemmas.List.{length-map}
use Rattle.std.proofs.lemmas.Option.{slice_get-map}
use Rattle.std.proofs.lemmas.Simd.{map-map}
use Rattle.hart.specs.{HartState, HartView, restarted}
use Rattle.hart.specs.declared.need.Report.{Report}
use Rattle.memory.proofs.Bytes.{joined-same}
use Rattle.memory.specs.Words.{IsAddress}
use Rattle.memory.specs.Writes.{byte_of}
use Rattle.step_machine.specs.Names.{History, RepresentsHistory, StoresRepresent, hart_of, memory_byte, memory_word, number_read, Event, Entry, Outcome}
use Rattle.step_machine.specs.Names.{word_at, Stored, stored_after, restarted_stored, Config, SameButRoom, without_room, beginning, view_state, after_outcome}
use Rattle.step_machine.specs.Names.{harts_after, outcome_of, restarted_config, IsPositionOf, AreOfOneOpening, position_of, opening_position, outcome_at}
use Rattle.step_machine.specs.Names.{next_position, unpacked_hart, unpacked_harts, put_at}
use Rattle.step_machine.specs.declared.events.Entry.TheVariants as entry
use Rattle.step_machine.specs.declared.events.Outcome.TheVariants as outcome
use Rattle.step_machine.proofs.Nexts.{outcome_is, next_is}
use Rattle.step_machine.proofs.Stays.{firsts_step_at}

-- ---- room is no part of a position

states_of : (hs : List HartView) → map view_state hs ≡ map (λ (p : HartState × List Report). p.0) (map without_room hs)
states_of hs = sym (map-map (λ (p : HartState × List Report). p.0) without_room hs)

pub same_position : (c d : Config) → SameButRoom c d → position_of d ≡ position_of c
same_position c d same =
    let harts : map view_state d.harts ≡ map view_state c.harts =
    states_of d.harts ∙ ap (map (λ (p : HartState × List Report). p.0)) same.harts ∙ sym (states_of c.harts) in
    λ k. record { harts = harts k; stored = same.stored k }

pub same_opening : (c d : Config) → SameButRoom c d → AreOfOneOpening c d
same_opening c d same = record { harts = sym same.firsts; first = ap (λ (s : Stored). s.first) (sym same.stored) }

-- ---- a step

pub answer_is : (B : ℕ) (c d : Config) (ev : Event) (o : Outcome) → SameButRoom c d → o ≡ outcome_of B d ev → o ≡ outcome_at B (position_of c) ev
answer_is B c d ev o same is = is ∙ outcome_is B d ev ∙ ap (λ p. outcome_at B p ev) (same_position c d same)

pub position_is_next : (B : ℕ) (c d e : Config) (ev : Event) (o : Outcome) → SameButRoom c d → o ≡ outcome_of B d ev → e ≡ after_outcome d o
    → position_of e ≡ next_position B (position_of c) ev
position_is_next B c d e ev o same is after =
    ap position_of (after ∙ ap (after_outcome d) is) ∙ next_is B d ev ∙ ap (λ p. next_position B p ev) (same_position c d same)

firsts_after : (c : Config) (e : Entry) → map beginning (harts_after c e) ≡ map beginning c.harts
firsts_after c (entry.Land h) = refl
firsts_after c e = firsts_step_at c.harts (hart_of e) (number_read e) (slice_get c.harts (hart_of e)) refl

pub first_after : (s : Stored) (e : Entry) → (stored_after s e).first ≡ s.first
first_after s (entry.Store h a width v) = refl
first_after s (entry.Amo h a old new) = refl
first_after s (entry.Land h) = refl
first_after s e = refl

opening_after : (c : Config) (o : Outcome) → AreOfOneOpening c (after_outcome c o)
opening_after c (outcome.Did e) = record { harts = sym (firsts_after c e); first = sym (first_after c.stored e) }
opening_after c o = record { harts = refl; first = refl }

pub opening_over : (c d e : Config) → AreOfOneOpening c d → AreOfOneOpening d e → AreOfOneOpening c e
opening_over c d e one other = record { harts = one.harts ∙ other.harts; first = one.first ∙ other.first }

pub opening_stepped : (c d e : Config) (o : Outcome) → SameButRoom c d → e ≡ after_outcome d o → AreOfOneOpening c e
opening_stepped c d e o same after =
    opening_over c d e (same_opening c d same) (subst (AreOfOneOpening d) (sym after) (opening_after d o))

-- ---- a restart

pub opening_restarted : (c : Config) → AreOfOneOpening c (restarted_config c)
opening_restarted c = record { harts = sym (map-map beginning restarted c.harts); first = refl }

pub position_restarted : (c : Config) → position_of (restarted_config c) ≡ opening_position c
position_restarted c = λ k. record { harts = map-map view_state restarted c.harts k; stored = restarted_stored c.stored }

-- ---- words

firsts_unpacked : (hs : List HartView) (words : List ℕ) → map beginning (unpacked_harts hs words).0 ≡ map beginning hs
firsts_unpacked [] words = refl
firsts_unpacked (v ∷ vs) words = ap (λ (ss : List HartState). v.first ∷ ss) (firsts_unpacked vs (unpacked_hart v words).1)

pub opening_unpacked : (B M : ℕ) (c : Config) (words : List ℕ) → AreOfOneOpening c (put_at B M c words)
opening_unpacked B M c words = record { harts = sym (firsts_unpacked c.harts words); first = refl }

-- ---- what is read of a machine

pub read_there : {X : Type 0} (f : HartState → X) (c : Config) (h : ℕ) (v : HartView) → slice_get c.harts h ≡ Some v
    → option_map f (slice_get (position_of c).harts h) ≡ Some (f v.state)
read_there f c h v is = ap (option_map f) (slice_get-map view_state c.harts h ∙ ap (option_map view_state) is)

word_ends : (M : ℕ) (t : History) (s : Stored) (a : ℕ) → StoresRepresent M t s → IsAddress M a → word_at s a ≡ memory_word t.opening t.entries a
word_ends M t s a holds is =
    joined-same (λ i. byte_of s.words (a + i)) (λ i. memory_byte t.opening t.entries (a + i)) 4 (λ i small. holds.bytes (a + i) (omega arith))

pub end_is : (B M : ℕ) (t : History) (c : Config) → RepresentsHistory B M t c → IsPositionOf M t (position_of c)
end_is B M t c at_t = record {
  count = length-map c.harts view_state ∙ at_t.count;
  states = λ h. slice_get-map view_state c.harts h ∙ at_t.tied.states h;
  pending = at_t.tied.holds.buffers;
  words = λ a is. word_ends M t c.stored a at_t.tied.holds is;
}

-- ---- what a machine whose hart is put where words say leaves of its opening

-- a hart that opened as the one in whose place it stands
pub firsts_put : (hs : List HartView) (h : ℕ) (v w : HartView) → v ≡ get_or hs h v → w.first ≡ v.first
    → map beginning (slice_set hs h w) ≡ map beginning hs
firsts_put [] h v w is same = refl
firsts_put (x ∷ hs) zero v w is same = ap (λ (f : HartState). f ∷ map beginning hs) (same ∙ ap (λ (y : HartView). y.first) is)
firsts_put (x ∷ hs) (suc h) v w is same = ap (λ (fs : List HartState). x.first ∷ fs) (firsts_put hs h v w is same)
