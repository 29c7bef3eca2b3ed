-- The texts of outcomes: what is read of words, against what they say, and what is written, read again.
use Rattle.std.proofs.Common.{◌≡◌, ◌↔◌, inl, inr, ℕ, ◌<◌, ◌≤◌, ◌==◌, Bool, true, false, cond, ◌&&◌, List, [], ◌∷◌, ◌++◌, length, map, take, append_assoc, suc}
use Rattle.std.proofs.Common.{Option, Some, None, refl, sym, ap, subst, ◌∙◌, arith, rules, ltb, not}
use Rattle.std.specs.Prelude.{codes, Decides, if◌then◌else◌}
use Rattle.std.specs.Fmt.{decimal}
use Rattle.std.specs.Str.{bytes_eq}
use Rattle.std.specs.List.{flat_map, list_all}
use Rattle.std.proofs.lemmas.Bool.{cases_Bool, and_parts, eqb-true, eq-eqb}
use Rattle.std.proofs.lemmas.List.{append-nil, take_all}
use Rattle.std.proofs.lemmas.Slice.Eq.{bytes_eq-Decides}
use Rattle.hart.specs.declared.status.Stop.{Stop}
use Rattle.hart.specs.Steps.{stop_number}
use Rattle.step_machine.specs.declared.events.Event.{Event}
use Rattle.step_machine.specs.declared.events.Entry.{Entry}
use Rattle.step_machine.specs.declared.events.Entry.TheVariants as entry
use Rattle.step_machine.specs.declared.events.Outcome.{Outcome}
use Rattle.step_machine.specs.declared.events.Outcome.TheVariants.{Did, Waited, NothingToLand, Over, NoHart}
use Rattle.texts.specs.{word_of, tokens, DecidesGrammar, or_fault, RowPlace, fixed, any, Made, Row, Fill, or_next, IsRowOf, rows_at, of_length, chain_at}
use Rattle.texts.specs.{are_apart, Written, word_text, row_text}
use Rattle.texts.specs.Rows.{plain, number}
use Rattle.texts.proofs.{some, some_is, is_low, rows-settle, rows-of_length, rows-by_name, AreSolid, decimal_says, decimal_solid, solid_by_test, row-again}
use Rattle.recorder.specs.{AtByte, BadOutcome, hart_of_event, at_byte, HartOutcome, stop_of, outcome_rows, may_have, event_outcome, SaysOutcome, entry_row}
use Rattle.recorder.specs.{outcome_row, outcome_text, IsEntryOf, OutcomeFits, IsOutcomeOf, HasWords, OutcomeHasWords, is_same_outcome}
use Rattle.rv_decode.specs.Word.{IsWord}

-- no two rows of the table are filled by the same words
rows_apart : are_apart outcome_rows ≡ true
rows_apart = refl

pub no_words : (found : HartOutcome) → ¬ IsRowOf outcome_rows [] found
no_words found = rows-settle (at_byte BadOutcome 0) outcome_rows [] rows_apart found

pub outcome_settles : (fault : AtByte) (event : Event) (words : List (List ℕ))
    → DecidesGrammar (SaysOutcome event words) (or_fault fault (event_outcome event (rows_at outcome_rows words)))
outcome_settles fault event words = of_read (rows_at outcome_rows words) (rows-settle fault outcome_rows words rows_apart)
  where
    of_read : (read : Option HartOutcome) → DecidesGrammar (IsRowOf outcome_rows words) (or_fault fault read)
        → DecidesGrammar (SaysOutcome event words) (or_fault fault (event_outcome event read))
    of_read None settles = λ outcome tells. settles (hart_of_event event, outcome) tells.0
    of_read (Some found) settles = by_test ((found.0 == hart_of_event event) && may_have event found.1) refl
      where
        by_test : (b : Bool) → ((found.0 == hart_of_event event) && may_have event found.1) ≡ b
            → DecidesGrammar (SaysOutcome event words) (or_fault fault (cond b (Some found.1) None))
        by_test true fits =
            let both = and_parts (found.0 == hart_of_event event) (may_have event found.1) fits in (
              (
                subst (λ (h : ℕ). IsRowOf outcome_rows words (h, found.1))
                    (eqb-true found.0 (hart_of_event event) both.0) settles.0,
                both.1,
              ),
              λ outcome tells. ap (λ (t : HartOutcome). t.1) (settles.1 (hart_of_event event, outcome) tells.0),
            )
        by_test false other = λ outcome tells.
            let same = settles.1 (hart_of_event event, outcome) tells.0 in
            let hart : (found.0 == hart_of_event event) ≡ true = eq-eqb found.0 (hart_of_event event) (sym (ap (λ (t : HartOutcome). t.0) same)) in
            let may : may_have event found.1 ≡ true = subst (λ (o : Outcome). may_have event o ≡ true) (ap (λ (t : HartOutcome). t.1) same) tells.1 in
            absurd (let never : true ≡ false = rw (hart, may) at other in cc)

-- ---- what is written is read again

-- a row that is written says its outcome
abbrev pub IsOutcomeRow : ℕ → Outcome → List Written → Type 0
IsOutcomeRow h outcome row = IsRowOf outcome_rows (map word_text row) (h, outcome) × AreSolid row

-- what a row makes of words as they are written, whose numbers stand for themselves
abbrev written_at : (V : Type 0) (places : List RowPlace) → Made places V → List Written → Option V
written_at V [] makes [] = makes
written_at V [] makes (word ∷ words) = None
written_at V (fixed name ∷ places) makes (plain word ∷ words) = if bytes_eq word name then written_at V places makes words else None
written_at V (any ∷ places) makes (number n ∷ words) = written_at V places (makes n) words
written_at V (place ∷ places) makes words = None

abbrev rows_written : {V : Type 0} → List (Row V) → List Written → Option V
rows_written {V = V} [] words = None
rows_written {V = V} (row ∷ rows) words = or_next (written_at V row.places row.makes words) (rows_written rows words)

abbrev AreSmall : List Written → Type 0
AreSmall [] = Unit {0}
AreSmall (plain word ∷ words) = AreSmall words
AreSmall (number n ∷ words) = IsWord n × AreSmall words

abbrev are_printed : List Written → Bool
are_printed [] = true
are_printed (plain word ∷ words) = (ltb 0 (length word) && list_all (λ c. not (is_low c)) word) && are_printed words
are_printed (number n ∷ words) = are_printed words

written-fills : (V : Type 0) (places : List RowPlace) (makes : Made places V) (words : List Written) (v : V) → AreSmall words
    → written_at V places makes words ≡ Some v → Fill V places makes (map word_text words) v
written-fills V [] makes [] v small e = e
written-fills V [] makes (word ∷ words) v small e = absurd cc
written-fills V (fixed name ∷ places) makes [] v small e = absurd cc
written-fills V (fixed name ∷ places) makes (plain word ∷ words) v small e = elim (cases_Bool (bytes_eq word name)) [
  | inl is ↦ ((bytes_eq-Decides word name).0 is, written-fills V places makes words v small (rw is at e))
  | inr other ↦ (let never = rw other at e in absurd cc)
]
written-fills V (fixed name ∷ places) makes (number n ∷ words) v small e = absurd cc
written-fills V (any ∷ places) makes [] v small e = absurd cc
written-fills V (any ∷ places) makes (plain word ∷ words) v small e = absurd cc
written-fills V (any ∷ places) makes (number n ∷ words) v small e = (n, decimal_says n small.0, written-fills V places (makes n) words v small.1 e)

written-row : {V : Type 0} (rows : List (Row V)) (words : List Written) (v : V) → AreSmall words → rows_written rows words ≡ Some v
    → IsRowOf rows (map word_text words) v
written-row [] words v small e = absurd cc
written-row {V = V} (row ∷ rows) words v small e =
    first (written_at V row.places row.makes words) refl (rows_written rows words) (written-row rows words v small) e
  where
    first : (read : Option V) → written_at V row.places row.makes words ≡ read → (next : Option V)
        → (next ≡ Some v → IsRowOf rows (map word_text words) v) → or_next read next ≡ Some v → IsRowOf (row ∷ rows) (map word_text words) v
    first None is None later f = absurd cc
    first None is (Some w) later f = inr (later f)
    first (Some u) is None later f = inl (written-fills V row.places row.makes words v small (is ∙ f))
    first (Some u) is (Some w) later f = inl (written-fills V row.places row.makes words v small (is ∙ f))

written-solid : (words : List Written) → AreSmall words → are_printed words ≡ true → AreSolid words
written-solid [] small e = tt
written-solid (plain word ∷ words) small e =
    let both = and_parts (ltb 0 (length word) && list_all (λ c. not (is_low c)) word) (are_printed words) e in
    (solid_by_test word both.0, written-solid words small both.1)
written-solid (number n ∷ words) small e = (decimal_solid n (omega (arith, small.0)), written-solid words small.1 e)

row_says : (h : ℕ) (outcome : Outcome) → AreSmall (outcome_row h outcome) → are_printed (outcome_row h outcome) ≡ true
    → rows_written outcome_rows (outcome_row h outcome) ≡ Some (h, outcome) → IsOutcomeRow h outcome (outcome_row h outcome)
row_says h outcome small printed made =
    (written-row outcome_rows (outcome_row h outcome) (h, outcome) small made, written-solid (outcome_row h outcome) small printed)

stop_again : (why : Stop) → (stop_of (stop_number why) ≡ Some why) × IsWord (stop_number why)
stop_again why = grind arith

entry_says : (h : ℕ) (e : Entry) → IsWord h → IsEntryOf h e → HasWords e → IsOutcomeRow h (Did e) (entry_row e)
entry_says h (entry.Inner g) hart is words = rw (← is) (row_says h (Did (entry.Inner h)) (hart, tt) refl refl)
entry_says h (entry.Load g a width v) hart (is, inl (inl one)) (a', v') =
    rw (← is, one) (row_says h (Did (entry.Load h a 1 v)) (hart, (a', (v', tt))) refl refl)
entry_says h (entry.Load g a width v) hart (is, inl (inr two)) (a', v') =
    rw (← is, two) (row_says h (Did (entry.Load h a 2 v)) (hart, (a', (v', tt))) refl refl)
entry_says h (entry.Load g a width v) hart (is, inr four) (a', v') = rw (← is, four) (row_says h (Did (entry.Load h a 4 v)) (hart, (a', (v', tt))) refl refl)
entry_says h (entry.Store g a width v) hart (is, inl (inl one)) (a', v') =
    rw (← is, one) (row_says h (Did (entry.Store h a 1 v)) (hart, (a', (v', tt))) refl refl)
entry_says h (entry.Store g a width v) hart (is, inl (inr two)) (a', v') =
    rw (← is, two) (row_says h (Did (entry.Store h a 2 v)) (hart, (a', (v', tt))) refl refl)
entry_says h (entry.Store g a width v) hart (is, inr four) (a', v') = rw (← is, four) (row_says h (Did (entry.Store h a 4 v)) (hart, (a', (v', tt))) refl refl)
entry_says h (entry.Amo g a old new) hart is (a', old', new') = rw (← is) (row_says h (Did (entry.Amo h a old new)) (hart, (a', (old', (new', tt)))) refl refl)
entry_says h (entry.Fence g true) hart is words = rw (← is) (row_says h (Did (entry.Fence h true)) (hart, tt) refl refl)
entry_says h (entry.Fence g false) hart is words = rw (← is) (row_says h (Did (entry.Fence h false)) (hart, tt) refl refl)
entry_says h (entry.Next g (Some w)) hart is w' = rw (← is) (row_says h (Did (entry.Next h (Some w))) (hart, (w', tt)) refl refl)
entry_says h (entry.Next g None) hart is words = rw (← is) (row_says h (Did (entry.Next h None)) (hart, tt) refl refl)
entry_says h (entry.Took g i w) hart is (i', w') = rw (← is) (row_says h (Did (entry.Took h i w)) (hart, (i', (w', tt))) refl refl)
entry_says h (entry.Closed g i) hart is i' = rw (← is) (row_says h (Did (entry.Closed h i)) (hart, (i', tt)) refl refl)
entry_says h (entry.Ended g) hart is words = rw (← is) (row_says h (Did (entry.Ended h)) (hart, tt) refl refl)
entry_says h (entry.Stopped g why) hart is words = let again = stop_again why in
    rw (← is) (row_says h (Did (entry.Stopped h why)) (hart, (again.1, tt)) refl (rw again.0 refl))
entry_says h (entry.Land g) hart is words = rw (← is) (row_says h (Did (entry.Land h)) (hart, tt) refl refl)

pub outcome_says : (h : ℕ) (outcome : Outcome) → IsWord h → OutcomeFits h outcome → OutcomeHasWords outcome → IsOutcomeRow h outcome (outcome_row h outcome)
outcome_says h (Did e) hart fits words = entry_says h e hart fits words
outcome_says h Waited hart fits words = row_says h Waited (hart, tt) refl refl
outcome_says h NothingToLand hart fits words = row_says h NothingToLand (hart, tt) refl refl
outcome_says h Over hart fits words = row_says h Over (hart, tt) refl refl
outcome_says h NoHart hart fits words = row_says h NoHart (hart, tt) refl refl

pub outcome_read : (event : Event) (words : List (List ℕ)) (outcome : Outcome)
    → SaysOutcome event words outcome ↔ (event_outcome event (rows_at outcome_rows words) ≡ Some outcome)
outcome_read event words outcome = go (event_outcome event (rows_at outcome_rows words)) (outcome_settles (at_byte BadOutcome 0) event words)
  where
    go : (found : Option Outcome) → DecidesGrammar (SaysOutcome event words) (or_fault (at_byte BadOutcome 0) found)
        → SaysOutcome event words outcome ↔ (found ≡ Some outcome)
    go None settles = (λ tells. absurd (settles outcome tells), λ e. absurd cc)
    go (Some x) settles = (
      λ tells. ap (λ (o : Outcome). some o) (sym (settles.1 outcome tells)),
      λ e. subst (SaysOutcome event words) (some_is x outcome e) settles.0,
    )

pub outcome_again : (event : Event) (outcome : Outcome) → hart_of_event event < 64 → IsOutcomeOf event outcome
    → OutcomeHasWords outcome → SaysOutcome event (tokens (outcome_text (hart_of_event event) outcome)) outcome
outcome_again event outcome hart can words = grind (arith, outcome_says, row-again)

-- words are read by how many they are, and by the first
pub outcome_chain : (name : List ℕ) (words : List (List ℕ))
    → rows_at outcome_rows (name ∷ words) ≡ chain_at (of_length (suc (length words)) outcome_rows) name words
outcome_chain name words = rows-of_length outcome_rows (name ∷ words) ∙ rows-by_name (of_length (suc (length words)) outcome_rows) name words

-- one word says nothing
pub outcome_alone : (name : List ℕ) → rows_at outcome_rows (name ∷ []) ≡ None
outcome_alone name = outcome_chain name []

pub end_is_no_number : (word : List ℕ) → bytes_eq word (codes "end") ≡ true → word_of word ≡ None
unfolding word_of
end_is_no_number word e = let is : word ≡ codes "end" = (bytes_eq-Decides word (codes "end")).0 e in rw is refl

-- ---- a name and numbers

-- a number, and the space (32) before it
abbrev pub number_text : ℕ → List ℕ
number_text n = 32 ∷ decimal n

row-numbers : (word : Written) (numbers : List ℕ) → row_text (word ∷ map number numbers) ≡ word_text word ++ flat_map number_text numbers
row-numbers word [] = sym (append-nil (word_text word))
row-numbers word (n ∷ numbers) = ap (λ (rest : List ℕ). word_text word ++ 32 ∷ rest) (row-numbers (number n) numbers)

pub numbers_written : (old name text : List ℕ) (numbers : List ℕ) (n : ℕ) → length numbers ≤ n → text ≡ old ++ name ++ flat_map number_text (take n numbers)
    → text ≡ old ++ row_text (plain name ∷ map number numbers)
numbers_written old name text numbers n past so_far = rw (row-numbers (plain name) numbers) (grind (arith, take_all, append_assoc))

-- ---- equal outcomes

pub decides_outcomes : (a b : Outcome) → Decides (is_same_outcome a b) (a ≡ b)
decides_outcomes a b = search rules
