-- How a text is put together: its parts, its first line, and the first line that begins so, by relation and by function.
use Rattle.std.proofs.Common.{arith, ◌≡◌, ℕ, true, false, List, [], ◌∷◌, ◌++◌, length, drop, Option, Some, None, refl, sym, ap, subst, ◌∙◌, inl, inr, ◌⊎◌}
use Rattle.std.specs.Prelude.{◌==◌, codes, unwrap_or}
use Rattle.std.proofs.lemmas.Bool.{cases_Bool, eqb-true, not-true, false_from_ne_true}
use Rattle.std.proofs.lemmas.Slice.Eq.{starts_is}
use Rattle.std.specs.Bool.{Decides}
use Rattle.std.proofs.lemmas.Bool.Decides.{Decides-eqb, Decides-or, not_from_Decides}
use Rattle.texts.specs.{is_blank, before, after, is_byte, without_front, AreBlanks}
use Rattle.texts.proofs.{before-none, after-none, before-stop, after-stop, cut_byte, uncut, before-passes_not, leading_first, leading_past, leading_split}
use Rattle.litmus_reader.specs.{Mark, HasNo, IsCut, IsLineCut, NoneBegins, IsVisible, BeginsWith, BeginsUnread, BeginsCondition}
use Rattle.litmus_reader.specs.declared.marks.Mark.TheVariants as mark
use Rattle.litmus_reader.specs.Marks.{has_token, is_visible, is_brace, begins, Cut, onto_front, next_cut, line_cut, before_line, from_line}
use Rattle.litmus_reader.specs.Layout.IsLineCut.{here, below as further, nowhere}
use Rattle.litmus_reader.proofs.MarkLaws.{begun_cut, other_cut}

-- ---- the first line

pub cut_found : (text : List ℕ) → IsCut text (before (is_byte 10) text) (unwrap_or (after (is_byte 10) text) [])
cut_found text = grind (arith, before-passes_not, uncut, cut_byte)

pub cut_only : (text line below : List ℕ) → IsCut text line below → (before (is_byte 10) text ≡ line) × (unwrap_or (after (is_byte 10) text) [] ≡ below)
cut_only text line below cut = grind (arith, before-stop, after-stop, before-none, after-none)

-- ---- how a line begins

abbrev pub Matches : Mark → (List ℕ → Type 0) → Type 0
Matches m B = (text : List ℕ) → Decides (begins m text) (B text)

pub front_of : (blanks : List ℕ) (c : ℕ) (rest : List ℕ) → AreBlanks blanks → is_blank c ≡ false → without_front (blanks ++ c ∷ rest) ≡ c ∷ rest
front_of blanks c rest are solid = leading_past is_blank blanks (c ∷ rest) are ∙ rw solid refl

split_visible : (text kept : List ℕ) → without_front text ≡ kept → is_visible kept ≡ true → IsVisible text
split_visible text [] e h = absurd cc
split_visible text (c ∷ rest) e h = grind (arith, leading_split is_blank text, leading_first is_blank text c rest e, not-true (c == 10) h)

pub visible_matches : Matches mark.Visible IsVisible
unfolding begins
visible_matches text = grind (arith, split_visible, front_of)

pub token_cut : (word line : List ℕ) → has_token word line ≡ true → line ≡ word ++ drop (length word) line
token_cut word line h = (starts_is Decides-eqb line word (has_token word line) refl).0 h

pub word-found : (word text : List ℕ) → has_token word (without_front text) ≡ true → BeginsWith word text
word-found word text h = grind (arith, leading_split is_blank text, token_cut word (without_front text) h)

pub word_only : (c : ℕ) (letters text : List ℕ) → is_blank c ≡ false → BeginsWith (c ∷ letters) text → has_token (c ∷ letters) (without_front text) ≡ true
word_only c letters text solid is =
    let front : without_front text ≡ (c ∷ letters) ++ is.1 = ap without_front is.3 ∙ front_of is.0 c (letters ++ is.1) is.2 solid in
    (starts_is Decides-eqb (without_front text) (c ∷ letters) (has_token (c ∷ letters) (without_front text)) refl).1 is.1 front

word_decides : (c : ℕ) (letters text : List ℕ) → is_blank c ≡ false → Decides (has_token (c ∷ letters) (without_front text)) (BeginsWith (c ∷ letters) text)
word_decides c letters text solid = (word-found (c ∷ letters) text, word_only c letters text solid)

split_brace : (text kept : List ℕ) → without_front text ≡ kept → is_brace kept ≡ true → BeginsWith (codes "{") text
split_brace text [] e h = absurd cc
split_brace text (c ∷ rest) e h = grind (arith, leading_split is_blank text, eqb-true c 123 h)

pub brace_matches : Matches mark.Brace (BeginsWith (codes "{"))
unfolding begins
brace_matches text = grind (arith, split_brace, front_of)

pub unread_matches : Matches mark.Unread BeginsUnread
unfolding begins
unread_matches text = Decides-or _ _ (word_decides 108 (codes "ocations") text refl) (word_decides 102 (codes "ilter") text refl)

pub condition_matches : Matches mark.Condition BeginsCondition
unfolding begins
condition_matches text = Decides-or _ _ (Decides-or _ _ (Decides-or _ _ (word_decides 101 (codes "xists") text refl)
    (word_decides 126 (codes "exists") text refl)) (word_decides 102 (codes "orall") text refl)) (unread_matches text)

-- ---- the first line that begins so

-- what follows the first line of a text, if anything does
abbrev IsPassed : Mark → (List ℕ → Type 0) → List ℕ → Type 0
IsPassed m B text = (HasNo 10 text × (next_cut m text ≡ (text, None)))
    ⊎ ((line rest : List ℕ) × HasNo 10 line × (text ≡ line ++ 10 ∷ rest) × (next_cut m text ≡ (line ++ 10 ∷ before_line m rest, from_line m rest))
    × IsLineCut B rest (before_line m rest) (from_line m rest))

passed_found : (m : Mark) (B : List ℕ → Type 0) → Matches m B → (text : List ℕ) → IsPassed m B text → IsLineCut B text (before_line m text) (from_line m text)
passed_found m B matches text passed = elim (cases_Bool (begins m text)) [
  | inl begun ↦ by ([], Some text) (begun_cut m text begun) (here text ((matches text).0 begun))
  | inr other ↦ elim passed [
    | inl (none, whole) ↦
        by (text, None) (other_cut m text other ∙ whole) (nowhere text none (not_from_Decides (begins m text) (matches text) other))
    | inr (line, rest, none, whole, cut, first) ↦
        by (line ++ 10 ∷ before_line m rest, from_line m rest) (other_cut m text other ∙ cut)
        (subst (λ (t : List ℕ). IsLineCut B t (line ++ 10 ∷ before_line m rest) (from_line m rest)) (sym whole)
        (further line rest (before_line m rest) (from_line m rest) none
        (subst (λ (t : List ℕ). B t → ⊥) whole (not_from_Decides (begins m text) (matches text) other)) first))
  ]
]
  where
    by : (cut : Cut) → line_cut m text ≡ cut → IsLineCut B text cut.0 cut.1 → IsLineCut B text (before_line m text) (from_line m text)
    by cut e is = subst (λ (c : Cut). IsLineCut B text c.0 c.1) (sym e) is

at_end : (m : Mark) (c : ℕ) (text : List ℕ) → (c == 10) ≡ true → next_cut m (c ∷ text) ≡ (10 ∷ before_line m text, from_line m text)
unfolding line_cut
at_end m c text e = rw (e, eqb-true c 10 e) refl

passed : (m : Mark) (B : List ℕ → Type 0) → Matches m B → (text : List ℕ) → IsPassed m B text
passed m B matches [] = inl (tt, refl)
passed m B matches (c ∷ text) = elim (cases_Bool (c == 10)) [
  | inl ends ↦
      inr ([], text, tt, ap (λ (b : ℕ). b ∷ text) (eqb-true c 10 ends), at_end m c text ends, passed_found m B matches text (passed m B matches text))
  | inr goes_on ↦ elim (passed m B matches text) [
    | inl (none, whole) ↦ inl ((goes_on, none), rw goes_on (ap (onto_front (c ∷ [])) whole))
    | inr (line, rest, none, whole, cut, first) ↦
        inr (c ∷ line, rest, (goes_on, none), ap (λ (ys : List ℕ). c ∷ ys) whole, rw goes_on (ap (onto_front (c ∷ [])) cut), first)
  ]
]

pub line_found : (m : Mark) (B : List ℕ → Type 0) → Matches m B → (text : List ℕ) (from : Option (List ℕ))
    → from_line m text ≡ from → IsLineCut B text (before_line m text) from
line_found m B matches text from e = subst (IsLineCut B text (before_line m text)) e (passed_found m B matches text (passed m B matches text))

-- a line that ends stands before what follows it
past_line : (m : Mark) (line rest : List ℕ) → HasNo 10 line → next_cut m (line ++ 10 ∷ rest) ≡ (line ++ 10 ∷ before_line m rest, from_line m rest)
unfolding line_cut
past_line m [] rest none = refl
past_line m (c ∷ line) rest none = rw none.0 (ap (onto_front (c ∷ [])) (past_line m line rest none.1))

last_line : (m : Mark) (line : List ℕ) → HasNo 10 line → next_cut m line ≡ (line, None)
last_line m [] none = refl
last_line m (c ∷ line) none = rw none.0 (ap (onto_front (c ∷ [])) (last_line m line none.1))

starts_other : (m : Mark) (B : List ℕ → Type 0) → Matches m B → (text : List ℕ) → (B text → ⊥) → begins m text ≡ false
starts_other m B matches text other = false_from_ne_true (begins m text) (λ begun. other ((matches text).0 begun))

cut_is : (m : Mark) (B : List ℕ → Type 0) → Matches m B → (text above : List ℕ) (from : Option (List ℕ))
    → IsLineCut B text above from → line_cut m text ≡ (above, from)
cut_is m B matches text above from (here whole begun) = begun_cut m whole ((matches whole).1 begun)
cut_is m B matches text above from (further line rest higher last none other first) =
    other_cut m (line ++ 10 ∷ rest) (starts_other m B matches (line ++ 10 ∷ rest) other)
    ∙ past_line m line rest none ∙ ap (λ (cut : Cut). (line ++ 10 ∷ cut.0, cut.1)) (cut_is m B matches rest higher last first)
cut_is m B matches text above from (nowhere line none other) = other_cut m line (starts_other m B matches line other) ∙ last_line m line none

pub line_only : (m : Mark) (B : List ℕ → Type 0) → Matches m B → {text above : List ℕ} {from : Option (List ℕ)}
    → IsLineCut B text above from → (before_line m text ≡ above) × (from_line m text ≡ from)
line_only m B matches {text = text} {above = above} {from = from} is =
    let cut = cut_is m B matches text above from is in
    (ap (λ (c : Cut). c.0) cut, ap (λ (c : Cut). c.1) cut)

-- where no line begins so, all stands before
pub none_begins : (B : List ℕ → Type 0) (text above : List ℕ) (from : Option (List ℕ)) → IsLineCut B text above from → from ≡ None → NoneBegins B text
none_begins B text above from (here whole begun) e = absurd cc
none_begins B text above from (further line rest higher last none other first) e =
    further line rest rest None none other (none_begins B rest higher last first e)
none_begins B text above from (nowhere line none other) e = nowhere line none other
