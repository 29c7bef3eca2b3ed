-- One more line of a draft, and what is known of all of them.
use Rattle.std.proofs.Common.{◌≡◌, ℕ, ◌+◌, ◌*◌, ◌<◌, ◌≤◌, true, false, cond, List, [], ◌∷◌, ◌++◌, length, map, Option, Some, None, Ok, Err, refl, sym, ap}
use Rattle.std.proofs.Common.{subst, ◌∙◌, inl, inr, arith, Bool}
use Rattle.std.specs.Prelude.{IfSome}
use Rattle.std.specs.Option.{is_some}
use Rattle.std.proofs.lemmas.Bool.{cases_Bool, lt-ltb, le-ltb, cond-true, cond-false}
use Rattle.assembler.specs.{KeptLine, kept_line, AreKeptLines, place_in, AsmFault, LabelTwice, TooLong, Made, label_of, statement_text, made_in, Line, size_of}
use Rattle.assembler.specs.{word_count, is_label, place_from, label_place, is_twice, line_below, drafted, placed_statement, all_placed, Fitting, AllFit}
use Rattle.assembler.specs.{line_over, all_instructions}
use Rattle.std.proofs.lemmas.Slice.Eq.{bytes_eq-Decides}
use Rattle.assembler.proofs.LabelLaws.{fresh_apart, once-push}
use Rattle.std.specs.Str.{bytes_eq}
use Rattle.std.specs.HashMap.{HashMap, UpdatesBy}
use Rattle.std.specs.declared.vec.Vec.{Vec}
use Rattle.std.specs.declared.alloc.Global.{Global}
use Rattle.std.specs.Map.{lookup, IsKeyTest, AreApart, KeepsOthers}
use Rattle.std.proofs.lemmas.Cmp.{nat_list_eq_equiv}

pub drafted_twice : (above : List Line) (text : List ℕ) → is_twice above (label_of text) ≡ true
    → drafted above text ≡ Err (record { fault = LabelTwice; line = length above + 1 })
unfolding drafted line_below
drafted_twice above text twice = rw twice refl

pub drafted_added : (above : List Line) (text : List ℕ) (made : Option Made)
    → is_twice above (label_of text) ≡ false → made_in (statement_text text) ≡ Ok made
    → drafted above text ≡ Ok (above ++ (record { label = label_of text; made = made }) ∷ [])
unfolding drafted line_below
drafted_added above text made fresh e = rw (fresh, e) refl

pub drafted_faulty : (above : List Line) (text : List ℕ) (fault : AsmFault) → is_twice above (label_of text) ≡ false
    → made_in (statement_text text) ≡ Err fault
    → drafted above text ≡ Err (record { fault = fault; line = length above + 1 })
unfolding drafted line_below
drafted_faulty above text fault fresh e = rw (fresh, e) refl

-- ---- places

abbrev or_else : Option ℕ → Option ℕ → Option ℕ
or_else None other = other
or_else (Some place) other = Some place

place_from-push : (name : List ℕ) (at : ℕ) (all : List Line) (line : Line) → place_from name at (all ++ line ∷ [])
    ≡ or_else (place_from name at all) (cond (is_label name line.label) (Some (at + word_count all)) None)
place_from-push name at [] line = let same : at + 0 ≡ at = omega arith in rw same refl
place_from-push name at (first ∷ rest) line = grind (arith, cases_Bool, place_from-push name (at + size_of first.made) rest line)

place_from-le : (name : List ℕ) (at : ℕ) (all : List Line) → IfSome (place_from name at all) (λ place. place ≤ at + word_count all)
place_from-le name at [] = tt
place_from-le name at (first ∷ rest) = grind (arith, cases_Bool, place_from-le name (at + size_of first.made) rest)

-- no label's place is after the last word
pub place_within : (all : List Line) (name : List ℕ) (most : ℕ) → word_count all ≤ most → (r : Option ℕ)
    → r ≡ label_place all name → IfSome r (λ place. place ≤ most)
unfolding label_place
place_within all name most few None e = tt
place_within all name most few (Some place) e = grind (arith, place_from-le name 0 all)

-- ---- what a draft knows

words_of-push : (all : List Line) (line : Line) → word_count (all ++ line ∷ []) ≡ word_count all + size_of line.made
words_of-push [] line = omega arith
words_of-push (first ∷ rest) line = rw (words_of-push rest line) (omega arith)

AllFit-push : (all : List Line) (line : Line) → AllFit all → Fitting line.made → AllFit (all ++ line ∷ [])
AllFit-push [] line all_fit fits = (fits, tt)
AllFit-push (first ∷ rest) line all_fit fits = (all_fit.0, AllFit-push rest line all_fit.1 fits)

none_of_fresh : (r : Option ℕ) → is_some r ≡ false → r ≡ None
none_of_fresh r e = grind arith

-- a fresh label's name has no place yet
fresh_place : (all : List Line) (name : List ℕ) (label : Option (List ℕ)) → is_twice all label ≡ false
    → is_label name label ≡ true → label_place all name ≡ None
fresh_place all name label fresh here = grind (arith, bytes_eq-Decides, none_of_fresh)

or_none : (r : Option ℕ) → or_else r None ≡ r
or_none r = grind arith

found_last : (all : List Line) (line : Line) (name : List ℕ) → is_label name line.label ≡ true
    → label_place all name ≡ None → label_place (all ++ line ∷ []) name ≡ Some (word_count all)
unfolding label_place
found_last all line name here none = place_from-push name 0 all line ∙ rw (here, none) (ap Some (omega arith))

found_above : (all : List Line) (line : Line) (name : List ℕ) → is_label name line.label ≡ false → label_place (all ++ line ∷ []) name ≡ label_place all name
unfolding label_place
found_above all line name other = place_from-push name 0 all line ∙ rw other (or_none (place_from name 0 all))

place_of-push : (all : List Line) (line : Line) (name : List ℕ) → is_twice all line.label ≡ false
    → cond (is_label name line.label) (Some (word_count all)) (label_place all name) ≡ label_place (all ++ line ∷ []) name
place_of-push all line name fresh = elim (cases_Bool (is_label name line.label)) [
  | inl here ↦ rw here (sym (found_last all line name here (fresh_place all name line.label fresh here)))
  | inr other ↦ rw other (sym (found_above all line name other))
]

pub kept_more : (found after : List ℕ → Option ℕ) (words : ℕ) (all : List Line) (line : Line)
    → AreKeptLines found words all
    → ((name : List ℕ) → after name ≡ cond (is_label name line.label) (Some words) (found name))
    → is_twice all line.label ≡ false → Fitting line.made → AreKeptLines after (words + size_of line.made) (all ++ line ∷ [])
kept_more found after words all line kept defined fresh fits = grind (arith, place_of-push, words_of-push, AllFit-push, once-push, fresh_apart)

size_le : (made : Option Made) → size_of made ≤ 2
size_le made = grind arith

-- a line makes two words at most
pub words_le : (all : List Line) → word_count all ≤ 2 * length all
words_le [] = omega arith
words_le (first ∷ rest) = let here = size_le first.made in let more = words_le rest in omega arith

-- ---- the same places, the same words

placed-same : (f g : List ℕ → Option ℕ) → ((name : List ℕ) → f name ≡ g name) → (at : ℕ) (made : Option Made)
    → placed_statement f at made ≡ placed_statement g at made
placed-same f g same at made = grind arith

pub all_placed-same : (f g : List ℕ → Option ℕ) → ((name : List ℕ) → f name ≡ g name)
    → (at line : ℕ) (all : List Line) → all_placed f at line all ≡ all_placed g at line all
all_placed-same f g same at line [] = refl
all_placed-same f g same at line (first ∷ rest) =
    rw (placed-same f g same at first.made, all_placed-same f g same (at + size_of first.made) (line + 1) rest) refl

-- ---- the end of a draft

pub finished-long : (all : List Line) → 4096 < word_count all → all_instructions all ≡ Err (record { fault = TooLong; line = line_over 0 1 all })
unfolding all_instructions
finished-long all long = rw (lt-ltb 4096 (word_count all) long) refl

pub finished-short : (found : List ℕ → Option ℕ) (all : List Line) → word_count all ≤ 4096
    → ((name : List ℕ) → found name ≡ label_place all name) → all_placed found 0 1 all ≡ all_instructions all
unfolding all_instructions
finished-short found all few same = rw (le-ltb 4096 (word_count all) few) (all_placed-same found (label_place all) same 0 1 all)

pub lines-push : (items : List KeptLine) (line : KeptLine) → map kept_line (items ++ line ∷ []) ≡ map kept_line items ++ kept_line line ∷ []
lines-push [] line = refl
lines-push (first ∷ rest) line = rw (lines-push rest line) refl

-- ---- a map from names to places, after a name got one

abbrev vec_eq : Vec ℕ Global → Vec ℕ Global → Bool
vec_eq x y = bytes_eq x.items y.items

apart : (bs cs ks : List ℕ) → bytes_eq bs cs ≡ false → bytes_eq bs ks ≡ true → bytes_eq cs ks ≡ false
apart bs cs ks other same = nat_list_eq_equiv.symm cs ks ∙ sym (nat_list_eq_equiv.congr bs ks cs same) ∙ other

others : (test : Vec ℕ Global → Bool) (old new : List (Vec ℕ Global × ℕ)) → KeepsOthers vec_eq test old new
    → (other : Vec ℕ Global → Bool) → IsKeyTest vec_eq other → AreApart test other → lookup other new ≡ lookup other old
unfolding KeepsOthers
others test old new h = h

pub place_after : {S : Type 0} (name : Vec ℕ Global) (old new : HashMap (Vec ℕ Global) ℕ S) (place : ℕ)
    → UpdatesBy vec_eq (λ key. bytes_eq name.items key.items) old new (Some place) → (other : List ℕ)
    → place_in new other ≡ cond (bytes_eq name.items other) (Some place) (place_in old other)
place_after name old new place h other = elim (cases_Bool (bytes_eq name.items other)) [
  | inl same ↦ subst (λ (l : List ℕ). place_in new l ≡ Some place) ((bytes_eq-Decides name.items other).0 same) h.1
      ∙ sym (cond-true (bytes_eq name.items other) (Some place) (place_in old other) same)
  | inr differs ↦
      others (λ key. bytes_eq name.items key.items) old.entries new.entries h.3 (λ key. bytes_eq other key.items)
      (λ x y. nat_list_eq_equiv.congr other x.items y.items) (λ key. apart name.items other key.items differs)
      ∙ sym (cond-false (bytes_eq name.items other) (Some place) (place_in old other) differs)
]
