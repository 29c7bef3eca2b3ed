-- The layout of a text without comments, by relation and by function.
use Rattle.std.proofs.Common.{◌≡◌, ℕ, ◌<◌, true, not, List, [], ◌∷◌, ◌++◌, length, drop, Option, Some, None, Ok, refl, sym, ap, subst, ◌∙◌, arith}
use Rattle.std.specs.Prelude.{◌==◌, codes, unwrap_or}
use Rattle.std.proofs.lemmas.Bool.{cases_Bool, and_parts, eqb-false, ne_eqb, not-true}
use Rattle.texts.specs.{is_blank, before, after, is_byte, fails, without_front, tokens, cut_at_blank, first_cut, AreBlanks, NonePass}
use Rattle.texts.proofs.{before-stop, after-stop, cut_byte, cut_whole, before-passes_not, length-from_first, first_is, tokens-cut, tokens-first}
use Rattle.litmus_reader.specs.declared.marks.Mark.TheVariants as mark
use Rattle.litmus_reader.specs.{has_token, before_line, from_line, has_name, is_header, after_header, after_front, after_brace, IsCut, IsFirst, IsVisible}
use Rattle.litmus_reader.specs.{BeginsWith, BeginsCondition, IsHeader, IsLaidOut}
use Rattle.litmus_reader.specs.Layout.IsLineCut.{here, below as further}
use Rattle.litmus_reader.proofs.ShapeLaws.{cut_found, cut_only, front_of, token_cut, visible_matches, brace_matches, condition_matches, line_found, line_only}

-- the text from that line on begins so
pub first_begins : (B : List ℕ → Type 0) (text above from : List ℕ) → IsFirst B text above from → B from
first_begins B text above from (here whole begun) = begun
first_begins B text above from (further line rest higher last none other first) = first_begins B rest higher from first

-- ---- the header line

header_found : (line : List ℕ) → is_header line ≡ true → IsHeader line
unfolding is_header
header_found line h = (
    let both = and_parts (has_token (codes "RISCV") (without_front line)) (has_name (drop 5 (without_front line))) h in
    named (drop 5 (without_front line)) (token_cut (codes "RISCV") (without_front line) both.0) both.1)
  where
    named : (rest : List ℕ) → without_front line ≡ codes "RISCV" ++ rest → has_name rest ≡ true → IsHeader line
    named [] kept e = absurd cc
    named (b ∷ rest) kept e =
        let name = and_parts (is_blank b) (not (length (without_front rest) == 0)) e in
        let plain : NonePass is_blank (codes "RISCV") = (refl, (refl, (refl, (refl, (refl, tt))))) in
        let first = first_is line (codes "RISCV" ++ b ∷ rest) (codes "RISCV") (Some rest) (sym kept) (omega arith)
        (sym (before-stop is_blank (codes "RISCV") b rest plain name.0)) (sym (after-stop is_blank (codes "RISCV") b rest plain name.0)) in
        let some : 0 < length (without_front rest) =
        omega (arith, eqb-false (length (without_front rest)) 0 (not-true (length (without_front rest) == 0) name.1)) in
        let second = first_is rest (without_front rest) (before is_blank (without_front rest)) (after is_blank (without_front rest)) refl some refl refl in (
          before is_blank (without_front rest),
          tokens (unwrap_or (after is_blank (without_front rest)) []),
          tokens-cut line (codes "RISCV") rest first ∙ ap (λ (ts : List (List ℕ)). codes "RISCV" ∷ ts) (tokens-cut rest _ _ second),
        )

abbrev cut_as : (token rest : List ℕ) → Option (List ℕ × List ℕ)
cut_as token rest = Some (token, rest)

-- where something follows a token, a blank does first
blank_after : (kept token rest : List ℕ) → cut_at_blank kept ≡ Some (token, rest) → 0 < length rest
    → (b : ℕ) × (is_blank b ≡ true) × (kept ≡ token ++ b ∷ rest)
blank_after [] token rest e some = absurd cc
blank_after (c ∷ kept) token rest e some = go (after is_blank (c ∷ kept)) refl e
  where
    go : (o : Option (List ℕ)) → after is_blank (c ∷ kept) ≡ o → cut_as (before is_blank (c ∷ kept)) (unwrap_or o []) ≡ cut_as token rest
        → (b : ℕ) × (is_blank b ≡ true) × (c ∷ kept ≡ token ++ b ∷ rest)
    go None last f = grind arith
    go (Some more) cut f = grind (arith, cut_whole is_blank (c ∷ kept) more cut)

some_kept : (kept name rest : List ℕ) → cut_at_blank kept ≡ Some (name, rest) → 0 < length kept
some_kept kept name rest e = grind arith

header_only : (line : List ℕ) → IsHeader line → is_header line ≡ true
unfolding is_header first_cut
header_only line (name, others, e) =
    let first = tokens-first line (codes "RISCV") (name ∷ others) e in
    let second = tokens-first first.0 name others first.2 in
    let some = some_kept (without_front first.0) name second.0 second.1 in
    let long : 0 < length first.0 = omega (arith, some, length-from_first (fails is_blank) first.0) in
    let kept = blank_after (without_front line) (codes "RISCV") first.0 first.1 long in
    rw (kept.2, kept.1, ne_eqb (length (without_front first.0)) 0 (λ none. omega (arith, none, some))) refl

record Headed (text below : List ℕ) : Type 0 where
  headed : List ℕ
  first : from_line mark.Visible text ≡ Some headed
  named : is_header (before (is_byte 10) headed) ≡ true
  following : unwrap_or (after (is_byte 10) headed) [] ≡ below

headed_found : (text below : List ℕ) → after_header text ≡ Ok below → Headed text below
unfolding after_header
headed_found text below e = grind (arith, cases_Bool)

headed_only : (text blank_lines headed header below : List ℕ) → IsFirst IsVisible text blank_lines headed
    → IsCut headed header below → IsHeader header → after_header text ≡ Ok below
unfolding after_header
headed_only text blank_lines headed header below begins first named =
    let from = line_only mark.Visible IsVisible visible_matches begins in
    let cut = cut_only headed header below first in
    rw (from.1, cut.0, header_only header named, cut.1) refl

-- ---- the braces

record Braced (text inner : List ℕ) : Type 0 where
  braced : List ℕ
  blanks : List ℕ
  first : from_line mark.Brace text ≡ Some braced
  opens : IsFirst (BeginsWith (codes "{")) text (before_line mark.Brace text) braced
  indented : AreBlanks blanks
  whole : braced ≡ blanks ++ 123 ∷ inner

braced_found : (text inner : List ℕ) → after_brace text ≡ Ok inner → Braced text inner
unfolding after_brace
braced_found text inner e = go (from_line mark.Brace text) refl e
  where
    go : (o : Option (List ℕ)) → from_line mark.Brace text ≡ o → after_front o ≡ Ok inner → Braced text inner
    go None first f = absurd cc
    go (Some braced) first f =
        let opens = line_found mark.Brace (BeginsWith (codes "{")) brace_matches text (Some braced) first in
        let begun = first_begins (BeginsWith (codes "{")) text (before_line mark.Brace text) braced opens in
        let front : without_front braced ≡ 123 ∷ begun.1 = ap without_front begun.3 ∙ front_of begun.0 123 begun.1 begun.2 refl in
        let shown = rw front at f in
        let same : begun.1 ≡ inner = cc in
        record {
          braced = braced;
          blanks = begun.0;
          first = first;
          opens = opens;
          indented = begun.2;
          whole = begun.3 ∙ ap (λ (ys : List ℕ). begun.0 ++ 123 ∷ ys) same;
        }

braced_only : (text unread_lines braced blanks inner : List ℕ) → IsFirst
    (BeginsWith (codes "{")) text unread_lines braced → AreBlanks blanks → braced ≡ blanks ++ 123 ∷ inner → after_brace text ≡ Ok inner
unfolding after_brace
braced_only text unread_lines braced blanks inner opens indented whole =
    let from = line_only mark.Brace (BeginsWith (codes "{")) brace_matches opens in
    rw (from.1, whole, front_of blanks 123 inner indented refl) refl

-- ---- the layout

pub layout_found : (text below inner rest condition_text : List ℕ) → after_header text ≡ Ok below
    → after_brace below ≡ Ok inner → after (is_byte 125) inner ≡ Some rest
    → from_line mark.Condition rest ≡ Some condition_text
    → IsLaidOut text (before (is_byte 125) inner) (before_line mark.Condition rest) condition_text
layout_found text below inner rest condition_text header brace closes asks =
    let h = headed_found text below header in
    let b = braced_found below inner brace in
    record {
      blank_lines = before_line mark.Visible text;
      headed = h.headed;
      header = before (is_byte 10) h.headed;
      below = below;
      unread_lines = before_line mark.Brace below;
      braced = b.braced;
      blanks = b.blanks;
      following = rest;
      begins = line_found mark.Visible IsVisible visible_matches text (Some h.headed) h.first;
      first = subst (λ (t : List ℕ). IsCut h.headed (before (is_byte 10) h.headed) t) h.following (cut_found h.headed);
      named = header_found (before (is_byte 10) h.headed) h.named;
      opens = b.opens;
      indented = b.indented;
      closed = before-passes_not (is_byte 125) inner;
      between = b.whole ∙ ap (λ (ys : List ℕ). b.blanks ++ 123 ∷ ys) (cut_byte 125 inner rest closes);
      asks = line_found mark.Condition BeginsCondition condition_matches rest (Some condition_text) asks;
    }

pub record Laying (text init table condition_text : List ℕ) : Type 0 where
  pub below : List ℕ
  pub inner : List ℕ
  pub rest : List ℕ
  pub headed : after_header text ≡ Ok below
  pub braced : after_brace below ≡ Ok inner
  pub opened : before (is_byte 125) inner ≡ init
  pub closed : after (is_byte 125) inner ≡ Some rest
  pub above : before_line mark.Condition rest ≡ table
  pub asks : from_line mark.Condition rest ≡ Some condition_text

pub layout_only : (text init table condition_text : List ℕ) → IsLaidOut text init table condition_text → Laying text init table condition_text
layout_only text init table condition_text is =
    let condition = line_only mark.Condition BeginsCondition condition_matches is.asks in
    record {
      below = is.below;
      inner = init ++ 125 ∷ is.following;
      rest = is.following;
      headed = headed_only text is.blank_lines is.headed is.header is.below is.begins is.first is.named;
      braced = braced_only is.below is.unread_lines is.braced is.blanks (init ++ 125 ∷ is.following) is.opens is.indented is.between;
      opened = before-stop (is_byte 125) init 125 is.following is.closed refl;
      closed = after-stop (is_byte 125) init 125 is.following is.closed refl;
      above = condition.0;
      asks = condition.1;
    }
