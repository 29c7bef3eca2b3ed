-- What is read as a test's heading, and the words of a text in one line.
use Rattle.std.proofs.Common.{◌≡◌, ◌↔◌, ℕ, List, [], ◌∷◌, ◌++◌, length, Option, Some, Result, Ok, refl, sym, ap, subst, ◌∙◌, append-nil, append_assoc, arith}
use Rattle.std.specs.Prelude.{IfOk, nat_lt, codes}
use Rattle.std.specs.List.{filter, flat_map, join_with_byte}
use Rattle.std.proofs.lemmas.Bool.{ne_eqb}
use Rattle.texts.specs.declared.pieces.Separators.TheVariants.{Gaps}
use Rattle.texts.specs.{pieces, pieces_after, before, after, is_byte, tokens, GivesUpToMemory}
use Rattle.texts.proofs.{bind_ok, ok_is, filter_kept}
use Rattle.litmus_tokens.specs.Cleaning.{cleaned_text}
use Rattle.litmus_tokens.proofs.CommentLaws.{is_cleaned, only_cleaned}
use Rattle.litmus_reader.specs.{LitmusFault, before_line, from_line, after_header, after_brace, after_init, IsVisible, IsLaidOut, Content, IsContent}
use Rattle.litmus_reader.specs.declared.marks.Mark.TheVariants as mark
use Rattle.litmus_reader.specs.Headings.{HeadingOf, in_one_line, with_word, IsHeading, name_in, condition_of, heading_in, heading_at}
use Rattle.litmus_reader.proofs.ShapeLaws.{cut_only, visible_matches, line_only}
use Rattle.litmus_reader.proofs.LayoutLaws.{layout_found, layout_only}

-- ---- words in one line

-- the words so far in one line, and those that follow
abbrev pub carried : List ℕ → List (List ℕ) → List ℕ
carried [] words = join_with_byte 32 words
carried (c ∷ line) words = (c ∷ line) ++ flat_map (λ word. 32 ∷ word) words

joined : (word : List ℕ) (words : List (List ℕ)) → join_with_byte 32 (word ∷ words) ≡ word ++ flat_map (λ next. 32 ∷ next) words
joined word [] = sym (append-nil word)
joined word (next ∷ words) = ap (λ (ys : List ℕ). word ++ 32 ∷ ys) (joined next words)

abbrev kept : List (List ℕ) → List (List ℕ)
kept pieces = filter (λ piece. nat_lt 0 (length piece)) pieces

-- a further piece, which is a word or nothing
carried_word : (line piece : List ℕ) (pieces : List (List ℕ)) → carried (with_word line piece) (kept pieces) ≡ carried line (kept (piece ∷ pieces))
carried_word [] [] pieces = refl
carried_word [] (c ∷ piece) pieces = rw (filter_kept (c ∷ piece) pieces (omega arith)) (sym (joined (c ∷ piece) (kept pieces)))
carried_word (b ∷ line) [] pieces = rw (ne_eqb (length (b ∷ line)) 0 (λ none. omega (arith, none)), append-nil line) refl
carried_word (b ∷ line) (c ∷ piece) pieces = grind (arith, ne_eqb, filter_kept, append_assoc)

pub carried_turn : (line piece new bytes whole : List ℕ) (after : Option (List ℕ)) → new ≡ with_word line piece
    → pieces Gaps bytes ≡ piece ∷ pieces_after Gaps after
    → carried line (kept (pieces Gaps bytes)) ≡ whole → carried new (kept (pieces_after Gaps after)) ≡ whole
carried_turn line piece new bytes whole after is cut so_far = grind (arith, carried_word)

pub carried_all : (line : List ℕ) → carried line [] ≡ line
carried_all line = grind (arith, append-nil)

-- ---- the name

name_read : (text init table condition_text : List ℕ) (laid : IsLaidOut text init table condition_text) (name : List ℕ) (others : List (List ℕ))
    → tokens laid.header ≡ codes "RISCV" ∷ name ∷ others → name_in text ≡ name
name_read text init table condition_text laid name others e =
    let from = line_only mark.Visible IsVisible visible_matches laid.begins in
    rw (from.1, (cut_only laid.headed laid.header laid.below laid.first).0, e) refl

-- ---- the heading

abbrev heading : (name condition : List ℕ) → HeadingOf
heading name condition = record { name = name; condition = condition }

record Asking (from : Option (List ℕ)) (condition : List ℕ) : Type 0 where
  condition_text : List ℕ
  begins : from ≡ Some condition_text
  is : condition ≡ in_one_line condition_text

asking : (from : Option (List ℕ)) (condition : List ℕ) → condition_of from ≡ Ok condition → Asking from condition
asking from condition e = grind (arith, ok_is)

pub init-some : (from : Option (List ℕ)) (rest : List ℕ) → after_init from ≡ Ok rest → from ≡ Some rest
init-some from rest e = grind (arith, ok_is)

pub heading_found : (text : List ℕ) (is : HeadingOf) → heading_at text ≡ Ok is → IsHeading text is
unfolding heading_at heading_in
heading_found text is e =
    let clean = cleaned_text text in
    let first = bind_ok (after_header clean) _ is e in
    let second = bind_ok (after_brace first.0) _ is first.2 in
    let third = bind_ok (after_init (after (is_byte 125) second.0)) _ is second.2 in
    let fourth = bind_ok (condition_of (from_line mark.Condition third.0)) _ is third.2 in
    let asks = asking (from_line mark.Condition third.0) fourth.0 fourth.1 in
    let closed = init-some (after (is_byte 125) second.0) third.0 third.1 in
    let laid = layout_found clean first.0 second.0 third.0 asks.condition_text first.1 second.1 closed asks.begins in
    let named = laid.named in
    let same : heading (name_in clean) fourth.0 ≡ is = ok_is LitmusFault (heading (name_in clean) fourth.0) is fourth.2 in
    let name : named.0 ≡ is.name =
    sym (name_read clean _ _ asks.condition_text laid named.0 named.1 named.2) ∙ ap (λ (h : HeadingOf). h.name) same in
    record {
      clean = clean;
      init = before (is_byte 125) second.0;
      table = before_line mark.Condition third.0;
      condition_text = asks.condition_text;
      others = named.1;
      cleaned = is_cleaned text;
      laid_out = laid;
      named = named.2 ∙ ap (λ (w : List ℕ). codes "RISCV" ∷ w ∷ named.1) name;
      asks = sym (ap (λ (h : HeadingOf). h.condition) same) ∙ asks.is;
    }

pub heading_only : (text : List ℕ) (is : HeadingOf) → IsHeading text is → heading_at text ≡ Ok is
unfolding heading_at heading_in
heading_only text is h =
    let clean : cleaned_text text ≡ h.clean = only_cleaned text h.clean h.cleaned in
    let laying = layout_only h.clean h.init h.table h.condition_text h.laid_out in
    let name = name_read h.clean h.init h.table h.condition_text h.laid_out is.name h.others h.named in
    rw (clean, laying.headed, laying.braced, laying.closed, laying.asks, name, ← h.asks) refl

-- what a reader answers
pub found_heading : {X E : Type 0} (fault_of : E → Option LitmusFault) (view : X → HeadingOf) (text : List ℕ) (result : Result X E)
    → GivesUpToMemory fault_of view result (heading_at text) → IfOk result (λ x. IsHeading text (view x))
found_heading fault_of view text result gives = grind (arith, heading_found)

pub only_heading : {X E : Type 0} (fault_of : E → Option LitmusFault) (view : X → HeadingOf) (text : List ℕ) (is : HeadingOf) (result : Result X E)
    → GivesUpToMemory fault_of view result (heading_at text) → IsHeading text is → GivesUpToMemory fault_of view result (Ok is)
only_heading fault_of view text is result gives h =
    subst (λ (answer : Result HeadingOf LitmusFault). GivesUpToMemory fault_of view result answer) (heading_only text is h) gives

pub one_heading : (text : List ℕ) (a b : HeadingOf) → IsHeading text a → IsHeading text b → a ≡ b
one_heading text a b first second = ok_is LitmusFault a b (sym (heading_only text a first) ∙ heading_only text b second)

-- a text with a test has a heading
pub test_headed : (text : List ℕ) (content : Content) → IsContent text content → (is : HeadingOf) × IsHeading text is
test_headed text content c =
    let named = c.laid_out.named in (
      heading named.0 (in_one_line c.condition_text),
      record {
        clean = c.clean;
        init = c.init;
        table = c.table;
        condition_text = c.condition_text;
        others = named.1;
        cleaned = c.cleaned;
        laid_out = c.laid_out;
        named = named.2;
        asks = refl;
      },
    )

pub headed_exactly : (text : List ℕ) (is : HeadingOf) → (heading_at text ≡ Ok is) ↔ IsHeading text is
headed_exactly text is = (heading_found text is, heading_only text is)
