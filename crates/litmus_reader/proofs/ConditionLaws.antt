-- The condition: what is read of it is what its text asks, and what the text asks is read.
use Rattle.std.proofs.Common.{◌≡◌, ◌∙◌, ℕ, ◌*◌, ◌≤◌, Bool, true, false, List, [], ◌∷◌, ◌++◌, length, drop, Option, Some, None, Ok, Err, refl, sym, ap, subst}
use Rattle.std.proofs.Common.{append_assoc, ltb-true, ltb-false, arith}
use Rattle.std.specs.Prelude.{nat_lt, if◌then◌else◌, codes}
use Rattle.std.proofs.lemmas.List.{append-nil}
use Rattle.texts.specs.{without_front, AreBlanks, ◌>>=◌, is_blank}
use Rattle.texts.proofs.{bind_ok, ok_is, leading_past, leading_split}
use Rattle.rv_decode.specs.declared.instruction.Reg.{Reg}
use Rattle.litmus.specs.declared.verdict.Quantifier.{Quantifier}
use Rattle.litmus.specs.declared.verdict.Quantifier.TheVariants.{Exists, NotExists, ForAll}
use Rattle.litmus.specs.declared.symbols.Place.TheVariants as place
use Rattle.litmus.specs.declared.symbols.Symbol.{Symbol}
use Rattle.litmus.specs.declared.symbols.Symbol.TheVariants as symbol
use Rattle.litmus.specs.{Formula, IsConditionOf, Begins, Stage, stage_after, with_symbol, or_misplaced, symbol_added, formula_of_symbols}
use Rattle.litmus.proofs.GrammarLaws.{finished_only}
use Rattle.litmus.proofs.FrontLaws.{finished-found}
use Rattle.litmus.proofs.BeginLaws.{refused_begins}
use Rattle.litmus_tokens.specs.Assignments as assigned
use Rattle.litmus_tokens.specs.Tokens as token
use Rattle.litmus_tokens.specs.Tokens.{Tokens, tokens_of, AreTokens, listed}
use Rattle.litmus_tokens.proofs.Spelling.{tokens_are, are_tokens}
use Rattle.litmus_reader.specs.{LitmusFault, BadCondition, Unread, has_token, before_line, from_line, Names, Quantified, ConditionSoFar, quantifier_of}
use Rattle.litmus_reader.specs.{quantifier_in, place_resolved, atom_resolved, token_resolved, as_condition, tokens_added, none_unread, after_quantifier}
use Rattle.litmus_reader.specs.{condition_in, BeginsUnread, names_of, names_in, name_of_place, token_for, IsFinalCondition, atoms_in, IsPlaceOf, IsKnown}
use Rattle.litmus_reader.specs.{AreKnown}
use Rattle.litmus_reader.specs.Condition.{Condition}
use Rattle.litmus_reader.proofs.ShapeLaws.{unread_matches, line_found, line_only, none_begins, token_cut}
use Rattle.litmus_reader.proofs.FirstAppearances.{Distinct, met, met-append, IsAnswer, Resolves, found_by, only_by, resolves_known, resolves_named}
use Rattle.litmus_reader.proofs.FirstAppearances.{resolves_both, value_resolves}

-- ---- the quantifier

abbrev IsQuantified : List ℕ → Quantified → Type 0
IsQuantified text quantified = (blanks : List ℕ) × AreBlanks blanks × (text ≡ blanks ++ (token_for quantified.0 ++ quantified.1))

quantifier_cut : (line : List ℕ) (quantified : Quantified) → quantifier_of line ≡ Some quantified → line ≡ token_for quantified.0 ++ quantified.1
quantifier_cut line quantified e = go (has_token (codes "exists") line) refl (has_token (codes "~exists") line) refl (has_token (codes "forall") line) refl
  where
    is : (q : Quantifier) (rest : List ℕ) → line ≡ token_for q ++ rest → (q, rest) ≡ quantified → line ≡ token_for quantified.0 ++ quantified.1
    is q rest cut same = subst (λ (one : Quantified). line ≡ token_for one.0 ++ one.1) same cut

    go : (a : Bool) → has_token (codes "exists") line ≡ a → (b : Bool) → has_token (codes "~exists") line ≡ b
        → (c : Bool) → has_token (codes "forall") line ≡ c → line ≡ token_for quantified.0 ++ quantified.1
    go true e1 b e2 c e3 = (let shown = rw e1 at e in is Exists (drop 6 line) (token_cut (codes "exists") line e1) cc)
    go false e1 true e2 c e3 = (let shown = rw (e1, e2) at e in is NotExists (drop 7 line) (token_cut (codes "~exists") line e2) cc)
    go false e1 false e2 true e3 = (let shown = rw (e1, e2, e3) at e in is ForAll (drop 6 line) (token_cut (codes "forall") line e3) cc)
    go false e1 false e2 false e3 = (let never = rw (e1, e2, e3) at e in absurd cc)

quantifier_found : (text : List ℕ) (quantified : Quantified) → quantifier_in text ≡ Some quantified → IsQuantified text quantified
unfolding quantifier_in
quantifier_found text quantified e = grind (arith, leading_split is_blank text, quantifier_cut (without_front text) quantified e)

quantifier_first : (quantifier : Quantifier) (rest : List ℕ) → quantifier_of (without_front (token_for quantifier ++ rest)) ≡ Some (quantifier, rest)
quantifier_first quantifier rest = grind arith

quantifier_only : (blanks rest : List ℕ) (quantifier : Quantifier) → AreBlanks blanks
    → quantifier_in (blanks ++ (token_for quantifier ++ rest)) ≡ Some (quantifier, rest)
unfolding quantifier_in
quantifier_only blanks rest quantifier all = ap quantifier_of
    (leading_past is_blank blanks (token_for quantifier ++ rest) all) ∙ quantifier_first quantifier rest

-- ---- symbols that may stand after others

with_symbol-found : (words : List Symbol) (next : Symbol) (o : Option Stage) (more : List Symbol)
    → as_condition (or_misplaced (with_symbol words next o)) ≡ Ok more → words ++ next ∷ [] ≡ more
with_symbol-found words next o more e = grind arith

symbol_found : (words : List Symbol) (next : Symbol) (more : List Symbol) → as_condition (symbol_added words next) ≡ Ok more → words ++ next ∷ [] ≡ more
unfolding symbol_added
symbol_found words next more e = with_symbol-found words next (stage_after (words ++ next ∷ [])) more e

symbol_begins : (words : List Symbol) (next : Symbol) → Begins (words ++ next ∷ []) → as_condition (symbol_added words next) ≡ Ok (words ++ next ∷ [])
symbol_begins words next begun = grind (arith, symbol_found, refused_begins)

finished-ok : (words : List Symbol) (formula : Formula) → as_condition (formula_of_symbols words) ≡ Ok formula → formula_of_symbols words ≡ Ok formula
finished-ok words formula e = grind arith

-- ---- tokens, each with its place known

register_answers : (harts hart : ℕ) (names : Names) (register : Reg) (b : Bool) → nat_lt hart harts ≡ b
    → IsAnswer [] (λ ns at. IsPlaceOf harts ns (assigned.NamedLocation.in_register hart register) at) names
    (if b then Ok (place.Register hart register.number, names) else Err BadCondition)
register_answers harts hart names register true e = record { all = refl; few = λ few. few; is = (ltb-true hart harts e, refl) }
register_answers harts hart names register false e = λ few final at is. omega (arith, ltb-false hart harts e, is.0)

place_resolves : (harts : ℕ) (location : assigned.NamedLocation)
    → Resolves (λ names. place_resolved harts names location) (name_of_place location) (λ names at. IsPlaceOf harts names location at)
unfolding place_resolved
place_resolves harts (assigned.NamedLocation.in_register hart register) = record {
  answers = λ names. register_answers harts hart names register (nat_lt hart harts) refl;
  later = λ names more at is. is;
  one = λ names a b distinct first second. first.1 ∙ sym second.1;
}
place_resolves harts (assigned.NamedLocation.at_location name) = resolves_named (λ index. place.Word (4 * index)) name

-- the names in a token
abbrev mentioned : token.Token → Names
mentioned (token.Token.atom assignment) = names_of assignment
mentioned other = []

token_resolves : (harts : ℕ) (first : token.Token)
    → Resolves (λ names. token_resolved harts names first) (mentioned first) (λ names known. IsKnown harts names first known)
unfolding token_resolved atom_resolved
token_resolves harts (token.Token.atom assignment) =
    resolves_both (λ at value. symbol.Is at value) (place_resolves harts assignment.0) (value_resolves assignment.1)
token_resolves harts token.Token.negation = resolves_known symbol.Not
token_resolves harts token.Token.conjunction = resolves_known symbol.And
token_resolves harts token.Token.disjunction = resolves_known symbol.Or
token_resolves harts token.Token.opening = resolves_known symbol.Open
token_resolves harts token.Token.closing = resolves_known symbol.Close

-- ---- all tokens

mentioned_more : (names : Names) (first : token.Token) (words : List token.Token)
    → met names (names_in (atoms_in (first ∷ words))) ≡ met (met names (mentioned first)) (names_in (atoms_in words))
mentioned_more names (token.Token.atom assignment) words = met-append names (names_of assignment) (names_in (atoms_in words))
mentioned_more names other words = refl

record TokensFound (harts : ℕ) (names : Names) (so_far : List Symbol) (text : Tokens) (gathered : ConditionSoFar) : Type 0 where
  words : List token.Token
  known : List Symbol
  whole : text ≡ listed words
  following : gathered.0 ≡ so_far ++ known
  named : gathered.1 ≡ met names (names_in (atoms_in words))
  few : length names ≤ 1024 → length gathered.1 ≤ 1024
  all : AreKnown harts gathered.1 words known

tokens_found : (harts : ℕ) (names : Names) (so_far : List Symbol) (text : Tokens) (gathered : ConditionSoFar)
    → tokens_added harts (so_far, names) text ≡ Ok gathered → TokensFound harts names so_far text gathered
tokens_found harts names so_far token.Tokens.ended gathered e = subst (TokensFound harts names so_far token.Tokens.ended)
    (ok_is LitmusFault (so_far, names) gathered e)
    (record { words = []; known = []; whole = refl; following = sym (append-nil so_far); named = refl; few = λ few. few; all = refl })
tokens_found harts names so_far token.Tokens.broken gathered e = absurd cc
tokens_found harts names so_far (token.Tokens.goes_on first others) gathered e =
    let known = bind_ok (token_resolved harts names first)
    (λ known. as_condition (symbol_added so_far known.0) >>= λ more. tokens_added harts (more, known.1) others)
    gathered e in
    let more = bind_ok (as_condition (symbol_added so_far known.0.0)) (λ more. tokens_added harts (more, known.0.1) others) gathered known.2 in
    let one = found_by (token_resolves harts first) names known.0 known.1 in
    let rest = tokens_found harts known.0.1 more.0 others gathered more.2 in
    record {
      words = first ∷ rest.words;
      known = known.0.0 ∷ rest.known;
      whole = ap (λ (ws : Tokens). token.Tokens.goes_on first ws) rest.whole;
      following = rest.following ∙ ap (λ (ws : List Symbol). ws ++ rest.known) (sym (symbol_found so_far known.0.0 more.0 more.1))
          ∙ append_assoc so_far (known.0.0 ∷ []) rest.known;
      named = rest.named ∙ ap (λ (ns : Names). met ns (names_in (atoms_in rest.words))) one.all ∙ sym (mentioned_more names first rest.words);
      few = λ few. rest.few (one.few few);
      all = (
        known.0.0,
        rest.known,
        refl,
        subst (λ (ns : Names). IsKnown harts ns first known.0.0) (sym rest.named)
            ((token_resolves harts first).later known.0.1 (names_in (atoms_in rest.words)) known.0.0 one.is),
        rest.all,
      );
    }

-- the tokens ask something of all names of a test
abbrev pub AskOf : (harts : ℕ) → List token.Token → List Symbol → Names → Type 0
AskOf harts words known names = Distinct names × (length names ≤ 1024) × AreKnown harts names words known

tokens_only : (harts : ℕ) (names : Names) (so_far : List Symbol) (words : List token.Token) (known : List Symbol)
    (formula : Formula) → AskOf harts words known (met names (names_in (atoms_in words))) → IsConditionOf (so_far ++ known) formula
    → tokens_added harts (so_far, names) (listed words) ≡ Ok (so_far ++ known, met names (names_in (atoms_in words)))
tokens_only harts names so_far [] known formula (distinct, few, all) stands =
    ap (λ (ws : List Symbol). Ok (ws, names)) (sym (append-nil so_far) ∙ ap (λ (ws : List Symbol). so_far ++ ws) (sym all))
tokens_only harts names so_far (first ∷ words) known formula asks stands =
    let here = met names (mentioned first) in
    let more = names_in (atoms_in words) in
    let split = mentioned_more names first words in
    let (distinct, few, all) = subst (AskOf harts (first ∷ words) known) split asks in
    let whole : so_far ++ known ≡ (so_far ++ all.0 ∷ []) ++ all.1 =
    ap (λ (ws : List Symbol). so_far ++ ws) all.2 ∙ sym (append_assoc so_far (all.0 ∷ []) all.1) in
    let stands_here : IsConditionOf ((so_far ++ all.0 ∷ []) ++ all.1) formula = subst (λ (ws : List Symbol). IsConditionOf ws formula) whole stands in
    rw (only_by (token_resolves harts first) names more all.0 distinct few all.3, symbol_begins so_far all.0 (all.1, formula, stands_here))
    (tokens_only harts here (so_far ++ all.0 ∷ []) words all.1 formula (distinct, few, all.4) stands_here
    ∙ ap (λ (ws : List Symbol). Ok (ws, met here more)) (sym whole)
    ∙ ap (λ (ns : Names). Ok (so_far ++ known, ns)) (sym split))

-- ---- the whole condition

none_unread-found : (o : Option (List ℕ)) (end : Unit {0}) → none_unread o ≡ Ok end → o ≡ None
none_unread-found o end e = grind arith

abbrev condition_so : Quantifier → Formula → Names → Condition
condition_so quantifier formula names = record { quantifier = quantifier; formula = formula; names = names }

-- what is read of a condition, where these are the names of the init part
pub record IsConditionFound (harts : ℕ) (names : Names) (text : List ℕ) (condition : Condition) : Type 0 where
  pub words : List token.Token
  pub known : List Symbol
  pub asks : IsFinalCondition text condition.quantifier words
  pub named : condition.names ≡ met names (names_in (atoms_in words))
  pub few : length names ≤ 1024 → length condition.names ≤ 1024
  pub all : AreKnown harts condition.names words known
  pub stands : IsConditionOf known condition.formula

-- the steps of a reading
record Walk (harts : ℕ) (names : Names) (text : List ℕ) (o : Option Quantified) (condition : Condition) : Type 0 where
  quantified : Quantified
  gathered : ConditionSoFar
  formula : Formula
  first : o ≡ Some quantified
  walked : tokens_added harts ([], names) (tokens_of quantified.1) ≡ Ok gathered
  nowhere : from_line Unread text ≡ None
  done : formula_of_symbols gathered.0 ≡ Ok formula
  is : condition_so quantified.0 formula gathered.1 ≡ condition

walk_of : (harts : ℕ) (names : Names) (text : List ℕ) (o : Option Quantified) (condition : Condition)
    → after_quantifier harts names text o ≡ Ok condition → Walk harts names text o condition
walk_of harts names text o condition e = grind (arith, bind_ok, ok_is, none_unread-found, finished-ok)

-- what is read is what the text asks
pub condition_found : (harts : ℕ) (names : Names) (text : List ℕ) (condition : Condition)
    → condition_in harts names text ≡ Ok condition → IsConditionFound harts names text condition
unfolding condition_in
condition_found harts names text condition e =
    let walk = walk_of harts names text (quantifier_in (before_line Unread text)) condition e in
    let none = none_begins BeginsUnread text (before_line Unread text) None
    (line_found Unread BeginsUnread unread_matches text None walk.nowhere) refl in
    let whole = (line_only Unread BeginsUnread unread_matches none).0 in
    let front = quantifier_found text walk.quantified (ap quantifier_in (sym whole) ∙ walk.first) in
    let tokens = tokens_found harts names [] (tokens_of walk.quantified.1) walk.gathered walk.walked in
    subst (IsConditionFound harts names text) walk.is (record {
      words = tokens.words;
      known = tokens.known;
      asks = (front.0, walk.quantified.1, front.1, front.2, are_tokens tokens.words walk.quantified.1 tokens.whole, none);
      named = tokens.named;
      few = tokens.few;
      all = tokens.all;
      stands = finished-found tokens.known walk.formula
          (subst (λ (ws : List Symbol). formula_of_symbols ws ≡ Ok walk.formula) tokens.following walk.done);
    })

-- what the text asks is read
pub condition_only : (harts : ℕ) (names : Names) (text : List ℕ) (quantifier : Quantifier) (words : List token.Token)
    (known : List Symbol) (formula : Formula) → IsFinalCondition text quantifier words
    → AskOf harts words known (met names (names_in (atoms_in words))) → IsConditionOf known formula
    → condition_in harts names text
    ≡ Ok (record { quantifier = quantifier; formula = formula; names = met names (names_in (atoms_in words)) })
unfolding condition_in
condition_only harts names text quantifier words known formula (blanks, rest, all, whole, spelled, none) asks stands =
    let lines = line_only Unread BeginsUnread unread_matches none in
    let first : quantifier_in (before_line Unread text) ≡ Some (quantifier, rest) =
    ap quantifier_in (lines.0 ∙ whole) ∙ quantifier_only blanks rest quantifier all in
    rw (first, tokens_are rest words spelled, tokens_only harts names [] words known formula asks stands, lines.1, finished_only known formula stands) refl
