-- The tokens that are read are those that a text spells.
use Rattle.std.proofs.Common.{arith, ◌≡◌, ℕ, ◌==◌, Bool, true, false, List, [], ◌∷◌, ◌++◌, Option, Some, None, refl, sym, ap, subst, ◌∙◌}
use Rattle.std.specs.Prelude.{codes}
use Rattle.std.proofs.lemmas.Bool.{and_parts, eqb-true}
use Rattle.std.proofs.lemmas.Bool.Decides.{Decides-eqb}
use Rattle.std.proofs.lemmas.Slice.Eq.{starts_is}
use Rattle.texts.specs.{before, AllPass, NonePass, from_first, without_leading, is_gap}
use Rattle.texts.proofs.TrimLaws.{leading_all, leading_past, leading_split, leading_first, leading_gone}
use Rattle.litmus_tokens.specs.Assignments.{AssignmentValue, an_assignment}
use Rattle.litmus_tokens.specs.Tokens.{Token, Beginning, Tokens, is_mark, ends_name, after_not, paired, atom_from, negation_or, unmarked, begun, beginning_of}
use Rattle.litmus_tokens.specs.Tokens.{tokens_from, tokens_of, EndsAtom, Spells, AreTokens, listed}
use Rattle.litmus_tokens.specs.Tokens.Token.{atom, negation, conjunction, disjunction, opening, closing}
use Rattle.litmus_tokens.specs.Tokens.Beginning.{nothing, begins, no_token}
use Rattle.litmus_tokens.specs.Tokens.Tokens.{ended, goes_on}
use Rattle.litmus_tokens.specs.Tokens.Spells.{opens, closes, tilde, named_not, both, either, says}
use Rattle.litmus_tokens.specs.Tokens.AreTokens.{no_more, one_more}
use Rattle.litmus_tokens.proofs.AssignmentLaws.{assignment_settles}
use Rattle.litmus_tokens.proofs.TokenLaws.{tokens-cut}

-- ---- gaps in front

at_solid : (c : ℕ) (rest : List ℕ) → is_gap c ≡ false → without_leading is_gap (c ∷ rest) ≡ c ∷ rest
at_solid c rest solid = rw solid refl

-- ---- an atom's stretch

before-mark : (bytes rest : List ℕ) → NonePass is_mark bytes → EndsAtom rest → before is_mark (bytes ++ rest) ≡ bytes
before-mark [] [] none ends = refl
before-mark [] (c ∷ rest) none ends = rw ends refl
before-mark (c ∷ bytes) rest none ends = rw none.0 (ap (λ (ys : List ℕ). c ∷ ys) (before-mark bytes rest none.1 ends))

from_mark : (bytes rest : List ℕ) → NonePass is_mark bytes → EndsAtom rest → from_first is_mark (bytes ++ rest) ≡ rest
from_mark [] [] none ends = refl
from_mark [] (c ∷ rest) none ends = rw ends refl
from_mark (c ∷ bytes) rest none ends = rw none.0 (from_mark bytes rest none.1 ends)

record Stretch (text : List ℕ) : Type 0 where
  none : NonePass is_mark (before is_mark text)
  ends : EndsAtom (from_first is_mark text)
  whole : text ≡ before is_mark text ++ from_first is_mark text

stretch : (text : List ℕ) → Stretch text
stretch [] = record { none = tt; ends = tt; whole = refl }
stretch (c ∷ rest) = go (stretch rest) (is_mark c) refl
  where
    go : Stretch rest → (b : Bool) → is_mark c ≡ b → Stretch (c ∷ rest)
    go others true mark = record { none = rw mark tt; ends = rw mark mark; whole = rw mark refl }
    go others false plain = record {
      none = rw plain (plain, others.none);
      ends = rw plain others.ends;
      whole = rw plain (ap (λ (ys : List ℕ). c ∷ ys) others.whole);
    }

-- a byte that is no mark is none of the five
record Plain (c : ℕ) : Type 0 where
  open_none : (c == 40) ≡ false
  close_none : (c == 41) ≡ false
  tilde_none : (c == 126) ≡ false
  slash_none : (c == 47) ≡ false
  back_none : (c == 92) ≡ false

plain_is : (c : ℕ) → is_mark c ≡ false → Plain c
plain_is c e = go (c == 40) refl (c == 41) refl (c == 126) refl (c == 47) refl (c == 92) refl
  where
    go : (a1 : Bool) → (c == 40) ≡ a1 → (a2 : Bool) → (c == 41) ≡ a2 → (a3 : Bool) → (c == 126) ≡ a3 → (a4 : Bool)
        → (c == 47) ≡ a4 → (a5 : Bool) → (c == 92) ≡ a5 → Plain c
    go true e1 a2 e2 a3 e3 a4 e4 a5 e5 = (let never = rw e1 at e in absurd cc)
    go false e1 true e2 a3 e3 a4 e4 a5 e5 = (let never = rw (e1, e2) at e in absurd cc)
    go false e1 false e2 true e3 a4 e4 a5 e5 = (let never = rw (e1, e2, e3) at e in absurd cc)
    go false e1 false e2 false e3 true e4 a5 e5 = (let never = rw (e1, e2, e3, e4) at e in absurd cc)
    go false e1 false e2 false e3 false e4 true e5 = (let never = rw (e1, e2, e3, e4, e5) at e in absurd cc)
    go false e1 false e2 false e3 false e4 false e5 = record { open_none = e1; close_none = e2; tilde_none = e3; slash_none = e4; back_none = e5 }

begun-plain : (c : ℕ) (rest : List ℕ) → Plain c → begun (c ∷ rest) ≡ unmarked (c ∷ rest)
unfolding begun
begun-plain c rest plain = rw (plain.open_none, plain.close_none, plain.tilde_none, plain.slash_none, plain.back_none) refl

-- ---- what is spelled is read

-- an atom, where it is known to be one
atom_read : (first : ℕ) (others rest : List ℕ) (assignment : AssignmentValue) → NonePass is_mark (first ∷ others)
    → EndsAtom rest → after_not (first ∷ (others ++ rest)) ≡ None → an_assignment.Says (first ∷ others) assignment
    → unmarked (first ∷ (others ++ rest)) ≡ begins (atom assignment) rest
unfolding unmarked
atom_read first others rest assignment none ends no_name is =
    rw (
      no_name,
      before-mark (first ∷ others) rest none ends,
      from_mark (first ∷ others) rest none ends,
      assignment_settles.only (first ∷ others) assignment is,
    ) refl

spelled_begun : (token : Token) (bytes rest : List ℕ) → Spells token bytes rest → beginning_of (bytes ++ rest) ≡ begins token rest
unfolding beginning_of begun unmarked after_not
spelled_begun token bytes rest (named_not more ends) = rw ends refl
spelled_begun token bytes rest (says first others more assignment solid none ends no_name is) =
    ap begun (at_solid first (others ++ more) solid)
    ∙ begun-plain first (others ++ more) (plain_is first none.0)
    ∙ atom_read first others more assignment none ends no_name is
spelled_begun token bytes rest x = refl

beginning_after : (gaps text : List ℕ) → AllPass is_gap gaps → beginning_of (gaps ++ text) ≡ beginning_of text
unfolding beginning_of
beginning_after gaps text all = ap begun (leading_past is_gap gaps text all)

at_end : (gaps : List ℕ) → AllPass is_gap gaps → beginning_of gaps ≡ nothing
unfolding beginning_of begun
at_end gaps all = ap begun (leading_all is_gap gaps all)

pub tokens_are : (text : List ℕ) (tokens : List Token) → AreTokens text tokens → tokens_of text ≡ listed tokens
tokens_are text tokens (no_more gaps all) = tokens-cut gaps ∙ ap (tokens_from tokens_of) (at_end gaps all)
tokens_are text tokens (one_more gaps bytes rest token others all spelled are) =
    tokens-cut (gaps ++ (bytes ++ rest))
    ∙ ap (tokens_from tokens_of) (beginning_after gaps (bytes ++ rest) all ∙ spelled_begun token bytes rest spelled)
    ∙ ap (λ (ws : Tokens). goes_on token ws) (tokens_are rest others are)

-- ---- what is read is spelled

record Spelled (text : List ℕ) (token : Token) (rest : List ℕ) : Type 0 where
  bytes : List ℕ
  whole : text ≡ bytes ++ rest
  spells : Spells token bytes rest

begins-token : (a b : Token) (xs ys : List ℕ) → begins a xs ≡ begins b ys → a ≡ b
begins-token a b xs ys e = cc

begins-rest : (a b : Token) (xs ys : List ℕ) → begins a xs ≡ begins b ys → xs ≡ ys
begins-rest a b xs ys e = cc

paired-found : (c second : ℕ) (following : List ℕ) (one token : Token) (rest : List ℕ)
    → ((more : List ℕ) → Spells one (c ∷ second ∷ []) more) → paired one second following ≡ begins token rest
    → Spelled (c ∷ following) token rest
paired-found c second [] one token rest spells e = absurd cc
paired-found c second (d ∷ more) one token rest spells e = go (d == second) refl
  where
    go : (b : Bool) → (d == second) ≡ b → Spelled (c ∷ d ∷ more) token rest
    go true is =
        let shown = rw is at e in
        let same = eqb-true d second is in
        let whole : c ∷ d ∷ more ≡ (c ∷ second ∷ []) ++ rest = (let r = begins-rest one token more rest shown in cc) in
        record {
          bytes = c ∷ second ∷ [];
          whole = whole;
          spells = subst (λ (t : Token). Spells t (c ∷ second ∷ []) rest) (begins-token one token more rest shown)
              (spells rest);
        }
    go false isnt = (let never = rw isnt at e in absurd cc)

one_found : (c d : ℕ) (following : List ℕ) (one token : Token) (rest : List ℕ) → c ≡ d
    → ((more : List ℕ) → Spells one (d ∷ []) more) → begins one following ≡ begins token rest
    → Spelled (c ∷ following) token rest
one_found c d following one token rest same spells e =
    let whole : c ∷ following ≡ (d ∷ []) ++ rest = (let r = begins-rest one token following rest e in cc) in
    record { bytes = d ∷ []; whole = whole; spells = subst (λ (t : Token). Spells t (d ∷ []) rest) (begins-token one token following rest e) (spells rest) }

not_front : (text rest : List ℕ) → after_not text ≡ Some rest → (text ≡ codes "not" ++ rest) × (ends_name rest ≡ true)
unfolding after_not
not_front text rest e = grind (arith, and_parts, starts_is, Decides-eqb)

atom_found : (c : ℕ) (following : List ℕ) (token : Token) (rest : List ℕ) (assignment : Option AssignmentValue)
    → is_gap c ≡ false → is_mark c ≡ false → after_not (c ∷ following) ≡ None
    → an_assignment.reads (c ∷ before is_mark following) ≡ assignment
    → atom_from assignment (from_first is_mark following) ≡ begins token rest → Spelled (c ∷ following) token rest
atom_found c following token rest None solid plain no_name is e = absurd cc
atom_found c following token rest (Some assignment) solid plain no_name is e =
    let cut = stretch following in
    let same = begins-rest (atom assignment) token (from_first is_mark following) rest e in
    let whole : c ∷ following ≡ (c ∷ before is_mark following) ++ from_first is_mark following = ap (λ (ys : List ℕ). c ∷ ys) cut.whole in
    let spells = says c (before is_mark following) (from_first is_mark following) assignment solid (plain, cut.none)
    cut.ends (subst (λ (ys : List ℕ). after_not (c ∷ ys) ≡ None) cut.whole no_name)
    (assignment_settles.found (c ∷ before is_mark following) assignment is) in
    subst (λ (r : List ℕ). Spelled (c ∷ following) token r) same
    (subst (λ (t : Token). Spelled (c ∷ following) t (from_first is_mark following))
    (begins-token (atom assignment) token (from_first is_mark following) rest e)
    (record { bytes = c ∷ before is_mark following; whole = whole; spells = spells }))

unmarked-found : (c : ℕ) (following : List ℕ) (token : Token) (rest : List ℕ) → is_gap c ≡ false → is_mark c ≡ false
    → unmarked (c ∷ following) ≡ begins token rest → Spelled (c ∷ following) token rest
unfolding unmarked
unmarked-found c following token rest solid plain e = go (after_not (c ∷ following)) refl
  where
    go : (o : Option (List ℕ)) → after_not (c ∷ following) ≡ o → Spelled (c ∷ following) token rest
    go None no_name = atom_found c following token rest (an_assignment.reads (c ∷ before is_mark following)) solid plain no_name refl (rw (no_name, plain) at e)
    go (Some more) name =
        let shown = rw name at e in
        let front = not_front (c ∷ following) more name in
        let same = begins-rest negation token more rest shown in
        subst (λ (r : List ℕ). Spelled (c ∷ following) token r) same
        (subst (λ (t : Token). Spelled (c ∷ following) t more) (begins-token negation token more rest shown)
        (record { bytes = codes "not"; whole = front.0; spells = named_not more front.1 }))

begun-found : (c : ℕ) (following : List ℕ) (token : Token) (rest : List ℕ) → is_gap c ≡ false
    → begun (c ∷ following) ≡ begins token rest → Spelled (c ∷ following) token rest
unfolding begun
begun-found c following token rest solid e = go (c == 40) refl (c == 41) refl (c == 126) refl (c == 47) refl (c == 92) refl
  where
    go : (a1 : Bool) → (c == 40) ≡ a1 → (a2 : Bool) → (c == 41) ≡ a2 → (a3 : Bool) → (c == 126) ≡ a3 → (a4 : Bool)
        → (c == 47) ≡ a4 → (a5 : Bool) → (c == 92) ≡ a5 → Spelled (c ∷ following) token rest
    go true e1 a2 e2 a3 e3 a4 e4 a5 e5 = one_found c 40 following opening token rest (eqb-true c 40 e1) opens (rw e1 at e)
    go false e1 true e2 a3 e3 a4 e4 a5 e5 = one_found c 41 following closing token rest (eqb-true c 41 e2) closes (rw (e1, e2) at e)
    go false e1 false e2 true e3 a4 e4 a5 e5 = one_found c 126 following negation token rest (eqb-true c 126 e3) tilde (rw (e1, e2, e3) at e)
    go false e1 false e2 false e3 true e4 a5 e5 = subst (λ (d : ℕ). Spelled (d ∷ following) token rest)
        (sym (eqb-true c 47 e4)) (paired-found 47 92 following conjunction token rest both (rw (e1, e2, e3, e4) at e))
    go false e1 false e2 false e3 false e4 true e5 =
        subst (λ (d : ℕ). Spelled (d ∷ following) token rest) (sym (eqb-true c 92 e5))
        (paired-found 92 47 following disjunction token rest either (rw (e1, e2, e3, e4, e5) at e))
    go false e1 false e2 false e3 false e4 false e5 =
        (let plain : is_mark c ≡ false = rw (e1, e2, e3, e4, e5) refl in
        unmarked-found c following token rest solid plain (rw (e1, e2, e3, e4, e5) at e))

token_found : (text solid : List ℕ) (token : Token) (rest : List ℕ) (tokens : List Token)
    → without_leading is_gap text ≡ solid → begun solid ≡ begins token rest → AreTokens rest tokens
    → AreTokens text (token ∷ tokens)
unfolding begun
token_found text [] token rest tokens is e are = absurd cc
token_found text (c ∷ following) token rest tokens is e are =
    let front = leading_split is_gap text in
    let found = begun-found c following token rest (leading_first is_gap text c following is) e in
    let whole : text ≡ front.0 ++ (found.bytes ++ rest) = front.2 ∙ ap (λ (ys : List ℕ). front.0 ++ ys) (is ∙ found.whole) in
    subst (λ (t : List ℕ). AreTokens t (token ∷ tokens)) (sym whole) (one_more front.0 found.bytes rest token tokens front.1 found.spells are)

paired-some : (one : Token) (second : ℕ) (following : List ℕ) → paired one second following ≡ nothing → ⊥
paired-some one second [] e = absurd cc
paired-some one second (d ∷ more) e = go (d == second) refl
  where
    go : (b : Bool) → (d == second) ≡ b → ⊥
    go true is = (let never = rw is at e in absurd cc)
    go false isnt = (let never = rw isnt at e in absurd cc)

shown_some : (name : Option (List ℕ)) (assignment : Option AssignmentValue) (rest : List ℕ) → negation_or name (atom_from assignment rest) ≡ nothing → ⊥
shown_some (Some more) assignment rest e = absurd cc
shown_some None None rest e = absurd cc
shown_some None (Some assignment) rest e = absurd cc

unmarked-some : (text : List ℕ) → unmarked text ≡ nothing → ⊥
unfolding unmarked
unmarked-some text e = shown_some (after_not text) (an_assignment.reads (before is_mark text)) (from_first is_mark text) e

begun-nothing : (solid : List ℕ) → begun solid ≡ nothing → solid ≡ []
unfolding begun
begun-nothing solid e = grind (arith, paired-some, unmarked-some)

pub are_tokens : (tokens : List Token) (text : List ℕ) → tokens_of text ≡ listed tokens → AreTokens text tokens
unfolding beginning_of
are_tokens [] text e = go (beginning_of text) refl (sym (tokens-cut text) ∙ e)
  where
    go : (b : Beginning) → beginning_of text ≡ b → tokens_from tokens_of b ≡ ended → AreTokens text []
    go nothing is shown = no_more text (leading_gone is_gap text (begun-nothing (without_leading is_gap text) is))
    go (begins token rest) is shown = absurd cc
    go no_token is shown = absurd cc
are_tokens (token ∷ tokens) text e = go (are_tokens tokens) (beginning_of text) refl (sym (tokens-cut text) ∙ e)
  where
    go : ((rest : List ℕ) → tokens_of rest ≡ listed tokens → AreTokens rest tokens) → (b : Beginning)
        → beginning_of text ≡ b → tokens_from tokens_of b ≡ goes_on token (listed tokens)
        → AreTokens text (token ∷ tokens)
    go others nothing is shown = absurd cc
    go others (begins first rest) is shown =
        let same : first ≡ token = cc in
        let rest_is : tokens_of rest ≡ listed tokens = cc in
        token_found text (without_leading is_gap text) token rest tokens refl (is ∙ ap (λ (t : Token). begins t rest) same) (others rest rest_is)
    go others no_token is shown = absurd cc
