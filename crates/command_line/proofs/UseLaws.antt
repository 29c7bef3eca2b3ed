-- What uses of a command's parameters say is what clap finds.
use Rattle.std.proofs.Common.{◌≡◌, ◌≢◌, ◌∙◌, ◌+◌, ◌≤◌, ◌==◌, ◌&&◌, ◌||◌, ℕ, Bool, true, false, not, zero, suc, min, refl, sym, ap, subst, arith, List, [], ◌∷◌}
use Rattle.std.proofs.Common.{◌++◌, map, length, Option, Some, None, is_some, append-nil, codes}
use Rattle.std.specs.Prelude.{if◌then◌else◌, find, fold, option_map, option_and_then, slice_get}
use Rattle.std.specs.Option.{option_map_or}
use Rattle.std.specs.List.{list_all, list_any}
use Rattle.std.specs.Str.{bytes_eq}
use Rattle.std.proofs.lemmas.Bool.{and_parts, eqb-true, eq-eqb}
use Rattle.std.proofs.lemmas.Bool.Decides.{nat_tests}
use Rattle.std.proofs.Math.Nat.{min-eq_left}
use Rattle.std.proofs.Math.Bool.{or-true}
use Rattle.std.proofs.lemmas.List.{map-append}
use Rattle.std.proofs.lemmas.Slice.Eq.{bytes_eq-Decides}
use Rattle.clap.specs.Facts.{explicit_source}
use Rattle.clap.specs.Kinds.{Kinds, or_else}
use Rattle.clap.specs.Words.{Rule, Row, Text}
use Rattle.clap.specs.Faults.{default_fault, defaults_fault, level_fault, settle_fault, turn_fault, use_fault, walk_fault}
use Rattle.clap.specs.Lexer.{long_of, short_of}
use Rattle.clap.specs.Simple.{Shape, filled, filled_from, help_rule, new_shape, with_index}
use Rattle.clap.specs.Takes.{is_given}
use Rattle.clap.specs.Walk.{Held, Walk, idle, option, arg_by_id, arg_by_index, arg_by_long, at_row, default_rows, more_values, first_of, has_row, most_values}
use Rattle.clap.specs.Walk.{reading_by, settled_rows, rows_after, used, walked, with_default, with_values, without, nothing_held}
use Rattle.clap.specs.declared.builder.value_parser.Reading.{Reading}
use Rattle.clap.specs.declared.error.kind.ErrorKind.TheVariants.{ArgumentConflict}
use Rattle.clap.specs.declared.parser.matches.ValueSource.TheVariants.{CommandLine, DefaultValue}
use Rattle.clap.proofs.CutLemmas.{Lacks}
use Rattle.clap.proofs.WalkLemmas.{find-map}
use Rattle.clap.proofs.LexerLemmas.{name_and_value-at, name_and_value-without}
use Rattle.command_line.specs.Parameters.{Parameter, positional, required, defaulted, optional, flag, is_required, name_of, named, takes_value, word_in_place}
use Rattle.command_line.specs.Parameters.{rule_for}
use Rattle.command_line.specs.Uses.{IsArgument, IsWhole, Said, Says, Use, stands, spaced, joined, given, said_for, defaults_of, texts_of_uses}

same_text : (name : Text) → bytes_eq name name ≡ true
same_text name = (bytes_eq-Decides name name).1 refl

-- ---- lists that are searched

find_passes : {X : Type 0} (p : X → Bool) (xs : List X) (x : X) → find p xs ≡ Some x → p x ≡ true
find_passes p [] x e = absurd cc
find_passes p (y ∷ xs) x e = let later = find_passes p xs x in grind (arith, later)

pub find_left : {X : Type 0} (p : X → Bool) (xs more : List X) (x : X) → find p xs ≡ Some x → find p (xs ++ more) ≡ Some x
find_left p [] more x e = absurd cc
find_left p (y ∷ xs) more x e = let later = find_left p xs more x in grind (arith, later)

find_right : {X : Type 0} (p : X → Bool) (xs more : List X) → find p xs ≡ None → find p (xs ++ more) ≡ find p more
find_right p [] more e = refl
find_right p (y ∷ xs) more e = let later = find_right p xs more in grind (arith, later)

has_none : {X : Type 0} (p : X → Bool) (xs : List X) → find p xs ≡ None → list_any p xs ≡ false
has_none p [] e = refl
has_none p (y ∷ xs) e = let later = has_none p xs in grind (arith, later)

pub one_of_all : {X : Type 0} (p q : X → Bool) (xs : List X) (x : X) → find p xs ≡ Some x → list_all q xs ≡ true → q x ≡ true
one_of_all p q [] x e all = absurd cc
one_of_all p q (y ∷ xs) x e all = let later = one_of_all p q xs x in grind (arith, later, and_parts)

-- ---- looking a parameter up

abbrev pub rules_from : ℕ → List Parameter → List Rule
rules_from i ps = filled_from i (map rule_for ps ++ help_rule ∷ [])

-- the number of a parameter after this one
abbrev after_one : ℕ → Parameter → ℕ
after_one i (positional id) = min (i + 1) 18446744073709551615
after_one i _ = i

abbrev rule_at : ℕ → Parameter → Rule
rule_at i p = with_index i (filled (rule_for p))

abbrev pub is_option : Parameter → Bool
is_option (positional id) = false
is_option _ = true

rules_cons : (i : ℕ) (q : Parameter) (ps : List Parameter) → rules_from i (q ∷ ps) ≡ rule_at i q ∷ rules_from (after_one i q) ps
rules_cons i (positional id) ps = refl
rules_cons i (required name) ps = refl
rules_cons i (defaulted name value) ps = refl
rules_cons i (optional name) ps = refl
rules_cons i (flag name) ps = refl

id_step : (i : ℕ) (name : Text) (q : Parameter) (ps : List Parameter)
    → arg_by_id (rules_from i (q ∷ ps)) name ≡ (if bytes_eq (name_of q) name then Some (rule_at i q) else arg_by_id (rules_from (after_one i q) ps) name)
id_step i name (positional id) ps = refl
id_step i name (required n) ps = refl
id_step i name (defaulted n v) ps = refl
id_step i name (optional n) ps = refl
id_step i name (flag n) ps = refl

long_step : (i : ℕ) (name : Text) (q : Parameter) (ps : List Parameter) → arg_by_long (rules_from i (q ∷ ps)) name
    ≡ (if is_option q && (bytes_eq (name_of q) name || false) then Some (rule_at i q) else arg_by_long (rules_from (after_one i q) ps) name)
long_step i name (positional id) ps = refl
long_step i name (required n) ps = refl
long_step i name (defaulted n v) ps = refl
long_step i name (optional n) ps = refl
long_step i name (flag n) ps = refl

-- a look-up by a test on parameters
module _ (look : List Rule → Option Rule) (passes : Parameter → Bool)
    (step : (i : ℕ) (q : Parameter) (ps : List Parameter)
    → look (rules_from i (q ∷ ps)) ≡ (if passes q then Some (rule_at i q) else look (rules_from (after_one i q) ps))) where
  looked : (ps : List Parameter) (i : ℕ) (p : Parameter) → find passes ps ≡ Some p → (j : ℕ) × (look (rules_from i ps) ≡ Some (rule_at j p))
  looked [] i p e = absurd cc
  looked (q ∷ ps) i p e = go (passes q) refl e (looked ps (after_one i q) p)
    where
      go : (b : Bool) → passes q ≡ b → (if b then Some q else find passes ps) ≡ Some p
          → (find passes ps ≡ Some p → (j : ℕ) × (look (rules_from (after_one i q) ps) ≡ Some (rule_at j p)))
          → (j : ℕ) × (look (rules_from i (q ∷ ps)) ≡ Some (rule_at j p))
      go true is h later = (i, step i q ps ∙ rw is (ap (λ (o : Option Parameter). option_map (rule_at i) o) h))
      go false is h later = let r = later h in (r.0, step i q ps ∙ rw is r.1)

by_id : (ps : List Parameter) (i : ℕ) (name : Text) (p : Parameter) → named ps name ≡ Some p
    → (j : ℕ) × (arg_by_id (rules_from i ps) name ≡ Some (rule_at j p))
by_id ps i name p = looked (λ rules. arg_by_id rules name) (λ q. bytes_eq (name_of q) name) (λ i q ps. id_step i name q ps) ps i p

option_found : (ps : List Parameter) (name : Text) (p : Parameter) → named ps name ≡ Some p → is_option p ≡ true
    → find (λ q. is_option q && (bytes_eq (name_of q) name || false)) ps ≡ Some p
option_found [] name p e o = absurd cc
option_found (q ∷ ps) name p e o = let later = option_found ps name p in grind (arith, later)

by_long : (ps : List Parameter) (i : ℕ) (name : Text) (p : Parameter) → named ps name ≡ Some p → is_option p ≡ true
    → (j : ℕ) × (arg_by_long (rules_from i ps) name ≡ Some (rule_at j p))
by_long ps i name p e o = looked (λ rules. arg_by_long rules name) (λ q. is_option q && (bytes_eq (name_of q) name || false))
    (λ i q ps. long_step i name q ps) ps i p (option_found ps name p e o)

-- the word in a place, by its number
by_place : (ps : List Parameter) (i place : ℕ) (id : Text) → i + length ps ≤ 1000 → word_in_place ps place ≡ Some id
    → arg_by_index (rules_from i ps) (i + place) ≡ Some (rule_at (i + place) (positional id))
by_place [] i place id few e = absurd cc
by_place (positional w ∷ ps) i zero id few e = let same : w ≡ id = cc in rw (same) (go (i + 0) (omega arith))
  where
    go : (k : ℕ) → i ≡ k → (if i == k then Some (rule_at i (positional id))
        else arg_by_index (rules_from (min (i + 1) 18446744073709551615) ps) k) ≡ Some (rule_at k (positional id))
    go k is = rw (is, eq-eqb k k refl) refl
by_place (positional w ∷ ps) i (suc place) id few e =
    let differs : (i == i + suc place) ≡ false = let ne : i ≢ i + suc place = λ h. omega (arith, h) in grind (arith, nat_tests) in
    let next : min (i + 1) 18446744073709551615 ≡ i + 1 = min-eq_left (omega (arith, few)) in
    let same : i + 1 + place ≡ i + suc place = omega arith in
    let later = by_place ps (i + 1) place id (omega (arith, few)) e in
    rw (differs, next) (rw same at later)
by_place (required n ∷ ps) i place id few e = by_place ps i place id (omega (arith, few)) e
by_place (defaulted n v ∷ ps) i place id few e = by_place ps i place id (omega (arith, few)) e
by_place (optional n ∷ ps) i place id few e = by_place ps i place id (omega (arith, few)) e
by_place (flag n ∷ ps) i place id few e = by_place ps i place id (omega (arith, few)) e

place_below : (ps : List Parameter) (place : ℕ) (id : Text) → word_in_place ps place ≡ Some id → 1 + length ps ≤ 1000 → place ≤ 1000
place_below ps place id at few = let below = inside ps place id at in omega (arith, below, few)
  where
    inside : (ps : List Parameter) (place : ℕ) (id : Text) → word_in_place ps place ≡ Some id → place ≤ length ps
    inside [] place id e = absurd cc
    inside (positional w ∷ ps) zero id e = omega arith
    inside (positional w ∷ ps) (suc place) id e = let later = inside ps place id e in omega (arith, later)
    inside (required n ∷ ps) place id e = let later = inside ps place id e in omega (arith, later)
    inside (defaulted n v ∷ ps) place id e = let later = inside ps place id e in omega (arith, later)
    inside (optional n ∷ ps) place id e = let later = inside ps place id e in omega (arith, later)
    inside (flag n ∷ ps) place id e = let later = inside ps place id e in omega (arith, later)

-- ---- rows

abbrev reading_in : List Parameter → Text → Reading
reading_in ps name = reading_by (option_map_or (λ p. filled (rule_for p)) (named ps name) help_rule)

-- the row of what is said
abbrev made : List Parameter → Text × Text → Row
made ps q = record { id = q.0; values = q.1 ∷ []; count = None; source = Some CommandLine; reading = reading_in ps q.0 }

abbrev rows_said : List Parameter → Said → List Row
rows_said ps said = map (made ps) said

-- the test of a row's name
abbrev is_of : Text → Row → Bool
is_of id r = bytes_eq r.id id

abbrev is_said : Text → Text × Text → Bool
is_said name q = bytes_eq q.0 name

rows_find : (ps : List Parameter) (said : Said) (id : Text) → find (is_of id) (rows_said ps said) ≡ option_map (made ps) (find (is_said id) said)
rows_find ps said id = sym (find-map (is_of id) (made ps) said)

not_said : (o : Option (Text × Text)) → option_map (λ (p : Text × Text). p.1) o ≡ None → o ≡ None
not_said None e = refl
not_said (Some q) e = absurd cc

no_find : (ps : List Parameter) (said : Said) (id : Text) → said_for said id ≡ None → find (is_of id) (rows_said ps said) ≡ None
no_find ps said id e = rows_find ps said id ∙ ap (option_map (made ps)) (not_said _ e)

no_row : (ps : List Parameter) (said : Said) (id : Text) → said_for said id ≡ None → has_row id (rows_said ps said) ≡ false
no_row ps said id e = has_none (is_of id) (rows_said ps said) (no_find ps said id e)

at_end : (id : Text) (change : Row → List Row) (missing rows : List Row) → has_row id rows ≡ false → at_row id change missing rows ≡ rows ++ missing
at_end id change missing [] e = refl
at_end id change missing (r ∷ rows) e = let later = at_end id change missing rows in grind (arith, later)

-- a parameter that is used for the first time
newly : (ps : List Parameter) (said : Said) (id v : Text) (how : Reading) → said_for said id ≡ None → how ≡ reading_in ps id
    → with_values id how CommandLine (v ∷ []) (without id (rows_said ps said)) ≡ rows_said ps (said ++ (id, v) ∷ [])
newly ps said id v how fresh is =
    let none = no_row ps said id fresh in
    rw (at_end id (λ _. []) [] (rows_said ps said) none, append-nil (rows_said ps said), at_end id _ _ (rows_said ps said) none, is)
    (sym (map-append (made ps) said ((id, v) ∷ [])))

-- ---- what is left out

abbrev default_row : Text → List Text → Reading → Row
default_row id values how = record { id = id; values = values; count = None; source = Some DefaultValue; reading = how }

-- a default row comes last
adds : (a : Rule) (rows : List Row) → (more : List Row) × (with_default rows a ≡ rows ++ more)
adds a rows = go (has_row a.id rows) refl a.defaults
  where
    go : (b : Bool) → has_row a.id rows ≡ b → (values : List Text)
        → (more : List Row) × ((if b then rows else default_rows a.id (reading_by a) values rows) ≡ rows ++ more)
    go true e values = ([], sym (append-nil rows))
    go false e [] = ([], sym (append-nil rows))
    go false e (v ∷ values) = (
      default_row a.id (v ∷ values) (reading_by a) ∷ [],
      at_end a.id (more_values DefaultValue (v ∷ values)) (default_row a.id (v ∷ values) (reading_by a) ∷ []) rows
          e,
    )

keeps : (id : Text) (r : Row) (c : List Rule) (rows : List Row) → find (is_of id) rows ≡ Some r → find (is_of id) (fold with_default rows c) ≡ Some r
keeps id r [] rows e = e
keeps id r (a ∷ c) rows e = let more = adds a rows in keeps id r c (with_default rows a) (rw more.1 (find_left (is_of id) rows more.0 r e))

if_same : {X : Type 0} (b : Bool) (x : X) → (if b then x else x) ≡ x
if_same true x = refl
if_same false x = refl

abbrev LeftOut : Text → List Rule → Said → Type 0
LeftOut id c said = (rows : List Row) → find (is_of id) rows ≡ None → first_of id (fold with_default rows c) ≡ said_for said id

left_to_default : (id n v : Text) (how : Reading) (c : List Rule) (said : Said) → LeftOut id c said → (rows : List Row) → find (is_of id) rows ≡ None
    → first_of id (fold with_default (if has_row n rows then rows else with_values n how DefaultValue (v ∷ []) rows) c) ≡ said_for ((n, v) ∷ said) id
left_to_default id n v how c said later rows none = go (bytes_eq n id) refl (has_row n rows) refl
  where
    go : (d : Bool) → bytes_eq n id ≡ d → (b : Bool) → has_row n rows ≡ b
        → first_of id (fold with_default (if b then rows else with_values n how DefaultValue (v ∷ []) rows) c)
        ≡ option_map (λ (p : Text × Text). p.1) (if d then Some (n, v) else find (λ p. bytes_eq p.0 id) said)
    go true d true b =
        let same = (bytes_eq-Decides n id).0 d in
        let never : false ≡ true = sym (has_none (is_of id) rows none) ∙ rw (← same) b in absurd cc
    go true d false b =
        let at : find (is_of id) (rows ++ default_row n (v ∷ []) how ∷ []) ≡ Some (default_row n (v ∷ []) how) =
        find_right (is_of id) rows _ none ∙ rw d refl in
        rw (at_end n _ _ rows b) (ap (option_and_then (λ (r : Row). slice_get r.values 0)) (keeps id _ c _ at))
    go false d true b = later rows none
    go false d false b = rw (at_end n _ _ rows b) (later _ (find_right (is_of id) rows _ none ∙ rw d refl))

-- a parameter with no default adds nothing
unchanged : (id n : Text) (c : List Rule) (rows : List Row)
    → first_of id (fold with_default (if has_row n rows then rows else rows) c) ≡ first_of id (fold with_default rows c)
unchanged id n c rows = ap (λ (rs : List Row). first_of id (fold with_default rs c)) (if_same (has_row n rows) rows)

left_out : (id : Text) (ps : List Parameter) (i : ℕ) → LeftOut id (rules_from i ps) (defaults_of ps)
left_out id [] i rows none = unchanged id (codes "help") [] rows ∙ ap (option_and_then (λ (r : Row). slice_get r.values 0)) none
left_out id (positional n ∷ ps) i rows none = unchanged id n (rules_from (after_one i (positional n)) ps) rows
    ∙ left_out id ps (after_one i (positional n)) rows none
left_out id (required n ∷ ps) i rows none = unchanged id n (rules_from i ps) rows ∙ left_out id ps i rows none
left_out id (optional n ∷ ps) i rows none = unchanged id n (rules_from i ps) rows ∙ left_out id ps i rows none
left_out id (defaulted n v ∷ ps) i rows none = left_to_default id n v _ (rules_from i ps) (defaults_of ps) (left_out id ps i) rows none
left_out id (flag n ∷ ps) i rows none = left_to_default id n (codes "false") _ (rules_from i ps) (defaults_of ps) (left_out id ps i) rows none

-- ---- one use

-- a parameter with a value
abbrev has_value : Parameter → Bool
has_value (flag name) = false
has_value _ = true

-- what a use with a value finds, and that it is no fault
value_used : (j : ℕ) (p : Parameter) (v : Text) (rows : List Row) → has_value p ≡ true
    → (used (rule_at j p) (v ∷ []) rows ≡ with_values (name_of p) (reading_by (filled (rule_for p))) CommandLine (v ∷ []) (without (name_of p) rows))
    × (use_fault false (rule_at j p) (v ∷ []) rows ≡ or_else (if has_row (name_of p) rows && true then ArgumentConflict ∷ [] else []) [])
value_used j (positional id) v rows e = (refl, refl)
value_used j (required name) v rows e = (refl, refl)
value_used j (defaulted name value) v rows e = (refl, refl)
value_used j (optional name) v rows e = (refl, refl)
value_used j (flag name) v rows e = absurd cc

pub named_is : (ps : List Parameter) (name : Text) (p : Parameter) → named ps name ≡ Some p → name_of p ≡ name
named_is ps name p e = (bytes_eq-Decides (name_of p) name).0 (find_passes (λ q. bytes_eq (name_of q) name) ps p e)

no_flag : (text : Text) → IsArgument text → (bytes_eq text (45 ∷ 45 ∷ []) ≡ false) × (long_of text ≡ None) × (short_of text ≡ None)
no_flag [] h = (refl, refl, refl)
no_flag (c ∷ text) h = go (c == 45) refl
  where
    go : (b : Bool) → (c == 45) ≡ b → (bytes_eq (c ∷ text) (45 ∷ 45 ∷ []) ≡ false) × (long_of (c ∷ text) ≡ None) × (short_of (c ∷ text) ≡ None)
    go true e = absurd (h (eqb-true c 45 e))
    go false e = (rw e refl, rw e refl, rw e refl)

and_false : (b : Bool) → (b && false) ≡ false
and_false true = refl
and_false false = refl

abbrev held_by : List Row → Option (Text × List Text) → Held
held_by rows pending = record { rows = rows; pending = pending; skip = 0 }

-- after this many words, with nothing that waits for a value
abbrev state : List Row → Option (Text × List Text) → ℕ → Walk
state rows pending place = record { held = held_by rows pending; waiting = idle; position = 1 + place; is_trailing = false; stopped = None }

or_nothing : (kinds : Kinds) → or_else kinds [] ≡ kinds
or_nothing [] = refl
or_nothing (k ∷ kinds) = refl

or_inside : (kinds later : Kinds) → or_else (or_else kinds (or_else later [])) [] ≡ or_else kinds later
or_inside [] later = or_nothing (or_else later []) ∙ or_nothing later
or_inside (k ∷ kinds) later = refl

-- an option's name, which isn't empty and has no `=`
abbrev pub IsName : Text → Type 0
IsName [] = ⊥
IsName (c ∷ name) = Lacks 61 (c ∷ name)

long_is : (name : Text) → IsName name → (bytes_eq (45 ∷ 45 ∷ name) (45 ∷ 45 ∷ []) ≡ false) × (long_of (45 ∷ 45 ∷ name) ≡ Some (name, None))
long_is [] is = absurd is
long_is (c ∷ name) is = (refl, ap (λ (p : Text × Option Text). Some p) (name_and_value-without (c ∷ name) is))

joined_is : (name v : Text) → IsName name
    → (bytes_eq (45 ∷ 45 ∷ (name ++ 61 ∷ v)) (45 ∷ 45 ∷ []) ≡ false) × (long_of (45 ∷ 45 ∷ (name ++ 61 ∷ v)) ≡ Some (name, Some v))
joined_is [] v is = absurd is
joined_is (c ∷ name) v is = (refl, ap (λ (p : Text × Option Text). Some p) (name_and_value-at (c ∷ name) v is))

-- how an option is met
option_is : (j : ℕ) (p : Parameter) → is_option p ≡ true → has_value p ≡ true
    → ((rule_at j p).id ≡ name_of p) × (most_values (rule_at j p) ≡ 1) × ((rule_at j p).index ≡ None)
option_is j (positional id) o e = absurd cc
option_is j (required name) o e = (refl, refl, refl)
option_is j (defaulted name value) o e = (refl, refl, refl)
option_is j (optional name) o e = (refl, refl, refl)
option_is j (flag name) o e = absurd cc

module _ (name_of_command : Text) (ps : List Parameter) where
  abbrev pub rules : List Rule
  rules = rules_from 1 ps

  -- the command, built
  abbrev pub leaf : Shape
  leaf = record (new_shape name_of_command) { rules = rules; disable_help_subcommand = true; is_built = true }

  -- what is held tells this, as soon as what is pending is used, which is no fault
  record Tells (rows : List Row) (pending : Option (Text × List Text)) (said : Said) : Type 0 where
    rows_are : settled_rows rules pending rows ≡ rows_said ps said
    passes : settle_fault rules false (held_by rows pending) ≡ []

  -- a value that is pending
  pending_tells : (before : Said) (name v : Text) (p : Parameter) → named ps name ≡ Some p → has_value p ≡ true → said_for before name ≡ None
      → Tells (rows_said ps before) (Some (name, v ∷ [])) (before ++ (name, v) ∷ [])
  pending_tells before name v p e o fresh =
      let found = by_id ps 1 name p e in
      let is = named_is ps name p e in
      let uses = value_used found.0 p v (rows_said ps before) o in
      let none = no_row ps before name fresh in
      record {
        rows_are = rw (found.1, uses.0, is) (newly ps before name v _ fresh (rw e refl));
        passes = rw (found.1, uses.1, is, none) refl;
      }

  abbrev step : Walk → Text → Walk
  step = walked rules []

  abbrev fault : Walk → Text → Kinds
  fault = turn_fault leaf []

  word_walked : (rows : List Row) (pending : Option (Text × List Text)) (place : ℕ) (id text : Text) → 1 + length ps ≤ 1000 → word_in_place ps place ≡ Some id
      → place ≤ 1000 → IsArgument text → step (state rows pending place) text ≡ state (settled_rows rules pending rows) (Some (id, text ∷ [])) (suc place)
  unfolding walked
  word_walked rows pending place id text few at below is =
      let a = no_flag text is in
      let e = by_place ps 1 place id few at in
      let next : min (1 + place + 1) 18446744073709551615 ≡ 1 + suc place = min-eq_left (omega (arith, below)) ∙ omega arith in
      rw (a.0, a.1, a.2, e, and_false (option_map_or (λ (q : Text × List Text). bytes_eq q.0 id) pending false), next) refl

  word_fault_is : (rows : List Row) (pending : Option (Text × List Text)) (place : ℕ) (id text : Text) → 1 + length ps ≤ 1000 → word_in_place ps place ≡ Some id
      → IsArgument text → fault (state rows pending place) text ≡ settle_fault rules false (held_by rows pending)
  word_fault_is rows pending place id text few at is =
      let a = no_flag text is in
      let e = by_place ps 1 place id few at in
      rw (a.0, a.1, a.2, e, and_false (option_map_or (λ (q : Text × List Text). bytes_eq q.0 id) pending false)) refl

  -- a value is waited for
  abbrev waiting_for : List Row → Text → ℕ → Walk
  waiting_for rows name place = record (state rows (Some (name, [])) place) { waiting = option name }

  module _ (rows : List Row) (pending : Option (Text × List Text)) (place : ℕ) (name v : Text) (p : Parameter) (named_so : named ps name ≡ Some p)
      (takes : has_value p ≡ true) (is_one : is_option p ≡ true) (is_name : IsName name) where
    option_walked : step (state rows pending place) (45 ∷ 45 ∷ name) ≡ waiting_for (settled_rows rules pending rows) name place
    unfolding walked
    option_walked =
        let a = long_is name is_name in
        let e = by_long ps 1 name p named_so is_one in
        let o = option_is e.0 p is_one takes in
        rw (a.0, a.1, e.1, o.0, o.1, named_is ps name p named_so) refl

    option_fault_is : fault (state rows pending place) (45 ∷ 45 ∷ name) ≡ settle_fault rules false (held_by rows pending)
    option_fault_is =
        let a = long_is name is_name in
        let e = by_long ps 1 name p named_so is_one in
        let o = option_is e.0 p is_one takes in
        rw (a.0, a.1, e.1, o.0, o.1, or_nothing (settle_fault rules false (held_by rows pending))) refl

    value_walked : IsArgument v → step (waiting_for rows name place) v ≡ state rows (Some (name, v ∷ [])) place
    unfolding walked
    value_walked is =
        let a = no_flag v is in
        let e = by_id ps 1 name p named_so in
        let o = option_is e.0 p is_one takes in
        rw (a.0, a.1, a.2, e.1, o.0, o.1, named_is ps name p named_so, same_text name) refl

    value_fault_is : IsArgument v → fault (waiting_for rows name place) v ≡ []
    value_fault_is is = let a = no_flag v is in rw (a.0, a.1, a.2) refl

    joined_walked : step (state rows pending place) (45 ∷ 45 ∷ (name ++ 61 ∷ v))
        ≡ state (with_values name (reading_in ps name) CommandLine (v ∷ []) (without name (settled_rows rules pending rows))) None place
    unfolding walked
    joined_walked =
        let a = joined_is name v is_name in
        let e = by_long ps 1 name p named_so is_one in
        let o = option_is e.0 p is_one takes in
        let uses = value_used e.0 p v (settled_rows rules pending rows) takes in
        rw (a.0, a.1, e.1, o.1, uses.0, named_is ps name p named_so, named_so) refl

    joined_fault_is : fault (state rows pending place) (45 ∷ 45 ∷ (name ++ 61 ∷ v))
        ≡ or_else (settle_fault rules false (held_by rows pending))
        (if has_row name (settled_rows rules pending rows) && true then ArgumentConflict ∷ [] else [])
    joined_fault_is =
        let a = joined_is name v is_name in
        let e = by_long ps 1 name p named_so is_one in
        let o = option_is e.0 p is_one takes in
        let uses = value_used e.0 p v (settled_rows rules pending rows) takes in
        rw (a.0, a.1, e.1, uses.1, o.1, named_is ps name p named_so) (or_inside (settle_fault rules false (held_by rows pending)) _)

  module _ (rows : List Row) (pending : Option (Text × List Text)) (place : ℕ) (name : Text)
      (named_so : named ps name ≡ Some (flag name)) (is_name : IsName name) where
    flag_walked : step (state rows pending place) (45 ∷ 45 ∷ name)
        ≡ state (with_values name (reading_in ps name) CommandLine (codes "true" ∷ []) (without name (settled_rows rules pending rows))) None place
    unfolding walked
    flag_walked =
        let a = long_is name is_name in
        let e = by_long ps 1 name (flag name) named_so refl in
        rw (a.0, a.1, e.1, named_so) refl

    flag_fault_is : fault (state rows pending place) (45 ∷ 45 ∷ name)
        ≡ or_else (settle_fault rules false (held_by rows pending))
        (if has_row name (settled_rows rules pending rows) && true then ArgumentConflict ∷ [] else [])
    flag_fault_is =
        let a = long_is name is_name in
        let e = by_long ps 1 name (flag name) named_so refl in
        rw (a.0, a.1, e.1) (or_inside (settle_fault rules false (held_by rows pending)) _)

  -- ---- all uses

  -- what the proofs ask of the parameters
  pub record IsSound : Type 0 where
    pub few : 1 + length ps ≤ 1000
    pub names : (name : Text) (p : Parameter) → named ps name ≡ Some p → is_option p ≡ true → IsName name
    pub apart : (place : ℕ) (id : Text) → word_in_place ps place ≡ Some id → named ps id ≡ Some (positional id)

  -- the words are no fault, and after them that is told
  record Walks (from : Walk) (words : List Text) (after : Said) : Type 0 where
    rows : List Row
    pending : Option (Text × List Text)
    place : ℕ
    ends : fold step from words ≡ state rows pending place
    passes : walk_fault leaf [] from words ≡ []
    tells : Tells rows pending after

  -- one word more at the front
  before_walk : (from next : Walk) (text : Text) (words : List Text) (after : Said) → step from text ≡ next → fault from text ≡ [] → Walks next words after
      → Walks from (text ∷ words) after
  unfolding walk_fault
  before_walk from next text words after to passes walks = record {
    rows = walks.rows;
    pending = walks.pending;
    place = walks.place;
    ends = rw to walks.ends;
    passes = rw (passes, to) walks.passes;
    tells = walks.tells;
  }

  value_is_option : (p : Parameter) → takes_value p ≡ true → (is_option p ≡ true) × (has_value p ≡ true)
  value_is_option (positional id) e = absurd cc
  value_is_option (required name) e = (refl, refl)
  value_is_option (defaulted name value) e = (refl, refl)
  value_is_option (optional name) e = (refl, refl)
  value_is_option (flag name) e = absurd cc

  -- a use that is done at once
  done_tells : (rows : List Row) (pending : Option (Text × List Text)) (before : Said) (name v : Text) → Tells rows pending before → said_for before name ≡ None
      → Tells (with_values name (reading_in ps name) CommandLine (v ∷ []) (without name (settled_rows rules pending rows))) None (before ++ (name, v) ∷ [])
  done_tells rows pending before name v tells fresh = record {
    rows_are = rw tells.rows_are (newly ps before name v (reading_in ps name) fresh refl);
    passes = refl;
  }

  done_fault : (rows : List Row) (pending : Option (Text × List Text)) (before : Said) (name : Text) → Tells rows pending before → said_for before name ≡ None
      → or_else (settle_fault rules false (held_by rows pending))
      (if has_row name (settled_rows rules pending rows) && true then ArgumentConflict ∷ [] else []) ≡ []
  done_fault rows pending before name tells fresh = rw (tells.passes, tells.rows_are, no_row ps before name fresh) refl

  settled_state : (rows : List Row) (pending next : Option (Text × List Text)) (place : ℕ) (before : Said) → Tells rows pending before
      → state (settled_rows rules pending rows) next place ≡ state (rows_said ps before) next place
  settled_state rows pending next place before tells = ap (λ (rs : List Row). state rs next place) tells.rows_are

  walks : (sound : IsSound) (uses : List Use) (before after : Said) (rows : List Row) (pending : Option (Text × List Text)) (place : ℕ)
      → Tells rows pending before → Says ps place before uses after → Walks (state rows pending place) (texts_of_uses uses) after
  unfolding walk_fault
  walks sound [] before after rows pending place tells says =
      record { rows = rows; pending = pending; place = place; ends = refl; passes = refl; tells = subst (λ (s : Said). Tells rows pending s) (sym says) tells }
  walks sound (stands text ∷ uses) before after rows pending place tells (id, at, fresh, is, says) =
      before_walk _ _ text (texts_of_uses uses) after
      (word_walked rows pending place id text sound.few at (place_below ps place id at sound.few) is
      ∙ settled_state rows pending (Some (id, text ∷ [])) (suc place) before tells)
      (word_fault_is rows pending place id text sound.few at is ∙ tells.passes)
      (walks sound uses (before ++ (id, text) ∷ []) after (rows_said ps before) (Some (id, text ∷ [])) (suc place)
      (pending_tells before id text (positional id) (sound.apart place id at) refl fresh) says)
  walks sound (spaced name v ∷ uses) before after rows pending place tells ((p, at, takes), fresh, is, says) =
      let o = value_is_option p takes in
      let is_name = sound.names name p at o.0 in
      before_walk _ _ (45 ∷ 45 ∷ name) (v ∷ texts_of_uses uses) after
      (option_walked rows pending place name v p at o.1 o.0 is_name ∙ ap (λ (rs : List Row). waiting_for rs name place) tells.rows_are)
      (option_fault_is rows pending place name v p at o.1 o.0 is_name ∙ tells.passes)
      (before_walk _ _ v (texts_of_uses uses) after (value_walked (rows_said ps before) None place name v p at o.1 o.0 is_name is)
      (value_fault_is (rows_said ps before) None place name v p at o.1 o.0 is_name is)
      (walks sound uses (before ++ (name, v) ∷ []) after (rows_said ps before) (Some (name, v ∷ [])) place (pending_tells before name v p at o.1 fresh) says))
  walks sound (joined name v ∷ uses) before after rows pending place tells ((p, at, takes), fresh, says) =
      let o = value_is_option p takes in
      let is_name = sound.names name p at o.0 in
      before_walk _ _ _ (texts_of_uses uses) after (joined_walked rows pending place name v p at o.1 o.0 is_name)
      (joined_fault_is rows pending place name v p at o.1 o.0 is_name ∙ done_fault rows pending before name tells fresh)
      (walks sound uses (before ++ (name, v) ∷ []) after _ None place (done_tells rows pending before name v tells fresh) says)
  walks sound (given name ∷ uses) before after rows pending place tells (at, fresh, says) =
      let is_name = sound.names name (flag name) at refl in
      before_walk _ _ _ (texts_of_uses uses) after (flag_walked rows pending place name at is_name)
      (flag_fault_is rows pending place name at is_name ∙ done_fault rows pending before name tells fresh)
      (walks sound uses (before ++ (name, codes "true") ∷ []) after _ None place (done_tells rows pending before name (codes "true") tells fresh) says)

-- ---- the end of a command's words

module _ (ps : List Parameter) where
  found_row : (said : Said) (id v : Text) → said_for said id ≡ Some v
      → (q : Text × Text) × (find (is_said id) said ≡ Some q) × (find (is_of id) (rows_said ps said) ≡ Some (made ps q)) × (q.1 ≡ v)
  found_row said id v e = go (find (is_said id) said) refl e
    where
      go : (o : Option (Text × Text)) → find (is_said id) said ≡ o → option_map (λ (p : Text × Text). p.1) o ≡ Some v
          → (q : Text × Text) × (find (is_said id) said ≡ Some q) × (find (is_of id) (rows_said ps said) ≡ Some (made ps q)) × (q.1 ≡ v)
      go None is h = absurd cc
      go (Some q) is h = (q, is, rows_find ps said id ∙ ap (option_map (made ps)) is, cc)

  -- what is found at the end is what is said, or else the default
  ends_with : (said : Said) (id : Text) → first_of id (fold with_default (rows_said ps said) (rules_from 1 ps)) ≡ said_for (said ++ defaults_of ps) id
  ends_with said id = go (said_for said id) refl
    where
      go : (o : Option Text) → said_for said id ≡ o
          → first_of id (fold with_default (rows_said ps said) (rules_from 1 ps)) ≡ said_for (said ++ defaults_of ps) id
      go None e = left_out id ps 1 (rows_said ps said) (no_find ps said id e)
          ∙ ap (option_map (λ (p : Text × Text). p.1)) (sym (find_right (is_said id) said (defaults_of ps) (not_said _ e)))
      go (Some v) e =
          let row = found_row said id v e in
          ap (option_and_then (λ (r : Row). slice_get r.values 0)) (keeps id (made ps row.0) (rules_from 1 ps) (rows_said ps said) row.2)
          ∙ ap (option_map (λ (p : Text × Text). p.1)) (sym (find_left (is_said id) said (defaults_of ps) row.0 row.1))

  -- no default is a fault
  default_passes : (i : ℕ) (q : Parameter) (rows : List Row) → default_fault rows (rule_at i q) ≡ []
  default_passes i (positional n) rows = if_same (has_row n rows || true) []
  default_passes i (required n) rows = if_same (has_row n rows || true) []
  default_passes i (defaulted n v) rows = if_same (has_row n rows || false) []
  default_passes i (optional n) rows = if_same (has_row n rows || true) []
  default_passes i (flag n) rows = if_same (has_row n rows || false) []

  defaults_pass : (i : ℕ) (qs : List Parameter) (rows : List Row) → defaults_fault rows (rules_from i qs) ≡ []
  unfolding defaults_fault
  defaults_pass i [] rows = rw (or-true (has_row (codes "help") rows)) refl
  defaults_pass i (q ∷ qs) rows = ap (defaults_fault rows) (rules_cons i q qs)
      ∙ rw (default_passes i q rows) (defaults_pass (after_one i q) qs (with_default rows (rule_at i q)))

  -- nothing that is wanted is missing
  abbrev is_missing : List Row → Rule → Bool
  is_missing rows a = a.required && not (is_given a.id rows)

  given_row : (said : Said) (id : Text) → is_some (said_for said id) ≡ true
      → not (is_given id (fold with_default (rows_said ps said) (rules_from 1 ps))) ≡ false
  given_row said id e = go (said_for said id) refl e
    where
      go : (o : Option Text) → said_for said id ≡ o → is_some o ≡ true → not (is_given id (fold with_default (rows_said ps said) (rules_from 1 ps))) ≡ false
      go None is h = absurd cc
      go (Some v) is h = let row = found_row said id v is in
          ap (λ (o : Option Row). not (option_map_or (λ r. explicit_source r.source) o false))
          (keeps id (made ps row.0) (rules_from 1 ps) (rows_said ps said) row.2)

  required_given : (said : Said) (i : ℕ) (q : Parameter) → (is_required q ≡ true → is_some (said_for said (name_of q)) ≡ true)
      → is_missing (fold with_default (rows_said ps said) (rules_from 1 ps)) (rule_at i q) ≡ false
  required_given said i (positional n) h = given_row said n (h refl)
  required_given said i (required n) h = given_row said n (h refl)
  required_given said i (defaulted n v) h = refl
  required_given said i (optional n) h = refl
  required_given said i (flag n) h = refl

  none_missing : (said : Said) (i : ℕ) (qs : List Parameter) → IsWhole qs said
      → list_any (is_missing (fold with_default (rows_said ps said) (rules_from 1 ps))) (rules_from i qs) ≡ false
  none_missing said i [] whole = refl
  none_missing said i (q ∷ qs) whole = ap (list_any (is_missing (fold with_default (rows_said ps said) (rules_from 1 ps)))) (rules_cons i q qs)
      ∙ rw (required_given said i q whole.0) (none_missing said (after_one i q) qs whole.1)

-- The words that uses of a command's parameters make are no fault, and clap finds what is said, or else the default.
module _ (name : Text) (ps : List Parameter) (sound : IsSound name ps) where
  pub uses_read : (uses : List Use) (said : Said) → Says ps 0 [] uses said → IsWhole ps said
      → (level_fault (leaf name ps) [] nothing_held (texts_of_uses uses) false [] ≡ [])
      × ((id : Text) → first_of id (rows_after (rules_from 1 ps) [] (texts_of_uses uses)) ≡ said_for (said ++ defaults_of ps) id)
  uses_read uses said says whole =
      let nothing : Tells name ps [] None [] = record { rows_are = refl; passes = refl } in
      let w = walks name ps sound uses [] said [] None 0 nothing says in
      let none = none_missing ps said 1 ps whole in (
        rw (w.passes, w.ends, w.tells.passes, w.tells.rows_are, defaults_pass ps 1 ps (rows_said ps said), none) refl,
        λ id. rw (w.ends, w.tells.rows_are) (ends_with ps said id),
      )
