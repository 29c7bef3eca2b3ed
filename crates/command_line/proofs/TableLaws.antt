-- What each row's uses say, on the whole command line.
use Rattle.clap.specs.Faults.{check_fault, defaults_fault, entered_fault, fault_of, level_fault, settle_fault, turn_fault, walk_fault}
use Rattle.clap.specs.Kinds.{Kinds, or_else}
use Rattle.clap.specs.Simple.{App, Shape, built, built_leaf, entered, help_shape, label_of, names_of, rows_at, subcommand_of}
use Rattle.clap.specs.Walk.{Row as Found, Walk, answers_to, finished, first_of, nothing_held, rows_after, settled, walk_from, walked}
use Rattle.clap.specs.Words.{Text}
use Rattle.clap.proofs.OnLiterals.{clap_on_literals}
use Rattle.clap.proofs.WalkLemmas.{find-map}
use Rattle.clap.proofs.CutLemmas.{Lacks}
use Rattle.std.proofs.Common.{◌≡◌, ◌∙◌, ◌&&◌, ◌||◌, Bool, true, false, not, refl, sym, ap, ap₂, List, [], ◌∷◌, ◌++◌, map, Option, Some, is_some, append-nil, ℕ}
use Rattle.std.proofs.Common.{append_assoc, codes, ◌+◌, ◌==◌, zero, suc, subst, arith, length, leb, leb-true, None}
use Rattle.std.specs.Prelude.{find, fold, option_map, option_and_then}
use Rattle.std.specs.Option.{option_map_or}
use Rattle.std.specs.List.{list_all, list_any}
use Rattle.std.specs.Str.{bytes_eq}
use Rattle.std.proofs.lemmas.Bool.{and_parts, not-true}
use Rattle.std.proofs.Math.Bool.{or-false}
use Rattle.std.proofs.lemmas.Bool.Decides.{nat_tests}
use Rattle.std.proofs.lemmas.Slice.Eq.{bytes_eq-Decides}
use Rattle.command_line.specs.Commands.{commands}
use Rattle.command_line.specs.Descriptions.{ztso_command}
use Rattle.command_line.specs.Parameters.{CommandRow, Parameter, positional, required, defaulted, optional, flag, name_of, named, word_in_place}
use Rattle.command_line.specs.Uses.{IsWhole, Said, Says, Use, row_named, said_for, defaults_of, texts_of_uses}
use Rattle.command_line.proofs.UseLaws.{find_left, leaf, one_of_all, rules_from, uses_read, IsName, IsSound, named_is}
use Rattle.command_line.specs.CommandLines.{Found as Options, place_in, queue_in, runs_in, SayPlace, SayQueue, SayRuns}

-- Each field of the records of numbers is what its option says.

-- a property of the value, where there is one
module _ {T : Type 0} (P : T → Type 0) where
  abbrev Each : Option T → Type 0
  Each o = (x : T) → o ≡ Some x → P x

  each_some : (y : T) → P y → Each (Some y)
  each_some y p x e = let same : y ≡ x = cc in rw (← same) p

  each_then : {A : Type 0} (o : Option A) (f : A → Option T) → ((a : A) → o ≡ Some a → Each (f a)) → Each (option_and_then f o)
  each_then None f g x e = absurd cc
  each_then (Some a) f g x e = g a refl x e

module _ (options : Options) where
  pub runs_said : Each (SayRuns options) (runs_in options)
  runs_said = each_then _ _ _ (λ skip s. each_then _ _ _ (λ number n. each_then _ _ _ (λ length l. each_then _ _ _ (λ jobs j.
      each_some _ _ (s, n, l, j)))))

  pub place_said : Each (SayPlace options) (place_in options)
  place_said = each_then _ _ _ (λ slots s. each_then _ _ _ (λ base b. each_then _ _ _ (λ stride t. each_some _ _ (s, b, t))))

  pub queue_said : Each (SayQueue options) (queue_in options)
  queue_said = each_then _ _ _ (λ kind k. each_then _ _ _ (λ base b. each_then _ _ _ (λ slots n. each_then _ _ _ (λ sender s.
      each_then _ _ _ (λ receiver r. each_some _ _ (k, b, n, s, r))))))

-- Which parameters a command may have: a test, and what passes it.

-- ---- a row that can be read

-- a name that isn't empty and has no `=`
abbrev is_name : Text → Bool
is_name [] = false
is_name (c ∷ name) = not (list_any (λ x. x == 61) (c ∷ name))

-- no two parameters have one name
abbrev is_told_apart : List Parameter → Bool
is_told_apart [] = true
is_told_apart (p ∷ ps) = not (is_some (named ps (name_of p))) && is_told_apart ps

abbrev pub is_sound : List Parameter → Bool
is_sound ps = leb (1 + length ps) 1000 && (list_all (λ p. is_name (name_of p)) ps && is_told_apart ps)

lacks : (text : Text) → list_any (λ x. x == 61) text ≡ false → Lacks 61 text
lacks [] e i below same = absurd (omega (arith, below))
lacks (c ∷ text) e zero below same = grind (arith, nat_tests)
lacks (c ∷ text) e (suc i) below same = let later = lacks text in grind (arith, later, nat_tests)

name_is : (name : Text) → is_name name ≡ true → IsName name
name_is [] e = absurd cc
name_is (c ∷ name) e = lacks (c ∷ name) (go (list_any (λ x. x == 61) (c ∷ name)) e)
  where
    go : (b : Bool) → not b ≡ true → b ≡ false
    go true h = absurd cc
    go false h = refl

names_are : (ps : List Parameter) → list_all (λ p. is_name (name_of p)) ps ≡ true → (name : Text) (p : Parameter) → named ps name ≡ Some p → IsName name
names_are ps all name p e =
    subst IsName (named_is ps name p e) (name_is (name_of p) (one_of_all (λ q. bytes_eq (name_of q) name) (λ q. is_name (name_of q)) ps p e all))

later_named : (q : Parameter) (ps : List Parameter) → is_told_apart (q ∷ ps) ≡ true → (id : Text) → named ps id ≡ Some (positional id)
    → named (q ∷ ps) id ≡ Some (positional id)
later_named q ps apart id e = grind (arith, and_parts, bytes_eq-Decides)

-- a word is the first parameter of its name
apart_at : (ps : List Parameter) → is_told_apart ps ≡ true → (place : ℕ) (id : Text) → word_in_place ps place ≡ Some id → named ps id ≡ Some (positional id)
apart_at [] apart place id e = absurd cc
apart_at (positional w ∷ ps) apart zero id e = let same : w ≡ id = cc in rw (same, (bytes_eq-Decides id id).1 refl) refl
apart_at (positional w ∷ ps) apart (suc place) id e = later_named (positional w) ps apart id
    (apart_at ps (and_parts (not (is_some (named ps (name_of (positional w))))) (is_told_apart ps) apart).1 place id e)
apart_at (required n ∷ ps) apart place id e = later_named (required n) ps apart id
    (apart_at ps (and_parts (not (is_some (named ps (name_of (required n))))) (is_told_apart ps) apart).1 place id e)
apart_at (defaulted n v ∷ ps) apart place id e = later_named (defaulted n v) ps apart id
    (apart_at ps (and_parts (not (is_some (named ps (name_of (defaulted n v))))) (is_told_apart ps) apart).1 place id e)
apart_at (optional n ∷ ps) apart place id e = later_named (optional n) ps apart id
    (apart_at ps (and_parts (not (is_some (named ps (name_of (optional n))))) (is_told_apart ps) apart).1 place id e)
apart_at (flag n ∷ ps) apart place id e = later_named (flag n) ps apart id
    (apart_at ps (and_parts (not (is_some (named ps (name_of (flag n))))) (is_told_apart ps) apart).1 place id e)

-- a row that passes the test can be read
pub sound_row : (command : Text) (ps : List Parameter) → is_sound ps ≡ true → IsSound command ps
sound_row command ps e =
    let few = and_parts (leb (1 + length ps) 1000) (list_all (λ p. is_name (name_of p)) ps && is_told_apart ps) e in
    let names = and_parts (list_all (λ p. is_name (name_of p)) ps) (is_told_apart ps) few.1 in
    record {
      few = leb-true (1 + length ps) 1000 few.0;
      names = λ name p at is. names_are ps names.0 name p at;
      apart = apart_at ps names.1;
    }

-- ---- a command's name

abbrev begun : Walk
begun = walk_from nothing_held

-- the walk is past the words at a command's name
abbrev at_command : Text → List Text → Walk
at_command command words = record begun { stopped = Some (command, words) }

module _ (a : App) (command : Text) where
  abbrev step : Walk → Text → Walk
  step = walked a.top.rules (names_of a)

  past : (before words : List Text) → fold step (at_command command before) words ≡ at_command command (before ++ words)
  unfolding walked
  past before [] = ap (at_command command) (sym (append-nil before))
  past before (word ∷ words) = past (before ++ word ∷ []) words ∙ ap (at_command command) (append_assoc before (word ∷ []) words)

  past_fault : (before words : List Text) → walk_fault a.top (names_of a) (at_command command before) words ≡ []
  unfolding walk_fault walked
  past_fault before [] = refl
  past_fault before (word ∷ words) = past_fault (before ++ word ∷ []) words

  module _ (is : find (answers_to command) (names_of a) ≡ Some (command, [])) (no_help : bytes_eq command (codes "help") ≡ false) where
    met : step begun command ≡ at_command command []
    unfolding walked
    met = rw is refl

    ends : (words : List Text) → fold step begun (command ∷ words) ≡ at_command command words
    ends words = ap (λ (w : Walk). fold step w words) met ∙ past [] words

    passes : (words : List Text) → walk_fault a.top (names_of a) begun (command ∷ words) ≡ []
    unfolding walk_fault
    passes words =
        let here : turn_fault a.top (names_of a) begun command ≡ [] = rw (is, no_help) refl in
        ap₂ or_else here (ap (λ (w : Walk). walk_fault a.top (names_of a) w words) met ∙ past_fault [] words)

-- ---- the table

abbrev leaf_of : CommandRow → Shape
leaf_of r = leaf r.name r.parameters

abbrev whole : App
whole = built ztso_command

subs_are : whole.subs ≡ map leaf_of commands ++ built_leaf help_shape ∷ []
subs_are = refl

sub_found : (rows : List CommandRow) (more : List Shape) (name : Text) (r : CommandRow) → find (λ q. bytes_eq q.name name) rows ≡ Some r
    → find (λ s. answers_to name (label_of s)) (map leaf_of rows ++ more) ≡ Some (leaf_of r)
sub_found rows more name r e = find_left (λ s. answers_to name (label_of s)) (map leaf_of rows) more (leaf_of r)
    (sym (find-map (λ s. answers_to name (label_of s)) leaf_of rows) ∙ ap (λ (p : CommandRow → Bool). option_map leaf_of (find p rows)) tests
    ∙ ap (option_map leaf_of) e)
  where
    tests : ◌≡◌ {A = CommandRow → Bool} (λ q. bytes_eq q.name name || false) (λ q. bytes_eq q.name name)
    tests = λ i q. or-false (bytes_eq q.name name) i

abbrev is_right : CommandRow → Bool
is_right r = is_sound r.parameters && not (bytes_eq r.name (codes "help"))

all_right : list_all is_right commands ≡ true
all_right = refl

-- ---- the whole command line

-- what clap says of all words, by the faults of the walk to the command's name and where that ends
abbrev fault_by : Kinds → Walk → Kinds
fault_by faults end =
    let top = whole.top in
    or_else faults (or_else (entered_fault whole end.stopped) (or_else (settle_fault top.rules top.args_override_self end.held)
    (or_else (defaults_fault (settled top.rules end.held).rows top.rules)
    (check_fault top (finished top.rules end.held) (is_some (entered whole end.stopped))))))

module _ (program : Text) (r : CommandRow) (uses : List Use) (said : Said) (is : row_named r.name ≡ Some r) (says : Says r.parameters 0 [] uses said)
    (has : IsWhole r.parameters said) where
  right : (is_sound r.parameters ≡ true) × (not (bytes_eq r.name (codes "help")) ≡ true)
  right = and_parts (is_sound r.parameters) (not (bytes_eq r.name (codes "help"))) (one_of_all (λ q. bytes_eq q.name r.name) is_right commands r is all_right)

  sub : find (λ s. answers_to r.name (label_of s)) whole.subs ≡ Some (leaf_of r)
  sub = ap (find (λ s. answers_to r.name (label_of s))) subs_are ∙ sub_found commands (built_leaf help_shape ∷ []) r.name r is

  name_found : find (answers_to r.name) (names_of whole) ≡ Some (r.name, [])
  name_found = sym (find-map (answers_to r.name) label_of whole.subs) ∙ ap (option_map label_of) sub

  no_help : bytes_eq r.name (codes "help") ≡ false
  no_help = not-true (bytes_eq r.name (codes "help")) right.1

  pub read : (level_fault (leaf_of r) [] nothing_held (texts_of_uses uses) false [] ≡ [])
      × ((id : Text) → first_of id (rows_after (rules_from 1 r.parameters) [] (texts_of_uses uses)) ≡ said_for (said ++ defaults_of r.parameters) id)
  read = uses_read r.name r.parameters (sound_row r.name r.parameters right.0) uses said says has

  entered_is : entered whole (Some (r.name, texts_of_uses uses)) ≡ Some (rows_at (leaf_of r) (texts_of_uses uses))
  entered_is = ap (option_map (λ s. rows_at s (texts_of_uses uses))) sub

  entered_passes : entered_fault whole (Some (r.name, texts_of_uses uses)) ≡ []
  entered_passes = ap (λ (o : Option Shape). option_map_or (λ s. level_fault s [] nothing_held (texts_of_uses uses) false []) o []) sub ∙ read.0

  pub no_fault : fault_of ztso_command (program ∷ r.name ∷ texts_of_uses uses) ≡ []
  unfolding clap_on_literals
  no_fault = ap₂ fault_by (passes whole r.name name_found no_help (texts_of_uses uses)) (ends whole r.name name_found no_help (texts_of_uses uses))
      ∙ ap₂ (λ (below : Kinds) (found : Option (Text × List Found)).
      or_else below (or_else (settle_fault whole.top.rules whole.top.args_override_self nothing_held)
      (or_else (defaults_fault (settled whole.top.rules nothing_held).rows whole.top.rules)
      (check_fault whole.top (finished whole.top.rules nothing_held) (is_some found))))) entered_passes entered_is

  pub found_in : subcommand_of ztso_command (program ∷ r.name ∷ texts_of_uses uses)
      ≡ Some (r.name, rows_after (rules_from 1 r.parameters) [] (texts_of_uses uses))
  found_in = ap (λ (w : Walk). entered whole w.stopped) (ends whole r.name name_found no_help (texts_of_uses uses)) ∙ entered_is
