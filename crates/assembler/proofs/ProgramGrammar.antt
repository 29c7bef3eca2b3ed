-- The instructions of a text are those of the program that the grammar says it is.
use Rattle.std.proofs.Common.{◌≡◌, ℕ, ◌+◌, ◌≤◌, Bool, true, false, ltb, List, [], ◌∷◌, ◌++◌, map, Option, Some, None, Result, Ok, Err, refl, sym, ap, subst}
use Rattle.std.proofs.Common.{◌∙◌, inl, inr, arith, ℤ, pos, append_assoc, append-nil}
use Rattle.std.specs.Prelude.{◌≢◌, IfOk, OnOk}
use Rattle.std.specs.Str.Lines.{lines}
use Rattle.std.specs.List.{AllByRecursion}
use Rattle.std.proofs.lemmas.Bool.{cases_Bool, le-ltb, ltb-false}
use Rattle.std.proofs.lemmas.List.{map-append}
use Rattle.std.specs.declared.vec.Vec.{Vec}
use Rattle.std.specs.declared.alloc.Global.{Global}
use Rattle.texts.specs.Results.{GivesUpToMemory}
use Rattle.texts.proofs.ResultLaws.{ok_is, bind_ok, some_is}
use Rattle.rv_decode.specs.declared.instruction.Instr.{Instr}
use Rattle.rv_decode.specs.declared.instruction.Instr.TheVariants as instr
use Rattle.assembler.specs.{AsmFault, Refusal, Line, size_of, word_count, is_label, place_from, label_place, is_twice, refused_at_line, drafted, all_drafted}
use Rattle.assembler.specs.{in_bytes, distance, placed_statement, onto, all_placed, all_instructions, assembled, bytes, is_reached, IsInReach, Made, one, two}
use Rattle.assembler.specs.{jump, branch, label_of, statement_text, made_in, IsLine, AreLines, AreApart, EachOnce, IsFresh, Defines, IsPlaced, ArePlaced}
use Rattle.assembler.specs.{AreInstrs, IsProgram, AreWordsOf}
use Rattle.rv_decode.specs.Meaning.{meaning}
use Rattle.rv_decode.proofs.Meanings.{meaning_iff}
use Rattle.assembler.specs.Program.IsPlaced.{nothing, single, double, jumping, branching}
use Rattle.assembler.proofs.OperandLaws.{is_reached-only, reached_true}
use Rattle.assembler.proofs.LabelLaws.{label_is, is_the_label, Apart, fresh_apart, apart_fresh, apart-append}
use Rattle.assembler.proofs.DraftLaws.{drafted_twice, drafted_added, drafted_faulty}
use Rattle.assembler.proofs.LineGrammar.{line-found, line-only}

-- ---- lines

pub record LineAdded (above : List Line) (text : List ℕ) (more : List Line) : Type 0 where
  pub line : Line
  pub is : IsLine text line
  pub apart : Apart above line.label
  pub whole : more ≡ above ++ line ∷ []

pub drafted-found : (above : List Line) (text : List ℕ) (more : List Line) → drafted above text ≡ Ok more → LineAdded above text more
drafted-found above text more e = go (is_twice above (label_of text)) refl (made_in (statement_text text)) refl
  where
    go : (b : Bool) → is_twice above (label_of text) ≡ b → (r : Result (Option Made) AsmFault) → made_in (statement_text text) ≡ r → LineAdded above text more
    go true twice r is = absurd (let f = sym (drafted_twice above text twice) ∙ e in cc)
    go false fresh (Err fault) is = absurd (let f = sym (drafted_faulty above text fault fresh is) ∙ e in cc)
    go false fresh (Ok made) is = record {
      line = record { label = label_of text; made = made };
      is = line-found text made is;
      apart = fresh_apart above (label_of text) fresh;
      whole = sym (ok_is Refusal (above ++ (record { label = label_of text; made = made }) ∷ []) more (sym (drafted_added above text made fresh is) ∙ e));
    }

pub drafted-only : (above : List Line) (text : List ℕ) (line : Line) → IsLine text line → Apart above line.label → drafted above text ≡ Ok (above ++ line ∷ [])
drafted-only above text line is apart = grind (arith, line-only, drafted_added, apart_fresh)

-- each of the lines below is apart from each line above
abbrev pub AllApart : List Line → List Line → Type 0
AllApart above below = AllByRecursion (λ line. Apart above line.label) below

apart-front : (above : List Line) (line : Line) (label : Option (List ℕ)) → Apart (above ++ line ∷ []) label → Apart above label
apart-front [] line label h = tt
apart-front (first ∷ above) line label h = (h.0, apart-front above line label h.1)

apart-end : (above : List Line) (line : Line) (label : Option (List ℕ)) → Apart (above ++ line ∷ []) label
    → (name : List ℕ) → line.label ≡ Some name → label ≢ Some name
apart-end [] line label h = h.0
apart-end (first ∷ above) line label h = apart-end above line label h.1

all_fronts : (above : List Line) (line : Line) (below : List Line) → AllApart (above ++ line ∷ []) below → AllApart above below
all_fronts above line [] h = tt
all_fronts above line (next ∷ below) h = (apart-front above line next.label h.0, all_fronts above line below h.1)

all_ends : (above : List Line) (line : Line) (below : List Line) → AllApart (above ++ line ∷ []) below → AllByRecursion (λ other. AreApart line other) below
all_ends above line [] h = tt
all_ends above line (next ∷ below) h = (apart-end above line next.label h.0, all_ends above line below h.1)

all_more : (above : List Line) (line : Line) (below : List Line) → AllApart above below
    → AllByRecursion (λ other. AreApart line other) below → AllApart (above ++ line ∷ []) below
all_more above line [] h k = tt
all_more above line (next ∷ below) h k = (apart-append above line next.label h.0 k.0, all_more above line below h.1 k.1)

pub record AllDrafted (above : List Line) (texts : List (List ℕ)) (all : List Line) : Type 0 where
  pub below : List Line
  pub whole : all ≡ above ++ below
  pub written : AreLines texts below
  pub once : EachOnce below
  pub apart : AllApart above below

pub all_found : (above : List Line) (texts : List (List ℕ)) (all : List Line) → all_drafted above texts ≡ Ok all → AllDrafted above texts all
all_found above [] all e = record { below = []; whole = sym (ok_is Refusal above all e) ∙ sym (append-nil above); written = refl; once = tt; apart = tt }
all_found above (text ∷ texts) all e =
    let step = bind_ok (drafted above text) (λ more. all_drafted more texts) all e in
    let first = drafted-found above text step.0 step.1 in
    let rest = all_found (above ++ first.line ∷ []) texts all (ap (λ more. all_drafted more texts) (sym first.whole) ∙ step.2) in
    record {
      below = first.line ∷ rest.below;
      whole = rest.whole ∙ append_assoc above (first.line ∷ []) rest.below;
      written = (first.line, rest.below, refl, first.is, rest.written);
      once = (all_ends above first.line rest.below rest.apart, rest.once);
      apart = (first.apart, all_fronts above first.line rest.below rest.apart);
    }

pub all_only : (above : List Line) (texts : List (List ℕ)) (below : List Line) → AreLines texts below
    → EachOnce below → AllApart above below → all_drafted above texts ≡ Ok (above ++ below)
all_only above [] below written once apart = ap Ok (sym (append-nil above) ∙ ap (λ more. above ++ more) (sym written))
all_only above (text ∷ texts) [] written once apart = absurd (let f = written.2 in cc)
all_only above (text ∷ texts) (first ∷ below) written once apart =
    let head : first ≡ written.0 = (let f = written.2 in cc) in
    let tail : below ≡ written.1 = (let f = written.2 in cc) in
    let is : IsLine text first = subst (λ (l : Line). IsLine text l) (sym head) written.3 in
    let rest : AreLines texts below = subst (λ (ls : List Line). AreLines texts ls) (sym tail) written.4 in
    rw (drafted-only above text first is apart.0)
    (all_only (above ++ first ∷ []) texts below rest once.1 (all_more above first below apart.1 once.0) ∙ ap Ok (append_assoc above (first ∷ []) below))

-- ---- places

record DefinesFrom (at : ℕ) (all : List Line) (name : List ℕ) (place : ℕ) : Type 0 where
  above : List Line
  line : Line
  below : List Line
  whole : all ≡ above ++ line ∷ below
  defined : line.label ≡ Some name
  counted : place ≡ at + word_count above

defines_from : (name : List ℕ) (at : ℕ) (all : List Line) (place : ℕ) → place_from name at all ≡ Some place → DefinesFrom at all name place
defines_from name at [] place e = absurd cc
defines_from name at (line ∷ all) place e = elim (cases_Bool (is_label name line.label)) [
  | inl here ↦ (let same : at ≡ place = some_is at place (rw here at e) in record {
    above = [];
    line = line;
    below = all;
    whole = refl;
    defined = label_is name line.label here;
    counted = omega arith;
  })
  | inr other ↦ (
      let rest = defines_from name (at + size_of line.made) all place (rw other at e) in
      record {
        above = line ∷ rest.above;
        line = rest.line;
        below = rest.below;
        whole = ap (λ ls. line ∷ ls)
            rest.whole;
        defined =
            rest.defined;
        counted =
            omega (arith, rest.counted);
      })
]

place_found : (all : List Line) (name : List ℕ) (place : ℕ) → label_place all name ≡ Some place → Defines all name place
unfolding label_place
place_found all name place e = grind (arith, defines_from name 0 all place e)

apart_in : (first : Line) (above : List Line) (line : Line) (below : List Line)
    → AllByRecursion (λ other. AreApart first other) (above ++ line ∷ below) → AreApart first line
apart_in first [] line below h = h.0
apart_in first (next ∷ above) line below h = apart_in first above line below h.1

place_at : (name : List ℕ) (at : ℕ) (above : List Line) (line : Line) (below : List Line) → line.label ≡ Some name
    → EachOnce (above ++ line ∷ below) → place_from name at (above ++ line ∷ below) ≡ Some (at + word_count above)
place_at name at [] line below defined once = let same : at ≡ at + 0 = omega arith in rw (is_the_label name line.label defined) (ap Some same)
place_at name at (first ∷ above) line below defined once = elim (cases_Bool (is_label name first.label)) [
  | inl here ↦ absurd (apart_in first above line below once.0 name (label_is name first.label here) defined)
  | inr other ↦ (
      let sum : at + size_of first.made + word_count above ≡ at + (size_of first.made + word_count above) = omega arith in
      rw (other, ← sum) (place_at name (at + size_of first.made) above line below defined once.1))
]

place_only : (all : List Line) (name : List ℕ) (place : ℕ) → EachOnce all → Defines all name place → label_place all name ≡ Some place
unfolding label_place
place_only all name place once is = grind (arith, place_at)

-- ---- instructions

abbrev pub some_instr : Instr → Option Instr
some_instr i = Some i

record Reaches (all : List Line) (bound : ℤ) (at : ℕ) (name : List ℕ) (n : ℤ) : Type 0 where
  place : ℕ
  defined : Defines all name place
  near : IsInReach bound (bytes (in_bytes at place))
  is : in_bytes at place ≡ n

distance-found : (all : List Line) (bound : ℤ) (at : ℕ) (name : List ℕ) (n : ℤ) → distance bound at (label_place all name) ≡ Ok n → Reaches all bound at name n
distance-found all bound at name n e = go (label_place all name) refl e
  where
    go : (o : Option ℕ) → label_place all name ≡ o → distance bound at o ≡ Ok n → Reaches all bound at name n
    go None none f = absurd cc
    go (Some place) is f = elim (cases_Bool (is_reached bound (in_bytes at place))) [
      | inl near ↦ record {
        place = place;
        defined = place_found all name place is;
        near = reached_true bound (in_bytes at place) near;
        is = ok_is AsmFault (in_bytes at place) n (rw near at f);
      }
      | inr far ↦ absurd (let g = rw far at f in cc)
    ]

distance-only : (all : List Line) (bound : ℤ) (at : ℕ) (name : List ℕ) (place : ℕ) → EachOnce all
    → Defines all name place → IsInReach bound (bytes (in_bytes at place))
    → distance bound at (label_place all name) ≡ Ok (in_bytes at place)
distance-only all bound at name place once defined near =
    rw (place_only all name place once defined, is_reached-only bound (in_bytes at place) near.0 near.1 near.2) refl

record Placing (all : List Line) (at : ℕ) (made : Option Made) (front : List (Option Instr)) : Type 0 where
  instrs : List Instr
  is : IsPlaced all at made instrs
  same : map some_instr instrs ≡ front

placed-found : (all : List Line) (at : ℕ) (made : Option Made) (front : List (Option Instr))
    → placed_statement (label_place all) at made ≡ Ok front → Placing all at made front
placed-found all at None front e = record { instrs = []; is = nothing; same = ok_is AsmFault [] front e }
placed-found all at (Some (one i)) front e = record { instrs = i ∷ []; is = single i; same = ok_is AsmFault (Some i ∷ []) front e }
placed-found all at (Some (two i j)) front e = record { instrs = i ∷ j ∷ []; is = double i j; same = ok_is AsmFault (Some i ∷ Some j ∷ []) front e }
placed-found all at (Some (jump rd name)) front e =
    let n = bind_ok (distance (pos 1048576) at (label_place all name)) (λ n. Ok (Some (instr.Jal rd n) ∷ [])) front e in
    let r = distance-found all (pos 1048576) at name n.0 n.1 in
    record {
      instrs = instr.Jal rd (in_bytes at r.place) ∷ [];
      is = jumping rd name r.place r.defined r.near;
      same = ap (λ m. Some (instr.Jal rd m) ∷ []) r.is ∙ ok_is AsmFault (Some (instr.Jal rd n.0) ∷ []) front n.2;
    }
placed-found all at (Some (branch op rs1 rs2 name)) front e =
    let n = bind_ok (distance (pos 4096) at (label_place all name)) (λ n. Ok (Some (instr.Branch op rs1 rs2 n) ∷ [])) front e in
    let r = distance-found all (pos 4096) at name n.0 n.1 in
    record {
      instrs = instr.Branch op rs1 rs2 (in_bytes at r.place) ∷ [];
      is = branching op rs1 rs2 name r.place r.defined r.near;
      same = ap (λ m. Some (instr.Branch op rs1 rs2 m) ∷ []) r.is
          ∙ ok_is AsmFault (Some (instr.Branch op rs1 rs2 n.0) ∷ []) front n.2;
    }

placed-only : (all : List Line) (at : ℕ) (made : Option Made) (instrs : List Instr) → EachOnce all
    → IsPlaced all at made instrs → placed_statement (label_place all) at made ≡ Ok (map some_instr instrs)
placed-only all at made instrs once h5 = grind (arith, distance-only)

record AllPlacing (all : List Line) (at : ℕ) (below : List Line) (answers : List (Option Instr)) : Type 0 where
  instrs : List Instr
  are : ArePlaced all at below instrs
  same : map some_instr instrs ≡ answers

at_line-ok : {A : Type 0} (line : ℕ) (r : Result A AsmFault) (x : A) → refused_at_line line r ≡ Ok x → r ≡ Ok x
at_line-ok line r x e = grind (arith, ok_is)

all_placed-found : (all : List Line) (at line : ℕ) (below : List Line) (answers : List (Option Instr))
    → all_placed (label_place all) at line below ≡ Ok answers → AllPlacing all at below answers
all_placed-found all at line [] answers e = record { instrs = []; are = refl; same = ok_is Refusal [] answers e }
all_placed-found all at line (first ∷ below) answers e =
    let step = bind_ok (refused_at_line line (placed_statement (label_place all) at first.made))
    (λ front. onto front (all_placed (label_place all) (at + size_of first.made) (line + 1) below)) answers e in
    let front = placed-found all at first.made step.0 (at_line-ok line (placed_statement (label_place all) at first.made) step.0 step.1) in
    let more = bind_ok (all_placed (label_place all) (at + size_of first.made) (line + 1) below) (λ more. Ok (step.0 ++ more)) answers step.2 in
    let rest = all_placed-found all (at + size_of first.made) (line + 1) below more.0 more.1 in
    record {
      instrs = front.instrs ++ rest.instrs;
      are = (front.instrs, rest.instrs, refl, front.is, rest.are);
      same = map-append some_instr front.instrs rest.instrs ∙ (rw (front.same, rest.same) (ok_is Refusal (step.0 ++ more.0) answers more.2));
    }

all_placed-only : (all : List Line) (at line : ℕ) (below : List Line) (instrs : List Instr) → EachOnce all
    → ArePlaced all at below instrs → all_placed (label_place all) at line below ≡ Ok (map some_instr instrs)
all_placed-only all at line [] instrs once are = ap (λ is. Ok (map some_instr is)) (sym are)
all_placed-only all at line (first ∷ below) instrs once are =
    rw (placed-only all at first.made are.0 once are.3, all_placed-only all (at + size_of first.made) (line + 1) below are.1 once are.4)
    (ap Ok (sym (map-append some_instr are.0 are.1) ∙ ap (map some_instr) (sym are.2)))

-- ---- programs

pub record Finishing (all : List Line) (answers : List (Option Instr)) : Type 0 where
  pub instrs : List Instr
  pub few : word_count all ≤ 4096
  pub placed : ArePlaced all 0 all instrs
  pub same : answers ≡ map some_instr instrs

pub finished-found : (all : List Line) (answers : List (Option Instr)) → all_instructions all ≡ Ok answers → Finishing all answers
unfolding all_instructions
finished-found all answers e = elim (cases_Bool (ltb 4096 (word_count all))) [
  | inl long ↦ absurd (let f = rw long at e in cc)
  | inr few ↦ (
      let answer = all_placed-found all 0 1 all answers (rw few at e) in
      record { instrs = answer.instrs; few = ltb-false 4096 (word_count all) few; placed = answer.are; same = sym answer.same })
]

pub finished_only : (all : List Line) (instrs : List Instr) → AreInstrs all instrs → all_instructions all ≡ Ok (map some_instr instrs)
unfolding all_instructions
finished_only all instrs are = rw (le-ltb 4096 (word_count all) are.few) (all_placed-only all 0 1 all instrs are.once are.placed)

pub record Assembling (text : List ℕ) (answers : List (Option Instr)) : Type 0 where
  pub instrs : List Instr
  pub is : IsProgram text instrs
  pub same : answers ≡ map some_instr instrs

pub program_found : (text : List ℕ) (answers : List (Option Instr)) → assembled text ≡ Ok answers → Assembling text answers
unfolding assembled
program_found text answers e =
    let step = bind_ok (all_drafted [] (lines text)) all_instructions answers e in
    let written = all_found [] (lines text) step.0 step.1 in
    let same : written.below ≡ step.0 = sym written.whole in
    let answer = finished-found step.0 answers step.2 in
    record {
      instrs = answer.instrs;
      is = record {
        all = step.0;
        written = subst (λ (ls : List Line). AreLines (lines text) ls) same written.written;
        made = record { once = subst EachOnce same written.once; few = answer.few; placed = answer.placed };
      };
      same = answer.same;
    }

pub none_above : (below : List Line) → AllApart [] below
none_above [] = tt
none_above (line ∷ below) = (tt, none_above below)

pub program_only : (text : List ℕ) (instrs : List Instr) → IsProgram text instrs → assembled text ≡ Ok (map some_instr instrs)
unfolding assembled
program_only text instrs is = rw (all_only [] (lines text) is.all is.written is.made.once (none_above is.all)) (finished_only is.all instrs is.made)

pub same_instrs : (a b : List Instr) → map some_instr a ≡ map some_instr b → a ≡ b
same_instrs [] [] e = refl
same_instrs (i ∷ a) (j ∷ b) e =
    let head : some_instr i ≡ some_instr j = cc in
    let tail : map some_instr a ≡ map some_instr b = cc in
    rw (some_is i j head, same_instrs a b tail) refl
same_instrs x y e = absurd cc

pub one_program : (text : List ℕ) (a b : List Instr) → IsProgram text a → IsProgram text b → a ≡ b
one_program text a b h k = same_instrs a b (ok_is Refusal (map some_instr a) (map some_instr b) (sym (program_only text a h) ∙ program_only text b k))

-- ---- words

pub words-of_instrs : (words : List ℕ) (instrs : List Instr) → map meaning words ≡ map some_instr instrs → AreWordsOf words instrs
words-of_instrs [] [] e = refl
words-of_instrs (word ∷ words) (i ∷ instrs) e =
    let head : meaning word ≡ Some i = cc in
    let tail : map meaning words ≡ map some_instr instrs = cc in
    (i, instrs, refl, (meaning_iff word i).0 head, words-of_instrs words instrs tail)
words-of_instrs x y e = absurd cc

-- ---- what a function answered

abbrev Words : Type 0
Words = Vec ℕ Global

abbrev meanings : Words → List (Option Instr)
meanings words = map meaning words.items

pub found_program : {E : Type 0} (refusal_of : E → Option Refusal) (text : List ℕ) (result : Result Words E)
    → GivesUpToMemory refusal_of meanings result (assembled text)
    → IfOk result (λ words. (instrs : List Instr) × IsProgram text instrs × AreWordsOf words.items instrs)
found_program refusal_of text (Ok words) e = let made = program_found text (meanings words) e in
    (made.instrs, made.is, words-of_instrs words.items made.instrs made.same)
found_program refusal_of text (Err error) e = tt

pub only_program : {E : Type 0} (refusal_of : E → Option Refusal) (text : List ℕ) (instrs : List Instr)
    (result : Result Words E) → GivesUpToMemory refusal_of meanings result (assembled text) → IsProgram text instrs
    → GivesUpToMemory refusal_of meanings result (Ok (map some_instr instrs))
only_program refusal_of text instrs result e is = rw (program_only text instrs is) at e

-- ---- a draft's line and its end

pub found_line : {X E : Type 0} (refusal_of : E → Option Refusal) (above new : List Line) (text : List ℕ)
    (result : Result X E) → GivesUpToMemory refusal_of (λ x. new) result (drafted above text)
    → OnOk result ((more : Line) × IsLine text more × IsFresh above more × (new ≡ above ++ more ∷ []))
found_line refusal_of above new text (Ok x) e = let first = drafted-found above text new e in (first.line, first.is, first.apart, first.whole)
found_line refusal_of above new text (Err error) e = tt

pub only_line : {X E : Type 0} (refusal_of : E → Option Refusal) (above new : List Line) (text : List ℕ)
    (result : Result X E) → GivesUpToMemory refusal_of (λ x. new) result (drafted above text) → (more : Line)
    → IsLine text more → IsFresh above more → GivesUpToMemory refusal_of (λ x. new) result (Ok (above ++ more ∷ []))
only_line refusal_of above new text result e more is fresh = rw (drafted-only above text more is fresh) at e

pub found_instrs : {E : Type 0} (refusal_of : E → Option Refusal) (all : List Line) (result : Result Words E)
    → EachOnce all → GivesUpToMemory refusal_of meanings result (all_instructions all)
    → IfOk result (λ words. (instrs : List Instr) × AreInstrs all instrs × AreWordsOf words.items instrs)
found_instrs refusal_of all (Ok words) once e =
    let answer = finished-found all (meanings words) e in
    (answer.instrs, record { once = once; few = answer.few; placed = answer.placed }, words-of_instrs words.items answer.instrs answer.same)
found_instrs refusal_of all (Err error) once e = tt

pub only_instrs : {E : Type 0} (refusal_of : E → Option Refusal) (all : List Line) (instrs : List Instr)
    (result : Result Words E) → GivesUpToMemory refusal_of meanings result (all_instructions all) → AreInstrs all instrs
    → GivesUpToMemory refusal_of meanings result (Ok (map some_instr instrs))
only_instrs refusal_of all instrs result e are = rw (finished_only all instrs are) at e
