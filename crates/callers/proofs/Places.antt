-- Words that stand somewhere in a hart's code.
use Rattle.std.proofs.Common.{ℕ, ◌≡◌, ◌≤◌, ◌<◌, ◌==◌, ◌-◌, Bool, true, List, ◌++◌, length, length-append, take, drop, Some, sym, ap, ◌∙◌, subst, arith}
use Rattle.std.specs.Cmp.Lexicographic.{pointwise}
use Rattle.std.specs.List.{slice_get}
use Rattle.std.proofs.lemmas.Bool.Decides.{Decides-eqb}
use Rattle.std.proofs.lemmas.List.{take-append-drop, length-take-le, length-drop}
use Rattle.std.proofs.lemmas.List.Elements.{All-get_or}
use Rattle.std.proofs.lemmas.Option.{get_or_from_slice_get, slice_get_within}
use Rattle.std.proofs.lemmas.Slice.Eq.{starts_is}
use Rattle.std.specs.Prelude.{All}
use Rattle.std.proofs.Math.Seq.{drop-append_seam, take-length}
use Rattle.step_machine.specs.History.{HartOpeningValue, OpeningValue, IsShort}
use Rattle.rv_decode.specs.Listings.{Listed, words_of}
use Rattle.spsc_queue.specs.Calls.{HasFunction}
use Rattle.callers.specs.{HasFirstCopy, HasNoCopy, StandsAt}

-- they stand at line n where the code's rest from there on begins with them, and nowhere else
module _ (words code : List ℕ) (n : ℕ) (r : Bool)
    (begins : r ≡ pointwise (λ (x y : ℕ). x == y) words (take (length words) (take (length code - n) (drop n code)))) where
  rest_begins : r ≡ pointwise (λ (x y : ℕ). x == y) words (take (length words) (drop n code))
  rest_begins = begins ∙ ap (λ ws. pointwise (λ (x y : ℕ). x == y) words (take (length words) ws))
      (ap (λ k. take k (drop n code)) (sym (length-drop n code)) ∙ take-length (drop n code))

  pub stands_here : n < length code → r ≡ true → StandsAt words code n
  stands_here within is = record {
    front = take n code;
    back = drop (length words) (drop n code);
    is = sym (take-append-drop n code) ∙ ap (λ ws. take n code ++ ws) ((starts_is Decides-eqb (drop n code) words r rest_begins).0 is);
    place = length-take-le n code (omega arith);
  }

  pub begins_here : StandsAt words code n → r ≡ true
  begins_here stands = (starts_is Decides-eqb (drop n code) words r rest_begins).1 stands.back
      (ap (drop n) stands.is ∙ ap (λ k. drop k (stands.front ++ (words ++ stands.back))) (sym stands.place)
      ∙ drop-append_seam stands.front (words ++ stands.back))

-- some words stand within their code
pub stands_within : (words code : List ℕ) (n : ℕ) → 1 ≤ length words → StandsAt words code n → n < length code
stands_within words code n some stands =
    let size = simp (length-append) at (ap length stands.is) in omega (arith, size, stands.place)

pub short_here : (os : List HartOpeningValue) (h : ℕ) (opens : HartOpeningValue) → All IsShort os → slice_get os h ≡ Some opens → IsShort opens
short_here os h opens short here = subst IsShort (get_or_from_slice_get os h opens opens here)
    (All-get_or IsShort os h opens (slice_get_within os h opens here) short)

-- a function in a hart's code is its words there
module _ (o : OpeningValue) (h : ℕ) (opens : HartOpeningValue) (here : slice_get o.harts h ≡ Some opens) (words : List ℕ) (listing : List Listed)
    (same : words_of listing ≡ words) where
  function_here : IsShort opens → length opens.registers ≡ 32 → (n : ℕ) → StandsAt words opens.code n → HasFunction o h n listing
  function_here short size n stands = record {
    opens = opens;
    is = here;
    code = record {
      front = stands.front;
      back = stands.back;
      is = stands.is ∙ ap (λ ws. stands.front ++ (ws ++ stands.back)) (sym same);
      place = stands.place;
      small = omega (arith, short);
    };
    registers = size;
  }

  words_there : (n : ℕ) → HasFunction o h n listing → StandsAt words opens.code n
  words_there n has =
      let one : Some has.opens ≡ Some opens = sym has.is ∙ here in
      let opened : has.opens ≡ opens = cc in
      record {
        front = has.code.front;
        back = has.code.back;
        is = ap (λ (v : HartOpeningValue). v.code) (sym opened) ∙ has.code.is ∙ ap (λ ws. has.code.front ++ (ws ++ has.code.back)) same;
        place = has.code.place;
      }

  pub first_here : IsShort opens → length opens.registers ≡ 32 → (n : ℕ) → StandsAt words opens.code n
      → ((m : ℕ) → m < n → StandsAt words opens.code m → ⊥) → HasFirstCopy o h n listing
  first_here short size n stands first = record {
    here = function_here short size n stands;
    first = λ m less has. first m less (words_there m has);
  }

  pub none_here : ((n : ℕ) → StandsAt words opens.code n → ⊥) → HasNoCopy o h listing
  none_here none n has = none n (words_there n has)
