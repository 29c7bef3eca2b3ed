-- The lines of an input, and how one is read part by part, of which a front is kept.
use Rattle.std.proofs.Common.{◌≡◌, ◌≢◌, ℕ, zero, suc, ◌+◌, ◌-◌, ◌≤◌, Bool, true, false, List, [], ◌∷◌, ◌++◌, length, take, Option, Some, None, Result, Ok, Err}
use Rattle.std.proofs.Common.{refl, sym, ap, ◌∙◌, arith, take_all, true≢false}
use Rattle.std.specs.Prelude.{◌==◌, is_ok, IfOk, IfSome, OnOk, if◌then◌else◌}
use Rattle.std.specs.List.{concat}
use Rattle.std.specs.Io.BufRead.{take_through, drop_through}
use Rattle.std.specs.Io.KnownBytes.{Keeps}
use Rattle.std.proofs.KnownBytes.{Consumes-nil, Consumes-kept}
use Rattle.std.proofs.Math.Seq.{take-append-add}
use Rattle.std.proofs.lemmas.List.{append-nil, length-take}
use Rattle.std.proofs.lemmas.List.Elements.{All-nil}
use Rattle.engine_support.specs.{Fault, kept_of, before_lines, whole_lines, IsPart, Refusal, Answers, at_line, fault_at}
use Rattle.texts.proofs.ResultLaws.{ok_is}
use Rattle.texts.specs.Results.{refusal_of}
use Rattle.texts.specs.declared.errors.TextError.{TextError}

-- ---- whole lines

line_alone : (byte : ℕ) (ends : Bool)
    → (if ends then (byte ∷ []) ∷ [] else before_lines byte []) ≡ (if ends then byte ∷ [] else byte ∷ [])
    ∷ whole_lines (if ends then [] else [])
line_alone byte true = refl
line_alone byte false = refl

line_more : (byte : ℕ) (ends : Bool) (bytes : List ℕ) → whole_lines bytes ≡ take_through 10 bytes ∷ whole_lines (drop_through 10 bytes)
    → (if ends then (byte ∷ []) ∷ whole_lines bytes else before_lines byte (whole_lines bytes))
    ≡ (if ends then byte ∷ [] else byte ∷ take_through 10 bytes) ∷ whole_lines (if ends then bytes else drop_through 10 bytes)
line_more byte true bytes is = refl
line_more byte false bytes is = ap (before_lines byte) is

-- the first line goes through the first LF
pub first_whole : (byte : ℕ) (bytes : List ℕ) → whole_lines (byte ∷ bytes) ≡ take_through 10 (byte ∷ bytes) ∷ whole_lines (drop_through 10 (byte ∷ bytes))
first_whole byte [] = line_alone byte (byte == 10)
first_whole byte (next ∷ bytes) = line_more byte (byte == 10) (next ∷ bytes) (first_whole next bytes)

-- and all of them are the input
joined_before : (byte : ℕ) (all : List (List ℕ)) → concat (before_lines byte all) ≡ byte ∷ concat all
joined_before byte [] = refl
joined_before byte (line ∷ others) = refl

joined_more : (byte : ℕ) (ends : Bool) (bytes : List ℕ) → concat (whole_lines bytes) ≡ bytes
    → concat (if ends then (byte ∷ []) ∷ whole_lines bytes else before_lines byte (whole_lines bytes)) ≡ byte ∷ bytes
joined_more byte true bytes is = ap (λ (xs : List ℕ). byte ∷ xs) is
joined_more byte false bytes is = joined_before byte (whole_lines bytes) ∙ ap (λ (xs : List ℕ). byte ∷ xs) is

pub joined_whole : (bytes : List ℕ) → concat (whole_lines bytes) ≡ bytes
joined_whole [] = refl
joined_whole (byte ∷ bytes) = joined_more byte (byte == 10) bytes (joined_whole bytes)

-- ---- a line in parts

-- of what comes after a list that is kept whole there is room for so much
kept_room : (n : ℕ) (xs ys : List ℕ) → length xs ≤ n → xs ++ take (n - length xs) ys ≡ take n (xs ++ ys)
kept_room n xs ys fits =
    let whole : n ≡ length xs + (n - length xs) = omega (arith, fits) in
    sym (ap (λ (k : ℕ). take k (xs ++ ys)) whole ∙ take-append-add xs ys (n - length xs))

pub kept_more : {E : Type 0} (result : Result (Unit {0}) E) (line new bytes part : List ℕ) (room : ℕ) → length line ≤ 1048577
    → room ≡ 1048577 - length line → part ≡ take room bytes → new ≡ (if is_ok result then line ++ part else line) → OnOk result (new ≡ kept_of (line ++ bytes))
kept_more result line new bytes part room fits left is more = grind (arith, kept_room)

-- the line was taken whole, where the input is known
pub line_whole : (known : Option (List ℕ)) (line taken : List ℕ) → IfSome known (λ bytes. taken ≡ take_through 10 bytes) → line ≡ take 1048577 taken
    → IfSome known (λ bytes. line ≡ kept_of (take_through 10 bytes))
line_whole None line taken is kept = tt
line_whole (Some bytes) line taken is kept = kept ∙ ap (take 1048577) is

-- a front of what was kept and of more is a front of all
pub kept_both : (n : ℕ) (xs ys : List ℕ) → take n (take n xs ++ ys) ≡ take n (xs ++ ys)
kept_both zero xs ys = refl
kept_both (suc n) [] ys = refl
kept_both (suc n) (x ∷ xs) ys = ap (λ (zs : List ℕ). x ∷ zs) (kept_both n xs ys)

-- nothing is kept of a line of no bytes alone
pub kept_nothing : (n : ℕ) (xs : List ℕ) → take (suc n) xs ≡ [] → xs ≡ []
kept_nothing n [] none = refl
kept_nothing n (x ∷ xs) none = absurd cc

pub kept_few : (n : ℕ) (xs : List ℕ) → length (take n xs) ≤ n
kept_few n xs = omega (arith, length-take n xs)

-- a look at the reader that gave nothing
pub nothing_taken : (result : Result Bool Fault) (old new : Option (List ℕ)) (kept new_kept : List ℕ) → IfOk result (λ done. done ≡ false) → Keeps old new
    → new_kept ≡ kept → length kept ≤ 1048577 → IfOk result (λ done. (part : List ℕ) × IsPart part done old new × (new_kept ≡ kept_of (kept ++ part)))
nothing_taken (Ok done) old new kept new_kept again keeps same few = (
  [],
  record {
    taken = Consumes-kept _ _ _ [] (Consumes-nil _) keeps;
    stops = All-nil (λ byte. byte ≢ 10);
    goes_on = λ more. All-nil (λ byte. byte ≢ 10);
    ends = λ is. absurd (true≢false (sym is ∙ again));
    is_last = λ is. absurd (true≢false (sym is ∙ again));
  },
  same ∙ sym (take_all 1048577 (kept ++ []) (rw append-nil few) ∙ append-nil kept),
)
nothing_taken (Err fault) old new kept new_kept again keeps same few = tt

-- ---- a line that is read, and one that is refused

pub at_line-ok : {A : Type 0} (number : ℕ) (r : Result A ℕ) (x : A) → at_line number r ≡ Ok x → r ≡ Ok x
at_line-ok {A = A} number (Ok y) x e = ap (λ (z : A). Ok z) (ok_is Refusal y x e)
at_line-ok {A = A} number (Err refused) x e = absurd cc

abbrev RefusedAs : {X Y : Type 0} → (X → Y) → Fault → Result Y Refusal → Type 0
RefusedAs {X = X} view fault answer = Answers {X = X} view (Err fault) answer

pub refused_at_line : {X Y : Type 0} (view : X → Y) (number : ℕ) (fault : TextError ℕ) (made : Fault)
    (answer : Result Y ℕ) → made ≡ fault_at number fault → IfSome (refusal_of fault) (λ n. answer ≡ Err n)
    → RefusedAs view made (at_line number answer)
refused_at_line view number fault made answer is holds = grind arith
