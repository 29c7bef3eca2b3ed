-- Bytes that a writer holds, and then writes on.
use Rattle.std.proofs.Common.{◌≡◌, ℕ, List, [], ◌++◌, Result, Ok, Err, OnOk, take, drop, refl, sym, ap, subst, ◌∙◌, append-nil, take-append-drop}
use Rattle.std.specs.Prelude.{Option}
use Rattle.std.specs.Io.KnownBytes.{Appends, Keeps, WriteAppends, append_known}
use Rattle.std.proofs.KnownBytes.{Keeps-trans, append_known-kept, append_known-moved, append_known-passed}

-- a write took the front of what is held
pub moved : {E : Type 0} (a b : Option (List ℕ)) (r : Result ℕ E) (n : ℕ) (given held rest : List ℕ) → WriteAppends a b r given → r ≡ Ok n
    → given ≡ held → rest ≡ drop n held → Keeps (append_known a held) (append_known b rest)
moved a b r n given held rest wrote is same left =
    let front : Appends a b (take n given) = rw is at wrote in
    append_known-moved a b (take n held) rest held (subst (λ (l : List ℕ). Appends a b (take n l)) same front)
    (sym (take-append-drop n held) ∙ ap (λ (l : List ℕ). take n held ++ l) (sym left))

-- a write took nothing
pub unmoved : {E : Type 0} (a b : Option (List ℕ)) (r : Result ℕ E) (n : ℕ) (given held : List ℕ) → WriteAppends a b r given → r ≡ Ok n → n ≡ 0
    → Keeps (append_known a held) (append_known b held)
unmoved a b r n given held wrote is none =
    let front : Appends a b (take n given) = rw is at wrote in
    append_known-moved a b [] held held (subst (λ (k : ℕ). Appends a b (take k given)) none front) refl

-- nothing is held, and a write is passed on
pub write_passed : {E : Type 0} (a b c : Option (List ℕ)) (r : Result ℕ E) (held given : List ℕ) → Keeps a (append_known b held) → held ≡ []
    → WriteAppends b c r given → WriteAppends a (append_known c held) r given
write_passed a b c (Ok n) held given kept none wrote =
    subst (Appends a (append_known c held)) (append-nil (take n given))
    (append_known-passed a b c held held (take n given) [] kept none wrote (sym (append-nil held)))
write_passed a b c (Err e) held given kept none wrote = Keeps-trans _ _ _ kept (append_known-kept b c held wrote)

-- the same of all bytes
pub all_passed : {X E : Type 0} (a b c : Option (List ℕ)) (r : Result X E) (held given : List ℕ) → Keeps a (append_known b held) → held ≡ []
    → OnOk r (Appends b c given) → OnOk r (Appends a (append_known c held) given)
all_passed a b c (Ok x) held given kept none wrote =
    subst (Appends a (append_known c held)) (append-nil given) (append_known-passed a b c held held given [] kept none wrote (sym (append-nil held)))
all_passed a b c (Err e) held given kept none wrote = tt
