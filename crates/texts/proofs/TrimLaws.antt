-- Bytes round a text, and the text without them.
use Rattle.std.proofs.Common.{◌≡◌, ℕ, suc, zero, ◌+◌, ◌-◌, ◌<◌, ◌≤◌, Bool, true, false, List, [], ◌∷◌, ◌++◌, length, take, get_or, refl, sym, ap, ◌∙◌, inl, inr}
use Rattle.std.proofs.Common.{append_assoc, arith}
use Rattle.std.proofs.lemmas.Bool.{cases_Bool}
use Rattle.texts.specs.Cutting.{without_leading, without_trailing, onto_kept, stripped, AllPass, NonePass, IsPaddedBy}

-- ---- the end, from the last byte back

-- a byte that passes can go from the end of the part so far
end_less : (p : ℕ → Bool) (xs : List ℕ) (i : ℕ) → i < length xs → p (get_or xs i 0) ≡ true
    → without_trailing p (take (i + 1) xs) ≡ without_trailing p (take i xs)
end_less p [] i lt passes = absurd (omega arith)
end_less p (x ∷ xs) zero lt passes = rw passes refl
end_less p (x ∷ xs) (suc i) lt passes = grind (arith, end_less p xs i)

pub onto_some : (p : ℕ → Bool) (x : ℕ) (ys : List ℕ) → 0 < length ys → onto_kept p x ys ≡ x ∷ ys
onto_some p x ys some = grind arith

-- and any other byte stays, with all before it
end_kept : (p : ℕ → Bool) (xs : List ℕ) (i : ℕ) → i < length xs → p (get_or xs i 0) ≡ false → without_trailing p (take (i + 1) xs) ≡ take (i + 1) xs
end_kept p [] i lt fails = absurd (omega arith)
end_kept p (x ∷ xs) zero lt fails = rw fails refl
end_kept p (x ∷ xs) (suc i) lt fails = grind (arith, onto_some, end_kept p xs i)

-- the same, seen from after the byte
pub end_step : (p : ℕ → Bool) (xs : List ℕ) (e : ℕ) → 0 < e → e ≤ length xs → p (get_or xs (e - 1) 0) ≡ true
    → without_trailing p (take (e - 1) xs) ≡ without_trailing p (take e xs)
end_step p xs e some le passes = grind (arith, end_less)

pub end_stop : (p : ℕ → Bool) (xs : List ℕ) (e : ℕ) → 0 < e → e ≤ length xs → p (get_or xs (e - 1) 0) ≡ false → take e xs ≡ without_trailing p (take e xs)
end_stop p xs e some le fails = grind (arith, end_kept)

-- ---- where no byte passes

pub leading_none : (p : ℕ → Bool) (xs : List ℕ) → NonePass p xs → without_leading p xs ≡ xs
leading_none p [] h = refl
leading_none p (x ∷ xs) h = rw h.0 refl

trailing_none : (p : ℕ → Bool) (xs : List ℕ) → NonePass p xs → without_trailing p xs ≡ xs
trailing_none p [] h = refl
trailing_none p (x ∷ []) h = rw h.0 refl
trailing_none p (x ∷ y ∷ ys) h = rw (trailing_none p (y ∷ ys) h.1) refl

pub trailing_append : (p : ℕ → Bool) (xs ys : List ℕ) → 0 < length ys → NonePass p ys → without_trailing p (xs ++ ys) ≡ xs ++ ys
trailing_append p [] ys some h = trailing_none p ys h
trailing_append p (x ∷ xs) ys some h = ap (onto_kept p x) (trailing_append p xs ys some h) ∙ onto_some p x (xs ++ ys) (long xs)
  where
    long : (zs : List ℕ) → 0 < length (zs ++ ys)
    long [] = some
    long (z ∷ zs) = omega arith

pub stripped-none : (p : ℕ → Bool) (xs : List ℕ) → NonePass p xs → stripped p xs ≡ xs
unfolding stripped
stripped-none p xs h = rw (leading_none p xs h) (trailing_none p xs h)

-- a text in whose first and last parts no byte passes
pub stripped-ends : (p : ℕ → Bool) (xs ys zs : List ℕ) → 0 < length xs → NonePass p xs → 0 < length zs
    → NonePass p zs → stripped p (xs ++ (ys ++ zs)) ≡ xs ++ (ys ++ zs)
unfolding stripped
stripped-ends p [] ys zs begins h some k = absurd (omega arith)
stripped-ends p (x ∷ xs) ys zs begins h some k = rw (h.0, ← append_assoc xs ys zs) (trailing_append p (x ∷ (xs ++ ys)) zs some k)

-- ---- where all bytes pass, round a text

pub all-append : (p : ℕ → Bool) (xs ys : List ℕ) → AllPass p xs → AllPass p ys → AllPass p (xs ++ ys)
all-append p [] ys h k = k
all-append p (x ∷ xs) ys h k = (h.0, all-append p xs ys h.1 k)

pub leading_past : (p : ℕ → Bool) (front xs : List ℕ) → AllPass p front → without_leading p (front ++ xs) ≡ without_leading p xs
leading_past p [] xs h = refl
leading_past p (x ∷ front) xs h = rw h.0 (leading_past p front xs h.1)

pub leading_all : (p : ℕ → Bool) (back : List ℕ) → AllPass p back → without_leading p back ≡ []
leading_all p [] h = refl
leading_all p (x ∷ back) h = rw h.0 (leading_all p back h.1)

trailing_all : (p : ℕ → Bool) (back : List ℕ) → AllPass p back → without_trailing p back ≡ []
trailing_all p [] h = refl
trailing_all p (x ∷ back) h = rw (trailing_all p back h.1, h.0) refl

trailing_past : (p : ℕ → Bool) (xs back : List ℕ) → AllPass p back → without_trailing p (xs ++ back) ≡ without_trailing p xs
trailing_past p [] back h = trailing_all p back h
trailing_past p (x ∷ xs) back h = ap (onto_kept p x) (trailing_past p xs back h)

pub stripped-back : (p : ℕ → Bool) (xs back : List ℕ) → AllPass p back → stripped p (xs ++ back) ≡ stripped p xs
unfolding stripped
stripped-back p [] back h = rw (leading_all p back h) refl
stripped-back p (x ∷ xs) back h = grind (arith, trailing_past, stripped-back p xs back h)

stripped-front : (p : ℕ → Bool) (front xs : List ℕ) → AllPass p front → stripped p (front ++ xs) ≡ stripped p xs
unfolding stripped
stripped-front p front xs h = ap (without_trailing p) (leading_past p front xs h)

pub stripped-padded : (p : ℕ → Bool) (core text : List ℕ) → IsPaddedBy p core text → stripped p text ≡ stripped p core
stripped-padded p core text pad = ap (stripped p) pad.4 ∙ (stripped-front p pad.0 (core ++ pad.1) pad.2 ∙ stripped-back p core pad.1 pad.3)

pub stripped-all : (p : ℕ → Bool) (text : List ℕ) → AllPass p text → stripped p text ≡ []
unfolding stripped
stripped-all p text h = ap (without_trailing p) (leading_all p text h)

-- ---- what was taken off

pub leading_split : (p : ℕ → Bool) (xs : List ℕ) → (front : List ℕ) × AllPass p front × (xs ≡ front ++ without_leading p xs)
leading_split p [] = ([], tt, refl)
leading_split p (x ∷ xs) = elim (cases_Bool (p x)) [
  | inl passes ↦ (let rest = leading_split p xs in (x ∷ rest.0, (passes, rest.1), rw passes (ap (λ ys. x ∷ ys) rest.2)))
  | inr fails ↦ ([], tt, rw fails refl)
]

-- the first byte that is left doesn't pass, and where none is left all pass
pub leading_first : (p : ℕ → Bool) (text : List ℕ) (c : ℕ) (rest : List ℕ) → without_leading p text ≡ c ∷ rest → p c ≡ false
leading_first p [] c rest e = absurd cc
leading_first p (x ∷ xs) c rest e = grind (arith, leading_first p xs c rest)

pub leading_gone : (p : ℕ → Bool) (text : List ℕ) → without_leading p text ≡ [] → AllPass p text
leading_gone p [] e = tt
leading_gone p (x ∷ xs) e = grind (arith, leading_gone p xs)

pub trailing_split : (p : ℕ → Bool) (xs : List ℕ) → (back : List ℕ) × AllPass p back × (xs ≡ without_trailing p xs ++ back)
trailing_split p [] = ([], tt, refl)
trailing_split p (x ∷ xs) = let rest = trailing_split p xs in go (without_trailing p xs) rest.0 rest.1 rest.2 (p x) refl
  where
    go : (kept back : List ℕ) → AllPass p back → xs ≡ kept ++ back → (b : Bool) → p x ≡ b
        → (end : List ℕ) × AllPass p end × (x ∷ xs ≡ onto_kept p x kept ++ end)
    go [] back all whole true passes = (x ∷ back, (passes, all), rw passes (ap (λ ys. x ∷ ys) whole))
    go [] back all whole false fails = (back, all, rw fails (ap (λ ys. x ∷ ys) whole))
    go (y ∷ ys) back all whole b e = (back, all, ap (λ zs. x ∷ zs) whole)

pub padded_stripped : (p : ℕ → Bool) (text : List ℕ) → IsPaddedBy p (stripped p text) text
unfolding stripped
padded_stripped p text =
    let front = leading_split p text in
    let back = trailing_split p (without_leading p text) in
    (front.0, back.0, front.1, back.1, front.2 ∙ ap (λ ys. front.0 ++ ys) back.2)

pub padded_twice : (p : ℕ → Bool) (core mid text : List ℕ) → IsPaddedBy p core mid → IsPaddedBy p mid text → IsPaddedBy p core text
padded_twice p core mid text h k = grind (arith, all-append, append_assoc)

pub stripped-trailing : (p : ℕ → Bool) (part : List ℕ) → stripped p (without_trailing p part) ≡ stripped p part
stripped-trailing p part = let split = trailing_split p part in sym (stripped-back p (without_trailing p part) split.0 split.1) ∙ ap (stripped p) (sym split.2)
