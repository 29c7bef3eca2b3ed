-- An input that is judged.
use Rattle.std.proofs.Common.{arith, ◌≡◌, ℕ, ◌<◌, ◌≤◌, ltb, List, length, Result, Ok, Err, refl, subst, ◌∙◌}
use Rattle.std.specs.Str.{IsUtf8}
use Rattle.std.proofs.lemmas.Bool.{cases_Bool, le-ltb, lt-ltb, ltb-false}
use Rattle.std.proofs.lemmas.Str.{IsUtf8-from_is_utf8, is_utf8-from_IsUtf8}
use Rattle.engine_support.specs.{Refusal, not_text, too_large, AcceptedInput, decoded}
use Rattle.texts.proofs.ResultLaws.{guard_err, ok_is}

-- a text within the limit is judged by its own rules
pub decoded-text : {V : Type 0} (value_at : List ℕ → Result V Refusal) (input : List ℕ) → length input ≤ 1048576
    → IsUtf8 input → decoded value_at input ≡ value_at input
decoded-text value_at input few text = rw (le-ltb 1048576 (length input) few, is_utf8-from_IsUtf8 input text) refl

-- and what is no text is refused as such
pub decoded-no_text : {V : Type 0} (value_at : List ℕ → Result V Refusal) (input : List ℕ) → length input ≤ 1048576
    → (IsUtf8 input → ⊥) → decoded value_at input ≡ Err not_text
decoded-no_text value_at input few none = grind (arith, cases_Bool, IsUtf8-from_is_utf8, le-ltb)

-- what is past the limit too
pub judged-large : {V : Type 0} (value_at : List ℕ → Result V Refusal) (input : List ℕ) → 1048576 < length input
    → decoded value_at input ≡ Err too_large
judged-large value_at input many = rw (lt-ltb 1048576 (length input) many) refl

-- what is judged well is a text within the limit, and well by its own rules
pub decoded-well : {V : Type 0} (value_at : List ℕ → Result V Refusal) (input : List ℕ) (v : V)
    → decoded value_at input ≡ Ok v → (length input ≤ 1048576) × IsUtf8 input × (value_at input ≡ Ok v)
decoded-well value_at input v e = grind (arith, guard_err, ltb, cases_Bool, ltb-false, IsUtf8-from_is_utf8)

-- what is judged well has the value, where a text that is well by its own rules has it
pub accepted_well : {V : Type 0} (value_at : List ℕ → Result V Refusal) (IsValue : List ℕ → V → Type 0)
    (input : List ℕ) (v : V) → (value_at input ≡ Ok v → IsValue input v) → decoded value_at input ≡ Ok v
    → AcceptedInput IsValue input v
accepted_well value_at IsValue input v found e = grind (arith, decoded-well)

-- and the other way round
pub accepted-decoded : {V : Type 0} (value_at : List ℕ → Result V Refusal) (IsValue : List ℕ → V → Type 0)
    (input : List ℕ) (v : V) → (IsValue input v → value_at input ≡ Ok v) → AcceptedInput IsValue input v
    → decoded value_at input ≡ Ok v
accepted-decoded value_at IsValue input v only accepted = decoded-text value_at input accepted.few accepted.text ∙ only accepted.value_is

-- an input that is judged a text is that text
pub decoded-as_text : (input text : List ℕ) → decoded (λ bytes. Ok bytes) input ≡ Ok text → (input ≡ text) × (length text ≤ 1048576) × IsUtf8 text
decoded-as_text input text e =
    let (few, is_text, is) = decoded-well (λ bytes. Ok bytes) input text e in
    let same = ok_is Refusal input text is in
    (same, subst (λ (bytes : List ℕ). length bytes ≤ 1048576) same few, subst IsUtf8 same is_text)
