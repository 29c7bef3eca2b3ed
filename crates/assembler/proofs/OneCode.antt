-- A text is one list of plain words, and the text of an instruction is its plain word.
use Rattle.std.proofs.Common.{◌≡◌, ◌↔◌, ℕ, ◌^◌, ◌<◌, List, [], ◌∷◌, ◌++◌, map, Option, Some, refl, sym, subst}
use Rattle.std.specs.Prelude.{IfSome}
use Rattle.std.specs.List.{All}
use Rattle.std.specs.Result.{IsErr}
use Rattle.std.proofs.lemmas.List.Elements.{All-head, All-tail, All-cons, All-nil}
use Rattle.texts.proofs.ResultLaws.{refused_without}
use Rattle.rv_decode.specs.Means.{Means}
use Rattle.rv_decode.specs.Fits.{Fits, HasPlainFence, IsPlainWord}
use Rattle.rv_decode.proofs.Meanings.{meaning_of}
use Rattle.rv_decode.proofs.PlainWords.{one_plain_word}
use Rattle.rv_decode.proofs.Words.{fits_iff_word}
use Rattle.rv_decode.specs.declared.instruction.Instr.{Instr}
use Rattle.assembler.specs.{IsPlain, AllPlain, assembled, text_of, IsProgram, AreWordsOf, IsCode}
use Rattle.assembler.proofs.ProgramGrammar.{some_instr, same_instrs, program_found, program_only, one_program}
use Rattle.assembler.proofs.RoundTrip.{read_again}
use Rattle.rv_decode.specs.Meaning.{meaning}

pub plain_of : (word : ℕ) (i : Instr) → meaning word ≡ Some i → HasPlainFence word i → IsPlain word
plain_of word i means plain = subst (λ (r : Option Instr). IfSome r (HasPlainFence word)) (sym means) plain

pub all_plain_more : (words : List ℕ) (word : ℕ) → AllPlain words → IsPlain word → AllPlain (words ++ word ∷ [])
all_plain_more [] word all plain = (plain, tt)
all_plain_more (first ∷ rest) word all plain = (all.0, all_plain_more rest word all.1 plain)

abbrev IsSmall : ℕ → Type 0
IsSmall word = word < 2 ^ 32

plain_from : (word : ℕ) (i : Instr) → Means word i → IsPlain word → HasPlainFence word i
plain_from word i means plain = subst (λ (r : Option Instr). IfSome r (HasPlainFence word)) (meaning_of word i means) plain

one_list : (a b : List ℕ) (instrs : List Instr) → AreWordsOf a instrs → AreWordsOf b instrs → AllPlain a → AllPlain b → All IsSmall a → All IsSmall b → a ≡ b
one_list [] [] instrs m n p q s t = refl
one_list [] (w ∷ b) instrs m n p q s t = absurd (let e = n.2 in cc)
one_list (v ∷ a) [] instrs m n p q s t = absurd (let e = m.2 in cc)
one_list (v ∷ a) (w ∷ b) instrs m n p q s t =
    let here : n.0 ≡ m.0 = (let e = m.2 in let f = n.2 in cc) in
    let following : n.1 ≡ m.1 = (let e = m.2 in let f = n.2 in cc) in
    let means : Means w m.0 = subst (λ (i : Instr). Means w i) here n.3 in
    let words : AreWordsOf b m.1 = subst (λ (is : List Instr). AreWordsOf b is) following n.4 in
    let first = one_plain_word m.0 v w (All-head IsSmall v a s, m.3, plain_from v m.0 m.3 p.0) (All-head IsSmall w b t, means, plain_from w m.0 means q.0) in
    let rest = one_list a b m.1 m.4 words p.1 q.1 (All-tail IsSmall v a s) (All-tail IsSmall w b t) in
    rw (first, rest) refl

pub one_code : (text a b : List ℕ) → IsCode text a → IsCode text b → a ≡ b
one_code text a b h k =
    let same = one_program text h.instrs k.instrs h.program k.program in
    one_list a b h.instrs h.meant (subst (λ (is : List Instr). AreWordsOf b is) (sym same) k.meant) h.plain k.plain h.small k.small

-- ---- what an instruction is written as

pub program_again : (i : Instr) → Fits i → IsProgram (text_of i) (i ∷ [])
program_again i fits =
    let made = program_found (text_of i) (Some i ∷ []) (read_again i fits) in
    subst (λ (is : List Instr). IsProgram (text_of i) is) (same_instrs made.instrs (i ∷ []) (sym made.same)) made.is

pub code_again : (i : Instr) (word : ℕ) → IsPlainWord word i → IsCode (text_of i) (word ∷ [])
code_again i word (small, means, plain) = record {
  instrs = i ∷ [];
  program = program_again i ((fits_iff_word i).1 (word, small, means));
  meant = (i, [], refl, means, refl);
  plain = (plain_of word i (meaning_of word i means) plain, tt);
  small = All-cons IsSmall word [] small (All-nil IsSmall);
}

-- the same of a text that was empty before
pub program_after : (old new : List ℕ) (i : Instr) → new ≡ old ++ text_of i → Fits i → old ≡ [] → IsProgram new (i ∷ [])
program_after [] new i written fits empty = subst (λ (text : List ℕ). IsProgram text (i ∷ [])) (sym written) (program_again i fits)
program_after (x ∷ old) new i written fits empty = absurd cc

-- ---- what is refused

pub refused_without_program : (text : List ℕ) → IsErr (assembled text) ↔ ((instrs : List Instr) → ¬ IsProgram text instrs)
refused_without_program text =
    refused_without (assembled text) (IsProgram text)
    (λ answers e. let made = program_found text answers e in (made.instrs, made.is))
    (λ instrs is. (map some_instr instrs, program_only text instrs is))
