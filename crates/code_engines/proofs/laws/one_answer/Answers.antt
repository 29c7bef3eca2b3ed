use Rattle.std.proofs.Common.{arith, ◌≡◌, ℕ, List, Some, Result, sym, ◌∙◌}
use Rattle.std.specs.List.{flat_map}
use Rattle.step_machine.proofs.Running.{run-one}
use Rattle.assembler.specs.{assembled, asm_number, IsCode}
use Rattle.assembler.proofs.OneCode as assembly
use Rattle.engine_support.specs.declared.fault.Refusal.{Refusal}
use Rattle.engine_support.specs.{Output, refused_at}
use Rattle.engine_support.proofs.{IsOne, is_one, is_one_without, one_after, one_made, same_output}
use Rattle.code_engines.proofs.laws.one_answer.Goals as goal
use Rattle.code_engines.specs.Asm.{IsAsmAnswer, asm_at, assembly_texts, hex_line}
use Rattle.code_engines.specs.ScriptValue.{ScriptValue}
use Rattle.code_engines.specs.StepsText.{Describes}
use Rattle.code_engines.specs.StepsReading.{script_at}
use Rattle.code_engines.specs.Steps.{IsStateText, IsStepsAnswer, steps_texts}
use Rattle.code_engines.specs.Dis.{SaysCode, code_texts, dis_at, instr_line, IsDisAnswer}
use Rattle.code_engines.proofs.Describing.{text_read, one_script}
use Rattle.code_engines.proofs.CodeTexts.{code_read, one_code}

-- What answers `steps`, `dis` and `asm` is one answer.

one_state : (B M : ℕ) (script : ScriptValue) (a b : Output) → IsStateText B M script a.0 → IsStateText B M script b.0 → a ≡ b
one_state B M script a b is other = grind (arith, same_output, run-one)

pub one_steps : (B M : ℕ) (input : List ℕ) (a b : Result Output Refusal) → IsStepsAnswer B M (Some input) a → IsStepsAnswer B M (Some input) b → a ≡ b
one_steps B M input = one_after (steps_texts M) (is_one (Describes M) (script_at M) (one_script M) (text_read M)) input _
    (λ script. one_made (λ answer. IsStateText B M script answer.0) (one_state B M script))

-- outputs of one text
one_lines : (text : List ℕ) (a b : Output) → a.0 ≡ text → b.0 ≡ text → a ≡ b
one_lines text a b is other = same_output a b (is ∙ sym other)

pub one_dis : (input : List ℕ) (a b : Result Output Refusal) → IsDisAnswer (Some input) a → IsDisAnswer (Some input) b → a ≡ b
one_dis input = one_after code_texts (is_one SaysCode dis_at one_code code_read) input _
    (λ code. one_made (λ answer. answer.0 ≡ flat_map instr_line code) (one_lines (flat_map instr_line code)))

-- an assembly text has one code, or is refused where it says none
one_assembly_text : IsOne assembly_texts (λ r s. r ≡ s)
unfolding asm_at
one_assembly_text = is_one_without IsCode (refused_at asm_number) assembled assembly.one_code
    (λ text refused words is. (assembly.refused_without_program text).0 refused is.instrs is.program)

pub one_asm : (input : List ℕ) (a b : Result Output Refusal) → IsAsmAnswer (Some input) a → IsAsmAnswer (Some input) b → a ≡ b
one_asm input = one_after assembly_texts one_assembly_text input _
    (λ words. one_made (λ answer. answer.0 ≡ flat_map hex_line words) (one_lines (flat_map hex_line words)))

pub returns-clause-steps : goal.returns-clause-steps
returns-clause-steps c = one_steps

pub returns-clause-asm : goal.returns-clause-asm
returns-clause-asm c = one_asm

pub returns-clause-dis : goal.returns-clause-dis
returns-clause-dis c = one_dis
