-- What puts a number in a register.
use Rattle.std.specs.Prelude.{◌≡◌, ℕ, ◌*◌, ◌^◌, ◌<◌, ◌⊎◌, ℤ, pos, ◌+ℤ◌}
use Rattle.rv_decode.specs.Fits.{IsSigned}
use Rattle.rv_decode.specs.Meaning.{reg_of}
use Rattle.rv_decode.specs.declared.instruction.Reg.{Reg}
use Rattle.rv_decode.specs.declared.instruction.ImmediateOp.TheVariants as immediate
use Rattle.rv_decode.specs.declared.instruction.Instr.TheVariants as instr
use Rattle.assembler.specs.Statements.{Made, one, two}

-- the same word of 32 bits: equal, or 2^32 apart
abbrev pub IsSameWord : ℤ → ℤ → Type 0
IsSameWord a b = (a ≡ b) ⊎ ((a ≡ b +ℤ pos (2 ^ 32)) ⊎ (b ≡ a +ℤ pos (2 ^ 32)))

-- `addi` from x0, `lui`, or `lui` and `addi` of what is left: together they make the number's word
pub data Puts (rd : Reg) (n : ℤ) : Made → Type 0 where
  short : (low : ℤ) → IsSigned 11 low → IsSameWord n low → Puts rd n (one (instr.Immediate immediate.Add rd (reg_of 0) low))
  upper : (high : ℕ) → high < 2 ^ 20 → IsSameWord n (pos (4096 * high)) → Puts rd n (one (instr.Lui rd high))
  both : (high : ℕ) (low : ℤ) → high < 2 ^ 20 → IsSigned 11 low → IsSameWord n (pos (4096 * high) +ℤ low)
      → Puts rd n (two (instr.Lui rd high) (instr.Immediate immediate.Add rd rd low))
