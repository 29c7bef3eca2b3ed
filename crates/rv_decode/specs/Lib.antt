pub mod Word
pub mod Means
pub mod Meaning
pub mod Fits
pub mod Registers
pub mod Listings
pub use Rattle.rv_decode.specs.Word.{IsWord, field, funct3_of, funct7_of, imm_b, imm_i, imm_j, imm_s, imm_u, opcode_of, rd_of, rs1_of, rs2_of}
pub use Rattle.rv_decode.specs.Means.{Rd, Rs1, Rs2, amo_funct5, bit_of, branch_funct3, immediate_funct3, load_funct3, register_funct3, register_funct7}
pub use Rattle.rv_decode.specs.Means.{shift_funct3, shift_funct7, store_funct3}
pub use Rattle.rv_decode.specs.Meaning.{amos, auipc, branches, ebreak, ecall, fence, fence_tso, first, immediates, jal, jalr, loads, lui, reg_of, registers}
pub use Rattle.rv_decode.specs.Meaning.{rows, shifts, stores}
unfoldable pub use Rattle.rv_decode.specs.Meaning.{meaning}
pub use Rattle.rv_decode.specs.Fits.{IsEven, IsPlainWord, IsSigned}
pub use Rattle.rv_decode.specs.Registers.{register_names, row_of}
unfoldable pub use Rattle.rv_decode.specs.Registers.{register_named}
pub use Rattle.rv_decode.specs.Listings.{lines_of, words_of}
pub use Rattle.rv_decode.specs.declared.instruction.AmoOp.{AmoOp}
pub use Rattle.rv_decode.specs.declared.instruction.BranchOp.{BranchOp}
pub use Rattle.rv_decode.specs.declared.instruction.ImmediateOp.{ImmediateOp}
pub use Rattle.rv_decode.specs.declared.instruction.Instr.{Instr}
pub use Rattle.rv_decode.specs.declared.instruction.Instr.TheVariants.{Amo, Auipc, Branch, Ebreak, Ecall, Fence, FenceTso, Immediate, Jal, Jalr, Load, Lui}
pub use Rattle.rv_decode.specs.declared.instruction.Instr.TheVariants.{Register, Shift, Store}
pub use Rattle.rv_decode.specs.declared.instruction.LoadOp.{LoadOp}
pub use Rattle.rv_decode.specs.declared.instruction.Reg.{Reg, below_32-type}
pub use Rattle.rv_decode.specs.declared.instruction.RegisterOp.{RegisterOp}
pub use Rattle.rv_decode.specs.declared.instruction.ShiftOp.{ShiftOp}
pub use Rattle.rv_decode.specs.declared.instruction.StoreOp.{StoreOp}
