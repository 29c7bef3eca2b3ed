-- The mnemonics of instructions are found again.
use Rattle.std.proofs.Common.{arith, ◌≡◌, ℕ, Bool, true, not, ◌&&◌, List, ◌++◌, length, Some}
use Rattle.std.specs.Prelude.{nat_lt}
use Rattle.std.specs.List.{list_all}
use Rattle.rv_decode.specs.declared.instruction.BranchOp.{BranchOp}
use Rattle.rv_decode.specs.declared.instruction.LoadOp.{LoadOp}
use Rattle.rv_decode.specs.declared.instruction.StoreOp.{StoreOp}
use Rattle.rv_decode.specs.declared.instruction.ImmediateOp.{ImmediateOp}
use Rattle.rv_decode.specs.declared.instruction.ShiftOp.{ShiftOp}
use Rattle.rv_decode.specs.declared.instruction.RegisterOp.{RegisterOp}
use Rattle.rv_decode.specs.declared.instruction.AmoOp.{AmoOp}
use Rattle.assembler.specs.{Form, form_named, branch_name, load_name, store_name, immediate_name, shift_name, register_name, amo_name, order_name}
use Rattle.assembler.specs.declared.form.Form.TheVariants as form
use Rattle.assembler.proofs.Commas.{parts_line}

abbrev pub is_word : List ℕ → Bool
is_word xs = nat_lt 0 (length xs) && list_all (λ c. not (parts_line c)) xs

abbrev pub IsNameOf : List ℕ → Form → Type 0
IsNameOf name f = (is_word name ≡ true) × (form_named name ≡ Some f)

pub branch_named : (op : BranchOp) → IsNameOf (branch_name op) (form.Branch op)
unfolding form_named
branch_named op = grind arith

pub load_named : (op : LoadOp) → IsNameOf (load_name op) (form.Load op)
unfolding form_named
load_named op = grind arith

pub store_named : (op : StoreOp) → IsNameOf (store_name op) (form.Store op)
unfolding form_named
store_named op = grind arith

pub immediate_named : (op : ImmediateOp) → IsNameOf (immediate_name op) (form.Immediate op)
unfolding form_named
immediate_named op = grind arith

pub shift_named : (op : ShiftOp) → IsNameOf (shift_name op) (form.Shift op)
unfolding form_named
shift_named op = grind arith

pub register_named : (op : RegisterOp) → IsNameOf (register_name op) (form.Register op)
unfolding form_named
register_named op = grind arith

pub amo_named : (op : AmoOp) (aq rl : Bool) → IsNameOf (amo_name op ++ order_name aq rl) (form.Amo op aq rl)
unfolding form_named
amo_named op aq rl = grind arith
