pub mod Mnemonics
pub mod Sets
pub mod Operands
pub mod Statements
pub mod Lines
pub mod Drafts
pub mod Kept
pub mod Writing
pub mod Spelled
pub mod Grammar
pub mod Program
pub mod Loading
pub use Rattle.assembler.specs.Mnemonics.{mnemonics}
unfoldable pub use Rattle.assembler.specs.Mnemonics.{form_named}
pub use Rattle.assembler.specs.Sets.{set_names}
unfoldable pub use Rattle.assembler.specs.Sets.{set_named}
pub use Rattle.assembler.specs.Operands.{IsInReach, OperandKind, OperandValue, Target, address, amount, begins_label_name, bytes, closed, far}
pub use Rattle.assembler.specs.Operands.{goes_on_label_name, in_parentheses, in_range, in_reach, is_label_name, is_reached, known_register, known_set, label}
pub use Rattle.assembler.specs.Operands.{natural_in, near, number_in, or_zero, pointer, register, set, value_in, word}
pub use Rattle.assembler.specs.Statements.{Made, Maker, branch, high_of, is_short, jump, loaded, low_of, one, read_operands, statement_of, two, wrapped}
unfoldable pub use Rattle.assembler.specs.Statements.{operand_row}
pub use Rattle.assembler.specs.Lines.{between_commas, code_of, is_pair, label_and_rest, made_for, operands_of, parts_of, some_text}
unfoldable pub use Rattle.assembler.specs.Lines.{label_of, made_in, statement_text}
pub use Rattle.assembler.specs.Drafts.{AllFit, AllPlain, Fitting, IsPlain, Line, Refusal, all_drafted, all_placed, asm_number, distance, in_bytes, is_label}
pub use Rattle.assembler.specs.Drafts.{is_twice, line_over, onto, place_from, placed_statement, refused_at_line, size_of, word_count}
unfoldable pub use Rattle.assembler.specs.Drafts.{all_instructions, assembled, drafted, label_place, line_below}
pub use Rattle.assembler.specs.Kept.{AreKeptLines, kept_line, place_in}
pub use Rattle.assembler.specs.Writing.{address_text, amo_name, branch_name, immediate_name, load_name, order_name, register_name, register_text, set_text}
pub use Rattle.assembler.specs.Writing.{shift_name, store_name, with_three, with_two}
unfoldable pub use Rattle.assembler.specs.Writing.{text_of}
pub use Rattle.assembler.specs.Spelled.{a_label, a_register, a_set, address_from, an_operand, base, based, displacement, natural_to, number_from, operands_in}
pub use Rattle.assembler.specs.Spelled.{reached, target_within, within}
pub use Rattle.assembler.specs.Grammar.{AreSpelled, HasNoLabel, IsBody, IsLine, IsStatement, IsUncommented, Makes}
pub use Rattle.assembler.specs.Grammar.IsLine.{code, commented}
pub use Rattle.assembler.specs.Grammar.IsStatement.{alone, applied}
pub use Rattle.assembler.specs.Grammar.IsUncommented.{bare, labelled}
pub use Rattle.assembler.specs.Program.{AreApart, AreInstrs, AreLines, ArePlaced, AreWordsOf, Defines, EachOnce, IsCode, IsFresh, IsPlaced, IsProgram}
pub use Rattle.assembler.specs.Loading.{IsSameWord, Puts}
pub use Rattle.assembler.specs.declared.faults.AsmFault.{AsmFault}
pub use Rattle.assembler.specs.declared.faults.AsmFault.TheVariants.{LabelTwice, TooLong}
pub use Rattle.assembler.specs.declared.form.Form.{Form}
pub use Rattle.assembler.specs.declared.form.Form.TheVariants.{Ebreak, Ecall, Fence, FenceTso, Jalr}
pub use Rattle.assembler.specs.declared.kept.KeptLine.{KeptLine}
