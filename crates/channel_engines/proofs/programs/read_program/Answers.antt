use Rattle.std.proofs.Common.{◌≡◌, ℕ, map}
use Rattle.std.specs.Global.{Vec}
use Rattle.std.specs.String.{string_bytes}
use Rattle.rv_decode.specs.Meaning.{meaning}
use Rattle.assembler.specs.Program.{IsCode}
use Rattle.engine_support.proofs.{refused_no_answer, format_read}
use Rattle.channel_engines.specs.UserChannels.{program_at, programs}
use Rattle.channel_engines.proofs.OneUserChannel.{one_program}
use Rattle.channel_engines.proofs.programs.read_program.Goals as goal

pub returns-clause-program : goal.returns-clause-program
returns-clause-program g c =
    format_read IsCode (program_at c.args.role) (λ (code : Vec ℕ). code.items) (λ (code : Vec ℕ). map meaning code.items) _
    (string_bytes c.in_ok-text.text) c.code_of_program.result c.in_ok-text.ensures.text
    (rw c.deref.ensures at c.code_of_program.ensures.code) (rw c.deref.ensures at c.code_of_program.ensures.exact)

pub returns-clause-refused : goal.returns-clause-refused
returns-clause-refused g c =
    refused_no_answer (programs c.args.role) (λ r s. r ≡ s) (one_program c.args.role) _ (λ (code : Vec ℕ). code.items) c.code_of_program.result
    (returns-clause-program g c)
