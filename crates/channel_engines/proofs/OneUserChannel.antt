-- Inputs that are a user's own programs. What answers `channel own` is one answer.
use Rattle.std.proofs.Common.{arith, ◌≡◌, ℕ, ◌≤◌, List, [], ◌∷◌, length, sym, ap, Result, Ok, Err, ◌∙◌}
use Rattle.rv_decode.specs.declared.instruction.Instr.{Instr}
use Rattle.assembler.specs.{assembled, AreWordsOf, IsCode, IsProgram}
use Rattle.assembler.proofs.OneCode.{one_code, refused_without_program}
use Rattle.litmus_reader.proofs.TableLaws.{lines_size}
use Rattle.engine_support.specs.declared.fault.Role.{Role}
use Rattle.engine_support.proofs.{IsOne, is_one_without, one_after, one_schedule, same_output, one_run}
use Rattle.channel_engines.specs.UserChannels.{program_at, programs, refused_in, IsUserAnswer, IsUserDelivery, IsUserRun, ring_over}
use Rattle.std.specs.Prelude.{Some}
use Rattle.std.specs.List.{flat_map}
use Rattle.step_machine.specs.Names.{reported, History}
use Rattle.recorder.specs.Versions.{ScheduleValue}
use Rattle.poll_close.specs.Laws.{Ring, opening_over}
use Rattle.poll_close.specs.Layout.{Layout}
use Rattle.engine_support.specs.declared.fault.Refusal.{Refusal}
use Rattle.engine_support.specs.declared.fault.Role.TheVariants.{Sender, Receiver}
use Rattle.engine_support.specs.{Output, schedules}
use Rattle.channel_engines.specs.Channels.{report_line}
use Rattle.channel_engines.specs.Lists.{list_texts}
use Rattle.channel_engines.proofs.ListTexts.{one_list_text}
use Rattle.channel_engines.proofs.OneChannel.{one_reason, ran_or_reason}

words-count : (words : List ℕ) (instrs : List Instr) → AreWordsOf words instrs → length words ≡ length instrs
words-count [] instrs is = ap length (sym is)
words-count (word ∷ words) instrs (i, rest, is, means, others) = omega (arith, ap length is, words-count words rest others)

-- a program has room in a hart
pub program_short : (text words : List ℕ) (instrs : List Instr) → IsProgram text instrs → AreWordsOf words instrs → length words ≤ 4096
program_short text words instrs is meant =
    omega (arith, words-count words instrs meant, lines_size is.all 0 is.all instrs is.made.placed, is.made.few)

-- an input is one program, or is refused where it says none
pub one_program : (role : Role) → IsOne (programs role) (λ r s. r ≡ s)
unfolding program_at
one_program role = is_one_without IsCode (refused_in role) assembled one_code
    (λ text refused words is. (refused_without_program text).0 refused is.instrs is.program)

one_delivery : (ring : Ring) (B M : ℕ) (l : Layout) (parsed : ScheduleValue) (lists : List (List ℕ)) (a b : Output)
    → IsUserDelivery ring B M l parsed lists a → IsUserDelivery ring B M l parsed lists b → a ≡ b
one_delivery ring B M l parsed lists a b is other =
    let first = is.is_reported in
    let second = other.is_reported in
    let ends : Ok first.history ≡ Ok second.history =
    one_run B M (opening_over ring lists l) parsed (Ok first.history) (Ok second.history) first.ran second.ran in
    let histories : first.history ≡ second.history = cc in
    same_output a b (is.text
    ∙ ap (flat_map report_line) (first.reports_are ∙ ap (λ (h : History). reported 0 h.entries) histories ∙ sym second.reports_are) ∙ sym other.text)

one_own_run : (ring : Ring) (B M : ℕ) (l : Layout) (parsed : ScheduleValue) (ls : List (List ℕ)) (a b : Result Output Refusal)
    → IsUserRun ring B M l parsed ls a → IsUserRun ring B M l parsed ls b → a ≡ b
one_own_run ring B M l parsed ls (Ok a) (Ok b) is other = ap (λ (x : Output). Ok x) (one_delivery ring B M l parsed ls a b is other)
one_own_run ring B M l parsed ls (Ok a) (Err s) is none =
    let ran = is.is_reported in absurd (ran_or_reason ring B M l parsed ls ran.history s ran.within ran.ran none)
one_own_run ring B M l parsed ls (Err r) (Ok b) none is =
    let ran = is.is_reported in absurd (ran_or_reason ring B M l parsed ls ran.history r ran.within ran.ran none)
one_own_run ring B M l parsed ls (Err r) (Err s) none other = ap (λ (x : Refusal). Err x) (one_reason ring B M l parsed ls r s none other)

pub one_user_answer : (B M : ℕ) (l : Layout) (sender receiver schedule input : List ℕ) (a b : Result Output Refusal)
    → IsUserAnswer B M l (Some sender) (Some receiver) (Some schedule) (Some input) a
    → IsUserAnswer B M l (Some sender) (Some receiver) (Some schedule) (Some input) b → a ≡ b
one_user_answer B M l sender receiver schedule input =
    one_after (programs Sender) (one_program Sender) sender _ (λ sends. one_after (programs Receiver) (one_program Receiver) receiver _
    (λ receives. one_after schedules one_schedule schedule _ (λ parsed. one_after list_texts one_list_text input _
    (λ ls. one_own_run (ring_over sends receives) B M l parsed ls))))
