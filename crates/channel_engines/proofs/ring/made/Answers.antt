use Rattle.std.proofs.Common.{ℕ, Bool, List, Result, Err, refl}
use Rattle.std.specs.Global.{Global, Vec}
use Rattle.std.specs.declared.string.String.{String}
use Rattle.drawn_runs.specs.Samples.{runs_of}
use Rattle.engine_support.specs.declared.fault.Fault.{Fault}
use Rattle.engine_support.specs.declared.fault.Role.TheVariants.{Sender, Receiver}
use Rattle.engine_support.specs.{read, text_and_value}
use Rattle.engine_support.proofs.InputLaws.{read_after, refused_after}
use Rattle.channel_engines.specs.Lists.{list_texts}
use Rattle.channel_engines.specs.UserChannels.{programs}
use Rattle.channel_engines.proofs.OneRing.{not_drawn}
use Rattle.channel_engines.proofs.ring.made.Goals as goal

abbrev code_of : Vec ℕ → List ℕ
code_of code = code.items

pub returns-in_err-sender-clause-made : goal.returns-in_err-sender-clause-made
returns-in_err-sender-clause-made g c =
    refused_after (programs Sender) _ _ code_of text_and_value c.from_residual.result c.in_err-sender.field-0.0
    c.from_residual.ensures.1 c.in_err-sender.ensures.program

pub returns-in_err-receiver-clause-made : goal.returns-in_err-receiver-clause-made
returns-in_err-receiver-clause-made g c =
    read_after (programs Sender) _ _ text_and_value c.from_residual-in_err-receiver.result c.in_ok-sender.sender.items c.in_ok-sender.ensures.program
    (refused_after (programs Receiver) _ _ code_of text_and_value c.from_residual-in_err-receiver.result c.in_err-receiver.field-0.0
    c.from_residual-in_err-receiver.ensures.1 c.in_err-receiver.ensures.program)

pub returns-in_err-lists-clause-made : goal.returns-in_err-lists-clause-made
returns-in_err-lists-clause-made g c =
    let result = c.from_residual-in_err-lists.result in
    read_after (programs Sender) _ _ text_and_value result c.in_ok-sender.sender.items c.in_ok-sender.ensures.program
    (read_after (programs Receiver) _ _ text_and_value result c.in_ok-receiver.receiver.items c.in_ok-receiver.ensures.program
    (refused_after list_texts _ _ (λ (ls : List (List ℕ)). ls) text_and_value result c.in_err-lists.field-0.0
    c.from_residual-in_err-lists.ensures.1 c.in_err-lists.ensures))

pub returns-in-Ok-clause-made : goal.returns-in-Ok-clause-made
returns-in-Ok-clause-made g c =
    read c.in_ok-sender.sender.items _ c.in_ok-sender.ensures.program (read c.in_ok-receiver.receiver.items _ c.in_ok-receiver.ensures.program
    (read _ _ c.in_ok-lists.ensures (record {
      within = c.in-Ok.ensures.accepted;
      channel = record { sender = c.in_ok-sender.sender; receiver = c.in_ok-receiver.receiver; lists = c.in_ok-lists.lists; place = c.args.place };
      is_channel = record { sends_are = refl; receives_are = refl; lists_are = refl; lies = refl };
      output = c.in-Ok.ensures.output;
    })))

pub returns-clause-made : goal.returns-clause-made
returns-clause-made g c =
    let failed : Result (String Global × Bool) Fault = Err c.channel_fault.result in
    read_after (programs Sender) _ _ text_and_value failed c.in_ok-sender.sender.items c.in_ok-sender.ensures.program
    (read_after (programs Receiver) _ _ text_and_value failed c.in_ok-receiver.receiver.items c.in_ok-receiver.ensures.program
    (read_after list_texts _ _ text_and_value failed _ c.in_ok-lists.ensures
    (not_drawn (runs_of g.row.B g.row.M g.G.Rng.stream c.args.sample.now) c.args.place _ _ _ text_and_value c.in-Err.why
    c.channel_fault.result c.channel_fault.ensures c.in-Err.ensures.refused)))
