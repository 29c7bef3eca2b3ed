use Rattle.std.specs.Prelude.{codes}
use Rattle.std.specs.Fmt.{decimal}
use Rattle.std.specs.String.{string_bytes}
use Rattle.callers.specs.Answers.{send_name, receive_name}
use Rattle.callers.proofs.Judged.{five_written}
use Rattle.callers.proofs.answer_texts.push_violation.Goals as goal

pub returns-in-NoSend : goal.returns-in-NoSend
returns-in-NoSend c =
    rw c.in-NoSend.is (
    five_written c.write-in-NoSend.result (string_bytes c.args.out.now) (string_bytes c.write-in-NoSend.new.self)
    (codes "hart ") (decimal c.in-NoSend.hart) (codes " has no ") (send_name c.in-NoSend.kind) (codes " in its code")
    (rw c.send_name.ensures at c.write-in-NoSend.ensures.bytes))

pub returns-in-NoReceive : goal.returns-in-NoReceive
returns-in-NoReceive c =
    rw c.in-NoReceive.is (
    five_written c.write-in-NoReceive.result (string_bytes c.args.out.now) (string_bytes c.write-in-NoReceive.new.self)
    (codes "hart ") (decimal c.in-NoReceive.hart) (codes " has no ") (receive_name c.in-NoReceive.kind) (codes " in its code")
    (rw c.receive_name.ensures at c.write-in-NoReceive.ensures.bytes))

pub returns-in-NoOffset : goal.returns-in-NoOffset
returns-in-NoOffset c =
    rw c.in-NoOffset.is (
    five_written c.write-in-NoOffset.result (string_bytes c.args.out.now) (string_bytes c.write-in-NoOffset.new.self)
    (codes "the index at ") (decimal c.in-NoOffset.address) (codes " opens as ") (decimal c.in-NoOffset.word) (codes ", not as the offset of a slot")
    c.write-in-NoOffset.ensures.bytes)

pub returns-in-NoCopy : goal.returns-in-NoCopy
returns-in-NoCopy c =
    rw c.in-NoCopy.is (
    five_written c.write-in-NoCopy.result (string_bytes c.args.out.now) (string_bytes c.write-in-NoCopy.new.self)
    (codes "the copy of the tail at ") (decimal c.in-NoCopy.address) (codes " opens as ") (decimal c.in-NoCopy.word)
    (codes ", not as an offset that the tail can have had") c.write-in-NoCopy.ensures.bytes)
