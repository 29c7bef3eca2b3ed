use Rattle.std.specs.Prelude.{codes}
use Rattle.std.specs.Fmt.{decimal}
use Rattle.std.specs.String.{string_bytes}
use Rattle.ring_trials.proofs.TextLaws.{three_written, five_written, seven_written}
use Rattle.ring_trials.proofs.answer_texts.push_violation.Goals as goal

pub returns-in-AfterClosed : goal.returns-in-AfterClosed
returns-in-AfterClosed c =
    rw c.in-AfterClosed.is (
    five_written c.write-in-AfterClosed.result (string_bytes c.args.out.now) (string_bytes c.write-in-AfterClosed.new.self)
    (codes "sender ") (decimal c.in-AfterClosed.sender) (codes ": took ") (decimal c.in-AfterClosed.word)
    (codes " after it was closed") c.write-in-AfterClosed.ensures.bytes)

pub returns-in-ClosedEarly : goal.returns-in-ClosedEarly
returns-in-ClosedEarly c =
    rw c.in-ClosedEarly.is (
    seven_written c.write-in-ClosedEarly.result (string_bytes c.args.out.now) (string_bytes c.write-in-ClosedEarly.new.self)
    (codes "sender ") (decimal c.in-ClosedEarly.sender) (codes ": closed after ") (decimal c.in-ClosedEarly.taken)
    (codes " of ") (decimal c.in-ClosedEarly.all) (codes " words") c.write-in-ClosedEarly.ensures.bytes)

pub returns-in-ClosedAgain : goal.returns-in-ClosedAgain
returns-in-ClosedAgain c =
    rw c.in-ClosedAgain.is (
    three_written c.write-in-ClosedAgain.result (string_bytes c.args.out.now) (string_bytes c.write-in-ClosedAgain.new.self)
    (codes "sender ") (decimal c.in-ClosedAgain.sender) (codes ": closed after it was closed") c.write-in-ClosedAgain.ensures.bytes)

pub returns-in-ClosedNone : goal.returns-in-ClosedNone
returns-in-ClosedNone c =
    rw c.in-ClosedNone.is (
    three_written c.write-in-ClosedNone.result (string_bytes c.args.out.now) (string_bytes c.write-in-ClosedNone.new.self)
    (codes "sender ") (decimal c.in-ClosedNone.sender) (codes ": closed but there is no such sender") c.write-in-ClosedNone.ensures.bytes)
