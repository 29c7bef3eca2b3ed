use Rattle.std.proofs.Common.{refl}
use Rattle.debugger.proofs.FirstLines.{asks_end, asks_line}
use Rattle.debugger.proofs.debug.conversation.next_asked.Goals as goal

pub returns-clause-asks : goal.returns-clause-asks
returns-clause-asks g c =
    (asks_end (g.C.Read.remaining c.args.commands.now) (g.C.Read.remaining c.read_command.new.commands) c.in_ok-bytes.bytes.items c.deref.result.now
    c.in_ok-bytes.ensures.bytes c.in_ok-bytes.ensures.rest c.deref.ensures.value (c.in-None.ensures.none.0 refl)).0

pub returns-clause-takes : goal.returns-clause-takes
returns-clause-takes g c =
    (asks_end (g.C.Read.remaining c.args.commands.now) (g.C.Read.remaining c.read_command.new.commands) c.in_ok-bytes.bytes.items c.deref.result.now
    c.in_ok-bytes.ensures.bytes c.in_ok-bytes.ensures.rest c.deref.ensures.value (c.in-None.ensures.none.0 refl)).1

pub returns-in-Some-clause-asks : goal.returns-in-Some-clause-asks
returns-in-Some-clause-asks g c =
    (asks_line (g.C.Read.remaining c.args.commands.now) (g.C.Read.remaining c.read_command.new.commands)
    c.in_ok-bytes.bytes.items c.deref.result.now c.in-Some.line.now _
    c.command_of.result c.in_ok-bytes.ensures.bytes c.in_ok-bytes.ensures.rest c.deref.ensures.value c.in-Some.ensures.line c.command_of.ensures).0

pub returns-in-Some-clause-takes : goal.returns-in-Some-clause-takes
returns-in-Some-clause-takes g c =
    (asks_line (g.C.Read.remaining c.args.commands.now) (g.C.Read.remaining c.read_command.new.commands)
    c.in_ok-bytes.bytes.items c.deref.result.now c.in-Some.line.now _
    c.command_of.result c.in_ok-bytes.ensures.bytes c.in_ok-bytes.ensures.rest c.deref.ensures.value c.in-Some.ensures.line c.command_of.ensures).1
