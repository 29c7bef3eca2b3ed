use Rattle.std.proofs.Common.{◌≡◌, ◌≤◌, sym, ap, ◌∙◌, subst}
use Rattle.ownership_runs.specs.declared.sent.SentByte.{SentByte}
use Rattle.ownership_runs.specs.inner.Logging.{last_sent}
use Rattle.ownership_runs.proofs.Logs.{pushed, unpushed}
use Rattle.ownership_runs.proofs.sent.note.Goals as goal

pub returns-then-is_same : goal.returns-then-is_same
returns-then-is_same c =
    let first = c.args.bytes.now.first in
    let later = c.args.bytes.now.later.items in
    let last : c.last_sent-last.result ≡ last_sent first later = c.last_sent-last.ensures ∙ ap (last_sent first) c.deref.ensures.value in
    unpushed first later c.args.from c.args.byte (subst (λ (s : SentByte). s.from ≤ c.args.from) last c.if-last-from.true)
    (sym (ap (λ (s : SentByte). s.byte) last) ∙ c.is_same.ensures.same c.if-is_same.true)

pub returns : goal.returns
returns c = pushed c.args.bytes.now.first c.args.bytes.now.later.items c.push.new.self.items c.args.from c.args.byte c.in_ok-push.ensures.items
