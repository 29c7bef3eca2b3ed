use Rattle.std.proofs.Common.{◌≡◌, ◌⊎◌, ℕ, List, [], Ok, Option, MutBor, subst}
use Rattle.std.specs.Io.KnownBytes.{Appends}
use Rattle.debugger.specs.Transcripts.{EndsInteractive, IsDebugAnswer, IsDebugFront, IsDebugSome, OnStopped, OnUnwritten}
use Rattle.ztso.proofs.Buffered.{remaining_of}
use Rattle.ztso.proofs.work.debug.Goals as goal

pub returns-clause-ends : goal.returns-clause-ends
returns-clause-ends g c =
    let same = remaining_of (λ (r : MutBor g.row.C.Denot). g.C.Read.remaining r.now) c.in-Ok.commands _
    c.in-Ok.ensures.inner c.in-Ok.ensures.empty c.in-Ok.ensures.capacity in
    subst
    (λ (known : Option (List ℕ)). EndsInteractive
    (IsDebugAnswer g.row.B 4096 known (g.F.Read.remaining c.args.file.now) (g.S.Read.remaining c.args.schedule.now))
    c.debug_engine-ended.result g.W.Write.contents c.args.writer.now c.debug_engine-ended.new.writer)
    same c.debug_engine-ended.ensures.ends

pub returns-clause-left : goal.returns-clause-left
returns-clause-left g c =
    let same = remaining_of (λ (r : MutBor g.row.C.Denot). g.C.Read.remaining r.now) c.in-Ok.commands _
    c.in-Ok.ensures.inner c.in-Ok.ensures.empty c.in-Ok.ensures.capacity in
    subst
    (λ (known : Option (List ℕ)). OnStopped c.debug_engine-ended.result ((out : List ℕ)
    × Appends (g.W.Write.contents c.args.writer.now) (g.W.Write.contents c.debug_engine-ended.new.writer) out
    × ((out ≡ []) ⊎ IsDebugFront g.row.B 4096 known (g.F.Read.remaining c.args.file.now) (g.S.Read.remaining c.args.schedule.now) (Ok (out, tt)))))
    same c.debug_engine-ended.ensures.left

pub returns-clause-unwritten : goal.returns-clause-unwritten
returns-clause-unwritten g c =
    let same = remaining_of (λ (r : MutBor g.row.C.Denot). g.C.Read.remaining r.now) c.in-Ok.commands _
    c.in-Ok.ensures.inner c.in-Ok.ensures.empty c.in-Ok.ensures.capacity in
    subst
    (λ (known : Option (List ℕ)). OnUnwritten c.debug_engine-ended.result ((out : List ℕ)
    × IsDebugSome g.row.B 4096 known (g.F.Read.remaining c.args.file.now) (g.S.Read.remaining c.args.schedule.now) (Ok (out, tt))))
    same c.debug_engine-ended.ensures.unwritten
