use Rattle.std.proofs.Common.{◌≡◌, ◌⊎◌, ℕ, List, [], Ok, Option, MutBor, subst}
use Rattle.std.specs.Io.KnownBytes.{Appends}
use Rattle.engine_support.specs.Interactive.{EndsInteractive, OnStopped, OnUnwritten}
use Rattle.checking.specs.Checking.{IsCheckAnswer, IsCheckFront}
use Rattle.ztso.proofs.Buffered.{remaining_of}
use Rattle.ztso.proofs.work.check.Goals as goal

pub returns-clause-ends : goal.returns-clause-ends
returns-clause-ends g c =
    let same = remaining_of (λ (r : MutBor g.row.S.Denot). g.S.Read.remaining r.now) c.in-Ok.records _
    c.in-Ok.ensures.inner c.in-Ok.ensures.empty c.in-Ok.ensures.capacity in
    subst
    (λ (known : Option (List ℕ)). EndsInteractive (IsCheckAnswer g.row.B 4096 known (g.F.Read.remaining c.args.file.now))
    c.check_engine-ended.result g.W.Write.contents c.args.writer.now c.check_engine-ended.new.writer)
    same c.check_engine-ended.ensures.ends

pub returns-clause-left : goal.returns-clause-left
returns-clause-left g c =
    let same = remaining_of (λ (r : MutBor g.row.S.Denot). g.S.Read.remaining r.now) c.in-Ok.records _
    c.in-Ok.ensures.inner c.in-Ok.ensures.empty c.in-Ok.ensures.capacity in
    subst
    (λ (known : Option (List ℕ)). OnStopped c.check_engine-ended.result ((out : List ℕ)
    × Appends (g.W.Write.contents c.args.writer.now) (g.W.Write.contents c.check_engine-ended.new.writer) out
    × ((out ≡ []) ⊎ IsCheckFront g.row.B 4096 known (g.F.Read.remaining c.args.file.now) (Ok out))))
    same c.check_engine-ended.ensures.left

pub returns-clause-unwritten : goal.returns-clause-unwritten
returns-clause-unwritten g c =
    let same = remaining_of (λ (r : MutBor g.row.S.Denot). g.S.Read.remaining r.now) c.in-Ok.records _
    c.in-Ok.ensures.inner c.in-Ok.ensures.empty c.in-Ok.ensures.capacity in
    subst
    (λ (known : Option (List ℕ)). OnUnwritten c.check_engine-ended.result
    ((out : List ℕ) × IsCheckFront g.row.B 4096 known (g.F.Read.remaining c.args.file.now) (Ok out)))
    same c.check_engine-ended.ensures.unwritten
