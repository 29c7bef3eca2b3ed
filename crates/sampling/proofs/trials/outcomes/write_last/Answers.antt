use Rattle.std.proofs.Common.{List, ℕ, [], ◌∷◌, ◌++◌, ◌∙◌, append_assoc, subst}
use Rattle.std.specs.Prelude.{OnOk, codes}
use Rattle.std.specs.Fmt.{decimal}
use Rattle.std.specs.Io.KnownBytes.{Appends}
use Rattle.engine_support.proofs.Written.{appends_more, ends_written}
use Rattle.sampling.specs.{shown_by, left_name}
use Rattle.sampling.proofs.trials.outcomes.write_last.Goals as goal

pub returns : goal.returns
returns g c =
    let start = g.W.Write.contents c.args.writer.now in
    let word = codes "unfinished " in
    let number = decimal c.args.count in
    let end = shown_by c.args.left (left_name g.F.FirstRun.name c.args.first) in
    let counted : Appends start (g.W.Write.contents c.write.new.self) (word ++ number) = c.in_ok-write.ensures.bytes in
    let ended = appends_more start _ _ (word ++ number) end counted c.in_ok-write_left.ensures in
    subst (λ (xs : List ℕ). OnOk c.write_all.result (Appends start (g.W.Write.contents c.write_all.new.self) xs))
    (append_assoc (word ++ number) end (10 ∷ []) ∙ append_assoc word number (end ++ 10 ∷ []))
    (ends_written c.write_all.result start _ _ (word ++ number ++ end) (10 ∷ []) ended c.write_all.ensures.bytes)
