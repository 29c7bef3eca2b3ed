use Rattle.std.proofs.Common.{ℕ, List, ◌++◌, subst, sym, append_assoc, rules}
use Rattle.std.specs.Prelude.{OnOk, codes}
use Rattle.std.specs.Fmt.{decimal}
use Rattle.std.specs.Io.KnownBytes.{Appends}
use Rattle.engine_support.specs.Outcomes.{place_text}
use Rattle.engine_support.proofs.Written.{appends_more, ends_written}
use Rattle.engine_support.proofs.outcomes.write_value.Goals as goal

pub returns : goal.returns
returns g c =
    let front = codes " " ++ place_text c.args.test.now.names c.args.place in
    let number = decimal c.args.value in
    let said : OnOk c.write.result
    (Appends (g.W.Write.contents c.write_place.new.writer) (g.W.Write.contents c.write.new.self)
    (codes "=" ++ number)) =
    search rules in
    subst (λ (xs : List ℕ). OnOk c.write.result (Appends (g.W.Write.contents c.args.writer.now) (g.W.Write.contents c.write.new.self) xs))
    (sym (append_assoc front (codes "=") number))
    (ends_written c.write.result _ _ _ front (codes "=" ++ number)
    (appends_more _ _ _ (codes " ") _ c.in_ok-write_all.ensures.bytes c.in_ok-write_place.ensures) said)
