use Rattle.std.proofs.Common.{map, arith}
use Rattle.assembler.specs.Kept.{kept_line, place_in}
use Rattle.assembler.proofs.DraftLaws.{place_within, finished-long, finished-short}
use Rattle.assembler.proofs.draft.Draft.all_words.Goals as goal

pub returns-then-self-gt-MAX_CODE-clause-exact : goal.returns-then-self-gt-MAX_CODE-clause-exact
returns-then-self-gt-MAX_CODE-clause-exact c =
    rw (c.at_line.ensures, c.first_over.ensures, c.deref.ensures.value, ← c.self.view_is)
    (finished-long (map kept_line c.self.inside.lines.items) (omega (arith, c.self.invariant.size)))

pub place_all-requires-clause-near : goal.place_all-requires-clause-near
place_all-requires-clause-near c = λ name. place_within (map kept_line c.self.inside.lines.items) name 4096
    (omega (arith, c.self.invariant.size)) _ (c.self.invariant.places name)

pub returns-clause-exact : goal.returns-clause-exact
returns-clause-exact c =
    rw (
      ← c.self.view_is,
      ← finished-short (place_in c.self.inside.places) (map kept_line c.self.inside.lines.items)
          (omega (arith, c.self.invariant.size)) c.self.invariant.places,
      ← c.deref-2.ensures.value,
    )
    c.place_all.ensures.exact
