use Rattle.std.proofs.Common.{◌≡◌, ◌++◌, Bool, IsTrue, List, length}
use Rattle.std.specs.List.{AllZip, Contains}
use Rattle.surveys.proofs.keys.Keys.look_up.Given as goal

abbrev pub invariant-loop-draft : goal.invariant-loop-draft
invariant-loop-draft g l = length l.looks.items ≡ l.draft-index

-- with what is answered of the others it is answered of all
abbrev pub invariant-loop-draft-2 : goal.invariant-loop-draft-2
invariant-loop-draft-2 g l = record {
  count : length l.draft-iterator.a.rest.now ≡ length l.draft-iterator.b.rest.now;
  known : (rest : List Bool) → AllZip (λ draft is_known. IsTrue is_known → Contains l.self draft.key) l.draft-iterator.a.rest.now rest
      → AllZip (λ draft is_known. IsTrue is_known → Contains l.self draft.key) l.drafts (l.known.items ++ rest);
}
