-- One more source, and one more row of a tag.
use Rattle.std.proofs.Common.{◌≡◌, ℕ, ◌+◌, ◌<◌, List, [], ◌∷◌, ◌++◌, length, take, get_or, refl}
use Rattle.std.proofs.lemmas.List.{take_more}
use Rattle.chart.specs.{Source, NamedOf, with_source, named_after, none_named, named_by, with_rows}

named_after-last : (named : NamedOf) (ss : List Source) (s : Source) → named_after named (ss ++ s ∷ []) ≡ with_source (named_after named ss) s
named_after-last named [] s = refl
named_after-last named (x ∷ ss) s = named_after-last (with_source named x) ss s

pub named_next : (i : ℕ) (ss : List Source) (d : Source) → i < length ss →
    named_by (take (i + 1) ss) ≡ with_source (named_by (take i ss)) (get_or ss i d)
named_next i ss d within = rw (take_more ss i d within) (named_after-last none_named (take i ss) (get_or ss i d))

with_rows-last : (line rows : List ℕ) (row : ℕ) → with_rows line (rows ++ row ∷ []) ≡ with_rows (with_rows line rows) (row ∷ [])
with_rows-last line [] row = refl
with_rows-last line (x ∷ rows) row = with_rows-last (with_rows line (x ∷ [])) rows row

pub rows_next : (line : List ℕ) (i : ℕ) (rows : List ℕ) (d : ℕ) → i < length rows →
    with_rows line (take (i + 1) rows) ≡ with_rows (with_rows line (take i rows)) (get_or rows i d ∷ [])
rows_next line i rows d within = rw (take_more rows i d within) (with_rows-last line (take i rows) (get_or rows i d))
