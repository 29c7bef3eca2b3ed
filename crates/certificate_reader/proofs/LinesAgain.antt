-- Lines, as they are written, are read again as their words.
use Rattle.std.proofs.Common.{◌≡◌, ℕ, ◌+◌, ◌<◌, false, List, [], ◌∷◌, ◌++◌, map, Some, None, Result, Ok, Err, refl, sym, ap, subst, ◌∙◌, append_assoc, eqb}
use Rattle.std.proofs.Common.{arith}
use Rattle.std.specs.List.{AllByRecursion}
use Rattle.std.specs.Str.Lines.{lines}
use Rattle.std.proofs.lemmas.List.{append-nil}
use Rattle.std.proofs.lemmas.List.Splits.{length-slice_split}
use Rattle.texts.specs.{tokens, is_byte, NonePass, ◌>>=◌}
use Rattle.texts.proofs.{lines_of_parts-cons, none-append, split_stop, tokens-first, Solid, tokens_alone, tokens-before, no_byte, line-stays}
use Rattle.certificate_reader.specs.declared.faults.CertificateFault.{CertificateFault}
use Rattle.certificate_reader.specs.declared.stages.Keyword.{Keyword}
use Rattle.certificate_reader.specs.declared.stages.Stage.{Stage}
use Rattle.certificate_reader.specs.declared.stages.Stage.TheVariants as stage
use Rattle.certificate_reader.specs.Faults.{or_bad_line}
use Rattle.certificate_reader.specs.Stages.{keyword_named, stage_after}
use Rattle.certificate_reader.specs.Drafts.{DraftValue, by_keyword, by_named, by_stage, by_words, after_line}
use Rattle.certificate_reader.specs.Reading.{after_lines}
use Rattle.certificate_reader.specs.Writing.{LineOfWords, spaced, lines_text}

-- ---- a line's words

pub record IsSolidLine (line : LineOfWords) : Type 0 where
  pub name : Solid line.0
  pub words : AllByRecursion Solid line.1

abbrev pub bytes_of : LineOfWords → List ℕ
bytes_of line = line.0 ++ spaced line.1

tokens_again : (name : List ℕ) (words : List (List ℕ)) → Solid name → AllByRecursion Solid words → tokens (name ++ spaced words) ≡ name ∷ words
tokens_again name [] solid all = rw (append-nil name) (tokens_alone name solid)
tokens_again name (word ∷ words) solid all =
    tokens-before name (word ++ spaced words) solid ∙ ap (λ (ws : List (List ℕ)). name ∷ ws) (tokens_again word words all.0 all.1)

spaced_none : (byte : ℕ) → byte < 32 → (words : List (List ℕ)) → AllByRecursion Solid words → NonePass (is_byte byte) (spaced words)
spaced_none byte low [] all = tt
spaced_none byte low (word ∷ words) all = none-append (is_byte byte) (32 ∷ word) (spaced words)
    (no_space byte low, no_byte byte (omega arith) word all.0.1) (spaced_none byte low words all.1)
  where
    no_space : (b : ℕ) → b < 32 → is_byte b 32 ≡ false
    no_space b lt = grind arith

line_none : (byte : ℕ) → byte < 32 → (line : LineOfWords) → IsSolidLine line → NonePass (is_byte byte) (bytes_of line)
line_none byte low line solid =
    none-append (is_byte byte) line.0 (spaced line.1) (no_byte byte (omega arith) line.0 solid.name.1) (spaced_none byte low line.1 solid.words)

-- ---- lines

line_before : (line rest : List ℕ) → NonePass (is_byte 10) line → NonePass (is_byte 13) line → lines (line ++ 10 ∷ rest) ≡ line ∷ lines rest
line_before line rest feed return = grind (arith, eqb, split_stop, lines_of_parts-cons, length-slice_split, line-stays)

no_text : lines [] ≡ []
no_text = refl

pub lines_again : (ls : List LineOfWords) → AllByRecursion IsSolidLine ls → lines (lines_text [] ls) ≡ map bytes_of ls
lines_again [] all = no_text
lines_again (line ∷ ls) all =
    ap lines (append_assoc (bytes_of line) (10 ∷ []) (lines_text [] ls))
    ∙ line_before (bytes_of line) (lines_text [] ls) (line_none 10 (omega arith) line all.0) (line_none 13 (omega arith) line all.0)
    ∙ ap (λ (rest : List (List ℕ)). bytes_of line ∷ rest) (lines_again ls all.1)

-- ---- what lines of words say

abbrev pub told : DraftValue → List LineOfWords → Result DraftValue CertificateFault
told d [] = Ok d
told d (line ∷ ls) = do
  next ← by_words d line.0 line.1
  told next ls

first_then : (d e : DraftValue) (line : LineOfWords) (ls : List LineOfWords) → told d (line ∷ ls) ≡ Ok e
    → (next : DraftValue) × (by_words d line.0 line.1 ≡ Ok next) × (told next ls ≡ Ok e)
first_then d e line ls is = go (by_words d line.0 line.1) refl is
  where
    go : (r : Result DraftValue CertificateFault) → by_words d line.0 line.1 ≡ r → (r >>= λ next. told next ls) ≡ Ok e
        → (next : DraftValue) × (by_words d line.0 line.1 ≡ Ok next) × (told next ls ≡ Ok e)
    go (Ok next) was rest = (next, was, rest)
    go (Err fault) was rest = absurd cc

pub told-append : (d e : DraftValue) (ls more : List LineOfWords) → told d ls ≡ Ok e → told d (ls ++ more) ≡ told e more
told-append d e [] more is = let same : d ≡ e = cc in ap (λ (x : DraftValue). told x more) same
told-append d e (line ∷ ls) more is = let first = first_then d e line ls is in rw first.1 (told-append first.0 e ls more first.2)

line_again : (d : DraftValue) (line : LineOfWords) → IsSolidLine line → after_line d (bytes_of line) ≡ by_words d line.0 line.1
unfolding after_line
line_again d line solid =
    let cut = tokens-first (bytes_of line) line.0 line.1 (tokens_again line.0 line.1 solid.name solid.words) in
    rw cut.1 (ap (by_words d line.0) cut.2)

pub told_lines : (d e : DraftValue) (number : ℕ) (ls : List LineOfWords) → AllByRecursion IsSolidLine ls → told d ls ≡ Ok e
    → (last : ℕ) × (after_lines d number (map bytes_of ls) ≡ Ok (e, last))
unfolding after_lines
told_lines d e number [] all is = let same : d ≡ e = cc in (number, rw same refl)
told_lines d e number (line ∷ ls) all is =
    let first = first_then d e line ls is in
    let rest = told_lines first.0 e (number + 1) ls all.1 first.2 in
    (rest.0, rw (line_again d line all.0, first.1) rest.1)

-- ---- one line

no_stage : (k : Keyword) → stage_after stage.Head k ≡ None
unfolding stage_after
no_stage k = grind arith

begun : (s t : Stage) (k : Keyword) → stage_after s k ≡ Some t → (d : DraftValue) (name : List ℕ) (words : List (List ℕ))
    → by_stage s d name words ≡ (or_bad_line (keyword_named name) >>= λ keyword. by_named d keyword words)
begun stage.Head t k is d name words = let none = no_stage k in absurd cc
begun other t k is d name words = refl

-- a line of this keyword, where it may come
pub by_name : (d e : DraftValue) (name : List ℕ) (words : List (List ℕ)) (k : Keyword) (s : Stage) → keyword_named name ≡ Some k
    → stage_after d.stage k ≡ Some s → by_keyword d k words ≡ Ok e → by_words d name words ≡ Ok (record e { stage = s })
unfolding by_named
by_name d e name words k s named staged made = begun d.stage s k staged d name words ∙ rw (named, staged, made) refl

-- lines that are taken, and lead to a draft of which Q holds
pub record LeadsTo (Q : DraftValue → Type 0) (d : DraftValue) (ls : List LineOfWords) : Type 0 where
  pub end : DraftValue
  pub read : told d ls ≡ Ok end
  pub holds : Q end

pub no_line : (Q : DraftValue → Type 0) (d : DraftValue) → Q d → LeadsTo Q d []
no_line Q d holds = record { end = d; read = refl; holds = holds }

pub line_then : (Q : DraftValue → Type 0) (d e : DraftValue) (line : LineOfWords) (more : List LineOfWords) → by_words d line.0 line.1 ≡ Ok e → LeadsTo Q e more
    → LeadsTo Q d (line ∷ more)
line_then Q d e line more read rest = record { end = rest.end; read = rw read rest.read; holds = rest.holds }

pub line_told : (Q : DraftValue → Type 0) (d e : DraftValue) (name : List ℕ) (words : List (List ℕ)) (k : Keyword) (s : Stage)
    → keyword_named name ≡ Some k → stage_after d.stage k ≡ Some s → by_keyword d k words ≡ Ok e → Q (record e { stage = s })
    → LeadsTo Q d ((name, words) ∷ [])
line_told Q d e name words k s named staged made holds =
    line_then Q d (record e { stage = s }) (name, words) [] (by_name d e name words k s named staged made) (no_line Q (record e { stage = s }) holds)

pub leads_on : (Q R : DraftValue → Type 0) (d : DraftValue) (ls : List LineOfWords) → ((e : DraftValue) → Q e → R e) → LeadsTo Q d ls → LeadsTo R d ls
leads_on Q R d ls on told_all = record { end = told_all.end; read = told_all.read; holds = on told_all.end told_all.holds }

pub then_told : (Q R : DraftValue → Type 0) (d : DraftValue) (ls more : List LineOfWords) → LeadsTo Q d ls → ((e : DraftValue) → Q e → LeadsTo R e more)
    → LeadsTo R d (ls ++ more)
then_told Q R d ls more first rest =
    let last = rest first.end first.holds in
    record { end = last.end; read = told-append d first.end ls more first.read ∙ last.read; holds = last.holds }

-- a draft that is this one, at a stage of which S holds
pub record IsHeld (S : Stage → Type 0) (held : Stage → DraftValue) (d : DraftValue) : Type 0 where
  pub stage : Stage
  pub stands : S stage
  pub same : d ≡ held stage

pub at_stage : (S : Stage → Type 0) (held : Stage → DraftValue) (s : Stage) → S s → IsHeld S held (held s)
at_stage S held s stands = record { stage = s; stands = stands; same = refl }

pub from_held : (S : Stage → Type 0) (held : Stage → DraftValue) (R : DraftValue → Type 0) (ls : List LineOfWords)
    → ((s : Stage) → S s → LeadsTo R (held s) ls) → (d : DraftValue) → IsHeld S held d → LeadsTo R d ls
from_held S held R ls next d at = subst (λ e. LeadsTo R e ls) (sym at.same) (next at.stage at.stands)

pub then_held : (S : Stage → Type 0) (held : Stage → DraftValue) (R : DraftValue → Type 0) (d : DraftValue) (ls more : List LineOfWords)
    → LeadsTo (IsHeld S held) d ls → ((s : Stage) → S s → LeadsTo R (held s) more) → LeadsTo R d (ls ++ more)
then_held S held R d ls more first next = then_told (IsHeld S held) R d ls more first (from_held S held R more next)
