-- Lines one after another: their words, and what they mean.
use Rattle.std.proofs.Common.{arith, ℕ, zero, suc, ◌≡◌, ◌+◌, ◌<◌, ◌++◌, List, [], ◌∷◌, refl, sym, ap, ◌∙◌, append-nil, append_assoc}
use Rattle.std.specs.Prelude.{All, is_some, not}
use Rattle.std.proofs.lemmas.List.Elements.{All-append, All-nil}
use Rattle.step_machine.specs.Names.{OpeningValue}
use Rattle.queue_certificates.specs.Certificates.{QueueCertificate}
use Rattle.engine_support.specs.OpeningTexts.{numbered}
use Rattle.certifying.specs.Answers.{kept_answer, texts, words}
use Rattle.certifying.specs.Lines.{AnswerLine, all_going, all_going_lines, asked_lines, ends_asked, first_line_of}
use Rattle.certifying.specs.Lines.{harts_lines, limits, lines_below, answer_lines}
use Rattle.certifying.specs.Lines.{records_from, the_protocol, the_queues}
use Rattle.certifying.specs.Questions.{Questions}
use Rattle.certifying.specs.Records.{asked_line, lines_of_queue, record_lines}
use Rattle.certifying.specs.declared.records.Deed.TheVariants.{Writes, Reads, ReadsOnce}
use Rattle.certifying.specs.Unread.{first_unread}
use Rattle.certifying.specs.declared.records.QueueRecords.{QueueRecords}

pub all-lines : (P : AnswerLine → Type 0) (lines : ℕ → List AnswerLine) (n : ℕ) → ((i : ℕ) → i < n → All P (lines i)) → All P (lines_below n lines)
all-lines P lines zero each = All-nil P
all-lines P lines (suc n) each = All-append P (lines_below n lines) (lines n) (all-lines P lines n (λ i less. each i (omega (arith, less))))
    (each n (omega arith))

module _ (o : OpeningValue) (c : QueueCertificate) where
  pub texts_append : (xs ys : List AnswerLine) → texts o c (xs ++ ys) ≡ texts o c xs ++ texts o c ys
  texts_append [] ys = refl
  texts_append (x ∷ xs) ys = ap (λ zs. words o c x ++ zs) (texts_append xs ys) ∙ sym (append_assoc (words o c x) (texts o c xs) (texts o c ys))

  pub texts_last : (xs : List AnswerLine) (y : AnswerLine) → texts o c (xs ++ y ∷ []) ≡ texts o c xs ++ words o c y
  texts_last xs y = texts_append xs (y ∷ []) ∙ ap (λ zs. texts o c xs ++ zs) (append-nil (words o c y))

  of-three : (x y z rest : List ℕ) → x ++ (y ++ (z ++ rest)) ≡ (x ++ y ++ z) ++ rest
  of-three x y z rest = simp (append_assoc)

  record-texts : (asked : Questions) (i : ℕ) (found : List QueueRecords) → texts o c (records_from asked i found) ≡ numbered (lines_of_queue o c asked) i found
  record-texts asked i [] = refl
  record-texts asked i (its ∷ found) =
      let written : List ℕ = asked_line o c Writes asked.written i its.written in
      let read : List ℕ = asked_line o c Reads asked.read i its.read in
      let once : List ℕ = asked_line o c ReadsOnce asked.once i its.once in
      ap (λ zs. written ++ (read ++ (once ++ zs))) (record-texts asked (i + 1) found)
      ∙ of-three written read once (numbered (lines_of_queue o c asked) (i + 1) found)

  joined : (first queues going records harts kept rest : List ℕ) → first ++ queues ++ going ++ records ++ harts ++ kept ++ rest
      ≡ first ++ (queues ++ ((going ++ (records ++ harts)) ++ (kept ++ (rest ++ []))))
  joined first queues going records harts kept rest = simp (append_assoc, append-nil)

  -- the whole text is the words of all lines
  pub whole : (M : ℕ) (asked : Questions) (found : List QueueRecords) → (kept_answer M asked o c found).0 ≡ texts o c (answer_lines M asked o c found)
  whole M asked found =
      joined (words o c (first_line_of M asked o c found)) (words o c the_queues) (texts o c going) (record_lines o c asked found) (texts o c harts)
      (words o c kept) (words o c rest)
      ∙ ap (λ zs. words o c (first_line_of M asked o c found) ++ (words o c the_queues ++ (zs ++ texts o c (kept ∷ rest ∷ [])))) (sym all)
      ∙ ap (λ zs. words o c (first_line_of M asked o c found) ++ (words o c the_queues ++ zs))
      (sym (texts_append (asked_lines M asked o c found) (kept ∷ rest ∷ [])))
    where
      going : List AnswerLine
      going = all_going_lines o c (ends_asked M asked o c) asked.progress

      harts : List AnswerLine
      harts = harts_lines o c (ends_asked M asked o c) asked.harts

      kept : AnswerLine
      kept = the_protocol (not (is_some (first_unread o c)))

      rest : AnswerLine
      rest = limits asked found (not (is_some (first_unread o c))) (all_going o c asked.progress)

      all : texts o c (asked_lines M asked o c found) ≡ texts o c going ++ (record_lines o c asked found ++ texts o c harts)
      all = texts_append going (records_from asked 0 found ++ harts) ∙ ap (λ zs. texts o c going ++ zs)
          (texts_append (records_from asked 0 found) harts ∙ ap (λ zs. zs ++ texts o c harts) (record-texts asked 0 found))
