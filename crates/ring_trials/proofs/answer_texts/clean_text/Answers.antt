use Rattle.std.proofs.Common.{◌≡◌, [], ◌∷◌, ◌++◌, ◌∙◌, ap, arith, get_or, length, map, take, take_all, vec_len}
use Rattle.std.specs.Prelude.{codes}
use Rattle.std.specs.Fmt.{decimal}
use Rattle.std.specs.String.{string_bytes}
use Rattle.poll_close.proofs.Opened.{items_of}
use Rattle.ring_trials.specs.declared.runs.Total.{Total}
use Rattle.ring_trials.specs.Answers.{sender_line, clean_text}
use Rattle.ring_trials.proofs.TextLaws.{four_pieces, clean_more}
use Rattle.ring_trials.proofs.answer_texts.clean_text.Goals as goal

pub loop-index-init : goal.loop-index-init
loop-index-init c =
    c.in_ok-writeln.ensures.bytes ∙ ap (λ front. front ++ (codes "clean " ++ (decimal c.args.runs ++ (codes " runs" ++ 10 ∷ [])))) c.new-out.ensures.bytes
    ∙ four_pieces (codes "clean ") (decimal c.args.runs) (codes " runs") (10 ∷ [])

pub loop-index-preserved : goal.loop-index-preserved
loop-index-preserved c =
    let i = c.loop-index.index in
    let none : Total = record { most = 0; closed = 0 } in
    let total = get_or c.args.totals.now i none in
    let list = c.index-lists-index.result in
    let all : vec_len list ≡ length list.items = omega (arith, list.ok.0) in
    let words : c.len.result ≡ length (get_or c.args.lists.now i list).items = c.len.ensures ∙ all ∙ ap (λ v. length (items_of v)) c.index-lists-index.is in
    c.in_ok-push_sender_line.ensures ∙ ap (λ k. string_bytes c.loop-index.out ++ sender_line i total k) words
    ∙ ap (λ front. front ++ sender_line i total (length (get_or c.args.lists.now i list).items)) c.loop-index.invariant
    ∙ clean_more c.args.runs c.args.totals.now c.args.lists.now i none list c.loop-index-test.true c.requires

pub returns : goal.returns
returns c =
    c.loop-index.invariant
    ∙ ap (λ ts. clean_text c.args.runs ts (map items_of (take c.loop-index.index c.args.lists.now)))
    (take_all c.loop-index.index c.args.totals.now c.loop-index-test.false)
    ∙ ap (λ ls. clean_text c.args.runs c.args.totals.now (map items_of ls))
    (take_all c.loop-index.index c.args.lists.now (omega (arith, c.loop-index-test.false, c.requires)))
