use Rattle.std.proofs.Common.{◌≡◌, map, take}
use Rattle.std.specs.String.{string_bytes}
use Rattle.ring_trials.specs.Answers.{clean_text}
use Rattle.poll_close.proofs.Opened.{items_of}
use Rattle.ring_trials.proofs.answer_texts.clean_text.Given as goal

abbrev pub invariant-loop-index : goal.invariant-loop-index
invariant-loop-index l = string_bytes l.out ≡ clean_text l.fn.runs (take l.index l.totals) (map items_of (take l.index l.lists))
