-- What a draft says, as the code holds it.
use Rattle.std.specs.Prelude.{reverse}
use Rattle.certificate_reader.specs.declared.draft.Draft.{Draft}
use Rattle.certificate_reader.specs.Drafts.{DraftValue}

abbrev pub draft_value : Draft → DraftValue
draft_value d = record {
  stage = d.stage;
  queues = d.queues.items;
  tagged = d.tagged.items;
  harts = d.harts.items;
  own = d.own.items;
  first = d.first;
  numbers = d.numbers.items;
  goals = d.goals.items;
  lacking = d.lacking.items;
  states = reverse d.states.items;
  listed = d.listed;
  pc = d.pc;
  ranges = d.ranges.items;
  registers = d.registers.items;
  words = d.words.items;
  shares = d.shares.items;
  filled = d.filled.items;
  ranks = d.ranks.items;
  nodes = reverse d.nodes.items;
  splits = d.splits;
}
