use Rattle.channel_engines.proofs.OneChannel.{one_channel, alike_channel}
use Rattle.channel_engines.proofs.OneUserChannel.{one_user_answer}
use Rattle.channel_engines.proofs.OneRing.{one_ring}
use Rattle.channel_engines.proofs.laws.one_answer.Goals as goal

pub returns-clause-channel : goal.returns-clause-channel
returns-clause-channel c = one_channel

pub returns-clause-finished : goal.returns-clause-finished
returns-clause-finished c = alike_channel

pub returns-clause-own : goal.returns-clause-own
returns-clause-own c = one_user_answer

pub returns-clause-ring : goal.returns-clause-ring
returns-clause-ring c = one_ring
