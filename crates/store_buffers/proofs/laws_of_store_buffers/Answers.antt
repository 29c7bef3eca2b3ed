use Rattle.store_buffers.proofs.Performed.{reached, reached_later}
use Rattle.store_buffers.proofs.Reading.{read_seen}
use Rattle.store_buffers.proofs.MessagePassing.{handed_over}
use Rattle.store_buffers.proofs.laws_of_store_buffers.Goals as goal

pub returns-clause-performed : goal.returns-clause-performed
returns-clause-performed c = λ B o es h n w legal is landed. reached B o es h n w legal is landed

pub returns-clause-later : goal.returns-clause-later
returns-clause-later c = λ es fs w performed. reached_later es fs w performed

pub returns-clause-read : goal.returns-clause-read
returns-clause-read c = λ o es w p h x on all own. read_seen o es w p h x on all own

pub returns-clause-handed_over : goal.returns-clause-handed_over
returns-clause-handed_over c = λ B o a h x es fs legal landed only leave. handed_over B o a h x es fs legal landed only leave
