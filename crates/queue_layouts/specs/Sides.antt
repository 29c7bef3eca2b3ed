-- The two parties, as the code has them.
use Rattle.queue_parties.specs.Parties.{Party, the_sender, the_receiver}
use Rattle.queue_layouts.specs.declared.parties.Party.{Party as Side}
use Rattle.queue_layouts.specs.declared.parties.Party.TheVariants.{Sender, Receiver}

abbrev pub the_party : Side → Party
the_party Sender = the_sender
the_party Receiver = the_receiver
