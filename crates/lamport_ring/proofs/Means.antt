-- The tables mean the listings.
use Rattle.std.specs.Prelude.{◌≡◌, refl, Some, map}
use Rattle.rv_decode.specs.{meaning, words_of, lines_of}
use Rattle.lamport_ring.specs.Listing.{listing}

-- by the decoder's own function, on numerals
pub sender_decoded : map meaning (words_of listing.sender) ≡ map Some (lines_of listing.sender)
unfolding meaning
sender_decoded = refl

pub receiver_decoded : map meaning (words_of listing.receiver) ≡ map Some (lines_of listing.receiver)
unfolding meaning
receiver_decoded = refl
