-- The sender's table means its listing. The receiver's is Lamport's.
use Rattle.std.specs.Prelude.{◌≡◌, refl, Some, map}
use Rattle.rv_decode.specs.{meaning, words_of, lines_of}
use Rattle.lamport_cached.specs.Listing.{listing}

-- by the decoder's own function, on numerals
pub sender_decoded : map meaning (words_of listing.sender) ≡ map Some (lines_of listing.sender)
unfolding meaning
sender_decoded = refl
