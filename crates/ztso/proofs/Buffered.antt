-- A buffered reader that nothing was read of.
use Rattle.std.proofs.Common.{◌≡◌, ℕ, List, [], Option, None, Some, refl, ap, ◌∙◌}
use Rattle.std.specs.declared.io.buffered.BufReader.{BufReader}
use Rattle.std.specs.Io.Buffered.{reader_buffer, reader_capacity, reader_inner, reader_remaining}
use Rattle.std.specs.Io.KnownBytes.{prepend_known}

as_it_is : (known : Option (List ℕ)) → prepend_known [] known ≡ known
as_it_is None = refl
as_it_is (Some bytes) = refl

-- it has left what the reader after it has
pub remaining_of : {T A : Type 0} (remaining : T → Option (List ℕ)) (r : BufReader T A) (inner : T)
    → reader_inner r ≡ inner → reader_buffer r ≡ [] → reader_capacity r ≡ 8192
    → reader_remaining remaining r ≡ remaining inner
remaining_of remaining r inner is empty large = rw (large, empty) (as_it_is (remaining (reader_inner r)) ∙ ap remaining is)
