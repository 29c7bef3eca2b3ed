use Rattle.std.specs.Global.{Vec}
use Rattle.litmus_reader.specs.Listings.{ListedRowOf}
use Rattle.litmus_reader.proofs.ListingLaws.{only_memory}
use Rattle.litmus_reader.proofs.listings.read_listing.Goals as goal

pub returns-clause-tests : goal.returns-clause-tests
returns-clause-tests c =
    only_memory (λ (rows : Vec ListedRowOf). rows.items) c.args.text.now c.cleaned_listing.result
    (rw c.as_bytes.ensures.value at c.cleaned_listing.ensures)
