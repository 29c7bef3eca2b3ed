use Rattle.litmus_reader.proofs.ListingLaws.{test_listed}
use Rattle.litmus_reader.proofs.laws.tests_are_listed.Goals as goal

pub returns : goal.returns
returns c = test_listed
