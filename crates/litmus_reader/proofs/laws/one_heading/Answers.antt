use Rattle.litmus_reader.proofs.HeadingLaws as heading
use Rattle.litmus_reader.proofs.laws.one_heading.Goals as goal

pub returns-clause-one : goal.returns-clause-one
returns-clause-one c = heading.one_heading

pub returns-clause-read : goal.returns-clause-read
returns-clause-read c = heading.headed_exactly

pub returns-clause-test : goal.returns-clause-test
returns-clause-test c = heading.test_headed
