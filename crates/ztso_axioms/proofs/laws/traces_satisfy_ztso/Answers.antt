use Rattle.ztso_axioms.proofs.Values.{legal-ztso}
use Rattle.ztso_axioms.proofs.laws.traces_satisfy_ztso.Goals as goal

pub returns : goal.returns
returns c = legal-ztso
