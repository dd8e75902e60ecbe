use Rattle.history.proofs.Keeps.{law}
use Rattle.history.proofs.law_holds.Goals as goal

pub returns : goal.returns
returns c = law
