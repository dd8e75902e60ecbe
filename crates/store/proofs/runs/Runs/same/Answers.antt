use Rattle.store.proofs.Alike.{items_decided, run_decided}
use Rattle.store.proofs.runs.Runs.same.Goals as goal

pub returns : goal.returns
returns c = items_decided _ _ _ run_decided _ _ _ c.eq.ensures.ran
