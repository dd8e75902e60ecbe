use Rattle.store.proofs.Walking.{part-runs}
use Rattle.store.proofs.rows.Rows.row.Goals as goal

pub returns : goal.returns
returns c = let s = c.args.self.now in part-runs s.bytes.now s.runs.now c.args.part
