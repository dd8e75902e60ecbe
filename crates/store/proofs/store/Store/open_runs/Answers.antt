use Rattle.std.proofs.Common.{arith}
use Rattle.store.proofs.Found.{open-count, runs-held}
use Rattle.store.proofs.store.Store.open_runs.Goals as goal

pub overflow_sub-result : goal.overflow_sub-result
overflow_sub-result c = let s = c.args.self.now in omega (arith, runs-held s, s.opens.1, s.runs.ok.0, c.runs_len.ensures.value)

pub returns : goal.returns
returns c = let s = c.args.self.now in omega (arith, open-count s, runs-held s, c.runs_len.ensures.value)
