use Rattle.std.proofs.Common.{rules}
use Rattle.frame.proofs.Rewrapping.{run_room, runs_turn, runs_turn-room, runs_whole}
use Rattle.frame.proofs.rewrap.Measured.write_runs.Goals as goal

pub write-end-requires : goal.write-end-requires
write-end-requires g c = run_room _ _ _ c.in-Some.ensures.steps _ c.loop-text.invariant.1

pub loop-text-preserved : goal.loop-text-preserved
loop-text-preserved g c = (runs_turn _ _ _ _ _ c.in-Some.ensures.steps _ _ c.write-end.ensures _ _ c.loop-text.invariant.0, runs_turn-room _ _ _ _ _ c.in-Some.ensures.steps _ _ c.write-end.ensures c.loop-text.invariant.1)

pub returns : goal.returns
returns g c = runs_whole _ _ _ _ _ _ _ c.in-None.ensures.steps.0 (search rules) c.loop-text.invariant.0
