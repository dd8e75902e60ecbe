use Rattle.std.proofs.Common.{◌+◌}
use Rattle.store.specs.Walks.{runs_left}
use Rattle.frame.specs.Counts.{Room}
use Rattle.frame.specs.Rewraps.{MeasuresRuns, runs_room}
use Rattle.frame.specs.declared.rewrap.Measured.{Measured}
use Rattle.frame.proofs.rewrap.Measured.write_runs.Given as goal

-- what is measured of the runs that are left is measured of all from the start
abbrev pub invariant-loop-text : goal.invariant-loop-text
invariant-loop-text g l = ((m : Measured) → MeasuresRuns l.columns g.C.WidthRule.cells (runs_left l.text-iterator) l.end m → MeasuresRuns l.columns g.C.WidthRule.cells (runs_left l.initial.text-iterator) l.initial.end m) × Room (1 + runs_room (runs_left l.text-iterator)) l.end.counts
