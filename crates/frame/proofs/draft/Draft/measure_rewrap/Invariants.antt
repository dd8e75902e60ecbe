use Rattle.std.proofs.Common.{◌+◌}
use Rattle.store.specs.Walks.{rows_left}
use Rattle.frame.specs.Counts.{Room}
use Rattle.frame.specs.Drafts.{frame_of}
use Rattle.frame.specs.Rewraps.{MeasuresRows, runs_room, rows_room}
use Rattle.frame.specs.declared.rewrap.Measured.{Measured}
use Rattle.frame.proofs.draft.Draft.measure_rewrap.Given as goal

-- what is measured of the rows that are left is measured of all from the start
abbrev pub invariant-loop-row : goal.invariant-loop-row
invariant-loop-row g l = ((m : Measured) → MeasuresRows l.columns g.C.WidthRule.cells (rows_left l.row-iterator) l.end m → MeasuresRows l.columns g.C.WidthRule.cells (rows_left l.initial.row-iterator) l.initial.end m) × Room (1 + rows_room (rows_left l.row-iterator) + runs_room (frame_of l.self).runs) l.end.counts
