use Rattle.store.specs.Walks.{runs_left}
use Rattle.terminal.proofs.Joins.{Leads}
use Rattle.drawing.specs.Drawing.{sent}
use Rattle.drawing.proofs.painting.write_row.Given as goal

-- what the runs that are left do from here, all the runs do from the start
abbrev pub invariant-loop-text : goal.invariant-loop-text
invariant-loop-text g l =
    Leads g.T.Width.WidthRule.cells (sent l.i (runs_left l.initial.text-iterator)) (g.T.Terminal.page l.initial.terminal) (sent l.i (runs_left l.text-iterator)) (g.T.Terminal.page l.terminal)
