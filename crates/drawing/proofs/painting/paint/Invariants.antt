use Rattle.std.proofs.Common.{◌≡◌, ◌-◌, [], length, drop}
use Rattle.std.specs.Iterator.Adapters.{enumerate_count, enumerate_source}
use Rattle.store.specs.Walks.{rows_left}
use Rattle.frame.specs.States.{sheet_of}
use Rattle.terminal.proofs.Joins.{Leads}
use Rattle.drawing.specs.Drawing.{rows_from}
use Rattle.drawing.proofs.painting.paint.Given as goal

-- what the rows that are left do from here, all the rows do from the start
abbrev pub invariant-loop-i : goal.invariant-loop-i
invariant-loop-i g l =
    Leads g.T.Width.WidthRule.cells (rows_from [] (sheet_of l.frame).rows (length (sheet_of l.frame).rows) 0) (g.T.Terminal.page l.initial.terminal)
    (rows_from [] (sheet_of l.frame).rows (length (sheet_of l.frame).rows - enumerate_count l.i-iterator) (enumerate_count l.i-iterator)) (g.T.Terminal.page l.terminal)
    × (rows_left (enumerate_source l.i-iterator) ≡ drop (enumerate_count l.i-iterator) (sheet_of l.frame).rows)
