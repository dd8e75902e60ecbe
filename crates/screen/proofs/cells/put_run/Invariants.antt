use Rattle.ansi.specs.Reading.{remaining}
use Rattle.terminal.specs.Pages.{inked}
use Rattle.screen.proofs.Stores.{Completes}
use Rattle.screen.proofs.cells.put_run.Given as goal

-- what the pieces that are left leave, from here on, completes the run
abbrev pub invariant-loop-piece : goal.invariant-loop-piece
invariant-loop-piece g l = Completes (inked g.C.WidthRule.cells l.pen (remaining l.piece-iterator)) l.at l.cells (inked g.C.WidthRule.cells l.initial.pen (remaining l.initial.piece-iterator)) l.initial.at l.initial.cells
