use Rattle.std.proofs.Common.{◌≡◌, fold}
use Rattle.ansi.specs.Reading.{remaining}
use Rattle.terminal.specs.Pages.{at}
use Rattle.stream.specs.Cursors.{placed}
use Rattle.stream.proofs.column.cursor_column.Given as goal

-- from the column here what is left leads where all led from the first
abbrev pub invariant-loop-piece : goal.invariant-loop-piece
invariant-loop-piece g l =
    (fold (placed g.C.WidthRule.cells l.width) (at 0 l.col) (remaining l.piece-iterator)).col
    ≡ (fold (placed g.C.WidthRule.cells l.width) (at 0 0) (remaining l.initial.piece-iterator)).col
