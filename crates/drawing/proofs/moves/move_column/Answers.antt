use Rattle.std.proofs.Common.{◌-◌}
use Rattle.terminal.specs.Calls.{left, right}
use Rattle.drawing.specs.Drawing.{for_no_row}
use Rattle.drawing.proofs.Tries.{tried_one, back-tried, on-tried, no_move}
use Rattle.drawing.proofs.moves.move_column.Goals as goal

pub returns-then-to-from : goal.returns-then-to-from
returns-then-to-from g c =
    back-tried g.T.Width.WidthRule.cells left right _ _ _ _ _ c.if-to-from.true (tried_one _ (for_no_row (left (c.args.from - c.args.to))) _ _ _ _ c.cursor_left.ensures c.check.ensures)

pub returns-then-from-to : goal.returns-then-from-to
returns-then-from-to g c =
    on-tried g.T.Width.WidthRule.cells left right _ _ _ _ _ c.if-from-to.true (tried_one _ (for_no_row (right (c.args.to - c.args.from))) _ _ _ _ c.cursor_right.ensures c.check-then-from-to.ensures)

pub returns-else-from-to : goal.returns-else-from-to
returns-else-from-to g c = no_move g.T.Width.WidthRule.cells left right _ _ _ c.if-to-from.false c.if-from-to.false
