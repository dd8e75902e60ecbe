use Rattle.std.proofs.Common.{Err, ap, ◌∙◌}
use Rattle.std.proofs.lemmas.Result.{err_from_is_err_and}
use Rattle.terminal.specs.Calls.{up, down, left, right}
use Rattle.drawing.specs.Drawing.{steps}
use Rattle.drawing.proofs.Going.{moves-there}
use Rattle.drawing.proofs.Tries.{then-tried, first-fault}
use Rattle.drawing.proofs.moves.move_cursor.Goals as goal

pub returns-in_err-move_row : goal.returns-in_err-move_row
returns-in_err-move_row g c =
    let p = g.T.Terminal.page c.args.terminal.now in
    let q = g.T.Terminal.page c.move_row.new.terminal in
    let r = c.from_residual.result in
    let e = err_from_is_err_and r c.from_residual.ensures.1 in
    let all = first-fault g.T.Width.WidthRule.cells (steps up down c.args.from.row c.args.to.row) (steps left right c.args.from.col c.args.to.col) p q c.in_err-move_row.field-0.0 r (e.1 ∙ ap Err e.2) c.in_err-move_row.ensures in
    record { calls = all; moved = moves-there g.T.Width.WidthRule.cells c.args.from c.args.to p q r all }

pub returns : goal.returns
returns g c =
    let p = g.T.Terminal.page c.args.terminal.now in
    let q = g.T.Terminal.page c.move_column.new.terminal in
    let r = c.move_column.result in
    let all = then-tried g.T.Width.WidthRule.cells (steps up down c.args.from.row c.args.to.row) (steps left right c.args.from.col c.args.to.col) p (g.T.Terminal.page c.move_row.new.terminal) q r c.in_ok-move_row.ensures c.move_column.ensures in
    record { calls = all; moved = moves-there g.T.Width.WidthRule.cells c.args.from c.args.to p q r all }
