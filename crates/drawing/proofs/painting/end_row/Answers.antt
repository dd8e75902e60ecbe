use Rattle.std.proofs.Common.{[], ◌∷◌, Ok, Err, ap, ◌∙◌}
use Rattle.std.proofs.lemmas.Result.{err_from_is_err_and}
use Rattle.terminal.specs.Calls.{return, feed}
use Rattle.drawing.specs.Drawing.{for_row, feed_if}
use Rattle.drawing.proofs.Tries.{tried_one, first-fault, feed-none, feed-tried}
use Rattle.drawing.proofs.painting.end_row.Goals as goal

pub returns-in_err-return_from : goal.returns-in_err-return_from
returns-in_err-return_from g c =
    let e = err_from_is_err_and c.from_residual.result c.from_residual.ensures.1 in
    first-fault _ (for_row c.args.i return ∷ []) (feed_if c.args.i c.args.rows_left) _ _ _ _ (e.1 ∙ ap Err e.2) c.in_err-return_from.ensures

pub returns-in_err-check : goal.returns-in_err-check
returns-in_err-check g c =
    let e = err_from_is_err_and c.from_residual-in_err-check.result c.from_residual-in_err-check.ensures.1 in
    let stopped = tried_one g.T.Width.WidthRule.cells (for_row c.args.i feed) _ (g.T.Terminal.page c.line_feed.new.self) _ (Err c.in_err-check.field-0.0) c.line_feed.ensures c.in_err-check.ensures in
    feed-tried _ c.args.i c.in_ok-return_from.ensures c.args.rows_left _ _ c.if-rows_left-gt0.true (rw (e.1, e.2) stopped)

pub returns-in_ok-check : goal.returns-in_ok-check
returns-in_ok-check g c =
    let fed = tried_one g.T.Width.WidthRule.cells (for_row c.args.i feed) _ (g.T.Terminal.page c.line_feed.new.self) _ (Ok c.in_ok-check.field-0) c.line_feed.ensures c.in_ok-check.ensures in
    feed-tried _ c.args.i c.in_ok-return_from.ensures c.args.rows_left _ (Ok c.in_ok-check.field-0) c.if-rows_left-gt0.true fed

pub returns-else-rows_left-gt0 : goal.returns-else-rows_left-gt0
returns-else-rows_left-gt0 g c = feed-none _ c.args.i c.in_ok-return_from.ensures c.args.rows_left c.if-rows_left-gt0.false
