use Rattle.std.proofs.Common.{◌-◌, arith}
use Rattle.std.proofs.lemmas.Result.{err_from_is_err_and}
use Rattle.frame.specs.States.{sheet_of}
use Rattle.drawing.proofs.Redraw.{paint-shows}
use Rattle.drawing.proofs.Tries.{rows_end, rest_left, sent-fault, end-fault, row_next}
use Rattle.drawing.proofs.painting.paint.Goals as goal

pub returns-in_err-write_row-clause-calls : goal.returns-in_err-write_row-clause-calls
returns-in_err-write_row-clause-calls g c =
    let e = err_from_is_err_and c.from_residual.result c.from_residual.ensures.1 in
    let s = c.in-Some.ensures.steps in
    let so = rw (← s.1) at c.loop-i.invariant.0 in
    let left = rw (← s.1) at c.loop-i.invariant.1 in
    rw (e.1, e.2) (sent-fault _ (sheet_of c.args.frame.now).rows c.in-Some.i _ so left _ _ s.0 _ _ c.in_err-write_row.ensures)

pub loop-i-preserved : goal.loop-i-preserved
loop-i-preserved g c =
    let s = c.in-Some.ensures.steps in
    let so = rw (← s.1) at c.loop-i.invariant.0 in
    let left = rw (← s.1) at c.loop-i.invariant.1 in
    let rows = (sheet_of c.args.frame.now).rows in
    rw (s.2, ← s.1) (
      row_next _ rows c.in-Some.i _ so left _ _ s.0 c.in_ok-write_row.ensures (c.rows_len-rows.result - c.in-Some.i - 1) (omega arith) c.in_ok-end_row.ensures,
      rest_left _ rows c.in-Some.i _ so left _ _ s.0,
    )

pub returns-in_err-end_row-clause-calls : goal.returns-in_err-end_row-clause-calls
returns-in_err-end_row-clause-calls g c =
    let e = err_from_is_err_and c.from_residual-in_err-end_row.result c.from_residual-in_err-end_row.ensures.1 in
    let s = c.in-Some.ensures.steps in
    let so = rw (← s.1) at c.loop-i.invariant.0 in
    let left = rw (← s.1) at c.loop-i.invariant.1 in
    let rows = (sheet_of c.args.frame.now).rows in
    rw (e.1, e.2) (end-fault _ rows c.in-Some.i _ so left _ _ s.0 c.in_ok-write_row.ensures (c.rows_len-rows.result - c.in-Some.i - 1) (omega arith) _ _ c.in_err-end_row.ensures)

pub returns : goal.returns
returns g c =
    let rows = (sheet_of c.args.frame.now).rows in
    let all = rows_end g.T.Width.WidthRule.cells rows _ _ c.loop-i.invariant.0 c.loop-i.invariant.1 c.in-None.ensures.steps.0.0 in
    record { calls = all; painted = λ blank. paint-shows g.T.Width.WidthRule.cells rows blank all }
