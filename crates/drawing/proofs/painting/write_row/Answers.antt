use Rattle.std.proofs.Common.{◌∷◌, Ok, Err, sym, ap, ◌∙◌}
use Rattle.std.proofs.lemmas.Result.{err_from_is_err_and}
use Rattle.store.specs.Walks.{runs_left}
use Rattle.layout.specs.Writing.{run}
use Rattle.terminal.specs.Calls.{write}
use Rattle.drawing.specs.Drawing.{for_row}
use Rattle.drawing.proofs.Tries.{tried_one, runs-end, run-next, run-fault}
use Rattle.drawing.proofs.painting.write_row.Goals as goal

pub returns-in_err-check : goal.returns-in_err-check
returns-in_err-check g c =
    let e = err_from_is_err_and c.from_residual.result c.from_residual.ensures.1 in
    let next = c.in-Some.ensures.steps ∙ ap (λ t. run t c.in-Some.style ∷ runs_left c.next.new.self) (sym c.as_bytes.ensures.value) in
    let stopped = tried_one g.T.Width.WidthRule.cells (for_row c.args.i (write (run c.as_bytes.result.now c.in-Some.style))) _ (g.T.Terminal.page c.write_styled-answer.new.self) _ (Err c.in_err-check.field-0.0) c.write_styled-answer.ensures c.in_err-check.ensures in
    let all = run-fault _ c.args.i _ _ _ _ next c.loop-text.invariant _ _ stopped in
    rw (e.1, e.2, ← c.into_iter-text-iterator.ensures.into_iter_gives) all

pub loop-text-preserved : goal.loop-text-preserved
loop-text-preserved g c =
    let next = c.in-Some.ensures.steps ∙ ap (λ t. run t c.in-Some.style ∷ runs_left c.next.new.self) (sym c.as_bytes.ensures.value) in
    let done = tried_one g.T.Width.WidthRule.cells (for_row c.args.i (write (run c.as_bytes.result.now c.in-Some.style))) _ (g.T.Terminal.page c.write_styled-answer.new.self) _ (Ok c.in_ok-check.field-0) c.write_styled-answer.ensures c.in_ok-check.ensures in
    run-next _ c.args.i _ _ _ _ next c.loop-text.invariant done

pub returns : goal.returns
returns g c = runs-end _ c.args.i _ _ _ c.in-None.ensures.steps.0 (ap runs_left c.into_iter-text-iterator.ensures.into_iter_gives) c.loop-text.invariant
