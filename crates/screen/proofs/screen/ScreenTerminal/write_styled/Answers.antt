use Rattle.std.proofs.Common.{◌+◌, ap, subst}
use Rattle.layout.specs.Writing.{run}
use Rattle.terminal.specs.Pages.{ink}
use Rattle.screen.specs.Cells.{Stored}
use Rattle.screen.proofs.Draws.{run-written}
use Rattle.screen.proofs.screen.ScreenTerminal.write_styled.Goals as goal

pub returns : goal.returns
returns g c =
    let s = c.args.self.now in
    let fitting = c.in_ok-run.ensures in
    let put = subst (λ t. Stored (c.line_start.result + s.col) (ink g.C.WidthRule.cells (run t c.args.style)) s.cells.now c.put_run.new.cells) fitting.0 c.put_run.ensures in
    run-written g.C.WidthRule.cells s.width s.height s.line s.col s.shown s.purse c.pay.new.self s.cells.now c.put_run.new.cells s.whole s.place.1 _ (ap (λ n. n + s.col) c.line_start.ensures) c.args.text.now c.args.style c.in_ok-run.cells fitting.1 c.in_ok-pay.ensures put
