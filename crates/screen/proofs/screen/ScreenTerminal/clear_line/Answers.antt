use Rattle.screen.proofs.Draws.{line-cleared}
use Rattle.screen.proofs.screen.ScreenTerminal.clear_line.Goals as goal

pub returns : goal.returns
returns g c =
    let s = c.args.self.now in
    line-cleared g.C.WidthRule.cells s.width s.height s.line s.col s.shown s.purse c.pay.new.self s.cells.now c.fill.new.cells s.whole s.place.1 c.line_start-from.result c.line_start-from.ensures c.in_ok-pay.ensures c.fill.ensures
