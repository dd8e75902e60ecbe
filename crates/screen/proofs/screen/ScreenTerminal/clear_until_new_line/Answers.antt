use Rattle.std.proofs.Common.{◌+◌, ap}
use Rattle.screen.proofs.Draws.{rest-cleared}
use Rattle.screen.proofs.screen.ScreenTerminal.clear_until_new_line.Goals as goal

pub returns : goal.returns
returns g c =
    let s = c.args.self.now in
    rest-cleared g.C.WidthRule.cells s.width s.height s.line s.col s.shown s.purse c.pay.new.self s.cells.now c.fill.new.cells s.whole s.place.1 _ (ap (λ n. n + s.col) c.line_start.ensures) c.in_ok-pay.ensures c.fill.ensures
