use Rattle.std.proofs.Common.{ap}
use Rattle.std.proofs.lemmas.Result.{err_from_is_err_and}
use Rattle.history.proofs.Making.{by-refresh}
use Rattle.renderer.specs.Rulings.{rules, sheet_from}
use Rattle.renderer.specs.declared.frames.Frames.{Frames}
use Rattle.renderer.proofs.Refusing.{refuses-refresh}
use Rattle.renderer.proofs.states.Drawing.refresh.Goals as goal

pub returns-in_err-refresh : goal.returns-in_err-refresh
returns-in_err-refresh g c =
    let s = c.args.self.now in
    let z = c.taken_size-size in
    let h = c.in_err-refresh.ensures in
    let p = err_from_is_err_and c.from_residual.result c.from_residual.ensures.1 in
    rw (p.1, p.2) (refuses-refresh (rules g.T.Width.WidthRule.cells g.R.RowHash.seed g.R.RowHash.step) (g.T.Terminal.page s.terminal) (sheet_from s.frames.last) s.cursor_position
    z.result.width z.result.height z.ensures.0 z.ensures.1 (sheet_from s.frames.current) s.frames.current.expected_cursor_position c.in_err-refresh.field-0.0 h.0
    (ap (λ (x : Frames g.row.T-Width.Denot g.row.R.Denot). sheet_from x.last) h.1) (ap (λ (x : Frames g.row.T-Width.Denot g.row.R.Denot). sheet_from x.current) h.1) (ap (λ (x : Frames g.row.T-Width.Denot g.row.R.Denot). x.current.expected_cursor_position) h.1))

pub returns : goal.returns
returns g c =
    let s = c.args.self.now in
    let z = c.taken_size-size in
    let h = c.in_ok-refresh.ensures in
    by-refresh (rules g.T.Width.WidthRule.cells g.R.RowHash.seed g.R.RowHash.step) (g.T.Terminal.page s.terminal) (sheet_from s.frames.last) s.cursor_position
    z.result.width z.result.height z.ensures.0 z.ensures.1 (sheet_from s.frames.current) s.frames.current.expected_cursor_position h.wide h.fit h.last c.correct-self.ensures h.current.sheet h.current.mark
