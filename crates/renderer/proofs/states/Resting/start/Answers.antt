use Rattle.std.proofs.Common.{ap}
use Rattle.history.proofs.Making.{by-start}
use Rattle.renderer.specs.Rulings.{rules, sheet_from}
use Rattle.renderer.specs.declared.frames.Frames.{Frames}
use Rattle.renderer.proofs.Refusing.{refuses-start}
use Rattle.renderer.proofs.states.Resting.start.Goals as goal

pub returns : goal.returns
returns g c =
    let s = c.args.self in
    let z = c.taken_size-size in
    let h = c.in_default.ensures in
    by-start (rules g.T.Width.WidthRule.cells g.R.RowHash.seed g.R.RowHash.step) (g.T.Terminal.page s.terminal) (sheet_from s.frames.last) s.cursor_position
    z.result.width z.result.height z.ensures.0 z.ensures.1 h.wide h.fit h.last c.correct.ensures h.current h.mark

pub returns-in-Err : goal.returns-in-Err
returns-in-Err g c =
    let s = c.args.self in
    let z = c.taken_size-size in
    let h = c.in-Err.ensures in
    refuses-start (rules g.T.Width.WidthRule.cells g.R.RowHash.seed g.R.RowHash.step) (g.T.Terminal.page s.terminal) (sheet_from s.frames.last) s.cursor_position
    z.result.width z.result.height z.ensures.0 z.ensures.1 c.in-Err.e h.0 (ap (λ (x : Frames g.row.T-Width.Denot g.row.R.Denot). sheet_from x.last) h.1)
