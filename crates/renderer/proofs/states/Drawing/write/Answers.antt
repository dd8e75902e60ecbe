use Rattle.std.proofs.Common.{ap}
use Rattle.std.proofs.lemmas.Result.{err_from_is_err_and}
use Rattle.size.specs.declared.terminal_size.TerminalSize.{TerminalSize}
use Rattle.frame.specs.States.{sheet_of}
use Rattle.frame.specs.declared.state.FrameState.{FrameState}
use Rattle.history.proofs.Making.{by-write, by-denial}
use Rattle.renderer.specs.Rulings.{rules_by, sheet_from}
use Rattle.renderer.proofs.states.Drawing.write.Goals as goal

pub returns-in_err-write : goal.returns-in_err-write
returns-in_err-write g c =
    let h = c.in_err-write.ensures in
    let p = err_from_is_err_and c.from_residual.result c.from_residual.ensures.1 in
    rw (p.1, p.2) (by-denial (rules_by g.T.Width.WidthRule g.R.RowHash) c.args.style c.args.text.now c.in_err-write.field-0.0
    h.answer.0 (ap (λ (x : FrameState g.row.T-Width.Denot g.row.R.Denot). sheet_from x) h.answer.1) h.mark)

pub returns : goal.returns
returns g c =
    let h = c.in_ok-write.ensures in
    by-write (rules_by g.T.Width.WidthRule g.R.RowHash) (sheet_of c.write.new.self) c.args.style c.args.text.now
    h.answer (ap (λ (z : TerminalSize). record { frame = sheet_of c.write.new.self; width = z.width; height = z.height }) h.size) h.mark
