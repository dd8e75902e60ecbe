use Rattle.std.proofs.Common.{◌≡◌, pos, Some, ap, ◌∙◌, rules as known}
use Rattle.std.proofs.lemmas.Result.{err_from_is_err_and}
use Rattle.frame.specs.States.{BadMark}
use Rattle.frame.specs.declared.state.FrameState.{FrameState}
use Rattle.history.proofs.Making.{by-mark, by-bad-mark}
use Rattle.renderer.specs.Rulings.{rules_by, sheet_from}
use Rattle.renderer.proofs.states.Drawing.mark.Goals as goal

pub returns-in_err-position : goal.returns-in_err-position
returns-in_err-position g c =
    let h = c.in_err-position.ensures in
    let p = err_from_is_err_and c.from_residual.result c.from_residual.ensures.1 in
    let bad : BadMark c.args.offset c.in_err-position.field-0.0 = search known in
    rw (p.1, p.2) (by-bad-mark (rules_by g.T.Width.WidthRule g.R.RowHash) c.args.offset c.in_err-position.field-0.0 bad
    (ap (λ (x : FrameState g.row.T-Width.Denot g.row.R.Denot). sheet_from x) h.1) (ap (λ (x : FrameState g.row.T-Width.Denot g.row.R.Denot). x.expected_cursor_position) h.1))

pub returns : goal.returns
returns g c =
    let h = c.in_ok-position.ensures in
    let n = h.range in
    let same : c.args.offset ≡ pos n.0 = search known in (
      by-mark (rules_by g.T.Width.WidthRule g.R.RowHash) c.args.offset n.0 same n.1.1.0
          (λ i. record { frame = h.frame i; width = (h.size i).width; height = (h.size i).height }) (h.mark ∙ ap Some n.1.1.1),
      h.mark,
    )
