use Rattle.frame.specs.Drafts.{rule_at}
use Rattle.frame.specs.States.{sheet_of}
use Rattle.frame.proofs.Rewrapping.{rewrap-fits}
use Rattle.frame.proofs.state.FrameState.fits_columns.Goals as goal

pub returns : goal.returns
returns g c = rewrap-fits (rule_at c.args.columns g.C.WidthRule.cells g.R.RowHash.seed g.R.RowHash.step) (sheet_of c.args.self.now) _ _ _ c.measure_rewrap-counts.ensures.value c.is_empty.ensures.value c.fits.ensures
