use Rattle.std.proofs.Common.{sym, refl, ap, ◌∙◌, inr}
use Rattle.layout.specs.Limits.{fits}
use Rattle.layout.specs.Writing.{written}
use Rattle.frame.specs.Drafts.{rule_at, hashing}
use Rattle.frame.specs.States.{sheet_of}
use Rattle.frame.proofs.Fitting.{measured, measured-within}
use Rattle.frame.proofs.state.FrameState.write.Goals as goal

pub returns-then-not-fits : goal.returns-then-not-fits
returns-then-not-fits g c =
    let s = c.args.self.now in
    let fit = measured c.width-columns.result g.C.WidthRule.cells g.R.RowHash.seed g.R.RowHash.step c.args.style c.in_ok-text.text.now (sheet_of s) _ _ _ _ c.is_empty-bare.ensures.value c.counts.ensures.value c.measure-end.ensures.value c.fits.ensures in
    let same = ap (λ w. fits (rule_at w g.C.WidthRule.cells g.R.RowHash.seed g.R.RowHash.step) (written (rule_at w g.C.WidthRule.cells g.R.RowHash.seed g.R.RowHash.step) c.args.style c.in_ok-text.text.now (sheet_of s))) c.width-columns.ensures in
    let k = rule_at s.terminal_size.width g.C.WidthRule.cells g.R.RowHash.seed g.R.RowHash.step in
    let whole = ap (λ t. fits k (written k c.args.style t (sheet_of s))) c.in_ok-text.ensures.0 in
    record { answer = (inr (c.in_ok-text.ensures.1, sym whole ∙ sym same ∙ sym fit ∙ c.if-not-fits.true), refl); size = refl; mark = refl }

pub write-requires : goal.write-requires
write-requires g c =
    let s = c.args.self.now in
    measured-within c.width-columns.result g.C.WidthRule.cells g.R.RowHash.seed g.R.RowHash.step c.args.style c.in_ok-text.text.now (sheet_of s) _ _ _ _ c.is_empty-bare.ensures.value c.counts.ensures.value c.measure-end.ensures.value c.fits.ensures c.if-not-fits.false

pub invariant_of-self : goal.invariant_of-self
invariant_of-self g c =
    let s = c.args.self.now in
    let fit = measured c.width-columns.result g.C.WidthRule.cells g.R.RowHash.seed g.R.RowHash.step c.args.style c.in_ok-text.text.now (sheet_of s) _ _ _ _ c.is_empty-bare.ensures.value c.counts.ensures.value c.measure-end.ensures.value c.fits.ensures in
    record { fitting = ap (fits (hashing 0 (λ h b. 0))) c.write.ensures ∙ sym fit ∙ c.if-not-fits.false }
