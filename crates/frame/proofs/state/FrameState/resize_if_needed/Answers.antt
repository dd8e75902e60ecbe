use Rattle.std.proofs.Common.{false, sym, refl, ap, ◌∙◌}
use Rattle.std.proofs.lemmas.Bool.Decides.{Decides-at, not_from_Decides}
use Rattle.size.specs.Equality.{sizes_decide}
use Rattle.layout.specs.Limits.{fits}
use Rattle.layout.specs.Writing.{rewrapped}
use Rattle.frame.specs.Drafts.{frame_of, rule_at, hashing}
use Rattle.frame.specs.States.{sheet_of}
use Rattle.frame.proofs.Rewrapping.{rewrap-fits}
use Rattle.frame.proofs.state.FrameState.resize_if_needed.Goals as goal

pub returns-then-not-fits : goal.returns-then-not-fits
returns-then-not-fits g c =
    let f = sheet_of c.args.self.now in
    let fit = rewrap-fits (rule_at c.width-columns.result g.C.WidthRule.cells g.R.RowHash.seed g.R.RowHash.step) f _ _ _ c.measure_rewrap-end.ensures.value c.is_empty.ensures.value c.fits.ensures in
    let same = ap (λ w. fits (rule_at w g.C.WidthRule.cells g.R.RowHash.seed g.R.RowHash.step) (rewrapped (rule_at w g.C.WidthRule.cells g.R.RowHash.seed g.R.RowHash.step) f)) c.width-columns.ensures in
    ((not_from_Decides false (Decides-at _ _ c.if-eq.ensures (sizes_decide c.args.self.now.terminal_size c.args.new_size)) refl, sym same ∙ sym fit ∙ c.if-not-fits.true, refl), refl, refl)

pub invariant_of-self : goal.invariant_of-self
invariant_of-self g c =
    let k = rule_at c.width-columns.result g.C.WidthRule.cells g.R.RowHash.seed g.R.RowHash.step in
    let fit = rewrap-fits k (sheet_of c.args.self.now) _ _ _ c.measure_rewrap-end.ensures.value c.is_empty.ensures.value c.fits.ensures in
    record { fitting = ap (λ d. fits (hashing 0 (λ h b. 0)) (frame_of d)) c.swap.ensures.x_after ∙ ap (fits (hashing 0 (λ h b. 0))) c.rewrite.ensures ∙ sym fit ∙ c.if-not-fits.false }
