use Rattle.std.proofs.Common.{◌||◌, sym, ap, ◌∙◌, rules}
use Rattle.std.proofs.lemmas.Bool.{or_left}
use Rattle.frame.proofs.Rewrapping.{run-measured}
use Rattle.frame.proofs.rewrap.Measured.write.Goals as goal

pub returns-then-end : goal.returns-then-end
returns-then-end g c = run-measured _ _ c.args.style c.args.text.now c.args.self _ _ _ (search rules) c.is_empty-bare.ensures.value c.measure-end.ensures.value c.end_run.ensures _ (c.if-end.true ∙ sym (or_left _ _ c.if-end.true))

pub returns-else-end : goal.returns-else-end
returns-else-end g c = run-measured _ _ c.args.style c.args.text.now c.args.self _ _ _ (search rules) c.is_empty-bare.ensures.value c.measure-end.ensures.value c.end_run.ensures _ (sym (ap (λ b. b || c.is_empty-bare.result) c.if-end.false))
