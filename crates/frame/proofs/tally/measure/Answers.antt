use Rattle.std.proofs.Common.{sym, ◌∙◌, rules}
use Rattle.frame.proofs.Taking.{size-taken, tally-step, tally-end}
use Rattle.frame.proofs.tally.measure.Goals as goal

pub loop-piece-preserved : goal.loop-piece-preserved
loop-piece-preserved g c =
    let size = size-taken _ _ _ c.in-Some.ensures.steps in
    (tally-step _ _ _ _ _ _ _ _ c.in-Some.ensures.steps c.put-counts.ensures.value c.loop-piece.invariant.0, search rules)

pub returns : goal.returns
returns g c = record { value = sym (tally-end _ _ _ _ _ c.in-None.ensures.steps) ∙ c.loop-piece.invariant.0 ∙ search rules; room = search rules }
