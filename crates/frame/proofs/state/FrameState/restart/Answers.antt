use Rattle.std.proofs.Common.{ap, ◌∙◌}
use Rattle.layout.specs.Limits.{fits}
use Rattle.frame.specs.Drafts.{hashing}
use Rattle.frame.proofs.Fitting.{fits_fresh}
use Rattle.frame.proofs.state.FrameState.restart.Goals as goal

pub invariant_of-self : goal.invariant_of-self
invariant_of-self g c = let k = hashing 0 (λ h b. 0) in record { fitting = ap (fits k) c.clear.ensures ∙ fits_fresh k }
