use Rattle.std.proofs.Common.{◌∙◌}
use Rattle.layout.specs.Limits.{fits}
use Rattle.frame.specs.Drafts.{frame_at, hashing}
use Rattle.frame.proofs.Fitting.{fits_fresh}
use Rattle.frame.proofs.state.FrameState.new.Goals as goal

pub invariant_of-result : goal.invariant_of-result
invariant_of-result g c =
    let k = hashing 0 (λ h b. 0) in
    let pile = c.in_ok-store.ensures in
    let style = c.empty.ensures in
    record { fitting = (λ i. fits k (frame_at (pile i) (style i) 0 c.begin.result)) ∙ fits_fresh k }
