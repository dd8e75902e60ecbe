use Rattle.std.proofs.Common.{refl}
use Rattle.frame.proofs.Rewrapping.{fresh-tally}
use Rattle.frame.proofs.rewrap.Measured.fresh.Goals as goal

pub returns : goal.returns
returns c = λ k. record { counts = fresh-tally k; bare = refl }
