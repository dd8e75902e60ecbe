use Rattle.std.proofs.Common.{true, sym, ◌∙◌, subst}
use Rattle.layout.specs.Tally.{tally_closed}
use Rattle.layout.proofs.Counts.{tally-closed}
use Rattle.frame.specs.Counts.{counts_of}
use Rattle.frame.specs.Rewraps.{Spread}
use Rattle.frame.proofs.Rewrapping.{spread-closed}
use Rattle.frame.proofs.rewrap.Measured.close_row.Goals as goal

pub returns : goal.returns
returns c =
    let s = c.args.self in
    record {
      value = λ k f t. record { counts = c.close_row.ensures ∙ (λ i. tally_closed (t.bare i) true (t.counts i)) ∙ sym (tally-closed k true f); bare = t.bare };
      spread = subst (Spread 1 (counts_of s.counts)) (sym c.close_row.ensures) (spread-closed s.bare true (counts_of s.counts));
    }
