use Rattle.std.proofs.Common.{rules}
use Rattle.store.proofs.Grow.{empty-pile, empty-kept}
use Rattle.store.specs.Stores.{pile_of}
use Rattle.store.proofs.store.Store.open.Goals as goal

pub invariant_of-result : goal.invariant_of-result
invariant_of-result c =
    let k = empty-kept _ _ _ c.in_ok-bytes.ensures.bytes c.in_ok-runs.ensures.items c.in_ok-rows.ensures.items in
    record { room = search rules; limits = search rules; opens = k.opens; spans = k.spans; lines = k.lines; cuts = k.cuts; joins = k.joins; ends = k.ends; sized = k.sized }

pub returns : goal.returns
unfolding pile_of
returns c = empty-pile _ _ _ c.in_ok-bytes.ensures.bytes c.in_ok-runs.ensures.items c.in_ok-rows.ensures.items
