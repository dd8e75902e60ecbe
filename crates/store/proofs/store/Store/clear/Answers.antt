use Rattle.std.proofs.Common.{rules}
use Rattle.store.proofs.Grow.{empty-pile, empty-kept}
use Rattle.store.specs.Stores.{pile_of}
use Rattle.store.proofs.store.Store.clear.Goals as goal

pub invariant_of-self : goal.invariant_of-self
invariant_of-self c =
    let k = empty-kept _ _ _ c.clear.ensures.bytes c.clear-2.ensures.items c.clear-3.ensures.items in
    record { room = search rules; limits = search rules; opens = k.opens; spans = k.spans; lines = k.lines; cuts = k.cuts; joins = k.joins; ends = k.ends; sized = k.sized }

pub returns : goal.returns
unfolding pile_of
returns c = empty-pile _ _ _ c.clear.ensures.bytes c.clear-2.ensures.items c.clear-3.ensures.items
