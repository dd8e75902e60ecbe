use Rattle.store.proofs.Walking.{lines-later}
use Rattle.store.proofs.rows.RowsIterator.next.Goals as goal

pub invariant_of-self : goal.invariant_of-self
invariant_of-self c =
    let s = c.args.self.now in
    record { within = s.within; cuts = s.cuts; joins = s.joins; lines = lines-later _ _ _ c.in_ok-part.ensures.cases.0 _ s.lines }
