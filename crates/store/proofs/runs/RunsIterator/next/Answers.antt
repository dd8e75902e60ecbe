use Rattle.store.proofs.Walking.{inside-later, cuts-later, joins-later, run-first}
use Rattle.store.proofs.runs.RunsIterator.next.Goals as goal

pub invariant_of-self : goal.invariant_of-self
invariant_of-self c =
    let s = c.args.self.now in
    let e = c.in_ok-span.ensures.cases.0 in
    record { within = inside-later _ _ _ e _ s.within; cuts = cuts-later _ _ _ e _ s.cuts; joins = joins-later _ _ _ e s.joins }

pub returns-clause-steps : goal.returns-clause-steps
returns-clause-steps c = run-first _ _ _ c.in_ok-span.ensures.cases.0 _ _ c.range.ensures.value
