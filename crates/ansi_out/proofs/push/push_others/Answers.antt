use Rattle.std.proofs.Common.{sym, subst, arith}
use Rattle.ansi_out.specs.Adds.{Adds}
use Rattle.ansi_out.proofs.Adding.{adds-join, others-more, others-within}
use Rattle.ansi_out.proofs.push.push_others.Goals as goal

pub push-requires : goal.push-requires
push-requires c = let e = others-within c.args.ns.now c.loop-n.n-index (omega arith) in omega arith

pub push_decimal-requires : goal.push_decimal-requires
push_decimal-requires c = let e = others-within c.args.ns.now c.loop-n.n-index (omega arith) in omega arith

pub loop-n-preserved : goal.loop-n-preserved
loop-n-preserved c =
    let one_more = sym (others-more c.args.ns.now c.loop-n.n-index (omega arith)) in
    subst (λ l. Adds c.args.out.now c.push_decimal.new.out l) one_more (adds-join c.loop-n.invariant (adds-join c.push.ensures c.push_decimal.ensures))
