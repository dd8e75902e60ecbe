use Rattle.std.proofs.Common.{length, sym, ap, subst, arith, length-append}
use Rattle.std.proofs.lemmas.Fmt.{decimal_digit, decimal_step}
use Rattle.ansi_out.specs.Adds.{Adds}
use Rattle.ansi_out.proofs.Adding.{adds-join}
use Rattle.ansi_out.proofs.push.+push_decimal.Goals as goal

pub push-requires : goal.push-requires
push-requires t c = let e = ap length (decimal_digit c.args.n (omega arith)) in omega arith

pub returns-then-n-lt10 : goal.returns-then-n-lt10
returns-then-n-lt10 t c = subst (λ l. Adds c.args.out.now c.push.new.out l) (sym (decimal_digit c.args.n (omega arith))) c.push.ensures

pub push_decimal-requires : goal.push_decimal-requires
push_decimal-requires t c = let e = simp length-append at (ap length (decimal_step c.args.n (omega arith) (omega arith))) in (omega arith, omega arith)

pub push-requires-2 : goal.push-requires-2
push-requires-2 t c = let e = simp length-append at (ap length (decimal_step c.args.n (omega arith) (omega arith))) in omega arith

pub returns : goal.returns
returns t c = subst (λ l. Adds c.args.out.now c.push-2.new.out l) (sym (decimal_step c.args.n (omega arith) (omega arith))) (adds-join c.push_decimal.ensures c.push-2.ensures)
