use Rattle.std.proofs.Common.{◌≡◌, true, sym, ap, subst, arith}
use Rattle.stream.specs.Grounded.{grounded}
use Rattle.stream.proofs.Grounded.{grounded-none}
use Rattle.ansi_out.proofs.Calling.{blank-page, blank-cursor}
use Rattle.ansi_out.proofs.out.AnsiOut.new.Goals as goal

pub invariant_of-result : goal.invariant_of-result
invariant_of-result c =
    let none = c.clear.ensures.items in
    let cursor = blank-cursor c.args.width _ none in
    record { sound = subst (λ l. grounded l ≡ true) (sym none) grounded-none; row = ap (λ p. p.row) cursor; column = ap (λ p. p.col) cursor; paid = omega arith; size = (omega arith, omega arith, omega arith) }

pub returns : goal.returns
returns c = (blank-page c.args.width c.args.height _ _ _ c.clear.ensures.items (omega arith), c.clear.ensures.items, omega arith, omega arith)
