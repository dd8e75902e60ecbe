use Rattle.std.proofs.Common.{◌≡◌, ◌+◌, ◌-◌, replicate, sym, subst, arith, rules}
use lib.ListN.{length-replicate}
use Rattle.std.proofs.lemmas.Slice.{put_mid-paste}
use Rattle.screen.specs.Cells.{cell_of, Stored}
use Rattle.screen.proofs.Stores.{stored-fill}
use Rattle.screen.proofs.cells.fill.Goals as goal

pub returns : goal.returns
returns c =
    let cs = c.args.cells.now in
    let filled : c.fill.new.self ≡ replicate c.args.n c.args.cell = search rules in
    let pasted = put_mid-paste c.args.from (c.args.from + c.args.n - c.args.from) cs c.fill.new.self (replicate c.args.n c.args.cell) c.args.n filled (omega arith) (sym (length-replicate c.args.n c.args.cell)) in
    subst (λ ds. Stored c.args.from (replicate c.args.n (cell_of c.args.cell)) cs ds) (sym pasted) (stored-fill c.args.from c.args.cell cs c.args.n (omega arith))
