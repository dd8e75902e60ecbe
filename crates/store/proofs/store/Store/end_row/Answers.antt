use Rattle.std.proofs.Common.{refl, arith, rules}
use Rattle.store.proofs.Found.{rows-count}
use Rattle.store.proofs.Grow.{sound, row-pile, row_kept}
use Rattle.store.specs.Stores.{pile_of}
use Rattle.store.proofs.store.Store.end_row.Goals as goal

pub returns-then-len-ge-ROWS : goal.returns-then-len-ge-ROWS
returns-then-len-ge-ROWS c = (omega (arith, rows-count c.args.self.now), refl)

pub invariant_of-self : goal.invariant_of-self
invariant_of-self c =
    let s = c.args.self.now in
    let k = row_kept _ _ _ _ _ (sound s) c.args.width c.args.hash _ _ (omega (arith, c.len-to.ensures, s.runs.ok.0)) c.push_reserved.ensures.items in
    record { room = search rules; limits = search rules; opens = k.opens; spans = k.spans; lines = k.lines; cuts = k.cuts; joins = k.joins; ends = k.ends; sized = k.sized }

pub returns : goal.returns
unfolding pile_of
returns c =
    let s = c.args.self.now in (
      omega (arith, rows-count s),
      row-pile _ _ _ _ _ (sound s) c.args.width c.args.hash _ _ (omega (arith, c.len-to.ensures, s.runs.ok.0)) c.push_reserved.ensures.items,
    )
