use Rattle.std.proofs.Common.{refl, arith, rules}
use Rattle.store.proofs.Found.{runs-held}
use Rattle.store.proofs.Grow.{sound, run-pile, run-kept}
use Rattle.store.specs.Stores.{pile_of}
use Rattle.store.proofs.store.Store.end_run.Goals as goal

pub returns-then-len-ge-RUNS : goal.returns-then-len-ge-RUNS
returns-then-len-ge-RUNS c = (omega (arith, runs-held c.args.self.now), refl)

pub invariant_of-self : goal.invariant_of-self
invariant_of-self c =
    let s = c.args.self.now in
    let k = run-kept _ _ _ _ _ (sound s) c.args.style _ _ (omega (arith, c.len-to.ensures, s.bytes.bytes.ok.0)) c.push_reserved.ensures.items in
    record { room = search rules; limits = search rules; opens = k.opens; spans = k.spans; lines = k.lines; cuts = k.cuts; joins = k.joins; ends = k.ends; sized = k.sized }

pub returns : goal.returns
unfolding pile_of
returns c =
    let s = c.args.self.now in (
      omega (arith, s.sized.1, s.runs.ok.0),
      run-pile _ _ _ _ _ (sound s) c.args.style _ _ (omega (arith, c.len-to.ensures, s.bytes.bytes.ok.0)) c.push_reserved.ensures.items,
    )
