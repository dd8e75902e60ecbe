use Rattle.std.proofs.Common.{sym, ◌∙◌, arith}
use Rattle.store.proofs.Found.{rows-count}
use Rattle.store.proofs.store.Store.rows_len.Goals as goal

pub returns : goal.returns
returns c =
    let s = c.args.self.now in
    record { value = c.len.ensures ∙ sym (rows-count s); bound = omega (arith, c.len.ensures, s.limits.2) }
