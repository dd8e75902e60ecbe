use Rattle.std.proofs.Common.{sym, ◌∙◌, arith}
use Rattle.store.proofs.Found.{runs-held}
use Rattle.store.proofs.store.Store.runs_len.Goals as goal

pub returns : goal.returns
returns c =
    let s = c.args.self.now in
    record { value = c.len.ensures ∙ sym (runs-held s); bound = omega (arith, c.len.ensures, s.limits.1) }
