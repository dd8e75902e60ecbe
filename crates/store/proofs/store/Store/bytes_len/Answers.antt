use Rattle.std.proofs.Common.{sym, ◌∙◌, arith}
use Rattle.store.proofs.Found.{bytes-held}
use Rattle.store.proofs.store.Store.bytes_len.Goals as goal

pub returns : goal.returns
returns c =
    let s = c.args.self.now in
    record { value = c.len.ensures ∙ sym (bytes-held s); bound = omega (arith, c.len.ensures, s.limits.0) }
