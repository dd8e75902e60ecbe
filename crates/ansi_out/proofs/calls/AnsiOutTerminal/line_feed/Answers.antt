use Rattle.std.proofs.Common.{refl, arith}
use Rattle.std.proofs.lemmas.Result.{err_from_is_err_and}
use Rattle.terminal.specs.Calls.{feed}
use Rattle.ansi_out.proofs.Calling.{called, full-faulty, held-line}
use Rattle.ansi_out.proofs.calls.AnsiOutTerminal.line_feed.Goals as goal

pub returns-then-self : goal.returns-then-self
returns-then-self c = let line = held-line c.args.self.now in ((tt, tt, λ above. omega arith), refl)

pub returns-in_err-check_left : goal.returns-in_err-check_left
returns-in_err-check_left c =
    let s = c.args.self.now in
    let line = held-line s in
    let low = s.size.2 in
    let p = err_from_is_err_and c.from_residual.result c.from_residual.ensures.1 in
    rw (p.1, p.2) (full-faulty s feed _ tt tt (omega arith) c.in_err-check_left.ensures, refl)

pub invariant_of-self : goal.invariant_of-self
invariant_of-self c =
    let s = c.args.self.now in
    let a = c.push.ensures in
    let line = held-line s in
    let low = s.size.2 in
    let e = called s feed _ _ _ s.work tt tt tt (omega arith) c.in_ok-check_left.ensures a.items a.len a.capacity (omega arith) in
    record { sound = e.sound; row = e.row; column = e.column; paid = e.paid; size = (s.size.0, s.size.1, omega arith) }

pub returns : goal.returns
returns c =
    let s = c.args.self.now in
    let a = c.push.ensures in
    let line = held-line s in
    let low = s.size.2 in
    let e = called s feed _ _ _ s.work tt tt tt (omega arith) c.in_ok-check_left.ensures a.items a.len a.capacity (omega arith) in
    e.does
