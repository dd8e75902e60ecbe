use Rattle.std.proofs.Common.{sym, ◌∙◌, arith}
use Rattle.terminal.specs.Calls.{up}
use Rattle.ansi_out.proofs.Calling.{called}
use Rattle.ansi_out.proofs.calls.AnsiOutTerminal.cursor_up.Goals as goal

pub invariant_of-self : goal.invariant_of-self
invariant_of-self c =
    let s = c.args.self.now in
    let a = c.push_move.ensures in
    let e = called s (up c.args.cnt) _ _ _ s.work tt (omega arith) tt tt c.in_ok-check_left.ensures a.items a.len a.capacity (omega arith) in
    record { sound = e.sound; row = e.row ∙ sym c.saturating_sub-self.ensures; column = e.column; paid = e.paid; size = (s.size.0, s.size.1, omega arith) }

pub returns : goal.returns
returns c =
    let s = c.args.self.now in
    let a = c.push_move.ensures in
    let e = called s (up c.args.cnt) _ _ _ s.work tt (omega arith) tt tt c.in_ok-check_left.ensures a.items a.len a.capacity (omega arith) in
    e.does
