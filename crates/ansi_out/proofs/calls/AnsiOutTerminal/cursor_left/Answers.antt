use Rattle.std.proofs.Common.{sym, ◌∙◌, arith}
use Rattle.terminal.specs.Calls.{left}
use Rattle.ansi_out.proofs.Calling.{called}
use Rattle.ansi_out.proofs.calls.AnsiOutTerminal.cursor_left.Goals as goal

pub invariant_of-self : goal.invariant_of-self
invariant_of-self c =
    let s = c.args.self.now in
    let a = c.push_move.ensures in
    let e = called s (left c.args.cnt) _ _ _ s.work tt (omega arith) tt tt c.in_ok-check_left.ensures a.items a.len a.capacity (omega arith) in
    record { sound = e.sound; row = e.row; column = e.column ∙ sym c.leftward-self.ensures; paid = e.paid; size = s.size }

pub returns : goal.returns
returns c =
    let s = c.args.self.now in
    let a = c.push_move.ensures in
    let e = called s (left c.args.cnt) _ _ _ s.work tt (omega arith) tt tt c.in_ok-check_left.ensures a.items a.len a.capacity (omega arith) in
    e.does
