use Rattle.std.proofs.Common.{arith}
use Rattle.terminal.specs.Calls.{return}
use Rattle.ansi_out.proofs.Calling.{called}
use Rattle.ansi_out.proofs.calls.AnsiOutTerminal.carriage_return.Goals as goal

pub invariant_of-self : goal.invariant_of-self
invariant_of-self c =
    let s = c.args.self.now in
    let a = c.push.ensures in
    let e = called s return _ _ _ s.work tt tt tt tt c.in_ok-check_left.ensures a.items a.len a.capacity (omega arith) in
    record { sound = e.sound; row = e.row; column = e.column; paid = e.paid; size = s.size }

pub returns : goal.returns
returns c =
    let s = c.args.self.now in
    let a = c.push.ensures in
    let e = called s return _ _ _ s.work tt tt tt tt c.in_ok-check_left.ensures a.items a.len a.capacity (omega arith) in
    e.does
