use Rattle.std.proofs.Common.{length, ap, ◌∙◌, arith}
use Rattle.terminal.specs.Pages.{at}
use Rattle.stream.proofs.Costs.{costs}
use Rattle.ansi_out.proofs.Calling.{sent-still}
use Rattle.ansi_out.proofs.out.AnsiOut.send.Goals as goal

pub push_all-requires : goal.push_all-requires
push_all-requires g c =
    let cheap = costs g.call c.requires.typed in
    let same = ap length c.requires.bytes in
    omega (arith, c.requires.price, c.in_ok-check_left.ensures)

pub overflow_add-self : goal.overflow_add-self
overflow_add-self g c =
    let e = sent-still c.args.self.now g.call c.args.bytes.now c.args.work c.push_all.new.out c.requires c.in_ok-check_left.ensures c.push_all.ensures in
    let paid = e.paid in
    omega arith

pub invariant_of-self : goal.invariant_of-self
invariant_of-self g c =
    let s = c.args.self.now in
    let e = sent-still s g.call c.args.bytes.now c.args.work c.push_all.new.out c.requires c.in_ok-check_left.ensures c.push_all.ensures in
    let stays = c.requires.stays s.width (at s.line s.col) in
    record { sound = e.sound; row = e.row ∙ ap (λ p. p.row) stays; column = e.column ∙ ap (λ p. p.col) stays; paid = e.paid; size = s.size }

pub returns : goal.returns
returns g c =
    let e = sent-still c.args.self.now g.call c.args.bytes.now c.args.work c.push_all.new.out c.requires c.in_ok-check_left.ensures c.push_all.ensures in
    e.does
