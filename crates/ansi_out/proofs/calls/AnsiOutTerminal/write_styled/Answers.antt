use Rattle.std.proofs.Common.{◌+◌, refl, ap, ◌∙◌, arith, rules}
use Rattle.std.proofs.lemmas.Result.{err_from_is_err_and}
use Rattle.layout.specs.Writing.{run}
use Rattle.terminal.specs.Calls.{write}
use Rattle.stream.specs.Bytes.{Typed}
use Rattle.stream.proofs.Costs.{costs}
use Rattle.ansi_out.proofs.Calling.{called, full-faulty, held-within, fits-narrow, misfit-faulty}
use Rattle.ansi_out.proofs.calls.AnsiOutTerminal.write_styled.Goals as goal

pub overflow_sub-self : goal.overflow_sub-self
overflow_sub-self c = held-within c.args.self.now

pub returns-in_err-cells : goal.returns-in_err-cells
returns-in_err-cells c =
    let p = err_from_is_err_and c.from_residual.result c.from_residual.ensures.1 in
    rw (p.1, p.2) (misfit-faulty c.args.self.now c.args.text.now c.args.style _ c.in_err-cells.ensures, refl)

pub returns-in_err-check_left : goal.returns-in_err-check_left
returns-in_err-check_left c =
    let s = c.args.self.now in
    let fits = c.in_ok-cells.ensures.1 in
    let narrow = fits-narrow s c.args.text.now c.args.style c.in_ok-cells.cells fits in
    let p = err_from_is_err_and c.from_residual-in_err-check_left.result c.from_residual-in_err-check_left.ensures.1 in
    rw (p.1, p.2) (full-faulty s (write (run c.args.text.now c.args.style)) _ fits.line narrow tt c.in_err-check_left.ensures, refl)

pub push_run-requires : goal.push_run-requires
push_run-requires c =
    let typed : Typed (write (run c.args.text.now c.args.style)) = search rules in
    let cheap = costs (write (run c.args.text.now c.args.style)) typed in
    let paid = c.in_ok-check_left.ensures in
    omega arith

pub invariant_of-self : goal.invariant_of-self
invariant_of-self c =
    let s = c.args.self.now in
    let a = c.push_run.ensures in
    let fits = c.in_ok-cells.ensures.1 in
    let typed : Typed (write (run c.args.text.now c.args.style)) = search rules in
    let narrow = fits-narrow s c.args.text.now c.args.style c.in_ok-cells.cells fits in
    let e = called s (write (run c.args.text.now c.args.style)) _ _ _ (s.work + 1) fits.line typed narrow tt c.in_ok-check_left.ensures a.items a.len a.capacity (omega arith) in
    record { sound = e.sound; row = e.row; column = e.column ∙ ap (λ n. s.col + n) (fits.width c.args.style); paid = e.paid; size = s.size }

pub returns : goal.returns
returns c =
    let s = c.args.self.now in
    let a = c.push_run.ensures in
    let fits = c.in_ok-cells.ensures.1 in
    let typed : Typed (write (run c.args.text.now c.args.style)) = search rules in
    let narrow = fits-narrow s c.args.text.now c.args.style c.in_ok-cells.cells fits in
    let e = called s (write (run c.args.text.now c.args.style)) _ _ _ (s.work + 1) fits.line typed narrow tt c.in_ok-check_left.ensures a.items a.len a.capacity (omega arith) in
    e.does
