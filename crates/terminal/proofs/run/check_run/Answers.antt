use Rattle.std.proofs.Common.{◌≡◌, ℕ, ◌-◌, ◌^◌, ◌<◌, ◌≤◌, min, List, ◌∙◌, arith, rules}
use Rattle.ansi.specs.Pieces.{pieces}
use Rattle.terminal.specs.Pages.{span}
use Rattle.terminal.specs.Faults.{OneLine}
use Rattle.terminal.specs.Runs.{Fitting, Misfit}
use Rattle.terminal.specs.declared.fault.Fault.TheVariants.{Wide}
use Rattle.terminal.proofs.Laid.{inked-length}
use Rattle.terminal.proofs.run.check_run.Goals as goal

module _ (cells : ℕ → ℕ) (text : List ℕ) (room n : ℕ) (line : OneLine text) (counted : n ≡ min (span cells (pieces text)) (2 ^ 64 - 1)) (small : room < 2 ^ 16) where
  fits : n ≤ room → Fitting cells text room n
  fits h = record { line = line; width = λ style. inked-length cells style (pieces text) ∙ omega arith; within = h }

  too_wide : room < n → Misfit cells text room Wide
  too_wide h = (line, λ style. omega (arith, inked-length cells style (pieces text)))

pub returns-then-cells-from : goal.returns-then-cells-from
returns-then-cells-from g c =
    let line : OneLine c.args.text.now = search rules in
    let counted : c.in_ok-cells.cells ≡ min (span g.C.WidthRule.cells (pieces c.args.text.now)) (2 ^ 64 - 1) = search rules in
    too_wide g.C.WidthRule.cells c.args.text.now c.args.room c.in_ok-cells.cells line counted (omega arith) (omega arith)

pub returns : goal.returns
returns g c =
    let line : OneLine c.args.text.now = search rules in
    let counted : c.in_ok-cells.cells ≡ min (span g.C.WidthRule.cells (pieces c.args.text.now)) (2 ^ 64 - 1) = search rules in
    (search rules, fits g.C.WidthRule.cells c.args.text.now c.args.room c.in_ok-cells.cells line counted (omega arith) (omega arith))
