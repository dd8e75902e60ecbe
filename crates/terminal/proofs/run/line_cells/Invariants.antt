use Rattle.std.proofs.Common.{◌≡◌, ◌+◌, ◌-◌, ◌^◌, ◌<◌, min, false}
use Rattle.std.specs.List.{AllByRecursion}
use Rattle.ansi.specs.Reading.{remaining}
use Rattle.layout.specs.Inks.{is_line}
use Rattle.terminal.specs.Pages.{span}
use Rattle.terminal.proofs.run.line_cells.Given as goal

-- what is left has no newline where the whole has none, and its cells are those that are missing in the sum
abbrev pub invariant-loop-piece : goal.invariant-loop-piece
invariant-loop-piece g l =
    (AllByRecursion (λ p. is_line p ≡ false) (remaining l.piece-iterator) → AllByRecursion (λ p. is_line p ≡ false) (remaining l.initial.piece-iterator))
    × (AllByRecursion (λ p. is_line p ≡ false) (remaining l.initial.piece-iterator) → AllByRecursion (λ p. is_line p ≡ false) (remaining l.piece-iterator))
    × (min (l.sum + span g.C.WidthRule.cells (remaining l.piece-iterator)) (2 ^ 64 - 1) ≡ min (span g.C.WidthRule.cells (remaining l.initial.piece-iterator)) (2 ^ 64 - 1))
    × (l.sum < 2 ^ 64)
