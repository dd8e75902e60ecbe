-- The rules of a renderer, by its width rule and its row hash.
use Rattle.std.specs.Prelude.{ℕ}
use Rattle.width.specs.declared.hash.RowHash.{Ghosts as RowHash}
use Rattle.width.specs.declared.rule.WidthRule.{Ghosts as WidthRule}
use Rattle.frame.specs.States.{sheet_of}
use Rattle.frame.specs.declared.state.FrameState.{FrameState}
use Rattle.history.specs.Machines.{Rules, Sheet}

abbrev pub rules : (ℕ → ℕ) → ℕ → (ℕ → ℕ → ℕ) → Rules
rules cells seed step = record { cells = cells; seed = seed; step = step }

-- the same, by the ghost members of a width rule and a row hash
abbrev pub rules_by : {C R : Type 0} → WidthRule C → RowHash R → Rules
rules_by c r = rules c.cells r.seed r.step

-- a frame in memory, as a frame and the size that it is folded for
abbrev pub sheet_from : {C R : Type 0} → FrameState C R → Sheet
sheet_from s = record { frame = sheet_of s; width = s.terminal_size.width; height = s.terminal_size.height }
