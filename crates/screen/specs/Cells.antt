-- Cells in a list, line after line, and the page that they are.
use Rattle.std.specs.Prelude.{◌≡◌, ℕ, ◌<◌, List, length, slice_index_or}
use Rattle.terminal.specs.Pages as page
use Rattle.terminal.specs.Calls.{laid}
use Rattle.screen.specs.declared.cell.Cell.{Cell}
use Rattle.screen.specs.declared.cell.Cell.TheVariants.{Blank, Char, Half}

abbrev pub cell_of : Cell → page.Cell
cell_of Blank = page.blank
cell_of (Char c s) = page.glyph c s
cell_of Half = page.half

-- the cell at a place, as a page has it
abbrev pub cell_at : List Cell → ℕ → page.Cell
cell_at cs j = cell_of (slice_index_or cs j Blank)

-- cells xs were stored from a place on, as far as the list reaches
pub record Stored (from : ℕ) (xs : List page.Cell) (before after : List Cell) : Type 0 where
  pub each : (j : ℕ) → j < length before → cell_at after j ≡ laid xs from j (cell_at before j)
  pub long : length after ≡ length before
