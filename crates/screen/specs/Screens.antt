-- The page that a screen shows.
use Rattle.std.specs.Prelude.{ℕ, ◌+◌, ◌*◌, Bool, true, List}
use Rattle.terminal.specs.Pages.{Page, at, blank, origin}
use Rattle.screen.specs.declared.cell.Cell.{Cell}
use Rattle.screen.specs.declared.purse.Purse.{Purse}
use Rattle.screen.specs.declared.screen.Screen.{Screen}
use Rattle.screen.specs.Cells.{cell_at}
use Rattle.screen.specs.Purses.{work_of, left_of}

-- The page of h lines of w cells that stand line after line, by the cursor's line and column, and whether it is shown.
abbrev pub page_at : List Cell → ℕ → ℕ → ℕ → ℕ → Bool → Purse → Page
page_at cs w h l c b p = record {
  width = w;
  height = h;
  lines = h;
  cells = λ i k. cell_at cs (i * w + k);
  cursor = at l c;
  shown = b;
  work = work_of p;
  left = left_of p;
}

abbrev pub page_of : {C : Type 0} → Screen C → Page
page_of s = page_at s.cells.now s.width s.height s.line s.col s.shown s.purse

-- a blank page, with the cursor shown on its first cell, on which nothing was drawn
abbrev pub blank_page : ℕ → ℕ → ℕ → Page
blank_page width height left = record {
  width = width;
  height = height;
  lines = height;
  cells = λ i k. blank;
  cursor = origin;
  shown = true;
  work = 0;
  left = left;
}
