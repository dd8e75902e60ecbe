-- The picture that the rows of a frame make on a page.
use Rattle.std.specs.Prelude.{◌≡◌, ℕ, ◌<◌, List, [], ◌∷◌, ◌++◌, Some, None, Option, slice_index_or}
use Rattle.std.specs.List.{slice_get}
use Rattle.layout.specs.Frames.{Run, Row}
use Rattle.terminal.specs.Pages.{Cell, blank, Page, origin, ink}

-- the cells of runs that follow one another
abbrev pub inks : (ℕ → ℕ) → List Run → List Cell
inks cells [] = []
inks cells (u ∷ us) = ink cells u ++ inks cells us

-- the cell that a row has in column k; it is blank behind the row's end, and where there is no row
abbrev pub in_row : (ℕ → ℕ) → Option Row → ℕ → Cell
in_row cells (Some w) k = slice_index_or (inks cells w.runs) k blank
in_row cells None k = blank

-- row i on line i from column 0, and blanks elsewhere
abbrev pub painted : (ℕ → ℕ) → List Row → ℕ → ℕ → Cell
painted cells rows i k = in_row cells (slice_get rows i) k

-- each cell of the page is the picture's
abbrev pub Shows : Page → (ℕ → ℕ → Cell) → Type 0
Shows p picture = (i k : ℕ) → i < p.lines → k < p.width → p.cells i k ≡ picture i k

-- a page on which nothing was drawn
pub record Blank (p : Page) : Type 0 where
  pub some : 0 < p.width
  pub cells : Shows p (λ i k. blank)
  pub cursor : p.cursor ≡ origin
