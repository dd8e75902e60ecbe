-- What a person sees of a terminal, and what is counted: cells, a cursor, and two numbers.
use Rattle.std.specs.Prelude.{ℕ, zero, suc, ◌+◌, Bool, List, [], ◌∷◌, ◌++◌, replicate}
use Rattle.style.specs.declared.style.StyleSheet.{StyleSheet}
use Rattle.size.specs.declared.position.Position.{Position}
use Rattle.ansi.specs.Pieces.{Part, sequence, letter, pieces}
use Rattle.pen.specs.Pens.{steered}
use Rattle.layout.specs.Frames.{Run}

pub data Cell : Type 0 where
  blank : Cell
  -- a character, by its code point, and the pen that it was written with
  glyph : ℕ → StyleSheet → Cell
  -- the second half of a wide character
  half : Cell

pub record Page : Type 0 where
  -- the cells of a line
  pub width : ℕ
  -- the height that `get_size` leads a renderer to take
  pub height : ℕ
  -- the lines
  pub lines : ℕ
  -- the cell on a line (counted from 0) in a column; a page has none past its lines and its width
  pub cells : ℕ → ℕ → Cell
  -- the cursor's line and column; the column may be the width, behind the last cell
  pub cursor : Position
  pub shown : Bool
  -- how many runs and clears were accepted
  pub work : ℕ
  -- how much the calls to come may cost
  pub left : ℕ

abbrev pub at : ℕ → ℕ → Position
at line column = record { row = line; col = column }

abbrev pub origin : Position
origin = at 0 0

-- the cells of a character that takes n cells: its own, and halves
abbrev pub spread : ℕ → Cell → List Cell
spread zero x = []
spread (suc n) x = x ∷ replicate n half

-- The cells that pieces leave, from left to right: a character takes as many as the rule gives it, and a colour sequence
-- steers the pen.
abbrev pub inked : (ℕ → ℕ) → StyleSheet → List Part → List Cell
inked cells pen [] = []
inked cells pen (letter c ∷ ps) = spread (cells c) (glyph c pen) ++ inked cells pen ps
inked cells pen (sequence bs ∷ ps) = inked cells (steered pen bs) ps

-- the cells that a run leaves: the pen starts at its style
abbrev pub ink : (ℕ → ℕ) → Run → List Cell
ink cells u = inked cells u.style (pieces u.text)

-- the cells that the characters among pieces take together
abbrev pub span : (ℕ → ℕ) → List Part → ℕ
span cells [] = 0
span cells (letter c ∷ ps) = cells c + span cells ps
span cells (sequence bs ∷ ps) = span cells ps
