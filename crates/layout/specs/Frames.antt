-- What a frame is: rows of runs, and a row that is open.
use Rattle.std.specs.Prelude.{ℕ, List}
use Rattle.style.specs.declared.style.StyleSheet.{StyleSheet}

-- bytes under one style
pub record Run : Type 0 where
  pub text : List ℕ
  pub style : StyleSheet

-- a finished row: its runs, its width in cells, and its hash
pub record Row : Type 0 where
  pub runs : List Run
  pub width : ℕ
  pub hash : ℕ

pub record Frame : Type 0 where
  -- the finished rows
  pub rows : List Row
  -- the runs of the open row
  pub runs : List Run
  -- the bytes and the style of the current run, which has not joined the open row yet
  pub text : List ℕ
  pub style : StyleSheet
  -- the open row's width and hash so far
  pub width : ℕ
  pub hash : ℕ

-- By what a frame is made: the columns of the terminal, the cells of each character, and the row hash's start
-- number and step.
pub record Rule : Type 0 where
  pub columns : ℕ
  pub cells : ℕ → ℕ
  pub seed : ℕ
  pub step : ℕ → ℕ → ℕ
