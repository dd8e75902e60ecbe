-- The calls of a terminal: what each does to the page, and what it costs.
use Rattle.std.specs.Prelude.{ℕ, zero, suc, ◌+◌, ◌-◌, min, Bool, true, false, cond, List, [], ◌∷◌, length, Option, ◌==◌, nat_le, slice_index_or}
use Rattle.size.specs.declared.position.Position.{Position}
use Rattle.layout.specs.Frames.{Run}
use Rattle.terminal.specs.Pages.{Cell, blank, Page, at, ink}
use Rattle.terminal.specs.declared.fault.CallKind.{CallKind}
use Rattle.terminal.specs.declared.fault.CallKind.TheVariants.{WriteStyled, CarriageReturn, LineFeed, ClearLine, ClearUntilNewLine, CursorHide, CursorShow, CursorUp, CursorDown, CursorLeft, CursorRight, Flush}

pub data Call : Type 0 where
  write : Run → Call
  return feed : Call
  clear_line clear_until_new_line : Call
  hide show : Call
  up down left right : ℕ → Call
  flush : Call

-- the kind of a call
abbrev pub kind_of : Call → CallKind
kind_of (write u) = WriteStyled
kind_of return = CarriageReturn
kind_of feed = LineFeed
kind_of clear_line = ClearLine
kind_of clear_until_new_line = ClearUntilNewLine
kind_of hide = CursorHide
kind_of show = CursorShow
kind_of (up n) = CursorUp
kind_of (down n) = CursorDown
kind_of (left n) = CursorLeft
kind_of (right n) = CursorRight
kind_of flush = Flush

-- What a call means: what it makes of each cell (told by where the cursor is, the cell's line and column, and what the
-- cell holds), where the cursor goes, whether it is shown, and how far `work` rises.
pub record Meaning : Type 0 where
  pub paint : Position → ℕ → ℕ → Cell → Cell
  pub move : Position → Position
  pub light : Bool → Bool
  pub work : ℕ

-- a call that moves the cursor touches no cell
abbrev moves : (Position → Position) → Meaning
moves f = record { paint = λ c i k x. x; move = f; light = λ b. b; work = 0 }

-- a call that hides or shows the cursor touches no cell either
abbrev lights : Bool → Meaning
lights b = record { paint = λ c i k x. x; move = λ c. c; light = λ _. b; work = 0 }

-- a call that draws changes cells of the cursor's line, and of no other
abbrev draws : (Position → ℕ → Cell → Cell) → (Position → Position) → Meaning
draws f g = record { paint = λ c i k x. cond (i == c.row) (f c k x) x; move = g; light = λ b. b; work = 1 }

-- cells laid from column c on: the cell in column k, where x stood before
abbrev pub laid : List Cell → ℕ → ℕ → Cell → Cell
laid xs c k x = cond (nat_le c k) (slice_index_or xs (k - c) x) x

-- Left and right on a line of w cells stop at column 0 and at the last column. Behind the last cell counts as the last
-- column, and count 0 moves nothing.
abbrev pub leftward : ℕ → ℕ → ℕ → ℕ
leftward w zero c = c
leftward w (suc n) c = min c (w - 1) - suc n

abbrev pub rightward : ℕ → ℕ → ℕ → ℕ
rightward w zero c = c
rightward w (suc n) c = min (min c (w - 1) + suc n) (w - 1)

-- what a call means on lines of w cells, where a character takes as many cells as `cells` says
abbrev pub meaning : (ℕ → ℕ) → ℕ → Call → Meaning
meaning cells w (write u) = draws (λ c k x. laid (ink cells u) c.col k x) (λ c. at c.row (c.col + length (ink cells u)))
meaning cells w return = moves (λ c. at c.row 0)
meaning cells w feed = moves (λ c. at (c.row + 1) c.col)
meaning cells w clear_line = draws (λ c k x. blank) (λ c. c)
meaning cells w clear_until_new_line = draws (λ c k x. cond (nat_le c.col k) blank x) (λ c. c)
meaning cells w hide = lights false
meaning cells w show = lights true
meaning cells w (up n) = moves (λ c. at (c.row - n) c.col)
meaning cells w (down n) = moves (λ c. at (c.row + n) c.col)
meaning cells w (left n) = moves (λ c. at c.row (leftward w n c.col))
meaning cells w (right n) = moves (λ c. at c.row (rightward w n c.col))
meaning cells w flush = moves (λ c. c)

-- the page after a call that is performed; how far `left` falls is not said here
abbrev pub effect : (ℕ → ℕ) → Call → Page → Page
effect cells call p =
    let m = meaning cells p.width call in
    record {
      width = p.width;
      height = p.height;
      lines = p.lines;
      cells = λ i k. m.paint p.cursor i k (p.cells i k);
      cursor = m.move p.cursor;
      shown = m.light p.shown;
      work = m.work + p.work;
      left = p.left;
    }

-- a run of n bytes costs n + 50, any other call 8
abbrev pub cost : Call → ℕ
cost (write u) = length u.text + 50
cost return = 8
cost feed = 8
cost clear_line = 8
cost clear_until_new_line = 8
cost hide = 8
cost show = 8
cost (up n) = 8
cost (down n) = 8
cost (left n) = 8
cost (right n) = 8
cost flush = 8

-- a call that is to be made, and the row of a frame that it is made for, if it is for one
pub record Order : Type 0 where
  pub call : Call
  pub row : Option ℕ

abbrev pub effects : (ℕ → ℕ) → List Order → Page → Page
effects cells [] p = p
effects cells (o ∷ os) p = effects cells os (effect cells o.call p)

abbrev pub costs : List Order → ℕ
costs [] = 0
costs (o ∷ os) = cost o.call + costs os
