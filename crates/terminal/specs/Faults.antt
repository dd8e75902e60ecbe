-- Which calls fault, and why. What is asked of a call is asked in the order of this file.
use Rattle.std.specs.Prelude.{◌≡◌, ℕ, ◌+◌, ◌<◌, ◌≤◌, false, List, length}
use Rattle.std.specs.List.{AllByRecursion}
use Rattle.ansi.specs.Pieces.{pieces}
use Rattle.pen.specs.Checks.{Accepted}
use Rattle.layout.specs.Inks.{is_line}
use Rattle.terminal.specs.Pages.{Page, ink}
use Rattle.terminal.specs.Calls.{Call, write, return, feed, clear_line, clear_until_new_line, hide, show, up, down, left, right, flush, cost}
use Rattle.terminal.specs.declared.fault.CallKind.{CallKind}
use Rattle.terminal.specs.declared.fault.CallKind.TheVariants.{WriteStyled, CarriageReturn, LineFeed, ClearLine, ClearUntilNewLine, CursorHide, CursorShow, CursorUp, CursorDown, CursorLeft, CursorRight, Flush}
use Rattle.terminal.specs.declared.fault.Fault.{Fault}
use Rattle.terminal.specs.declared.fault.Fault.TheVariants.{Full, Bottom, Text, Wide, Size}

-- the numbers of faults and of the kinds of call
abbrev pub fault_number : Fault → ℕ
fault_number Full = 1
fault_number Bottom = 2
fault_number Text = 3
fault_number Wide = 4
fault_number Size = 5

abbrev pub kind_number : CallKind → ℕ
kind_number WriteStyled = 1
kind_number CarriageReturn = 2
kind_number LineFeed = 3
kind_number ClearLine = 4
kind_number ClearUntilNewLine = 5
kind_number CursorHide = 6
kind_number CursorShow = 7
kind_number CursorUp = 8
kind_number CursorDown = 9
kind_number CursorLeft = 10
kind_number CursorRight = 11
kind_number Flush = 12

-- a text of one line: UTF-8, no control, newlines included, and no escape sequence but colour sequences
pub record OneLine (text : List ℕ) : Type 0 where
  pub taken : Accepted text
  pub unbroken : AllByRecursion (λ p. is_line p ≡ false) (pieces text)

-- a run has such a text
abbrev pub Sound : Call → Type 0
Sound (write u) = OneLine u.text
Sound return = Unit {0}
Sound feed = Unit {0}
Sound clear_line = Unit {0}
Sound clear_until_new_line = Unit {0}
Sound hide = Unit {0}
Sound show = Unit {0}
Sound (up n) = Unit {0}
Sound (down n) = Unit {0}
Sound (left n) = Unit {0}
Sound (right n) = Unit {0}
Sound flush = Unit {0}

-- a run is no wider than what is left of the cursor's line
abbrev pub Narrow : (ℕ → ℕ) → Call → Page → Type 0
Narrow cells (write u) p = p.cursor.col + length (ink cells u) ≤ p.width
Narrow cells return p = Unit {0}
Narrow cells feed p = Unit {0}
Narrow cells clear_line p = Unit {0}
Narrow cells clear_until_new_line p = Unit {0}
Narrow cells hide p = Unit {0}
Narrow cells show p = Unit {0}
Narrow cells (up n) p = Unit {0}
Narrow cells (down n) p = Unit {0}
Narrow cells (left n) p = Unit {0}
Narrow cells (right n) p = Unit {0}
Narrow cells flush p = Unit {0}

-- a feed and a move down end on one of the lines
abbrev pub Above : Call → Page → Type 0
Above (write u) p = Unit {0}
Above return p = Unit {0}
Above feed p = p.cursor.row + 1 < p.lines
Above clear_line p = Unit {0}
Above clear_until_new_line p = Unit {0}
Above hide p = Unit {0}
Above show p = Unit {0}
Above (up n) p = Unit {0}
Above (down n) p = p.cursor.row + n < p.lines
Above (left n) p = Unit {0}
Above (right n) p = Unit {0}
Above flush p = Unit {0}

-- a call that is performed
pub record Allowed (cells : ℕ → ℕ) (call : Call) (p : Page) : Type 0 where
  pub sound : Sound call
  pub narrow : Narrow cells call p
  pub above : Above call p
  pub paid : cost call ≤ p.left

-- a call that is not, by the first that it fails
abbrev pub Faulty : (ℕ → ℕ) → Call → Page → Fault → Type 0
Faulty cells call p Text = Sound call → ⊥
Faulty cells call p Wide = Sound call × (Narrow cells call p → ⊥)
Faulty cells call p Bottom = Sound call × Narrow cells call p × (Above call p → ⊥)
Faulty cells call p Full = Sound call × Narrow cells call p × Above call p × (p.left < cost call)
Faulty cells call p Size = ⊥
