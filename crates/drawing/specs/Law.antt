-- What a page shows after a drawing.
use Rattle.std.specs.Prelude.{◌≡◌, ℕ, pred, ◌<◌, Bool, true, List, length, Some, None, Option}
use Rattle.size.specs.declared.position.Position.{Position}
use Rattle.layout.specs.Frames.{Row}
use Rattle.terminal.specs.Pages.{Page, at}
use Rattle.terminal.specs.Outcomes.{Did}
use Rattle.drawing.specs.Painted.{painted, Shows}
use Rattle.drawing.specs.Drawing.{behind, rests_at, drawing}

-- rows painted on a blank page: it shows them, and the cursor is at the start of the last one
pub record Paints (cells : ℕ → ℕ) (rows : List Row) (q : Page) : Type 0 where
  pub shows : Shows q (painted cells rows)
  pub cursor : q.cursor ≡ at (pred (length rows)) 0

-- a mark, if there is one, has its column on the page
abbrev pub Inside : Option Position → ℕ → Type 0
Inside None w = Unit {0}
Inside (Some m) w = m.col < w

-- what a drawing makes of the page p: it shows the new rows, and the cursor, which is shown, is at c
pub record Redrawn (cells : ℕ → ℕ) (new : List Row) (c : Position) (p q : Page) : Type 0 where
  pub width : q.width ≡ p.width
  pub height : q.height ≡ p.height
  pub lines : q.lines ≡ p.lines
  pub shows : Shows q (painted cells new)
  pub cursor : q.cursor ≡ c
  pub shown : q.shown ≡ true

-- a page that shows the last rows, with its cursor where it was noted, shows the new rows after their drawing
abbrev pub Redraws : Type 0
Redraws =
    (cells : ℕ → ℕ) (last new : List Row) (noted : Position) (b : Bool) (mark : Option Position) (p q : Page) →
    Shows p (painted cells last) → p.cursor ≡ noted → noted.col < p.width → Inside mark p.width →
    Did cells (drawing last new noted b mark) p q → Redrawn cells new (rests_at (behind last new b) mark) p q

-- rows drawn over equal rows do no work
abbrev pub Idles : Type 0
Idles =
    (cells : ℕ → ℕ) (last new : List Row) (noted : Position) (b : Bool) (mark : Option Position) (p q : Page) →
    last ≡ new → Did cells (drawing last new noted b mark) p q → q.work ≡ p.work
