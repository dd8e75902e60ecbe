-- Where the bytes leave the cursor, found without the cells.
use Rattle.std.specs.Prelude.{ℕ, ◌+◌, min, cond, List, Some, None, fold, Option, ◌==◌}
use Rattle.size.specs.declared.position.Position.{Position}
use Rattle.ansi.specs.Pieces.{Part, sequence, letter, pieces}
use Rattle.terminal.specs.Pages.{at, origin}
use Rattle.terminal.specs.Calls.{Call, return, feed, meaning}
use Rattle.stream.specs.Controls.{asked}

module _ (cells : ℕ → ℕ) (w : ℕ) where
  abbrev pub moved : Option Call → Position → Position
  moved None p = p
  moved (Some call) p = (meaning cells w call).move p

  -- the cursor after a piece
  abbrev pub placed : Position → Part → Position
  placed p (letter c) = cond (c == 13) (moved (Some return) p) (cond (c == 10) (moved (Some feed) p) (at p.row (min w (p.col + cells c))))
  placed p (sequence bs) = moved (asked bs) p

  unfoldable pub cursor_of : List ℕ → Position
  cursor_of bs = fold placed origin (pieces bs)
