-- What a terminal shows of the bytes that it is sent.
use Rattle.std.specs.Prelude.{ℕ, ◌+◌, min, Bool, true, cond, List, [], Some, None, fold, Option, ◌==◌, nat_le}
use Rattle.style.specs.declared.style.StyleSheet.{StyleSheet}
use Rattle.style.specs.Styles.{plain}
use Rattle.size.specs.declared.position.Position.{Position}
use Rattle.ansi.specs.Pieces.{Part, sequence, letter, pieces}
use Rattle.pen.specs.Pens.{steered}
use Rattle.terminal.specs.Pages.{Cell, blank, glyph, Page, at, origin, spread}
use Rattle.terminal.specs.Calls.{Call, Meaning, return, feed, laid, meaning}
use Rattle.stream.specs.Controls.{asked}

-- the part of a page that bytes tell
pub record View : Type 0 where
  pub cells : ℕ → ℕ → Cell
  pub cursor : Position
  pub shown : Bool

abbrev pub viewed : Page → View
viewed p = record { cells = p.cells; cursor = p.cursor; shown = p.shown }

-- what a call makes of it
abbrev pub performed : Meaning → View → View
performed m v = record { cells = λ i k. m.paint v.cursor i k (v.cells i k); cursor = m.move v.cursor; shown = m.light v.shown }

-- a view, and the pen for the characters to come
pub record Desk : Type 0 where
  pub view : View
  pub pen : StyleSheet

abbrev pub desk : View → StyleSheet → Desk
desk v s = record { view = v; pen = s }

-- a blank page, and a plain pen
abbrev pub start : Desk
start = desk (record { cells = λ i k. blank; cursor = origin; shown = true }) plain

module _ (cells : ℕ → ℕ) (w : ℕ) where
  abbrev pub heeded : Option Call → View → View
  heeded None v = v
  heeded (Some call) v = performed (meaning cells w call) v

  -- A character of n cells is laid from the cursor on. Where it does not fit the line, it leaves no cell.
  abbrev pub typed : StyleSheet → ℕ → View → View
  typed pen c v = record {
    cells = λ i k. cond (i == v.cursor.row) (laid (cond (nat_le (v.cursor.col + cells c) w) (spread (cells c) (glyph c pen)) []) v.cursor.col k (v.cells i k)) (v.cells i k);
    cursor = at v.cursor.row (min w (v.cursor.col + cells c));
    shown = v.shown;
  }

  -- one piece: CR and LF, another character, or an escape sequence
  abbrev pub step : Desk → Part → Desk
  step d (letter c) = desk (cond (c == 13) (heeded (Some return) d.view) (cond (c == 10) (heeded (Some feed) d.view) (typed d.pen c d.view))) d.pen
  step d (sequence bs) = desk (heeded (asked bs) d.view) (steered d.pen bs)

  abbrev pub reading : Desk → List ℕ → Desk
  reading d bs = fold step d (pieces bs)

  -- what the bytes read as
  abbrev pub view_of : List ℕ → View
  view_of bs = (reading start bs).view
