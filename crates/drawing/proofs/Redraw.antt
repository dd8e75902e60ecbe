-- What a page shows after a whole drawing, and where the cursor is.
use Rattle.std.proofs.Common.{◌≡◌, ℕ, ◌+◌, ◌<◌, Bool, true, false, List, [], length, Some, None, Option, refl, ap, ◌∙◌, arith}
use Rattle.std.proofs.lemmas.Bool.Decides.{nat_tests}
use Rattle.size.specs.declared.position.Position.{Position}
use Rattle.layout.specs.Frames.{Row}
use Rattle.terminal.specs.Pages.{Page, at, origin}
use Rattle.terminal.specs.Calls.{hide, show, flush, effect, effects}
use Rattle.terminal.specs.Outcomes.{Did}
use Rattle.terminal.proofs.Effects.{did-effects, effects-append, effects-width, effects-height, effects-lines}
use Rattle.drawing.specs.Painted.{painted, Blank}
use Rattle.drawing.specs.Drawing.{going, rows_from, taller, emptied, behind, to_mark, rests_at, drawing}
use Rattle.drawing.specs.Law.{Paints, Inside, Redraws}
use Rattle.drawing.proofs.Going.{same-position, going-cell, going-cursor}
use Rattle.drawing.proofs.Rows.{rows-cell, rows-cursor}

module _ (cells : ℕ → ℕ) where
  emptied-cell : (b : Bool) (p : Page) (i k : ℕ) → (effects cells (emptied b) p).cells i k ≡ p.cells i k
  emptied-cell true p i k = refl
  emptied-cell false p i k = refl

  emptied-cursor : (b : Bool) (p : Page) (l : ℕ) → p.cursor ≡ at l 0 → (effects cells (emptied b) p).cursor ≡ at (l + length (emptied b)) 0
  emptied-cursor true p l e = rw e (same-position (omega arith) refl)
  emptied-cursor false p l e = e ∙ same-position (omega arith) refl

  mark-cell : (a : Position) (m : Option Position) (p : Page) (i k : ℕ) → (effects cells (to_mark a m) p).cells i k ≡ p.cells i k
  mark-cell a None p i k = refl
  mark-cell a (Some m) p i k = going-cell cells p a m i k

  mark-cursor : (a : Position) (m : Option Position) (p : Page) → p.cursor ≡ a → a.col < p.width → Inside m p.width → (effects cells (to_mark a m) p).cursor ≡ rests_at a m
  mark-cursor a None p e f g = e
  mark-cursor a (Some m) p e f g = going-cursor cells p a m e f g

  module _ (last new : List Row) (noted : Position) (b : Bool) (mark : Option Position) (p : Page) where
    -- the page after the parts of the drawing
    abbrev at_origin : Page
    at_origin = effects cells (going noted origin) (effect cells hide p)

    abbrev with_rows : Page
    with_rows = effects cells (rows_from last new (taller last new) 0) at_origin

    abbrev with_empty : Page
    with_empty = effects cells (emptied b) with_rows

    abbrev with_mark : Page
    with_mark = effects cells (to_mark (behind last new b) mark) with_empty

    parts : effects cells (drawing last new noted b mark) p ≡ effect cells flush (effect cells show with_mark)
    parts = simp effects-append

    module _ (here : p.cursor ≡ noted) (inside : noted.col < p.width) where
      origin-reached : at_origin.cursor ≡ origin
      origin-reached = going-cursor cells (effect cells hide p) noted origin here inside (omega arith)

      drawn-cell : (i k : ℕ) → p.cells i k ≡ painted cells last i k → (effects cells (drawing last new noted b mark) p).cells i k ≡ painted cells new i k
      drawn-cell i k h =
          let e : at_origin.cells i k ≡ painted cells last i k = going-cell cells (effect cells hide p) noted origin i k ∙ h in
          let rows = rows-cell cells last new i k (taller last new) 0 at_origin (omega arith) (omega arith) origin-reached (grind (arith, nat_tests)) in
          ap (λ q. q.cells i k) parts ∙ mark-cell (behind last new b) mark with_empty i k ∙ emptied-cell b with_rows i k ∙ rows

      drawn-cursor : Inside mark p.width → (effects cells (drawing last new noted b mark) p).cursor ≡ rests_at (behind last new b) mark
      drawn-cursor g =
          let rows = rows-cursor cells last new (taller last new) 0 at_origin origin-reached in
          let w : with_empty.width ≡ p.width = simp effects-width in
          ap (λ q. q.cursor) parts ∙ mark-cursor (behind last new b) mark with_empty (emptied-cursor b with_rows _ rows ∙ same-position (omega arith) refl) (omega arith) (rw w g)

    drawn-shown : (effects cells (drawing last new noted b mark) p).shown ≡ true
    drawn-shown = ap (λ q. q.shown) parts

pub redraw : Redraws
redraw cells last new noted b mark p q s here inside g d =
    let a = did-effects cells d in
    let os = drawing last new noted b mark in
    let w = effects-width cells os p in
    let n = effects-lines cells os p in
    record {
      width = a.width ∙ w;
      height = a.height ∙ effects-height cells os p;
      lines = a.lines ∙ n;
      shows = λ i k h j. a.cells i k (omega arith) (omega arith) ∙ drawn-cell cells last new noted b mark p here inside i k (s i k (omega arith) (omega arith));
      cursor = a.cursor ∙ drawn-cursor cells last new noted b mark p here inside g;
      shown = a.shown ∙ drawn-shown cells last new noted b mark p;
    }

-- rows over no rows, on a blank page
pub paint-shows : (cells : ℕ → ℕ) (rows : List Row) {p q : Page} → Blank p → Did cells (rows_from [] rows (length rows) 0) p q → Paints cells rows q
paint-shows cells rows {p} {q} blank d =
    let a = did-effects cells d in
    let os = rows_from [] rows (length rows) 0 in
    let w = effects-width cells os p in
    let n = effects-lines cells os p in
    record {
      shows = λ i k h j.
          let e = blank.cells i k (omega arith) (omega arith) in
          a.cells i k (omega arith) (omega arith) ∙ rows-cell cells [] rows i k (length rows) 0 p (omega arith) (omega arith) blank.cursor (grind (arith, nat_tests));
      cursor = a.cursor ∙ rows-cursor cells [] rows (length rows) 0 p blank.cursor ∙ same-position (omega arith) refl;
    }
