-- The rows: after them each line shows the new frame's row.
use Rattle.std.proofs.Common.{◌≡◌, ℕ, zero, suc, pred, ◌+◌, ◌≤◌, cond, eqb, ltb, List, [], ◌∷◌, ◌++◌, length, get_or, Some, None, Option, refl, ap, ◌∙◌, arith, length-append}
use Rattle.std.specs.List.{slice_get}
use Rattle.std.proofs.lemmas.List.{get_or_past, get_or_default}
use Rattle.std.proofs.lemmas.Option.{slice_get_past}
use Rattle.std.proofs.lemmas.Bool.{cond_both}
use Rattle.std.proofs.lemmas.Bool.Decides.{nat_tests}
use Rattle.layout.specs.Frames.{Run, Row}
use Rattle.terminal.specs.Pages.{Page, blank, at, ink}
use Rattle.terminal.specs.Calls.{write, clear_until_new_line, return, feed, effect, effects, laid}
use Rattle.terminal.proofs.Laid.{laid-append}
use Rattle.terminal.proofs.Effects.{effects-append}
use Rattle.drawing.specs.Painted.{inks, in_row, painted}
use Rattle.drawing.specs.SameRows.{same_row}
use Rattle.drawing.specs.Drawing.{for_row, sent, row_orders, rows_from}
use Rattle.drawing.proofs.SameRows.{compares}
use Rattle.drawing.proofs.Going.{same-position}

module _ (cells : ℕ → ℕ) where
  module _ (l : ℕ) where
    runs-cursor : (us : List Run) (p : Page) → (effects cells (sent l us) p).cursor ≡ at p.cursor.row (p.cursor.col + length (inks cells us))
    runs-cursor [] p = same-position refl (omega arith)
    runs-cursor (u ∷ us) p = runs-cursor us (effect cells (write u) p) ∙ same-position refl (omega (arith, length-append (ink cells u) (inks cells us)))

    runs-cell : (us : List Run) (p : Page) (i k : ℕ) →
        (effects cells (sent l us) p).cells i k ≡ cond (eqb i p.cursor.row) (laid (inks cells us) p.cursor.col k (p.cells i k)) (p.cells i k)
    runs-cell [] p i k = grind (arith, nat_tests)
    runs-cell (u ∷ us) p i k = rw (runs-cell us (effect cells (write u) p) i k, laid-append (ink cells u)) (grind (arith, nat_tests))

    -- a row is sent, and the rest of its line cleared
    sent-cell : (us : List Run) (p : Page) (i k : ℕ) → p.cursor.col ≡ 0 →
        (effects cells (sent l us ++ (for_row l clear_until_new_line ∷ [])) p).cells i k ≡ cond (eqb i p.cursor.row) (get_or (inks cells us) k blank) (p.cells i k)
    sent-cell us p i k e = simp (effects-append, runs-cursor, runs-cell, e) (grind (arith, nat_tests, get_or_past, get_or_default))

    -- The line of a row shows the new frame's row, if it showed the last frame's before. The cell i, k stands for any.
    row-cell : (a b : Option Row) (p : Page) (i k : ℕ) → p.cursor.col ≡ 0 → (i ≡ p.cursor.row → p.cells i k ≡ in_row cells a k) →
        (effects cells (row_orders l a b) p).cells i k ≡ cond (eqb i p.cursor.row) (in_row cells b k) (p.cells i k)
    row-cell (Some a) (Some b) p i k e h =
        cond_both (same_row a b) _ _ (λ os. (effects cells os p).cells i k ≡ cond (eqb i p.cursor.row) (in_row cells (Some b) k) (p.cells i k))
        (λ t. let x = (compares a b).0 t in rw (← x) (grind (arith, nat_tests)))
        (λ _. sent-cell b.runs p i k e)
    row-cell (Some a) None p i k e h = refl
    row-cell None (Some b) p i k e h = rw (runs-cell b.runs p i k, e) (grind (arith, nat_tests))
    row-cell None None p i k e h = grind (arith, nat_tests)

    row_line : (a b : Option Row) (p : Page) → (effects cells (row_orders l a b) p).cursor.row ≡ p.cursor.row
    row_line (Some a) (Some b) p =
        cond_both (same_row a b) _ _ (λ os. (effects cells os p).cursor.row ≡ p.cursor.row) (λ _. refl) (λ _. simp (effects-append, runs-cursor))
    row_line (Some a) None p = refl
    row_line None (Some b) p = ap (λ c. c.row) (runs-cursor b.runs p)
    row_line None None p = refl

  module _ (last new : List Row) where
    -- the page once row l is drawn and the cursor has gone to the next line
    abbrev on_next : ℕ → Page → Page
    on_next l p = effect cells feed (effect cells return (effects cells (row_orders l (slice_get last l) (slice_get new l)) p))

    next-cursor : (l : ℕ) (p : Page) → p.cursor ≡ at l 0 → (on_next l p).cursor ≡ at (suc l) 0
    next-cursor l p e = let f = row_line l (slice_get last l) (slice_get new l) p ∙ ap (λ c. c.row) e in same-position (omega arith) refl

    pub rows-cursor : (n l : ℕ) (p : Page) → p.cursor ≡ at l 0 → (effects cells (rows_from last new n l) p).cursor ≡ at (l + pred n) 0
    rows-cursor zero l p e = e ∙ same-position (omega arith) refl
    rows-cursor (suc zero) l p e = rw effects-append (same-position (row_line l (slice_get last l) (slice_get new l) p ∙ ap (λ c. c.row) e ∙ omega arith) refl)
    rows-cursor (suc (suc n)) l p e = rw effects-append (rows-cursor (suc n) (suc l) (on_next l p) (next-cursor l p e) ∙ same-position (omega arith) refl)

    -- The cell i, k stands for any. Before row l is drawn the lines above l show the new frame already, and the others
    -- the last frame still.
    module _ (i k : ℕ) where
      row_done : (l : ℕ) (p : Page) → p.cursor ≡ at l 0 → p.cells i k ≡ painted cells (cond (ltb i l) new last) i k →
          (effects cells (row_orders l (slice_get last l) (slice_get new l)) p).cells i k ≡ painted cells (cond (ltb i (suc l)) new last) i k
      row_done l p e h = rw (row-cell l (slice_get last l) (slice_get new l) p i k (ap (λ c. c.col) e) (grind (arith, nat_tests))) (grind (arith, nat_tests))

      -- past both frames there are blanks
      all_done : (l : ℕ) → length last ≤ l → length new ≤ l → painted cells (cond (ltb i l) new last) i k ≡ painted cells new i k
      all_done l f g = grind (arith, nat_tests, slice_get_past)

      -- n rows from row l on, which are all that remain
      pub rows-cell : (n l : ℕ) (p : Page) → length last ≤ l + n → length new ≤ l + n → p.cursor ≡ at l 0 →
          p.cells i k ≡ painted cells (cond (ltb i l) new last) i k → (effects cells (rows_from last new n l) p).cells i k ≡ painted cells new i k
      rows-cell zero l p f g e h = h ∙ all_done l (omega arith) (omega arith)
      rows-cell (suc zero) l p f g e h = simp (effects-append, row_done l p e h) (all_done (suc l) (omega arith) (omega arith))
      rows-cell (suc (suc n)) l p f g e h =
          rw effects-append (rows-cell (suc n) (suc l) (on_next l p) (omega arith) (omega arith) (next-cursor l p e) (row_done l p e h))
