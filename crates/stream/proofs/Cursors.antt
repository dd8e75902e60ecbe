-- The cursor is found without the cells; its line, and its column, each for itself.
use Rattle.std.proofs.Common.{◌≡◌, ℕ, ◌≤◌, Bool, true, false, cond, eqb, List, [], ◌∷◌, Some, None, fold, Option, sym, refl, ap, ◌∙◌, arith, rules}
use Rattle.size.specs.declared.position.Position.{Position}
use Rattle.ansi.specs.Pieces.{Part, sequence, letter, pieces}
use Rattle.terminal.specs.Pages.{at, origin}
use Rattle.terminal.specs.Calls.{Call, return}
use Rattle.stream.specs.Controls.{asked}
use Rattle.stream.specs.Reader.{View, Desk, heeded, step, start, view_of}
use Rattle.stream.specs.Cursors.{moved, placed, cursor_of}

module _ (cells : ℕ → ℕ) (w : ℕ) where
  heeded-cursor : (o : Option Call) (v : View) → (heeded cells w o v).cursor ≡ moved cells w o v.cursor
  heeded-cursor None v = refl
  heeded-cursor (Some call) v = refl

  cursor-cond : (b : Bool) (u v : View) → (cond b u v).cursor ≡ cond b u.cursor v.cursor
  cursor-cond true u v = refl
  cursor-cond false u v = refl

  step-cursor : (d : Desk) (q : Part) → (step cells w d q).view.cursor ≡ placed cells w d.view.cursor q
  step-cursor d (letter c) = cursor-cond (eqb c 13) _ _ ∙ ap (λ p. cond (eqb c 13) (moved cells w (Some return) d.view.cursor) p) (cursor-cond (eqb c 10) _ _)
  step-cursor d (sequence bs) = heeded-cursor (asked bs) d.view

  steps-cursor : (d : Desk) (ps : List Part) → (fold (step cells w) d ps).view.cursor ≡ fold (placed cells w) d.view.cursor ps
  steps-cursor d [] = refl
  steps-cursor d (q ∷ ps) = steps-cursor (step cells w d q) ps ∙ ap (λ p. fold (placed cells w) p ps) (step-cursor d q)

  pub cursor-found : (bs : List ℕ) → (view_of cells w bs).cursor ≡ cursor_of cells w bs
  unfolding cursor_of
  cursor-found bs = steps-cursor start (pieces bs)

-- the line is told by the line alone, at any width
module _ (cells : ℕ → ℕ) (w v : ℕ) where
  moved_row : (o : Option Call) (p q : Position) → p.row ≡ q.row → (moved cells w o p).row ≡ (moved cells v o q).row
  moved_row o p q h = search rules

  placed_row : (x : Part) (p q : Position) → p.row ≡ q.row → (placed cells w p x).row ≡ (placed cells v q x).row
  placed_row (letter c) p q h = search rules
  placed_row (sequence bs) p q h = moved_row (asked bs) p q h

  rows : (xs : List Part) (p q : Position) → p.row ≡ q.row → (fold (placed cells w) p xs).row ≡ (fold (placed cells v) q xs).row
  rows [] p q h = h
  rows (x ∷ xs) p q h = rows xs (placed cells w p x) (placed cells v q x) (placed_row x p q h)

  pub line_stays : (bs : List ℕ) → (cursor_of cells w bs).row ≡ (cursor_of cells v bs).row
  unfolding cursor_of
  line_stays bs = rows (pieces bs) origin origin refl

-- and the column by the column
module _ (cells : ℕ → ℕ) (w : ℕ) where
  moved-col : (o : Option Call) (p q : Position) → p.col ≡ q.col → (moved cells w o p).col ≡ (moved cells w o q).col
  moved-col o p q h = search rules

  placed-col : (x : Part) (p q : Position) → p.col ≡ q.col → (placed cells w p x).col ≡ (placed cells w q x).col
  placed-col (letter c) p q h = search rules
  placed-col (sequence bs) p q h = moved-col (asked bs) p q h

  columns : (xs : List Part) (p q : Position) → p.col ≡ q.col → (fold (placed cells w) p xs).col ≡ (fold (placed cells w) q xs).col
  columns [] p q h = h
  columns (x ∷ xs) p q h = columns xs (placed cells w p x) (placed cells w q x) (placed-col x p q h)

  -- past one piece more, what is left leads to the same column
  pub column-more : (x : Part) (xs ps qs : List Part) (c d : ℕ) → ps ≡ x ∷ xs → d ≡ (placed cells w (at 0 c) x).col → (fold (placed cells w) (at 0 c) ps).col ≡ (fold (placed cells w) (at 0 0) qs).col → (fold (placed cells w) (at 0 d) xs).col ≡ (fold (placed cells w) (at 0 0) qs).col
  column-more x xs ps qs c d is e h = columns xs (at 0 d) (placed cells w (at 0 c) x) e ∙ ap (λ l. (fold (placed cells w) (at 0 c) l).col) (sym is) ∙ h

  -- no sequence asks for a run, so the cells of characters are of no account
  pub asked-cells : (bs : List ℕ) (p : Position) → (moved (λ _. 0) w (asked bs) p).col ≡ (moved cells w (asked bs) p).col
  asked-cells bs p = search rules

  -- it is never past the end of the line
  asked-within : (bs : List ℕ) (p : Position) → p.col ≤ w → (moved cells w (asked bs) p).col ≤ w
  asked-within bs p h = search rules

  placed-within : (x : Part) (p : Position) → p.col ≤ w → (placed cells w p x).col ≤ w
  placed-within (letter c) p h = search rules
  placed-within (sequence bs) p h = asked-within bs p h

  columns-within : (xs : List Part) (p : Position) → p.col ≤ w → (fold (placed cells w) p xs).col ≤ w
  columns-within [] p h = h
  columns-within (x ∷ xs) p h = columns-within xs (placed cells w p x) (placed-within x p h)

  pub column-within : (bs : List ℕ) → (cursor_of cells w bs).col ≤ w
  unfolding cursor_of
  column-within bs = columns-within (pieces bs) origin (omega arith)
