-- Rows drawn over equal rows do no work.
use Rattle.std.proofs.Common.{◌≡◌, ℕ, zero, suc, Bool, true, false, List, [], Some, None, Option, refl, ap, ◌∙◌, arith}
use Rattle.std.specs.List.{slice_get}
use Rattle.std.proofs.lemmas.Bool.{cond-true}
use Rattle.std.proofs.lemmas.Bool.Decides.{nat_tests}
use Rattle.size.specs.declared.position.Position.{Position}
use Rattle.layout.specs.Frames.{Row}
use Rattle.terminal.specs.Pages.{Page}
use Rattle.terminal.specs.Calls.{return, feed, effect, effects, up, down, left, right}
use Rattle.terminal.proofs.Effects.{did-effects, effects-append}
use Rattle.drawing.specs.SameRows.{same_row}
use Rattle.drawing.specs.Drawing.{steps, row_orders, rows_from, emptied, to_mark, drawing}
use Rattle.drawing.specs.Law.{Idles}
use Rattle.drawing.proofs.SameRows.{compares}

-- nothing is sent for a row that is equal in both frames
row-idle : (i : ℕ) (a : Option Row) → row_orders i a a ≡ []
row-idle i (Some a) = cond-true (same_row a a) _ _ ((compares a a).1 refl)
row-idle i None = refl

module _ (cells : ℕ → ℕ) where
  vertical-idle : (a b : ℕ) (p : Page) → (effects cells (steps up down a b) p).work ≡ p.work
  vertical-idle a b p = grind (arith, nat_tests)

  horizontal-idle : (a b : ℕ) (p : Page) → (effects cells (steps left right a b) p).work ≡ p.work
  horizontal-idle a b p = grind (arith, nat_tests)

  mark-idle : (a : Position) (m : Option Position) (p : Page) → (effects cells (to_mark a m) p).work ≡ p.work
  mark-idle a None p = refl
  mark-idle a (Some m) p = simp (effects-append, horizontal-idle, vertical-idle)

  emptied-idle : (b : Bool) (p : Page) → (effects cells (emptied b) p).work ≡ p.work
  emptied-idle true p = omega arith
  emptied-idle false p = refl

  rows-idle : (rows : List Row) (n l : ℕ) (p : Page) → (effects cells (rows_from rows rows n l) p).work ≡ p.work
  rows-idle rows zero l p = refl
  rows-idle rows (suc zero) l p = rw (row-idle l (slice_get rows l)) (omega arith)
  rows-idle rows (suc (suc n)) l p = rw (row-idle l (slice_get rows l)) (rows-idle rows (suc n) (suc l) (effect cells feed (effect cells return p)) ∙ omega arith)

  drawing-idle : (rows : List Row) (noted : Position) (b : Bool) (mark : Option Position) (p : Page) → (effects cells (drawing rows rows noted b mark) p).work ≡ p.work
  drawing-idle rows noted b mark p = simp (effects-append, mark-idle, emptied-idle, rows-idle, horizontal-idle, vertical-idle) (omega arith)

pub idle : Idles
idle cells last new noted b mark p q e d = (did-effects cells d).work ∙ ap (λ rows. (effects cells (drawing rows new noted b mark) p).work) e ∙ drawing-idle cells new noted b mark p
