-- Moves bring the cursor where they should, and touch no cell.
use Rattle.std.proofs.Common.{◌≡◌, ℕ, ◌<◌, IfOk, Ok, Err, Result, refl, ap, ◌∙◌, arith}
use Rattle.std.proofs.lemmas.Bool.Decides.{nat_tests}
use Rattle.size.specs.declared.position.Position.{Position}
use Rattle.terminal.specs.Pages.{Page, at}
use Rattle.terminal.specs.Calls.{effects, up, down, left, right}
use Rattle.terminal.proofs.Effects.{did-effects, effects-append, effects-width}
use Rattle.drawing.specs.declared.error.DrawError.{DrawError}
use Rattle.drawing.specs.Drawing.{steps, going}
use Rattle.drawing.specs.Tries.{Tried}

pub same-position : {a b : Position} → a.row ≡ b.row → a.col ≡ b.col → a ≡ b
same-position e f = λ i. record { row = e i; col = f i }

module _ (cells : ℕ → ℕ) where
  vertical : (p : Page) (a b : ℕ) → p.cursor.row ≡ a → (effects cells (steps up down a b) p).cursor ≡ at b p.cursor.col
  vertical p a b e = same-position (grind (arith, nat_tests)) (grind (arith, nat_tests))

  horizontal : (p : Page) (a b : ℕ) → p.cursor.col ≡ a → a < p.width → b < p.width → (effects cells (steps left right a b) p).cursor ≡ at p.cursor.row b
  horizontal p a b e f g = same-position (grind (arith, nat_tests)) (grind (arith, nat_tests))

  vertical-cell : (p : Page) (a b i k : ℕ) → (effects cells (steps up down a b) p).cells i k ≡ p.cells i k
  vertical-cell p a b i k = grind (arith, nat_tests)

  horizontal-cell : (p : Page) (a b i k : ℕ) → (effects cells (steps left right a b) p).cells i k ≡ p.cells i k
  horizontal-cell p a b i k = grind (arith, nat_tests)

  pub going-cell : (p : Page) (a b : Position) (i k : ℕ) → (effects cells (going a b) p).cells i k ≡ p.cells i k
  going-cell p a b i k = simp (effects-append, horizontal-cell, vertical-cell)

  pub going-cursor : (p : Page) (a b : Position) → p.cursor ≡ a → a.col < p.width → b.col < p.width → (effects cells (going a b) p).cursor ≡ b
  going-cursor p a b e f g =
      let m = effects cells (steps up down a.row b.row) p in
      let v = vertical p a.row b.row (ap (λ c. c.row) e) in
      let w = effects-width cells (steps up down a.row b.row) p in
      rw effects-append (horizontal m a.col b.col (ap (λ c. c.col) v ∙ ap (λ c. c.col) e) (omega arith) (omega arith) ∙ same-position (ap (λ c. c.row) v) refl)

  pub moves-there : (a b : Position) (p q : Page) (r : Result (Unit {0}) DrawError) → Tried cells (going a b) p r q → IfOk r (λ _. p.cursor ≡ a → a.col < p.width → b.col < p.width → q.cursor ≡ b)
  moves-there a b p q (Ok x) d = λ e f g. (did-effects cells d).cursor ∙ going-cursor p a b e f g
  moves-there a b p q (Err e) t = tt
