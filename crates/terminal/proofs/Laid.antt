-- Cells laid on a line, list after list and one by one.
use Rattle.std.proofs.Common.{◌≡◌, ℕ, zero, suc, ◌+◌, ◌-◌, cond, eqb, List, [], ◌∷◌, ◌++◌, length, get_or, refl, ap, ◌∙◌, arith, length-append}
use lib.ListN.{length-replicate}
use Rattle.std.proofs.lemmas.List.{get_or_append_left, get_or-append_right, get_or_past}
use Rattle.std.proofs.lemmas.Bool.Decides.{nat_tests}
use Rattle.style.specs.declared.style.StyleSheet.{StyleSheet}
use Rattle.ansi.specs.Pieces.{Part, sequence, letter}
use Rattle.pen.specs.Pens.{steered}
use Rattle.terminal.specs.Pages.{Cell, glyph, half, spread, inked, span}
use Rattle.terminal.specs.Calls.{laid}

-- one list after the other
pub laid-append : (xs ys : List Cell) (c k : ℕ) (x : Cell) → laid (xs ++ ys) c k x ≡ laid ys (c + length xs) k (laid xs c k x)
laid-append xs ys c k x = grind (arith, nat_tests, get_or_append_left, get_or-append_right, get_or_past)

pub laid_none : (c k : ℕ) (x : Cell) → laid [] c k x ≡ x
laid_none c k x = grind (arith, nat_tests)

one_cell : (y : Cell) (n : ℕ) (x : Cell) → get_or (y ∷ []) n x ≡ cond (eqb n 0) y x
one_cell y zero x = grind (arith, nat_tests)
one_cell y (suc n) x = grind (arith, nat_tests)

pub laid_one : (y : Cell) (c k : ℕ) (x : Cell) → laid (y ∷ []) c k x ≡ cond (eqb k c) y x
laid_one y c k x = rw (one_cell y (k - c) x) (grind (arith, nat_tests))

-- one cell more
pub laid-push : (xs : List Cell) (y : Cell) (c k : ℕ) (x : Cell) → laid (xs ++ (y ∷ [])) c k x ≡ cond (eqb k (c + length xs)) y (laid xs c k x)
laid-push xs y c k x = laid-append xs (y ∷ []) c k x ∙ laid_one y (c + length xs) k (laid xs c k x)

-- a character leaves as many cells as it takes
pub spread-length : (n : ℕ) (x : Cell) → length (spread n x) ≡ n
spread-length zero x = refl
spread-length (suc n) x = ap suc (length-replicate n half)

-- a run is as wide as its characters together, whatever the pen
pub inked-length : (cells : ℕ → ℕ) (pen : StyleSheet) (ps : List Part) → length (inked cells pen ps) ≡ span cells ps
inked-length cells pen [] = refl
inked-length cells pen (letter c ∷ ps) =
    let h = inked-length cells pen ps in
    length-append (spread (cells c) (glyph c pen)) (inked cells pen ps) ∙ omega (arith, spread-length (cells c) (glyph c pen))
inked-length cells pen (sequence bs ∷ ps) = inked-length cells (steered pen bs) ps
