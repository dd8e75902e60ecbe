-- The characters of a run that fits, laid one by one, are the cells of the run.
use Rattle.std.proofs.Common.{◌≡◌, ℕ, ◌+◌, ◌≤◌, min, Bool, true, false, cond, eqb, leb, List, [], ◌∷◌, ◌++◌, length, None, fold, sym, refl, ap, ◌∙◌, arith, length-append}
use mathlib.Core.Path.{fun_ext}
use Rattle.std.specs.List.{AllByRecursion}
use Rattle.std.specs.Str.{bytes_eq}
use Rattle.std.proofs.lemmas.Bool.{cond-true, cond-false, le-leb}
use Rattle.std.proofs.lemmas.Bool.Decides.{nat_tests}
use Rattle.style.specs.declared.style.StyleSheet.{StyleSheet}
use Rattle.ansi.specs.Pieces.{Part, sequence, letter}
use Rattle.pen.specs.Sequences.{parameters, between, is_colour}
use Rattle.pen.specs.Pens.{steered}
use Rattle.pen.specs.Checks.{is_barred}
use Rattle.pen.proofs.Sequences.{colours_told}
use Rattle.layout.specs.Inks.{is_line}
use Rattle.layout.proofs.Seams.{Fine}
use Rattle.terminal.specs.Pages.{Cell, glyph, at, spread, inked}
use Rattle.terminal.specs.Calls.{laid}
use Rattle.terminal.proofs.Laid.{laid-append, laid_none, spread-length}
use Rattle.stream.specs.Controls.{is_control, final, first_number, ordered, lit, asked}
use Rattle.stream.specs.Reader.{View, desk, heeded, typed, step}
use Rattle.stream.specs.Grounded.{penned}
use Rattle.stream.proofs.Sequences.{final-csi}

-- cells laid from the cursor on, which goes behind them
abbrev pub drawn : List Cell → View → View
drawn xs v = record {
  cells = λ i k. cond (eqb i v.cursor.row) (laid xs v.cursor.col k (v.cells i k)) (v.cells i k);
  cursor = at v.cursor.row (v.cursor.col + length xs);
  shown = v.shown;
}

cond_same : (b : Bool) (x : Cell) → cond b x x ≡ x
cond_same true x = refl
cond_same false x = refl

drawn-none : (v : View) → drawn [] v ≡ v
drawn-none v =
    let none : (i k : ℕ) → (drawn [] v).cells i k ≡ v.cells i k =
    λ i k. ap (λ x. cond (eqb i v.cursor.row) x (v.cells i k)) (laid_none v.cursor.col k (v.cells i k)) ∙ cond_same (eqb i v.cursor.row) (v.cells i k)
    in
    let col : v.cursor.col + 0 ≡ v.cursor.col = omega arith in
    λ j. record { cells = fun_ext (λ i. fun_ext (λ k. none i k)) j; cursor = at v.cursor.row (col j); shown = v.shown }

-- in one cell: two lists of cells, one after the other
module _ (xs ys : List Cell) (c k : ℕ) (x : Cell) where
  twice : (b : Bool) → cond b (laid ys (c + length xs) k (cond b (laid xs c k x) x)) (cond b (laid xs c k x) x) ≡ cond b (laid (xs ++ ys) c k x) x
  twice true = sym (laid-append xs ys c k x)
  twice false = refl

drawn-append : (xs ys : List Cell) (v : View) → drawn ys (drawn xs v) ≡ drawn (xs ++ ys) v
drawn-append xs ys v =
    let col : v.cursor.col + length xs + length ys ≡ v.cursor.col + length (xs ++ ys) = omega (arith, length-append xs ys) in
    λ j. record {
      cells = fun_ext (λ i. fun_ext (λ k. twice xs ys v.cursor.col k (v.cells i k) (eqb i v.cursor.row))) j;
      cursor = at v.cursor.row (col j);
      shown = v.shown;
    }

-- a colour sequence asks for no call
none-asked : (x y z : Bool) (n : ℕ) → cond x (cond y (ordered n 109) (cond z (lit 109) None)) None ≡ None
none-asked true true z n = refl
none-asked true false true n = refl
none-asked true false false n = refl
none-asked false y z n = refl

pub colour-asks : (bs : List ℕ) → is_colour bs ≡ true → asked bs ≡ None
colour-asks bs h =
    let last : final bs ≡ 109 = ap final (colours_told.sound bs h).0 ∙ final-csi (between bs) 109 in
    ap (λ l. cond (is_control bs) (cond (parameters (between bs)) (ordered (first_number (between bs)) l) (cond (bytes_eq (between bs) (63 ∷ 50 ∷ 53 ∷ [])) (lit l) None)) None) last
    ∙ none-asked (is_control bs) (parameters (between bs)) (bytes_eq (between bs) (63 ∷ 50 ∷ 53 ∷ [])) (first_number (between bs))

module _ (cells : ℕ → ℕ) (w : ℕ) where
  typed-drawn : (pen : StyleSheet) (c : ℕ) (v : View) → v.cursor.col + cells c ≤ w → typed cells w pen c v ≡ drawn (spread (cells c) (glyph c pen)) v
  typed-drawn pen c v fits =
      let xs : cond (leb (v.cursor.col + cells c) w) (spread (cells c) (glyph c pen)) [] ≡ spread (cells c) (glyph c pen) = cond-true _ _ _ (le-leb (v.cursor.col + cells c) w fits) in
      let col : min w (v.cursor.col + cells c) ≡ v.cursor.col + length (spread (cells c) (glyph c pen)) = omega (arith, spread-length (cells c) (glyph c pen)) in
      λ j. record {
        cells = λ i k. cond (eqb i v.cursor.row) (laid (xs j) v.cursor.col k (v.cells i k)) (v.cells i k);
        cursor = at v.cursor.row (col j);
        shown = v.shown;
      }

  -- a character that is no CR and no LF
  letter-step : (c : ℕ) (v : View) (pen : StyleSheet) → is_barred c ≡ false → eqb c 10 ≡ false → v.cursor.col + cells c ≤ w → step cells w (desk v pen) (letter c) ≡ desk (drawn (spread (cells c) (glyph c pen)) v) pen
  letter-step c v pen free line fits =
      let other : eqb c 13 ≡ false = grind (arith, nat_tests) in
      ap (λ u. desk u pen) (cond-false (eqb c 13) _ _ other ∙ cond-false (eqb c 10) _ _ line ∙ typed-drawn pen c v fits)

  colour-step : (bs : List ℕ) (v : View) (pen : StyleSheet) → is_colour bs ≡ true → step cells w (desk v pen) (sequence bs) ≡ desk v (steered pen bs)
  colour-step bs v pen h = ap (λ o. desk (heeded cells w o v) (steered pen bs)) (colour-asks bs h)

  pub run-drawn : (ps : List Part) (v : View) (pen : StyleSheet) → AllByRecursion Fine ps → AllByRecursion (λ p. is_line p ≡ false) ps → v.cursor.col + length (inked cells pen ps) ≤ w → fold (step cells w) (desk v pen) ps ≡ desk (drawn (inked cells pen ps) v) (fold penned pen ps)
  run-drawn [] v pen fine line fits = ap (λ u. desk u pen) (sym (drawn-none v))
  run-drawn (letter c ∷ ps) v pen fine line fits =
      let xs = spread (cells c) (glyph c pen) in
      let n = length-append (spread (cells c) (glyph c pen)) (inked cells pen ps) in
      let s = spread-length (cells c) (glyph c pen) in
      ap (λ d. fold (step cells w) d ps) (letter-step c v pen fine.0.0 line.0 (omega arith))
      ∙ run-drawn ps (drawn (spread (cells c) (glyph c pen)) v) pen fine.1 line.1 (omega arith)
      ∙ ap (λ u. desk u (fold penned pen ps)) (drawn-append xs (inked cells pen ps) v)
  run-drawn (sequence bs ∷ ps) v pen fine line fits =
      ap (λ d. fold (step cells w) d ps) (colour-step bs v pen fine.0)
      ∙ run-drawn ps v (steered pen bs) fine.1 line.1 fits
