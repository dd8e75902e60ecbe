-- Stores into a list of cells, one after another.
use Rattle.std.proofs.Common.{◌≡◌, ℕ, zero, suc, ◌+◌, ◌-◌, ◌<◌, ◌≤◌, List, [], ◌∷◌, ◌++◌, length, get_or, set, replicate, sym, refl, ap, ◌∙◌, subst, inl, inr, arith, length-append}
use lib.ListN.{length-replicate}
use Rattle.std.proofs.lemmas.List.{get_or-set_same, get_or-set_other, length-set, replicate_more}
use Rattle.std.proofs.Math.Seq.{paste}
use Rattle.std.proofs.lemmas.List.Edits.{paste_none, length-paste, fill_from_more}
use Rattle.std.proofs.lemmas.Bool.{cases_eq}
use Rattle.std.proofs.lemmas.Bool.Decides.{nat_tests}
use Rattle.style.specs.declared.style.StyleSheet.{StyleSheet}
use Rattle.ansi.specs.declared.pieces.AnsiAwareChars.{AnsiAwareChars}
use Rattle.ansi.specs.declared.pieces.Piece.TheVariants.{Char}
use Rattle.ansi.specs.Reading.{remaining, Takes}
use Rattle.terminal.specs.Pages.{glyph, half, spread, inked}
use Rattle.terminal.specs.Pages as page
use Rattle.terminal.specs.Calls.{laid}
use Rattle.terminal.proofs.Laid.{laid-append, laid_none, laid_one, spread-length}
use Rattle.screen.specs.declared.cell.Cell.{Cell}
use Rattle.screen.specs.declared.cell.Cell.TheVariants.{Blank}
use Rattle.screen.specs.Cells.{cell_of, cell_at, Stored}

pub stored-none : (at : ℕ) (cs : List Cell) → Stored at [] cs cs
stored-none at cs = record { each = λ j h. sym (laid_none at j (cell_at cs j)); long = refl }

pub stored-nothing : (at n : ℕ) (x : page.Cell) (cs : List Cell) → n ≡ 0 → Stored at (spread n x) cs cs
stored-nothing at n x cs e = subst (λ m. Stored at (spread m x) cs cs) (sym e) (stored-none at cs)

pub stored_one : (at : ℕ) (c : Cell) (cs : List Cell) → at < length cs → Stored at (cell_of c ∷ []) cs (set cs at c)
stored_one at c cs h =
    record {
      each = λ j g. let e = laid_one (cell_of c) at j (cell_at cs j) in elim (cases_eq j at) [
        | inl same ↦ let s = ap cell_of (ap (λ k. get_or (set cs at c) k Blank) same ∙ get_or-set_same cs at c Blank h) in grind (arith, nat_tests)
        | inr other ↦ let s = ap cell_of (get_or-set_other cs at j c Blank other) in grind (arith, nat_tests)
      ];
      long = length-set cs at c;
    }

module _ {bs cs ds : List Cell} where
  -- cells stored behind cells that were stored
  pub stored-then : (at : ℕ) (xs ys : List page.Cell) → Stored at xs bs cs → Stored (at + length xs) ys cs ds → Stored at (xs ++ ys) bs ds
  stored-then at xs ys f s =
      record {
        each = λ j h. s.each j (omega (arith, f.long)) ∙ ap (laid ys (at + length xs) j) (f.each j h) ∙ sym (laid-append xs ys at j (cell_at bs j));
        long = s.long ∙ f.long;
      }

  pub stored_more : (at n : ℕ) (x : page.Cell) → Stored at (replicate n x) bs cs → Stored (at + n) (x ∷ []) cs ds → Stored at (replicate (n + 1) x) bs ds
  stored_more at n x f s =
      let there = subst (λ m. Stored (at + m) (x ∷ []) cs ds) (sym (length-replicate n x)) s in
      subst (λ xs. Stored at xs bs ds) (replicate_more n x) (stored-then at (replicate n x) (x ∷ []) f there)

  -- a character and its halves
  pub stored-spread : (at n : ℕ) (x : page.Cell) → 0 < n → Stored at (x ∷ []) bs cs → Stored (at + 1) (replicate (n - 1) half) cs ds → Stored at (spread n x) bs ds
  stored-spread at zero x h f s = absurd (omega arith)
  stored-spread at (suc n) x h f s =
      let e : suc n - 1 ≡ n = omega arith in
      stored-then at (x ∷ []) (replicate n half) f (subst (λ m. Stored (at + 1) (replicate m half) cs ds) e s)

pub stored-fill : (at : ℕ) (c : Cell) (cs : List Cell) (n : ℕ) → at + n ≤ length cs → Stored at (replicate n (cell_of c)) cs (paste cs at (replicate n c) n)
stored-fill at c cs zero h = subst (λ ds. Stored at [] cs ds) (paste_none cs at []) (stored-none at cs)
stored-fill at c cs (suc n) h =
    let ds = paste cs at (replicate n c) n in
    let long : length ds ≡ length cs = length-paste cs at (replicate n c) n (omega arith) (omega (arith, length-replicate n c)) in
    let e : n + 1 ≡ suc n = omega arith in
    let s = stored_more at n (cell_of c) (stored-fill at c cs n (omega arith)) (stored_one (at + n) c ds (omega arith)) in
    subst (λ m. Stored at (replicate m (cell_of c)) cs (paste cs at (replicate m c) m)) e
    (subst (λ es. Stored at (replicate (n + 1) (cell_of c)) cs es) (fill_from_more cs at n c (omega arith)) s)

-- To store ys from `at` on into cs, which reaches so far, is to store xs from `from` on into bs. It is what a loop
-- over pieces keeps.
abbrev pub Completes : List page.Cell → ℕ → List Cell → List page.Cell → ℕ → List Cell → Type 0
Completes ys at cs xs from bs = ((ds : List Cell) → Stored at ys cs ds → Stored from xs bs ds) × (at + length ys ≤ length cs)

module _ {xs : List page.Cell} {from : ℕ} {bs cs : List Cell} where
  completes-more : (ys zs : List page.Cell) (at : ℕ) {ds : List Cell} → Completes (ys ++ zs) at cs xs from bs → Stored at ys cs ds → Completes zs (at + length ys) ds xs from bs
  completes-more ys zs at h s = (λ es r. h.0 es (stored-then at ys zs s r), omega (arith, h.1, s.long, length-append ys zs))

  module _ (cells : ℕ → ℕ) (pen : StyleSheet) (s t : AnsiAwareChars) (c n at : ℕ) (is : n ≡ cells c) (takes : Takes s (Char c) t) (h : Completes (inked cells pen (remaining s)) at cs xs from bs) where
    here : Completes (spread (cells c) (glyph c pen) ++ inked cells pen (remaining t)) at cs xs from bs
    here = subst (λ ps. Completes (inked cells pen ps) at cs xs from bs) takes.pieces h

    pub letter-within : at + n ≤ length cs
    letter-within = omega (arith, here.1, length-append (spread (cells c) (glyph c pen)) (inked cells pen (remaining t)), spread-length (cells c) (glyph c pen))

    -- past a character that was put
    pub letter-put : {ds : List Cell} → Stored at (spread n (glyph c pen)) cs ds → Completes (inked cells pen (remaining t)) (at + n) ds xs from bs
    letter-put {ds} put =
        let there = subst (λ m. Stored at (spread m (glyph c pen)) cs ds) is put in
        let e : length (spread (cells c) (glyph c pen)) ≡ n = spread-length (cells c) (glyph c pen) ∙ sym is in
        subst (λ m. Completes (inked cells pen (remaining t)) (at + m) ds xs from bs) e (completes-more (spread (cells c) (glyph c pen)) (inked cells pen (remaining t)) at here there)
