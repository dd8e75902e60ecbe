-- Stores on the cursor's line are what the calls that draw do to the page.
use Rattle.std.proofs.Common.{◌≡◌, ℕ, ◌+◌, ◌-◌, ◌*◌, ◌<◌, ◌≤◌, Bool, cond, eqb, List, length, replicate, refl, ap, ◌∙◌, subst, arith}
use lib.ListN.{length-replicate}
use Rattle.std.proofs.lemmas.Bool.Decides.{nat_tests}
use Rattle.style.specs.declared.style.StyleSheet.{StyleSheet}
use Rattle.layout.specs.Writing.{run}
use Rattle.terminal.specs.Pages.{Page, at, blank, ink}
use Rattle.terminal.specs.Pages as page
use Rattle.terminal.specs.Calls.{laid, Call, write, clear_line, clear_until_new_line, cost, meaning, effect}
use Rattle.terminal.specs.Faults.{Sound, Narrow, Above}
use Rattle.terminal.specs.Outcomes.{Does}
use Rattle.terminal.specs.Runs.{Fitting}
use Rattle.screen.specs.declared.cell.Cell.{Cell}
use Rattle.screen.specs.declared.purse.Purse.{Purse}
use Rattle.screen.specs.Cells.{cell_at, Stored}
use Rattle.screen.specs.Purses.{Pays}
use Rattle.screen.specs.Screens.{page_at}
use Rattle.screen.proofs.Places.{place-within, laid-line, laid-blanks}

module _ (cells : ℕ → ℕ) (w h l c : ℕ) (b : Bool) (p q : Purse) (bs cs : List Cell) (whole : length bs ≡ w * h) (in_line : c ≤ w) where
  -- the page before and after a call that stores cells, pays, and leaves the cursor in column d of its line
  abbrev before : Page
  before = page_at bs w h l c b p

  abbrev after : ℕ → Page
  after d = page_at cs w h l d b q

  abbrev Draws : Call → ℕ → Type 0
  Draws call d = Does cells call before (after d) × ((after d).left + cost call ≡ before.left)

  -- a store from column x on, as the cells of the page show it
  stored-line : (x : ℕ) (xs : List page.Cell) → Stored (l * w + x) xs bs cs → x + length xs ≤ w → (i k : ℕ) → i < h → k < w → cell_at cs (i * w + k) ≡ cond (eqb i l) (laid xs x k (before.cells i k)) (before.cells i k)
  stored-line x xs s fits i k high wide =
      s.each (i * w + k) (place-within w h (length bs) i k whole high wide) ∙ laid-line w l x i k xs (before.cells i k) wide fits

  -- a call that may be performed, is paid, and paints what was stored
  draws : (call : Call) (d : ℕ) → Sound call → Narrow cells call before → Above call before → Pays (cost call) (meaning cells w call).work p q → ((i k : ℕ) → i < h → k < w → (after d).cells i k ≡ (effect cells call before).cells i k) → (after d).cursor ≡ (effect cells call before).cursor → (after d).shown ≡ (effect cells call before).shown → Draws call d
  draws call d sound narrow above pays paints moves lights = (
    record {
      allowed = record { sound = sound; narrow = narrow; above = above; paid = pays.able };
      made = record { width = refl; height = refl; lines = refl; cells = paints; cursor = moves; shown = lights; work = pays.work };
      falls = omega (arith, pays.left);
      paid = omega (arith, pays.left);
    },
    omega (arith, pays.left, pays.able),
  )

  module _ (from : ℕ) where
    pub line-cleared : from ≡ l * w → Pays 8 1 p q → Stored from (replicate w blank) bs cs → Draws clear_line c
    line-cleared start pays s =
        let place : from ≡ l * w + 0 = omega arith in
        let there = subst (λ n. Stored n (replicate w blank) bs cs) place s in
        draws clear_line c tt tt tt pays (
        λ i k high wide.
        let e = stored-line 0 (replicate w blank) there (omega (arith, length-replicate w blank)) i k high wide in
        let f = laid-blanks w 0 k (before.cells i k) (omega arith) in
        grind (arith, nat_tests)
        ) refl refl

    pub rest-cleared : from ≡ l * w + c → Pays 8 1 p q → Stored from (replicate (w - c) blank) bs cs → Draws clear_until_new_line c
    rest-cleared start pays s =
        let n = w - c in
        let there = subst (λ m. Stored m (replicate n blank) bs cs) start s in
        draws clear_until_new_line c tt tt tt pays (
        λ i k high wide.
        let e = stored-line c (replicate n blank) there (omega (arith, length-replicate n blank)) i k high wide in
        let f = laid-blanks n c k (before.cells i k) (omega arith) in
        grind (arith, nat_tests)
        ) refl refl

    pub run-written : from ≡ l * w + c → (text : List ℕ) (style : StyleSheet) (n : ℕ) → Fitting cells text (w - c) n → Pays (length text + 50) 1 p q → Stored from (ink cells (run text style)) bs cs → Draws (write (run text style)) (c + n)
    run-written start text style n fitting pays s =
        let long = fitting.width style in
        let within = fitting.within in
        let there = subst (λ m. Stored m (ink cells (run text style)) bs cs) start s in
        let ends : c + n ≡ c + length (ink cells (run text style)) = omega arith in
        draws (write (run text style)) (c + n) fitting.line (omega arith) tt pays (stored-line c (ink cells (run text style)) there (omega arith)) (ap (at l) ends) refl
