-- Where the cells of a page stand in the list, and what a store there does to it.
use Rattle.std.proofs.Common.{◌≡◌, ℕ, suc, ◌+◌, ◌-◌, ◌*◌, ◌<◌, ◌≤◌, cond, eqb, leb, List, length, get_or, replicate, ap, inl, inr, mul-le-mul_right, arith}
use lib.ListN.{get_or-replicate}
use Rattle.std.proofs.lemmas.List.{get_or_past}
use Rattle.std.proofs.lemmas.Bool.{cases_lt, cases_order}
use Rattle.std.proofs.lemmas.Bool.Decides.{nat_tests}
use Rattle.terminal.specs.Pages.{blank}
use Rattle.terminal.specs.Pages as page
use Rattle.terminal.specs.Calls.{laid}

pub place-within : (w h n i k : ℕ) → n ≡ w * h → i < h → k < w → i * w + k < n
place-within w h n i k whole in_lines in_line =
    let h : suc i * w ≤ h * w = mul-le-mul_right w in_lines in
    omega arith

-- cells laid in the list on line l from column x on are laid on that line, and on no other
pub laid-line : (w l x i k : ℕ) (xs : List page.Cell) (y : page.Cell) → k < w → x + length xs ≤ w → laid xs (l * w + x) (i * w + k) y ≡ cond (eqb i l) (laid xs x k y) y
laid-line w l x i k xs y in_line fits = elim (cases_order i l) [
  | inl e ↦
      let m = ap (λ n. n * w) e in
      let d : i * w + k - (l * w + x) ≡ k - x = omega arith in
      let g = ap (λ n. get_or xs n y) d in
      grind (arith, nat_tests)
  | inr (inl e) ↦ let m : suc i * w ≤ l * w = mul-le-mul_right w e in let n : i * w + k < l * w = omega arith in grind (arith, nat_tests)
  | inr (inr e) ↦
      let m : suc l * w ≤ i * w = mul-le-mul_right w e in
      let g = get_or_past xs (i * w + k - (l * w + x)) y (omega arith) in
      grind (arith, nat_tests)
]

-- blanks laid from column x on, up to column x + n
pub laid-blanks : (n x k : ℕ) (y : page.Cell) → k < x + n → laid (replicate n blank) x k y ≡ cond (leb x k) blank y
laid-blanks n x k y h = elim (cases_lt k x) [
  | inl before ↦ grind (arith, nat_tests)
  | inr behind ↦ let g = get_or-replicate n (k - x) blank y (omega arith) in grind (arith, nat_tests)
]
