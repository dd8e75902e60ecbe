-- The pen: the style that colour sequences set (ECMA-48, SGR, and the extended colours of ISO 8613-6).
use Rattle.std.specs.Prelude.{◌≡◌, ℕ, ◌+◌, ◌-◌, ◌*◌, Bool, true, false, cond, ◌&&◌, List, [], ◌∷◌, Some, None, Option, ◌==◌, nat_le}
use Rattle.std.specs.Int.{is_in_range}
use Rattle.style.specs.declared.color.Color.{Color}
use Rattle.style.specs.declared.color.Color.TheVariants.{AnsiValue, Rgb}
use Rattle.style.specs.declared.style.StyleSheet.{StyleSheet}
use Rattle.style.specs.Colors.{named}
use Rattle.style.specs.Styles.{plain}
use Rattle.pen.specs.declared.pen.Side.{Side}
use Rattle.pen.specs.declared.pen.Side.TheVariants.{Fore, Back}
use Rattle.pen.specs.declared.pen.Expect.{Expect}
use Rattle.pen.specs.declared.pen.Expect.TheVariants.{Code, Form, Index, Red, Green, Blue, Dropped}
use Rattle.pen.specs.declared.pen.Pen.{Pen}
use Rattle.pen.specs.Sequences.{between, is_colour}

-- a style with another colour, boldness or slant
abbrev pub painted : Side → Option Color → StyleSheet → StyleSheet
painted Fore o s = record { fg = o; bg = s.bg; att = s.att }
painted Back o s = record { fg = s.fg; bg = o; att = s.att }

abbrev pub embolden : Bool → StyleSheet → StyleSheet
embolden b s = record { fg = s.fg; bg = s.bg; att = record { italic = s.att.italic; bold = b } }

abbrev pub slant : Bool → StyleSheet → StyleSheet
slant b s = record { fg = s.fg; bg = s.bg; att = record { italic = b; bold = s.att.bold } }

-- what a number alone does
abbrev pub coded : StyleSheet → ℕ → StyleSheet
coded s n =
    cond (n == 0) plain
    (cond (n == 1) (embolden true s)
    (cond (n == 22) (embolden false s)
    (cond (n == 3) (slant true s)
    (cond (n == 23) (slant false s)
    (cond (is_in_range 30 37 n) (painted Fore (named (n - 30)) s)
    (cond (is_in_range 90 97 n) (painted Fore (named (n - 82)) s)
    (cond (is_in_range 40 47 n) (painted Back (named (n - 40)) s)
    (cond (is_in_range 100 107 n) (painted Back (named (n - 92)) s)
    (cond (n == 39) (painted Fore None s)
    (cond (n == 49) (painted Back None s) s))))))))))

abbrev pub pen : StyleSheet → Expect → Pen
pen s e = record { style = s; expect = e }

-- the pen after one number, by what it waits for
abbrev pub told_at : Expect → StyleSheet → ℕ → Pen
told_at Code s n = cond (n == 38) (pen s (Form Fore)) (cond (n == 48) (pen s (Form Back)) (pen (coded s n) Code))
told_at (Form side) s n = cond (n == 5) (pen s (Index side)) (cond (n == 2) (pen s (Red side)) (pen s Dropped))
told_at (Index side) s n = cond (nat_le n 255) (pen (painted side (Some (AnsiValue n)) s) Code) (pen s Dropped)
told_at (Red side) s n = cond (nat_le n 255) (pen s (Green side n)) (pen s Dropped)
told_at (Green side r) s n = cond (nat_le n 255) (pen s (Blue side r n)) (pen s Dropped)
told_at (Blue side r g) s n = cond (nat_le n 255) (pen (painted side (Some (Rgb r g n)) s) Code) (pen s Dropped)
told_at Dropped s n = pen s Dropped

abbrev pub told : Pen → ℕ → Pen
told p n = told_at p.expect p.style n

abbrev pub told_all : Pen → List ℕ → Pen
told_all p [] = p
told_all p (n ∷ ns) = told_all (told p n) ns

-- the style after the numbers ns
abbrev pub after : StyleSheet → List ℕ → StyleSheet
after s ns = (told_all (pen s Code) ns).style

-- the decimal numbers between semicolons, where none is 0; n is what was read of the first
abbrev pub numbers_from : ℕ → List ℕ → List ℕ
numbers_from n [] = n ∷ []
numbers_from n (b ∷ bs) = cond (b == 59) (n ∷ numbers_from 0 bs) (numbers_from (n * 10 + (b - 48)) bs)

abbrev pub numbers : List ℕ → List ℕ
numbers bs = numbers_from 0 bs

-- the style after a sequence: another than a colour sequence leaves it
abbrev pub steered : StyleSheet → List ℕ → StyleSheet
steered s bs = cond (is_colour bs) (after s (numbers (between bs))) s

-- The number that introduces an extended colour of a side.
abbrev pub introduces : Side → ℕ
introduces Fore = 38
introduces Back = 48

-- What the numbers of a colour sequence mean, one after another.
pub record NumbersSteer : Type 0 where
  pub none : (s : StyleSheet) → after s [] ≡ s
  pub alone : (s : StyleSheet) (n : ℕ) (ns : List ℕ) → (n == 38) ≡ false → (n == 48) ≡ false → after s (n ∷ ns) ≡ after (coded s n) ns
  -- 38 or 48, 5 and n set a colour of the palette
  pub indexed : (s : StyleSheet) (side : Side) (n : ℕ) (ns : List ℕ) → after s (introduces side ∷ 5 ∷ n ∷ ns) ≡ cond (nat_le n 255) (after (painted side (Some (AnsiValue n)) s) ns) s
  -- 38 or 48, 2 and r, g, b set a colour by its parts
  pub direct : (s : StyleSheet) (side : Side) (r g b : ℕ) (ns : List ℕ) → after s (introduces side ∷ 2 ∷ r ∷ g ∷ b ∷ ns) ≡ cond (nat_le r 255 && (nat_le g 255 && nat_le b 255)) (after (painted side (Some (Rgb r g b)) s) ns) s
  -- what is cut off or begins otherwise drops the rest
  pub cut : (s : StyleSheet) (side : Side) → after s (introduces side ∷ []) ≡ s
  pub cut5 : (s : StyleSheet) (side : Side) → after s (introduces side ∷ 5 ∷ []) ≡ s
  pub cut2 : (s : StyleSheet) (side : Side) → after s (introduces side ∷ 2 ∷ []) ≡ s
  pub cut2r : (s : StyleSheet) (side : Side) (r : ℕ) → after s (introduces side ∷ 2 ∷ r ∷ []) ≡ s
  pub cut2g : (s : StyleSheet) (side : Side) (r g : ℕ) → after s (introduces side ∷ 2 ∷ r ∷ g ∷ []) ≡ s
  pub other : (s : StyleSheet) (side : Side) (n : ℕ) (ns : List ℕ) → (n == 5) ≡ false → (n == 2) ≡ false → after s (introduces side ∷ n ∷ ns) ≡ s
