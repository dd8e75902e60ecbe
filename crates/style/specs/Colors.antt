-- The 16 named colours and their ANSI codes.
use Rattle.std.specs.Prelude.{◌≡◌, ℕ, List, [], ◌∷◌, Some, None, Option}
use Rattle.std.specs.List.{slice_get}
use Rattle.style.specs.declared.color.Color.{Color}
use Rattle.style.specs.declared.color.Color.TheVariants.{Black, LightRed, DarkRed, LightGreen, DarkGreen, LightYellow, DarkYellow, LightBlue, DarkBlue, LightMagenta, DarkMagenta, LightCyan, DarkCyan, White, Grey, DarkGrey, Rgb, AnsiValue}

-- The code of a named colour. The other colours have none.
abbrev pub code_of : Color → Option ℕ
code_of Black = Some 0
code_of DarkRed = Some 1
code_of DarkGreen = Some 2
code_of DarkYellow = Some 3
code_of DarkBlue = Some 4
code_of DarkMagenta = Some 5
code_of DarkCyan = Some 6
code_of Grey = Some 7
code_of DarkGrey = Some 8
code_of LightRed = Some 9
code_of LightGreen = Some 10
code_of LightYellow = Some 11
code_of LightBlue = Some 12
code_of LightMagenta = Some 13
code_of LightCyan = Some 14
code_of White = Some 15
code_of (Rgb r g b) = None
code_of (AnsiValue n) = None

-- The named colours in the order of their codes.
abbrev pub names : List Color
names =
    Black ∷ DarkRed ∷ DarkGreen ∷ DarkYellow ∷ DarkBlue ∷ DarkMagenta ∷ DarkCyan ∷ Grey ∷ DarkGrey ∷ LightRed ∷ LightGreen
    ∷ LightYellow ∷ LightBlue ∷ LightMagenta ∷ LightCyan ∷ White ∷ []

-- The named colour with this code. Above 15 there is none.
abbrev pub named : ℕ → Option Color
named n = slice_get names n

-- `named` is the inverse of `code_of`: a colour has the code n exactly where `named n` is that colour.
abbrev pub CodesName : Type 0
CodesName = (c : Color) (n : ℕ) → (code_of c ≡ Some n → named n ≡ Some c) × (named n ≡ Some c → code_of c ≡ Some n)
