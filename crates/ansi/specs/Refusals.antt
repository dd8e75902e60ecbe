-- The number and the place of a refusal, and the refusal of a text that is not UTF-8.
use Rattle.std.specs.Prelude.{◌≡◌, ℕ, List, [], ◌∷◌, ◌++◌, IsUtf8}
use Rattle.std.specs.Fmt.{decimal}
use Rattle.std.specs.Str.{IsValidUpTo}
use Rattle.ansi.specs.declared.refusal.Refusal.{Refusal}
use Rattle.ansi.specs.declared.refusal.Refusal.TheVariants.{NotUtf8, Control, NoColour}

abbrev pub number_of : Refusal → ℕ
number_of (NotUtf8 place) = 1
number_of (Control place) = 2
number_of (NoColour place) = 3

abbrev pub place_of : Refusal → ℕ
place_of (NotUtf8 place) = place
place_of (Control place) = place
place_of (NoColour place) = place

-- what is printed of a refusal: its number, " at ", its place
abbrev pub shown : Refusal → List ℕ
shown e = decimal (number_of e) ++ ((32 ∷ 97 ∷ 116 ∷ 32 ∷ []) ++ decimal (place_of e))

-- the text is not UTF-8, and the refusal is number 1 at the first byte of its first ill-formed sequence: the
-- bytes before it are UTF-8, and no more of them
pub record NotText (text : List ℕ) (e : Refusal) : Type 0 where
  pub bad : IsUtf8 text → ⊥
  pub number : number_of e ≡ 1
  pub place : IsValidUpTo text (place_of e)
