-- Characters by their place in a text.
use Rattle.std.specs.Prelude.{◌≡◌, ℕ, ◌+◌, ◌<◌, ◌≤◌, List, [], ◌∷◌, length, drop}
use Rattle.std.specs.Char.{len_utf8}
use Rattle.std.specs.Str.{IsCharBoundary, chars as decodes}
use Rattle.ansi.specs.Machine.{State, stop, to, move}

-- the characters of the text from a place on
abbrev pub from : List ℕ → ℕ → List ℕ
from text at = decodes (drop at text)

-- how many bytes of the characters cs still belong to the sequence
abbrev pub ends : State → List ℕ → ℕ
ends s [] = 0
ends s (c ∷ cs) = len_utf8 c + elim (move s c) [ stop ↦ 0 | to t ↦ ends t cs ]

-- what stands behind the sequence of which the text begins with what is unread
abbrev pub behind : State → List ℕ → List ℕ
behind s text = drop (ends s (decodes text)) text

-- the text ends at the place
pub record Ended (text : List ℕ) (at : ℕ) : Type 0 where
  pub chars : from text at ≡ []
  pub long : length text ≡ at

-- the character c stands in the text at the place
pub record Step (text : List ℕ) (at c : ℕ) : Type 0 where
  pub chars : from text at ≡ c ∷ from text (at + len_utf8 c)
  pub long : at + len_utf8 c ≤ length text
  pub cut : IsCharBoundary text (at + len_utf8 c)

-- the text begins with the character c, and rest is what stands behind it
pub record Begins (text : List ℕ) (c : ℕ) (rest : List ℕ) : Type 0 where
  pub after : rest ≡ drop (len_utf8 c) text
  pub chars : decodes text ≡ c ∷ from text (len_utf8 c)
  pub long : len_utf8 c ≤ length text
  pub shorter : length rest < length text
  pub cut : IsCharBoundary text (len_utf8 c)
