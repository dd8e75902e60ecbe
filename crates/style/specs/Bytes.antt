-- Bytes that tell styles apart.
use Rattle.std.specs.Prelude.{◌≡◌, ℕ, List, [], ◌∷◌, ◌++◌, length, Some, None, Option}
use Rattle.std.specs.Option.{unwrap_or}
use Rattle.style.specs.declared.color.Color.{Color}
use Rattle.style.specs.declared.color.Color.TheVariants.{Black, LightRed, DarkRed, LightGreen, DarkGreen, LightYellow, DarkYellow, LightBlue, DarkBlue, LightMagenta, DarkMagenta, LightCyan, DarkCyan, White, Grey, DarkGrey, Rgb, AnsiValue}
use Rattle.style.specs.declared.style.StyleSheet.{StyleSheet}
use Rattle.style.specs.Attrs.{bits_of}
use Rattle.style.specs.Colors.{code_of}

-- Four bytes of a colour: its kind, and what tells it from the others of its kind.
abbrev name_bytes : Color → List ℕ
name_bytes c = 1 ∷ unwrap_or (code_of c) 0 ∷ 0 ∷ 0 ∷ []

abbrev pub color_bytes : Color → List ℕ
color_bytes Black = name_bytes Black
color_bytes LightRed = name_bytes LightRed
color_bytes DarkRed = name_bytes DarkRed
color_bytes LightGreen = name_bytes LightGreen
color_bytes DarkGreen = name_bytes DarkGreen
color_bytes LightYellow = name_bytes LightYellow
color_bytes DarkYellow = name_bytes DarkYellow
color_bytes LightBlue = name_bytes LightBlue
color_bytes DarkBlue = name_bytes DarkBlue
color_bytes LightMagenta = name_bytes LightMagenta
color_bytes DarkMagenta = name_bytes DarkMagenta
color_bytes LightCyan = name_bytes LightCyan
color_bytes DarkCyan = name_bytes DarkCyan
color_bytes White = name_bytes White
color_bytes Grey = name_bytes Grey
color_bytes DarkGrey = name_bytes DarkGrey
color_bytes (AnsiValue n) = 2 ∷ n ∷ 0 ∷ 0 ∷ []
color_bytes (Rgb r g b) = 3 ∷ r ∷ g ∷ b ∷ []

-- No colour is a kind of its own.
abbrev pub optional_bytes : Option Color → List ℕ
optional_bytes None = 0 ∷ 0 ∷ 0 ∷ 0 ∷ []
optional_bytes (Some c) = color_bytes c

-- The nine bytes of a style. Which they are is left open; what is promised is below.
unfoldable pub style_bytes : StyleSheet → List ℕ
style_bytes s = optional_bytes s.fg ++ (optional_bytes s.bg ++ bits_of s.att ∷ [])

-- There are nine, and distinct styles have distinct bytes.
pub record BytesTell : Type 0 where
  pub nine : (s : StyleSheet) → length (style_bytes s) ≡ 9
  pub distinct : (s t : StyleSheet) → style_bytes s ≡ style_bytes t → s ≡ t
