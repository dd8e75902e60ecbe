-- The cells that a character takes, by its code point.
use Rattle.std.specs.Prelude.{ℕ, Bool, false, cond, ◌||◌, List, [], ◌∷◌}
use Rattle.std.specs.Int.{is_in_range}
use Rattle.width.specs.Controls.{is_control}

-- Each range is its first and its last code point.
abbrev zero_width : List (ℕ × ℕ)
zero_width = (0x300, 0x36F) ∷ (0x200B, 0x200F) ∷ []

abbrev wide : List (ℕ × ℕ)
wide =
    (0x1100, 0x115F)
    ∷ (0x2E80, 0x303E)
    ∷ (0x3041, 0xA4CF)
    ∷ (0xAC00, 0xD7A3)
    ∷ (0xFF00, 0xFF60)
    ∷ (0x1F300, 0x1F64F)
    ∷ []

abbrev in_any : List (ℕ × ℕ) → ℕ → Bool
in_any [] c = false
in_any (range ∷ ranges) c = is_in_range range.0 range.1 c || in_any ranges c

abbrev pub is_zero_width : ℕ → Bool
is_zero_width c = is_control c || in_any zero_width c

abbrev pub is_wide : ℕ → Bool
is_wide c = in_any wide c

-- None for controls and the characters of zero width, two for the wide ones, one for the rest.
abbrev pub table_cells : ℕ → ℕ
table_cells c = cond (is_zero_width c) 0 (cond (is_wide c) 2 1)

-- None for controls, one for the rest.
abbrev pub per_point_cells : ℕ → ℕ
per_point_cells c = cond (is_control c) 0 1
