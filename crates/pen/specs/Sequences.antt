-- Colour sequences: control sequences whose final byte is m (ECMA-48, SGR).
use Rattle.std.specs.Prelude.{◌≡◌, ℕ, ◌-◌, Bool, true, ◌&&◌, ◌||◌, List, [], ◌∷◌, ◌++◌, length, take, drop, ◌==◌, nat_le, slice_index}
use Rattle.std.specs.Char.{is_ascii_digit}
use Rattle.std.specs.List.{list_all}

-- a control sequence: ESC [, what stands between, and the final byte
abbrev pub csi : List ℕ → ℕ → List ℕ
csi ms last = 27 ∷ 91 ∷ (ms ++ (last ∷ []))

-- each byte is a digit or a semicolon
abbrev pub parameters : List ℕ → Bool
parameters bs = list_all (λ b. is_ascii_digit b || b == 59) bs

-- the bytes are a colour sequence with the parameters ms
abbrev pub Colours : List ℕ → List ℕ → Type 0
Colours ms bs = (bs ≡ csi ms 109) × (parameters ms ≡ true)

-- the same as a test: what stands behind the first two bytes and before the last, and what those three are
abbrev pub between : List ℕ → List ℕ
between bs = take (length bs - 3) (drop 2 bs)

abbrev pub is_colour : List ℕ → Bool
is_colour bs = nat_le 3 (length bs) && (slice_index bs 0 == 27 && (slice_index bs 1 == 91 && (slice_index bs (length bs - 1) == 109 && parameters (between bs))))

-- the test tells the colour sequences, and finds their parameters
pub record ColoursTold : Type 0 where
  pub sound : (bs : List ℕ) → is_colour bs ≡ true → Colours (between bs) bs
  pub complete : (ms bs : List ℕ) → Colours ms bs → (is_colour bs ≡ true) × (between bs ≡ ms)
