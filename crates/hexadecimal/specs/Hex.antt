-- Bytes as text in lowercase hex.
use Rattle.std.specs.Prelude.{◌≡◌, ℕ, ◌+◌, ◌/◌, ◌%◌, ◌<◌, cond, ◌⊎◌, List, [], ◌∷◌, Some, None, codes, Option, nat_lt}
use Rattle.std.specs.List.{AllByRecursion}

-- The character of a digit below 16: `0` to `9`, then `a` to `f`.
abbrev pub digit_of : ℕ → ℕ
digit_of n = cond (nat_lt n 10) (48 + n) (87 + n)

-- Two digits for each byte, the upper half first.
abbrev pub digits_of : List ℕ → List ℕ
digits_of [] = []
digits_of (b ∷ bs) = digit_of (b / 16) ∷ digit_of (b % 16) ∷ digits_of bs

-- How bytes are written: their digits, or `-` where there are none.
abbrev pub hex_of : List ℕ → List ℕ
hex_of [] = codes "-"
hex_of (b ∷ bs) = digits_of (b ∷ bs)

-- Each number is a byte.
abbrev pub Bytes : List ℕ → Type 0
Bytes bs = AllByRecursion (λ b. b < 256) bs

-- The text stands for the bytes. An empty list of bytes has two texts: `-` and the empty text.
abbrev pub Spells : List ℕ → List ℕ → Type 0
Spells text bs = (digits_of bs ≡ text) ⊎ ((bs ≡ []) × (text ≡ codes "-"))

-- What a text is read as: the bytes that it stands for, or `None` where there is no such list of bytes.
abbrev pub Reads : List ℕ → Option (List ℕ) → Type 0
Reads text None = (bs : List ℕ) → Bytes bs → Spells text bs → ⊥
Reads text (Some bs) = Bytes bs × Spells text bs

-- A text is read in one way.
abbrev pub OneAnswer : Type 0
OneAnswer = (text : List ℕ) (a b : Option (List ℕ)) → Reads text a → Reads text b → a ≡ b

-- What was written is read back.
abbrev pub ReadsBack : Type 0
ReadsBack = (bs : List ℕ) → Bytes bs → Reads (hex_of bs) (Some bs)
