-- Attributes of text: two flags.
use Rattle.std.specs.Prelude.{◌≡◌, ℕ, ◌+◌, true, false, cond, not, ◌&&◌, ◌||◌, [], ◌∷◌, Some, Option}
use Rattle.std.specs.List.{slice_get}
use Rattle.style.specs.declared.style.Attributes.{Attributes}

-- No attribute, and each alone.
abbrev pub no_flags : Attributes
no_flags = record { italic = false; bold = false }

abbrev bold_only : Attributes
bold_only = record { italic = false; bold = true }

abbrev italic_only : Attributes
italic_only = record { italic = true; bold = false }

-- Each flag of the second is a flag of the first.
abbrev pub Contains : Attributes → Attributes → Type 0
Contains a b = (b.italic ≡ true → a.italic ≡ true) × (b.bold ≡ true → a.bold ≡ true)

-- The flags of either.
abbrev pub joined : Attributes → Attributes → Attributes
joined a b = record { italic = a.italic || b.italic; bold = a.bold || b.bold }

-- The flags of the first that the second has not.
abbrev pub without : Attributes → Attributes → Attributes
without a b = record { italic = a.italic && not b.italic; bold = a.bold && not b.bold }

-- The number of attributes: bold counts 1 and italic 2.
abbrev pub bits_of : Attributes → ℕ
bits_of a = cond a.bold 1 0 + cond a.italic 2 0

-- The attributes with this number. Above 3 there are none.
abbrev pub attributes_of : ℕ → Option Attributes
attributes_of n = slice_get (no_flags ∷ bold_only ∷ italic_only ∷ joined bold_only italic_only ∷ []) n

-- `attributes_of` is the inverse of `bits_of`: attributes have the number n exactly where `attributes_of n` is them.
abbrev pub BitsTell : Type 0
BitsTell =
    (a : Attributes) (n : ℕ) → (bits_of a ≡ n → attributes_of n ≡ Some a) × (attributes_of n ≡ Some a → bits_of a ≡ n)
