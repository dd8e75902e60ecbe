-- Which texts are taken: UTF-8 without controls but newlines, and without escape sequences but colour sequences.
use Rattle.std.specs.Prelude.{◌≡◌, ℕ, ◌+◌, Bool, cond, not, ◌&&◌, List, [], ◌∷◌, length, Some, None, IsUtf8, Option, ◌==◌}
use Rattle.ansi.specs.declared.refusal.Refusal.{Refusal}
use Rattle.ansi.specs.declared.refusal.Refusal.TheVariants.{Control, NoColour}
use Rattle.ansi.specs.Pieces.{Part, sequence, letter, bytes, pieces}
use Rattle.width.specs.Controls.{is_control}
use Rattle.pen.specs.Sequences.{is_colour}

-- a control that is no newline
abbrev pub is_barred : ℕ → Bool
is_barred c = is_control c && not (c == 10)

-- the refusal of a piece at a place, if it is refused
abbrev pub offence : ℕ → Part → Option Refusal
offence at (sequence bs) = cond (is_colour bs) None (Some (NoColour at))
offence at (letter c) = cond (is_barred c) (Some (Control at)) None

abbrev pub or_else : Option Refusal → Option Refusal → Option Refusal
or_else (Some e) o = Some e
or_else None o = o

-- the refusal of the earliest piece that is refused; the first stands at a place
abbrev pub first_offence : ℕ → List Part → Option Refusal
first_offence at [] = None
first_offence at (p ∷ ps) = or_else (offence at p) (first_offence (at + length (bytes p)) ps)

-- the text is taken
pub record Accepted (text : List ℕ) : Type 0 where
  pub utf8 : IsUtf8 text
  pub clean : first_offence 0 (pieces text) ≡ None
