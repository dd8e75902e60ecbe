-- What rows carry: pieces, each under a style.
use Rattle.std.specs.Prelude.{ℕ, ◌+◌, Bool, false, cond, List, [], ◌∷◌, ◌++◌, fold, ◌==◌}
use Rattle.style.specs.declared.style.StyleSheet.{StyleSheet}
use Rattle.ansi.specs.Pieces.{Part, sequence, letter, bytes, pieces, letters}
use Rattle.layout.specs.Frames.{Run, Row, Frame, Rule}
use Rattle.layout.specs.Writing.{fed_piece, written}

-- a text that is written under a style
pub record Write : Type 0 where
  pub style : StyleSheet
  pub text : List ℕ

-- the frame of the texts written one after another
unfoldable pub drawn : Rule → Frame → List Write → Frame
drawn k f ws = fold (λ g w. written k w.style w.text g) f ws

-- a piece under a style
pub record Ink : Type 0 where
  pub style : StyleSheet
  pub part : Part

abbrev pub ink : StyleSheet → Part → Ink
ink s p = record { style = s; part = p }

abbrev pub inks : StyleSheet → List Part → List Ink
inks s [] = []
inks s (p ∷ ps) = ink s p ∷ inks s ps

-- what is written
abbrev pub inks_given : List Write → List Ink
inks_given [] = []
inks_given (w ∷ ws) = inks w.style (pieces w.text) ++ inks_given ws

-- what runs carry, and rows
abbrev pub inks_of : List Run → List Ink
inks_of [] = []
inks_of (r ∷ rs) = inks r.style (pieces r.text) ++ inks_of rs

abbrev pub inks_of_rows : List Row → List Ink
inks_of_rows [] = []
inks_of_rows (w ∷ ws) = inks_of w.runs ++ inks_of_rows ws

-- the pieces alone, and the characters among them
abbrev pub parts_of : List Ink → List Part
parts_of [] = []
parts_of (u ∷ us) = u.part ∷ parts_of us

abbrev pub chars_of : List Ink → List ℕ
chars_of us = letters (parts_of us)

abbrev pub without_newlines : List ℕ → List ℕ
without_newlines [] = []
without_newlines (c ∷ cs) = cond (c == 10) (without_newlines cs) (c ∷ without_newlines cs)

-- the cells
abbrev pub cells_of_part : Rule → Part → ℕ
cells_of_part k (sequence bs) = 0
cells_of_part k (letter c) = k.cells c

abbrev pub cells_of : Rule → List Ink → ℕ
cells_of k [] = 0
cells_of k (u ∷ us) = cells_of_part k u.part + cells_of k us

-- newlines
abbrev pub is_line : Part → Bool
is_line (sequence bs) = false
is_line (letter c) = c == 10

abbrev pub without_lines : List Ink → List Ink
without_lines [] = []
without_lines (u ∷ us) = cond (is_line u.part) (without_lines us) (u ∷ without_lines us)

-- a hash fed with pieces, each with its style
abbrev pub fed_inks : Rule → ℕ → List Ink → ℕ
fed_inks k h us = fold (λ n u. fed_piece k u.style n (bytes u.part)) h us
