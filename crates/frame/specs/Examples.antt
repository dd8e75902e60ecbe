-- Worked examples.
use Rattle.std.specs.Prelude.{◌≡◌, ℕ, true, false, List, [], ◌∷◌, map, Some}
use Rattle.style.specs.declared.style.StyleSheet.{StyleSheet}
use Rattle.style.specs.Styles.{plain, with_attr}
use Rattle.size.specs.declared.position.Position.{Position}
use Rattle.ansi.specs.declared.refusal.Refusal.TheVariants.{NoColour}
use Rattle.ansi.specs.Pieces.{sequence, letter, pieces}
use Rattle.pen.specs.Checks.{first_offence}
use Rattle.width.specs.Widths.{table_cells, per_point_cells}
use Rattle.layout.specs.Frames.{Frame, Rule}
use Rattle.layout.specs.Writing.{fresh, written, finished}
use Rattle.frame.specs.Drafts.{rule_at}
use Rattle.frame.specs.Marks.{mark_at}

-- four columns; the hash makes no difference here
abbrev pub four : (ℕ → ℕ) → Rule
four cells = rule_at 4 cells 0 (λ h b. 0)

abbrev pub wrote : (ℕ → ℕ) → StyleSheet → List ℕ → Frame
wrote cells s text = written (four cells) s text (fresh (four cells) [])

-- the widths of the rows of a frame that holds one text
abbrev pub widths : (ℕ → ℕ) → StyleSheet → List ℕ → List ℕ
widths cells s text = map (λ w. w.width) (finished (four cells) (wrote cells s text)).rows

abbrev pub bold : StyleSheet
bold = with_attr plain (record { italic = false; bold = true })

abbrev pub at : ℕ → ℕ → Position
at row col = record { row = row; col = col }

pub record Worked : Type 0 where
  -- 1. ESC [ 31 m a: an escape of 5 bytes, and a
  pub coloured : pieces (27 ∷ 91 ∷ 51 ∷ 49 ∷ 109 ∷ 97 ∷ []) ≡ sequence (27 ∷ 91 ∷ 51 ∷ 49 ∷ 109 ∷ []) ∷ letter 97 ∷ []
  -- 2. 1B 5D E4 B8 9C 07 62: an escape of 6 bytes, and b; the byte 9C is part of a character, and no ST
  pub title : pieces (27 ∷ 93 ∷ 228 ∷ 184 ∷ 156 ∷ 7 ∷ 98 ∷ []) ≡ sequence (27 ∷ 93 ∷ 228 ∷ 184 ∷ 156 ∷ 7 ∷ []) ∷ letter 98 ∷ []
  -- 3. ESC alone: one escape, refused with number 3 at place 0
  pub alone : pieces (27 ∷ []) ≡ sequence (27 ∷ []) ∷ []
  pub refused : first_offence 0 (pieces (27 ∷ [])) ≡ Some (NoColour 0)
  -- 4. at four columns abcd is one row, and abcde two
  pub one : widths table_cells plain (97 ∷ 98 ∷ 99 ∷ 100 ∷ []) ≡ 4 ∷ []
  pub two : widths table_cells plain (97 ∷ 98 ∷ 99 ∷ 100 ∷ 101 ∷ []) ≡ 4 ∷ 1 ∷ []
  -- 5. abc and U+754C, which is two cells wide
  pub wide : widths table_cells plain (97 ∷ 98 ∷ 99 ∷ 231 ∷ 149 ∷ 140 ∷ []) ≡ 3 ∷ 2 ∷ []
  -- 6. a and a newline: one row, and two in bold; a, two newlines and b: three
  pub line : widths table_cells plain (97 ∷ 10 ∷ []) ≡ 1 ∷ []
  pub bold_line : widths table_cells bold (97 ∷ 10 ∷ []) ≡ 1 ∷ 0 ∷ []
  pub lines : widths table_cells plain (97 ∷ 10 ∷ 10 ∷ 98 ∷ []) ≡ 1 ∷ 0 ∷ 1 ∷ []
  pub bold_lines : widths table_cells bold (97 ∷ 10 ∷ 10 ∷ 98 ∷ []) ≡ 1 ∷ 0 ∷ 1 ∷ []
  -- 7. abcd marked with offset 0, and ab with 65,535
  pub mark : mark_at (four table_cells) (wrote table_cells plain (97 ∷ 98 ∷ 99 ∷ 100 ∷ [])) 0 ≡ at 1 0
  pub far : mark_at (four table_cells) (wrote table_cells plain (97 ∷ 98 ∷ [])) 65535 ≡ at 16383 3
  -- 8. e and U+0301: one cell by the table, two by code points
  pub accent : widths table_cells plain (101 ∷ 204 ∷ 129 ∷ []) ≡ 1 ∷ []
  pub points : widths per_point_cells plain (101 ∷ 204 ∷ 129 ∷ []) ≡ 2 ∷ []
