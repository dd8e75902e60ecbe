-- What a control sequence asks of a terminal beside colours (ECMA-48: CUU, CUD, CUF, CUB, EL; DEC: DECTCEM).
use Rattle.std.specs.Prelude.{ℕ, ◌-◌, max, Bool, cond, ◌&&◌, List, [], ◌∷◌, length, Some, None, Option, ◌==◌, nat_le, slice_index}
use Rattle.std.specs.Str.{bytes_eq}
use Rattle.pen.specs.Sequences.{parameters, between}
use Rattle.pen.specs.Pens.{numbers}
use Rattle.terminal.specs.Calls.{Call, clear_line, clear_until_new_line, hide, show, up, down, left, right}

-- ESC [ and at least a final byte
abbrev pub is_control : List ℕ → Bool
is_control bs = nat_le 3 (length bs) && (slice_index bs 0 == 27 && slice_index bs 1 == 91)

abbrev pub final : List ℕ → ℕ
final bs = slice_index bs (length bs - 1)

-- the first number of the parameters ms: 0 where there is none
abbrev pub first_number : List ℕ → ℕ
first_number ms = slice_index (numbers ms) 0

-- A, B, C and D move the cursor, by one where the number is 0; K clears from the cursor on, or by 2 the line.
abbrev pub ordered : ℕ → ℕ → Option Call
ordered n last =
    cond (last == 65) (Some (up (max 1 n)))
    (cond (last == 66) (Some (down (max 1 n)))
    (cond (last == 67) (Some (right (max 1 n)))
    (cond (last == 68) (Some (left (max 1 n)))
    (cond (last == 75) (cond (n == 0) (Some clear_until_new_line) (cond (n == 2) (Some clear_line) None))
    None))))

-- h shows the cursor, and l hides it, where ?25 stands between
abbrev pub lit : ℕ → Option Call
lit last = cond (last == 104) (Some show) (cond (last == 108) (Some hide) None)

-- the call that a sequence asks for, if any; any other sequence asks for nothing
abbrev pub asked : List ℕ → Option Call
asked bs =
    cond (is_control bs)
    (cond (parameters (between bs)) (ordered (first_number (between bs)) (final bs))
    (cond (bytes_eq (between bs) (63 ∷ 50 ∷ 53 ∷ [])) (lit (final bs)) None))
    None
