-- Whether two rows are equal: in runs, width and hash.
use Rattle.std.specs.Prelude.{◌≡◌, Bool, true, false, ◌&&◌, List, [], ◌∷◌, Decides, ◌==◌}
use Rattle.std.specs.Str.{bytes_eq}
use Rattle.style.specs.Bytes.{style_bytes}
use Rattle.layout.specs.Frames.{Run, Row}

-- two styles are equal where their nine bytes are
abbrev pub same_run : Run → Run → Bool
same_run a b = bytes_eq a.text b.text && bytes_eq (style_bytes a.style) (style_bytes b.style)

abbrev pub same_runs : List Run → List Run → Bool
same_runs [] [] = true
same_runs [] (b ∷ bs) = false
same_runs (a ∷ as') [] = false
same_runs (a ∷ as') (b ∷ bs) = same_run a b && same_runs as' bs

abbrev pub same_row : Row → Row → Bool
same_row a b = same_runs a.runs b.runs && (a.width == b.width && a.hash == b.hash)

-- it is true of equal rows, and of no others
abbrev pub Compares : Type 0
Compares = (a b : Row) → Decides (same_row a b) (a ≡ b)
