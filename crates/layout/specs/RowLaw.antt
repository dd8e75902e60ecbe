-- Where rows break, and what each carries, said without the steps of the writing.
use Rattle.std.specs.Prelude.{◌≡◌, ℕ, ◌+◌, ◌<◌, ◌≤◌, true, false, ◌⊎◌, List, [], ◌∷◌, ◌++◌, ◌==◌}
use Rattle.std.specs.List.{AllByRecursion}
use Rattle.style.specs.declared.style.StyleSheet.{StyleSheet}
use Rattle.ansi.specs.Pieces.{letter}
use Rattle.pen.specs.Checks.{Accepted}
use Rattle.layout.specs.Frames.{Row, Frame, Rule}
use Rattle.layout.specs.Writing.{some, opening, fresh, finished}
use Rattle.layout.specs.Inks.{Write, Ink, ink, drawn, inks_given, inks_of, inks_of_rows, chars_of, without_newlines, cells_of, is_line, without_lines, fed_inks}

-- Each run is an accepted text, no newline is stored, and the width is that of the characters and within the columns.
pub record Fair (k : Rule) (w : Row) : Type 0 where
  pub texts : AllByRecursion (λ r. Accepted r.text) w.runs
  pub unbroken : AllByRecursion (λ u. is_line u.part ≡ false) (inks_of w.runs)
  pub width : w.width ≡ cells_of k (inks_of w.runs)
  pub within : w.width ≤ k.columns

-- The rows carry what is given, in order. The number h is the hash with which the first of them is opened; a row's hash
-- is that number fed with what the row carries, and with the newline that ends it.
pub data Breaks (k : Rule) : ℕ → List Ink → List Row → Type 0 where
  -- nothing is left
  none : (h : ℕ) → Breaks k h [] []
  -- a row ends with what is given; such a row has runs
  last : (h : ℕ) (w : Row) → Fair k w → some w.runs ≡ true → w.hash ≡ fed_inks k h (inks_of w.runs) → Breaks k h (inks_of w.runs) (w ∷ [])
  -- a row ends at a newline, and the next is opened under the newline's style
  line :
      (h : ℕ) (w : Row) (s : StyleSheet) (us : List Ink) (ws : List Row)
      → Fair k w
      → w.hash ≡ fed_inks k h (inks_of w.runs ++ (ink s (letter 10) ∷ []))
      → Breaks k (opening k s) us ws
      → Breaks k h (inks_of w.runs ++ (ink s (letter 10) ∷ us)) (w ∷ ws)
  -- a row ends before a character that does not fit, and the next is opened under that character's style
  fold :
      (h : ℕ) (w : Row) (s : StyleSheet) (c : ℕ) (us : List Ink) (ws : List Row)
      → Fair k w
      → (c == 10) ≡ false
      → k.columns < w.width + k.cells c
      → w.hash ≡ fed_inks k h (inks_of w.runs)
      → Breaks k (opening k s) (ink s (letter c) ∷ us) ws
      → Breaks k h (inks_of w.runs ++ (ink s (letter c) ∷ us)) (w ∷ ws)

-- the rows of the frame of these texts, finished
abbrev pub rows_of : Rule → List Write → List Row
rows_of k ws = (finished k (drawn k (fresh k []) ws)).rows

-- P holds of every frame of accepted texts, where a row has two columns at least and a character two cells at most.
abbrev pub OfFrames : (Rule → List Write → Type 0) → Type 0
OfFrames P = (k : Rule) → 2 ≤ k.columns → ((c : ℕ) → k.cells c ≤ 2) → (ws : List Write) → AllByRecursion (λ w. Accepted w.text) ws → P k ws

pub record RowsLaw : Type 0 where
  pub breaks : OfFrames (λ k ws. Breaks k k.seed (inks_given ws) (rows_of k ws))
  -- joined, the rows carry what was written but newlines
  pub carries : OfFrames (λ k ws. inks_of_rows (rows_of k ws) ≡ without_lines (inks_given ws))
  pub characters : OfFrames (λ k ws. chars_of (inks_of_rows (rows_of k ws)) ≡ without_newlines (chars_of (inks_given ws)))
  -- so no row is wider than the columns
  pub widths : OfFrames (λ k ws. AllByRecursion (Fair k) (rows_of k ws))

-- A row's hash is that of what the row carries, from the style under which it was opened, and of the newline that ended
-- it, if one did.
abbrev pub Hashed : Rule → Row → Type 0
Hashed k w =
    (s : StyleSheet)
    × ((w.hash ≡ fed_inks k (opening k s) (inks_of w.runs))
    ⊎ ((t : StyleSheet) × (w.hash ≡ fed_inks k (opening k s) (inks_of w.runs ++ (ink t (letter 10) ∷ [])))))

abbrev pub HashLaw : Type 0
HashLaw = OfFrames (λ k ws. AllByRecursion (Hashed k) (rows_of k ws))

-- Equal texts under equal styles, written in the same order, give equal frames, hashes included.
abbrev pub EqualWrites : Type 0
EqualWrites = (k : Rule) (f : Frame) (vs ws : List Write) → vs ≡ ws → drawn k f vs ≡ drawn k f ws
