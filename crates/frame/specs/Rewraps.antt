-- Wrapping a frame anew.
use Rattle.std.specs.Prelude.{◌≡◌, ℕ, ◌+◌, ◌≤◌, true, false, ◌⊎◌, List, None, length, fold}
use Rattle.style.specs.Styles.{is_plain}
use Rattle.size.specs.declared.terminal_size.TerminalSize.{TerminalSize}
use Rattle.layout.specs.Frames.{Frame, Rule, Run, Row}
use Rattle.layout.specs.Limits.{bytes_of_runs, bytes_of_rows, runs_of_rows, fits}
use Rattle.layout.specs.Tally.{Tally, tally_of}
use Rattle.layout.specs.Writing.{rewrite_run, rewrite_row, rewrapped}
use Rattle.frame.specs.Counts.{counts_of}
use Rattle.frame.specs.Drafts.{rule_at}
use Rattle.frame.specs.States.{sheet_of}
use Rattle.frame.specs.declared.error.FrameError.{FrameError}
use Rattle.frame.specs.declared.error.FrameError.TheVariants.{TooLarge}
use Rattle.frame.specs.declared.rewrap.Measured.{Measured}
use Rattle.frame.specs.declared.state.FrameState.{FrameState}

-- as many columns and rows
abbrev pub SameSize : TerminalSize → TerminalSize → Type 0
SameSize a b = (a.width ≡ b.width) × (a.height ≡ b.height)

-- The frame state s becomes t, for a terminal of another size z, and the spare one u becomes v: what s held is wrapped
-- anew, and v has it as it was. The mark is lost.
pub record Rewraps {C R : Type 0} (k : Rule) (z : TerminalSize) (s t u v : FrameState C R) : Type 0 where
  pub fit : fits k (rewrapped k (sheet_of s)) ≡ true
  pub frame : sheet_of t ≡ rewrapped k (sheet_of s)
  pub size : t.terminal_size ≡ z
  pub mark : t.expected_cursor_position ≡ None
  pub spare : sheet_of v ≡ sheet_of s
  pub spare_size : v.terminal_size ≡ u.terminal_size
  pub spare_mark : v.expected_cursor_position ≡ u.expected_cursor_position

-- a frame state that has the size z stays, and so does the spare one
abbrev pub Resizes : {C R : Type 0} → Rule → TerminalSize → FrameState C R → FrameState C R → FrameState C R → FrameState C R → Type 0
Resizes k z s t u v = (SameSize s.terminal_size z × (t ≡ s) × (v ≡ u)) ⊎ ((SameSize s.terminal_size z → ⊥) × Rewraps k z s t u v)

-- the size is another one, and the frame wrapped anew does not fit
abbrev pub DeniesSize : {C R : Type 0} → Rule → TerminalSize → FrameState C R → FrameError → Type 0
DeniesSize k z s e = (SameSize s.terminal_size z → ⊥) × (fits k (rewrapped k (sheet_of s)) ≡ false) × (e ≡ TooLarge)

-- m has the counts of f, and says whether its style is plain
pub record Tells (m : Measured) (f : Frame) : Type 0 where
  pub counts : counts_of m.counts ≡ tally_of f
  pub bare : m.bare ≡ is_plain f.style

-- no count grows by more than n
pub record Spread (n : ℕ) (t u : Tally) : Type 0 where
  pub rows : u.rows ≤ t.rows + n
  pub runs : u.runs ≤ t.runs + n
  pub bytes : u.bytes ≤ t.bytes + n

-- by how much these runs, written, make a count grow at most: each ends one, and each of their bytes may end one or be one
abbrev pub runs_room : List Run → ℕ
runs_room rs = length rs + bytes_of_runs rs

-- the same of these rows, each of which is closed
abbrev pub rows_room : List Row → ℕ
rows_room ws = length ws + runs_of_rows ws + bytes_of_rows ws

-- If s tells of a frame, t tells of it with these runs written behind, whatever the row hash.
pub record MeasuresRuns (columns : ℕ) (cells : ℕ → ℕ) (rs : List Run) (s t : Measured) : Type 0 where
  pub tells : (seed : ℕ) (step : ℕ → ℕ → ℕ) (f : Frame) → Tells s f → Tells t (fold (rewrite_run (rule_at columns cells seed step)) f rs)
  pub spread : Spread (runs_room rs) (counts_of s.counts) (counts_of t.counts)

-- The same of rows.
pub record MeasuresRows (columns : ℕ) (cells : ℕ → ℕ) (ws : List Row) (s t : Measured) : Type 0 where
  pub tells : (seed : ℕ) (step : ℕ → ℕ → ℕ) (f : Frame) → Tells s f → Tells t (fold (rewrite_row (rule_at columns cells seed step)) f ws)
  pub spread : Spread (rows_room ws) (counts_of s.counts) (counts_of t.counts)
