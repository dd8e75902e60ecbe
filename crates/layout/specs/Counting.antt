-- Theorems on counts.
use Rattle.std.specs.Prelude.{◌≡◌, ℕ, ◌+◌, ◌<◌, Bool, true, false, not, ◌||◌, List, ◌∷◌, length}
use Rattle.style.specs.Styles.{is_plain}
use Rattle.style.specs.declared.style.StyleSheet.{StyleSheet}
use Rattle.ansi.specs.Pieces.{Part, pieces}
use Rattle.layout.specs.Frames.{Frame, Rule}
use Rattle.layout.specs.Writing.{some, joined_runs, closed, folding, newline, put, put_all, ended, written}
use Rattle.layout.specs.Limits.{runs_of_rows, fits}
use Rattle.layout.specs.Tally.{Within, Grows, tally_of, tally_closed, tally_put, tally_all, tally_ended, tally_fits}

-- The counts of a frame after a step are told by those before, and so is whether it fits.
pub record CountsFollow : Type 0 where
  pub closes : (k : Rule) (always : Bool) (f : Frame) → tally_of (closed k always f) ≡ tally_closed (is_plain f.style) always (tally_of f)
  pub puts : (k : Rule) (f : Frame) (p : Part) → tally_of (put k f p) ≡ tally_put k (is_plain f.style) (tally_of f) p
  pub puts-all : (k : Rule) (f : Frame) (ps : List Part) → tally_of (put_all k f ps) ≡ tally_all k (is_plain f.style) (tally_of f) ps
  pub ends : (f : Frame) → tally_of (ended f) ≡ tally_ended (tally_of f)
  pub writes : (k : Rule) (s : StyleSheet) (text : List ℕ) (f : Frame) → tally_of (written k s text f) ≡ tally_ended (tally_all k (is_plain s) (tally_of f) (pieces text))
  pub fitting : (k : Rule) (f : Frame) → fits k f ≡ tally_fits (is_plain f.style) (tally_of f)
  pub text-fitting : (k : Rule) (s : StyleSheet) (text : List ℕ) (f : Frame) → fits k (written k s text f) ≡ tally_fits (is_plain s) (tally_all k (is_plain s) (tally_of f) (pieces text))

-- What fits after more pieces fitted before, and no step on the way to a frame that fits passes the limits.
pub record FitsBefore : Type 0 where
  pub piece-before : (k : Rule) (f : Frame) (p : Part) → fits k (put k f p) ≡ true → fits k f ≡ true
  pub pieces-before : (k : Rule) (f : Frame) (ps : List Part) → fits k (put_all k f ps) ≡ true → fits k f ≡ true
  pub first_piece : (k : Rule) (f : Frame) (p : Part) (ps : List Part) → fits k (put_all k f (p ∷ ps)) ≡ true → fits k (put k f p) ≡ true
  pub end_fits : (k : Rule) (f : Frame) → fits k (ended f) ≡ fits k f
  pub holds : (k : Rule) (f : Frame) → fits k f ≡ true → Within (tally_of f)
  pub closing : (k : Rule) (f : Frame) → fits k f ≡ true → Within (tally_of (closed k false f))
  pub fold : (k : Rule) (c : ℕ) (f : Frame) → fits k f ≡ true → Within (tally_of (folding k c f))
  pub line : (k : Rule) (f : Frame) → fits k (newline k f) ≡ true → Within (tally_of (closed k true f))
  -- while a frame fits there is room for a run that joins, and for a row that is added
  pub run_room : (k : Rule) (f : Frame) → fits k f ≡ true → (some f.text || not (is_plain f.style)) ≡ true → runs_of_rows f.rows + length f.runs < 1024
  pub row_room : (k : Rule) (f : Frame) → fits k f ≡ true → some (joined_runs f) ≡ true → length f.rows < 256
  pub line-room : (k : Rule) (f : Frame) → fits k (newline k f) ≡ true → length f.rows < 256
  -- whatever the styles
  pub grows : (k : Rule) (s : StyleSheet) (text : List ℕ) (f : Frame) → Grows (tally_of f) (tally_of (written k s text f))
  pub grows-closed : (k : Rule) (always : Bool) (f : Frame) → Grows (tally_of f) (tally_of (closed k always f))
