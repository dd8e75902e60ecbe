-- How texts become rows.
use Rattle.std.specs.Prelude.{ℕ, ◌+◌, ◌-◌, Bool, true, false, cond, not, ◌||◌, List, [], ◌∷◌, ◌++◌, fold, ◌==◌, nat_lt}
use Rattle.std.proofs.Math.Utf8.{encode}
use Rattle.style.specs.declared.style.StyleSheet.{StyleSheet}
use Rattle.style.specs.Bytes.{style_bytes}
use Rattle.style.specs.Styles.{plain, is_plain}
use Rattle.ansi.specs.Pieces.{Part, sequence, letter, pieces}
use Rattle.layout.specs.Frames.{Run, Row, Frame, Rule}

abbrev pub some : {X : Type 0} → List X → Bool
some [] = false
some (x ∷ xs) = true

abbrev pub run : List ℕ → StyleSheet → Run
run bs s = record { text = bs; style = s }

-- a hash fed with bytes
abbrev pub fed : Rule → ℕ → List ℕ → ℕ
fed k h bs = fold k.step h bs

-- A piece is fed as its bytes and then its style in nine bytes.
abbrev pub fed_piece : Rule → StyleSheet → ℕ → List ℕ → ℕ
fed_piece k s h bs = fed k h (bs ++ style_bytes s)

-- the hash of a row that is opened under a style: one that is not plain is fed first
abbrev pub opening : Rule → StyleSheet → ℕ
opening k s = cond (is_plain s) k.seed (fed k k.seed (style_bytes s))

-- an open row without runs, under no style
abbrev pub fresh : Rule → List Row → Frame
fresh k rows = record { rows = rows; runs = []; text = []; style = plain; width = 0; hash = k.seed }

-- the open row's runs with the current run, which joins if it has bytes or a style that is not plain
abbrev pub joined_runs : Frame → List Run
joined_runs f = cond (some f.text || not (is_plain f.style)) (f.runs ++ (run f.text f.style ∷ [])) f.runs

-- The open row is closed. A row without runs is added only if asked for; the style stays.
abbrev pub closed : Rule → Bool → Frame → Frame
closed k always f = record {
  rows = cond (always || some (joined_runs f)) (f.rows ++ (record { runs = joined_runs f; width = f.width; hash = f.hash } ∷ [])) f.rows;
  runs = [];
  text = [];
  style = f.style;
  width = 0;
  hash = opening k f.style;
}

-- bytes of n cells join the current run, and are fed to the open row
abbrev pub carried : Rule → List ℕ → ℕ → Frame → Frame
carried k bs n f = record { rows = f.rows; runs = f.runs; text = f.text ++ bs; style = f.style; width = f.width + n; hash = fed_piece k f.style f.hash bs }

-- a character that is wider than what is left of the open row closes it
abbrev pub folding : Rule → ℕ → Frame → Frame
folding k c f = cond (nat_lt (k.columns - f.width) (k.cells c)) (closed k false f) f

-- a newline is fed to the row that it closes, and not stored
abbrev pub newline : Rule → Frame → Frame
newline k f = closed k true (record { rows = f.rows; runs = f.runs; text = f.text; style = f.style; width = f.width; hash = fed_piece k f.style f.hash (10 ∷ []) })

-- a frame after one piece more
abbrev pub put : Rule → Frame → Part → Frame
put k f (sequence bs) = carried k bs 0 f
put k f (letter c) = cond (c == 10) (newline k f) (carried k (encode c) (k.cells c) (folding k c f))

unfoldable pub put_all : Rule → Frame → List Part → Frame
put_all k f ps = fold (put k) f ps

abbrev pub styled : StyleSheet → Frame → Frame
styled s f = record { rows = f.rows; runs = f.runs; text = f.text; style = s; width = f.width; hash = f.hash }

-- a current run with bytes joins the open row, and the style becomes plain; without bytes it stays
abbrev pub ended : Frame → Frame
ended f = cond (some f.text) (record { rows = f.rows; runs = f.runs ++ (run f.text f.style ∷ []); text = []; style = plain; width = f.width; hash = f.hash }) f

-- a text is written under a style
abbrev pub written : Rule → StyleSheet → List ℕ → Frame → Frame
written k s text f = ended (put_all k (styled s f) (pieces text))

-- the open row is closed, and the style becomes plain
abbrev pub finished : Rule → Frame → Frame
finished k f = fresh k (closed k false f).rows

-- Re-wrapping by another rule: each row's runs are written and the row closed, then the open row's, which stays open
-- under the style that it had.
abbrev pub rewrite_run : Rule → Frame → Run → Frame
rewrite_run k f r = written k r.style r.text f

abbrev pub rewrite_row : Rule → Frame → Row → Frame
rewrite_row k f w = closed k true (fold (rewrite_run k) f w.runs)

unfoldable pub rewrapped : Rule → Frame → Frame
rewrapped k f = styled f.style (fold (rewrite_run k) (fold (rewrite_row k) (fresh k []) f.rows) f.runs)
