-- What a frame holds, counted: whether a text fits is told by counts, without storing it.
use Rattle.std.specs.Prelude.{ℕ, ◌+◌, ◌-◌, ◌≤◌, Bool, true, false, cond, not, ◌&&◌, ◌||◌, List, length, fold, ◌==◌, nat_le, nat_lt}
use Rattle.std.proofs.Math.Utf8.{encode}
use Rattle.ansi.specs.Pieces.{Part, sequence, letter}
use Rattle.layout.specs.Frames.{Frame, Rule}
use Rattle.layout.specs.Writing.{some}
use Rattle.layout.specs.Limits.{bytes_of_runs, bytes_of_rows, runs_of_rows}

pub record Tally : Type 0 where
  -- the finished rows
  pub rows : ℕ
  -- the runs of the finished rows and of the open row
  pub runs : ℕ
  -- all bytes: of the finished rows, the open row and the current run
  pub bytes : ℕ
  -- whether the open row has runs, and whether the current run has bytes
  pub begun : Bool
  pub text : Bool
  -- the open row's width so far
  pub width : ℕ

-- the counts of a frame
abbrev pub tally_of : Frame → Tally
tally_of f = record {
  rows = length f.rows;
  runs = runs_of_rows f.rows + length f.runs;
  bytes = (bytes_of_rows f.rows + bytes_of_runs f.runs) + length f.text;
  begun = some f.runs;
  text = some f.text;
  width = f.width;
}

-- The steps of a frame, on its counts. `bare` says that the frame's style is plain.

-- whether the current run joins the open row
abbrev pub tally_joins : Bool → Tally → Bool
tally_joins bare t = t.text || not bare

abbrev pub tally_closed : Bool → Bool → Tally → Tally
tally_closed bare always t = record {
  rows = cond (always || (tally_joins bare t || t.begun)) (t.rows + 1) t.rows;
  runs = cond (tally_joins bare t) (t.runs + 1) t.runs;
  bytes = t.bytes;
  begun = false;
  text = false;
  width = 0;
}

-- n cells and some bytes more
abbrev pub tally_carried : List ℕ → ℕ → Tally → Tally
tally_carried bs n t = record { rows = t.rows; runs = t.runs; bytes = t.bytes + length bs; begun = t.begun; text = some bs || t.text; width = t.width + n }

abbrev pub tally_folding : Rule → Bool → ℕ → Tally → Tally
tally_folding k bare c t = cond (nat_lt (k.columns - t.width) (k.cells c)) (tally_closed bare false t) t

abbrev pub tally_put : Rule → Bool → Tally → Part → Tally
tally_put k bare t (sequence bs) = tally_carried bs 0 t
tally_put k bare t (letter c) = cond (c == 10) (tally_closed bare true t) (tally_carried (encode c) (k.cells c) (tally_folding k bare c t))

unfoldable pub tally_all : Rule → Bool → Tally → List Part → Tally
tally_all k bare t ps = fold (tally_put k bare) t ps

abbrev pub tally_ended : Tally → Tally
tally_ended t = cond t.text (record { rows = t.rows; runs = t.runs + 1; bytes = t.bytes; begun = true; text = false; width = t.width }) t

-- at most 16,384 bytes, 1,024 runs and 256 rows
abbrev pub within_limits : ℕ → ℕ → ℕ → Bool
within_limits bytes runs rows = nat_le bytes 16384 && (nat_le runs 1024 && nat_le rows 256)

-- what is finished now keeps within the limits
abbrev pub tally_fits : Bool → Tally → Bool
tally_fits bare t = within_limits t.bytes (tally_closed bare false t).runs (tally_closed bare false t).rows

-- the counts are within the limits
pub record Within (t : Tally) : Type 0 where
  pub bytes : t.bytes ≤ 16384
  pub runs : t.runs ≤ 1024
  pub rows : t.rows ≤ 256

-- no count falls
pub record Grows (t u : Tally) : Type 0 where
  pub bytes : t.bytes ≤ u.bytes
  pub runs : t.runs ≤ u.runs
  pub rows : t.rows ≤ u.rows
