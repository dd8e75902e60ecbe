-- The runs of a row and the rows of a store, one after another.
use Rattle.std.specs.Prelude.{ℕ, List, map}
use Rattle.std.specs.Borrow.{Bor}
use Rattle.style.specs.declared.style.StyleSheet.{StyleSheet}
use Rattle.layout.specs.Frames.{Run, Row}
use Rattle.store.specs.Spans.{runs_at, row_at}
use Rattle.store.specs.declared.rows.Row.{Row as StoredRow}
use Rattle.store.specs.declared.rows.Rows.{Rows}
use Rattle.store.specs.declared.runs.Runs.{Runs}
use Rattle.store.specs.declared.spans.RowSpan.{RowSpan}

-- what a text and a style say of a run
abbrev pub run_of : (Bor (List ℕ) × StyleSheet) → Run
run_of x = record { text = x.0.now; style = x.1 }

-- the runs that are still to come
abbrev pub runs_left : Runs → List Run
runs_left s = runs_at s.bytes.now s.spans.now

abbrev pub row_of : StoredRow → Row
row_of w = record { runs = runs_left w.runs; width = w.width; hash = w.hash }

-- the row that a part of the runs is
abbrev pub row_left : Rows → RowSpan → Row
row_left s = row_at (runs_at s.bytes.now s.runs.now)

-- the rows that are still to come
abbrev pub rows_left : Rows → List Row
rows_left s = map (row_left s) s.rows.now
