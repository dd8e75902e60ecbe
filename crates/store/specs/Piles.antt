-- What a store holds, and what each step makes of it.
use Rattle.std.specs.Prelude.{◌≡◌, ℕ, ◌+◌, ◌<◌, ◌≤◌, List, [], ◌∷◌, ◌++◌, length, Option, MatchOption, slice_index_or}
use Rattle.std.specs.Borrow.{Bor}
use Rattle.std.specs.List.{flat_map}
use Rattle.style.specs.declared.style.StyleSheet.{StyleSheet}
use Rattle.style.specs.Styles.{plain}
use Rattle.layout.specs.Frames.{Run, Row}
use Rattle.layout.specs.Limits.{bytes_of_runs, bytes_of_rows, runs_of_rows}

-- the finished rows, the runs of the open row, and the bytes of the current run
pub record Pile : Type 0 where
  pub rows : List Row
  pub runs : List Run
  pub text : List ℕ

abbrev pub empty : Pile
empty = record { rows = []; runs = []; text = [] }

-- all bytes, and all runs that have ended
abbrev pub bytes_of : Pile → ℕ
bytes_of p = bytes_of_rows p.rows + bytes_of_runs p.runs + length p.text

abbrev pub runs_of : Pile → ℕ
runs_of p = runs_of_rows p.rows + length p.runs

-- the text grows at its end
abbrev pub put_text : List ℕ → Pile → Pile
put_text bs p = record { rows = p.rows; runs = p.runs; text = p.text ++ bs }

-- the text becomes a run of the open row
abbrev pub end_run : StyleSheet → Pile → Pile
end_run s p = record { rows = p.rows; runs = p.runs ++ (record { text = p.text; style = s } ∷ []); text = [] }

-- the open row's runs become a row
abbrev pub end_row : ℕ → ℕ → Pile → Pile
end_row w h p = record { rows = p.rows ++ (record { runs = p.runs; width = w; hash = h } ∷ []); runs = []; text = p.text }

-- what stands past the end of a list
abbrev pub no_run : Run
no_run = record { text = []; style = plain }

abbrev pub no_row : Row
no_row = record { runs = []; width = 0; hash = 0 }

-- the runs of row i, and none past the last row
abbrev pub runs_of_row : ℕ → Pile → List Run
runs_of_row i p = (slice_index_or p.rows i no_row).runs

-- A search for run k of these runs: none past the last, else its text and style.
abbrev pub Finds : List Run → ℕ → Option (Bor (List ℕ) × StyleSheet) → Type 0
Finds rs k r = MatchOption r (length rs ≤ k) (λ x. (k < length rs) × (x.0.now ≡ (slice_index_or rs k no_run).text) × (x.1 ≡ (slice_index_or rs k no_run).style))

-- the texts of these runs, joined
abbrev pub joined : List Run → List ℕ
joined rs = flat_map (λ (r : Run). r.text) rs

-- the texts of row i's runs, joined
abbrev pub text_of_row : ℕ → Pile → List ℕ
text_of_row i p = joined (runs_of_row i p)
