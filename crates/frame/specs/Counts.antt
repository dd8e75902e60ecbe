-- The counts that the code keeps, by their meaning.
use Rattle.std.specs.Prelude.{ℕ, ◌+◌, ◌^◌, ◌<◌, ◌≤◌}
use Rattle.layout.specs.Frames.{Rule}
use Rattle.layout.specs.Tally.{Tally}
use Rattle.frame.specs.declared.tally.Counts.{Counts}

abbrev pub counts_of : Counts → Tally
counts_of t = record { rows = t.rows; runs = t.runs; bytes = t.bytes; begun = t.begun; text = t.text; width = t.width }

-- n bytes more do not overflow the counts
pub record Room (n : ℕ) (t : Counts) : Type 0 where
  pub rows : t.rows + n < 2 ^ 64
  pub runs : t.runs + n < 2 ^ 64
  pub bytes : t.bytes + n < 2 ^ 64

-- at most a row, a run and n bytes more
pub record Grows (n : ℕ) (s t : Counts) : Type 0 where
  pub rows : t.rows ≤ s.rows + 1
  pub runs : t.runs ≤ s.runs + 1
  pub bytes : t.bytes ≤ s.bytes + n

-- a rule by its columns and cells; counts need no hash
abbrev pub counting : ℕ → (ℕ → ℕ) → Rule
counting w cells = record { columns = w; cells = cells; seed = 0; step = λ h b. 0 }
