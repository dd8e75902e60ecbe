-- The pile that parts of a list of bytes stand for.
use Rattle.std.specs.Prelude.{◌≡◌, ℕ, ◌+◌, ◌<◌, ◌≤◌, Bool, true, ◌&&◌, ◌||◌, List, map, length, take, drop, nat_le, nat_lt, slice_index, slice_index_or}
use Rattle.layout.specs.Frames.{Run, Row}
use Rattle.store.specs.Piles.{Pile, bytes_of, runs_of}
use Rattle.store.specs.declared.spans.Span.{Span}
use Rattle.store.specs.declared.spans.RowSpan.{RowSpan}

abbrev pub run_at : List ℕ → Span → Run
run_at bs r = record { text = drop r.from (take r.to bs); style = r.style }

abbrev pub runs_at : List ℕ → List Span → List Run
runs_at bs rs = map (run_at bs) rs

abbrev pub row_at : List Run → RowSpan → Row
row_at rs w = record { runs = drop w.from (take w.to rs); width = w.width; hash = w.hash }

-- the open row's runs begin at b, and the current run's bytes at s
abbrev pub pile_at : List ℕ → List Span → List RowSpan → ℕ → ℕ → Pile
pile_at bs rs ws b s = record { rows = map (row_at (runs_at bs rs)) ws; runs = drop b (runs_at bs rs); text = drop s bs }

-- The text may be cut at i: the byte there, if any, does not continue a character.
abbrev pub cut : List ℕ → ℕ → Bool
cut bs i = nat_le (length bs) i || (nat_lt (slice_index bs i) 128 || nat_le 192 (slice_index bs i))

abbrev pub Opens : List ℕ → List Span → ℕ → ℕ → Type 0
Opens bs rs b s = (s ≤ length bs) × (b ≤ length rs) × (cut bs s ≡ true)

-- Each run ends among the bytes, and each row among the runs.
abbrev pub RunsIn : List Span → ℕ → Type 0
RunsIn rs n = (k : ℕ) (d : Span) → k < length rs → ((slice_index_or rs k d).from ≤ (slice_index_or rs k d).to) × ((slice_index_or rs k d).to ≤ n)

abbrev pub RowsIn : List RowSpan → ℕ → Type 0
RowsIn ws n = (k : ℕ) (d : RowSpan) → k < length ws → ((slice_index_or ws k d).from ≤ (slice_index_or ws k d).to) × ((slice_index_or ws k d).to ≤ n)

-- Each run begins and ends between two characters.
abbrev pub Cuts : List ℕ → List Span → Type 0
Cuts bs rs = (k : ℕ) (d : Span) → k < length rs → cut bs (slice_index_or rs k d).from && cut bs (slice_index_or rs k d).to ≡ true

-- Each run begins where the one before ends, and the current one where the last ends.
abbrev pub Joins : List Span → Type 0
Joins rs = (k : ℕ) (d : Span) → k + 1 < length rs → (slice_index_or rs (k + 1) d).from ≡ (slice_index_or rs k d).to

abbrev pub Ends : List Span → ℕ → Type 0
Ends rs s = (k : ℕ) (d : Span) → k + 1 ≡ length rs → (slice_index_or rs k d).to ≡ s

-- The parts hold each byte and each run once.
abbrev pub Sized : List ℕ → List Span → List RowSpan → ℕ → ℕ → Type 0
Sized bs rs ws b s = (bytes_of (pile_at bs rs ws b s) ≡ length bs) × (runs_of (pile_at bs rs ws b s) ≡ length rs)
