-- The pile that a store stands for.
use Rattle.std.specs.Prelude.{List, length, vec_items, string_bytes}
use Rattle.layout.specs.Frames.{Run, Row}
use Rattle.store.specs.Piles.{Pile}
use Rattle.store.specs.Spans.{runs_at, pile_at}
use Rattle.store.specs.declared.store.Store.{Store}
use Rattle.store.specs.declared.store.info.RowInfo.{RowInfo}

-- shut, since no other crate needs to see how the parts lie
unfoldable pub pile_of : Store → Pile
pile_of s = pile_at (string_bytes s.bytes) (vec_items s.runs) (vec_items s.rows) s.begins s.starts

-- the runs of all rows, finished and open, one behind the other
abbrev pub all_runs : Store → List Run
all_runs s = runs_at (string_bytes s.bytes) (vec_items s.runs)

-- a row without its texts
abbrev pub info_of : Row → RowInfo
info_of w = record { runs = length w.runs; width = w.width; hash = w.hash }
