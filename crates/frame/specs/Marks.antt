-- Where a mark stands.
use Rattle.std.specs.Prelude.{ℕ, ◌+◌, ◌/◌, ◌%◌, min, length}
use Rattle.size.specs.declared.position.Position.{Position}
use Rattle.layout.specs.Frames.{Frame, Rule}

-- the column of a mark, n columns behind the open row's end
abbrev pub mark_column : ℕ → ℕ → ℕ
mark_column width n = min (width + n) 65535

-- It is folded as a text would be: its row is that of the open row and as many more as the column has whole rows. A
-- row above 65,535, which only one column can give, counts as 65,535.
abbrev pub mark_at : Rule → Frame → ℕ → Position
mark_at k f n = record { row = min (length f.rows + mark_column f.width n / k.columns) 65535; col = mark_column f.width n % k.columns }
