-- How much a frame may hold.
use Rattle.std.specs.Prelude.{ℕ, ◌+◌, Bool, ◌&&◌, List, [], ◌∷◌, length, nat_le}
use Rattle.layout.specs.Frames.{Run, Row, Frame, Rule}
use Rattle.layout.specs.Writing.{finished}

unfoldable pub bytes_of_runs : List Run → ℕ
bytes_of_runs [] = 0
bytes_of_runs (r ∷ rs) = length r.text + bytes_of_runs rs

unfoldable pub bytes_of_rows : List Row → ℕ
bytes_of_rows [] = 0
bytes_of_rows (w ∷ ws) = bytes_of_runs w.runs + bytes_of_rows ws

unfoldable pub runs_of_rows : List Row → ℕ
runs_of_rows [] = 0
runs_of_rows (w ∷ ws) = length w.runs + runs_of_rows ws

-- at most 16,384 bytes, 1,024 runs and 256 rows
abbrev pub small : List Row → Bool
small ws = nat_le (bytes_of_rows ws) 16384 && (nat_le (runs_of_rows ws) 1024 && nat_le (length ws) 256)

-- what the frame would hold, finished now, keeps within the limits
abbrev pub fits : Rule → Frame → Bool
fits k f = small (finished k f).rows
