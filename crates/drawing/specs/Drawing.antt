-- The orders by which a finished frame is drawn over the one before it.
use Rattle.std.specs.Prelude.{ℕ, zero, suc, pred, ◌+◌, ◌-◌, max, Bool, true, false, cond, List, [], ◌∷◌, ◌++◌, map, length, Some, None, Option, nat_lt}
use Rattle.std.specs.List.{slice_get}
use Rattle.size.specs.declared.position.Position.{Position}
use Rattle.layout.specs.Frames.{Run, Row}
use Rattle.terminal.specs.Pages.{at, origin}
use Rattle.terminal.specs.Calls.{Call, write, return, feed, clear_line, clear_until_new_line, hide, show, up, down, left, right, flush, Order}
use Rattle.drawing.specs.SameRows.{same_row}

-- a call that is made for row i of a frame, and one that is made for no row
abbrev pub for_row : ℕ → Call → Order
for_row i call = record { call = call; row = Some i }

abbrev pub for_no_row : Call → Order
for_no_row call = record { call = call; row = None }

-- from one number to another by a count, to the one side or to the other; nothing where they are equal
abbrev pub steps : (ℕ → Call) → (ℕ → Call) → ℕ → ℕ → List Order
steps back on a b = cond (nat_lt b a) (for_no_row (back (a - b)) ∷ []) (cond (nat_lt a b) (for_no_row (on (b - a)) ∷ []) [])

-- the cursor goes from a to b, rows before columns
abbrev pub going : Position → Position → List Order
going a b = steps up down a.row b.row ++ steps left right a.col b.col

-- these runs are sent for row i
abbrev pub sent : ℕ → List Run → List Order
sent i us = map (λ u. for_row i (write u)) us

-- Row i, as the last frame has it and as the new frame has it. A row that is equal in both is left alone.
abbrev pub row_orders : ℕ → Option Row → Option Row → List Order
row_orders i (Some a) (Some b) = cond (same_row a b) [] (sent i b.runs ++ (for_row i clear_until_new_line ∷ []))
row_orders i (Some a) None = for_row i clear_line ∷ []
row_orders i None (Some b) = sent i b.runs
row_orders i None None = []

-- a feed behind row i, if n rows remain
abbrev pub feed_if : ℕ → ℕ → List Order
feed_if i zero = []
feed_if i (suc n) = for_row i feed ∷ []

-- behind row i comes a return, and the feed
abbrev pub row_end : ℕ → ℕ → List Order
row_end i n = for_row i return ∷ feed_if i n

-- n rows from row i on
abbrev pub rows_from : List Row → List Row → ℕ → ℕ → List Order
rows_from last new zero i = []
rows_from last new (suc n) i = row_orders i (slice_get last i) (slice_get new i) ++ (row_end i n ++ rows_from last new n (suc i))

-- how many rows the taller frame has
abbrev pub taller : List Row → List Row → ℕ
taller last new = max (length last) (length new)

-- the empty line, if it is asked for
abbrev pub emptied : Bool → List Order
emptied true = for_no_row feed ∷ []
emptied false = []

-- where the cursor is behind the rows and the empty line
abbrev pub behind : List Row → List Row → Bool → Position
behind last new b = at (pred (taller last new) + length (emptied b)) 0

-- from there to the mark, if there is one
abbrev pub to_mark : Position → Option Position → List Order
to_mark a None = []
to_mark a (Some m) = going a m

-- where the cursor is at the end
abbrev pub rests_at : Position → Option Position → Position
rests_at a None = a
rests_at a (Some m) = m

-- The new rows are drawn over the last ones. The cursor was noted at a position, an empty line is asked for or not, and
-- there is a mark or not.
abbrev pub drawing : List Row → List Row → Position → Bool → Option Position → List Order
drawing last new noted b mark =
    for_no_row hide ∷ (going noted origin ++ (rows_from last new (taller last new) 0 ++ (emptied b ++ (to_mark (behind last new b) mark ++ (for_no_row show ∷ for_no_row flush ∷ [])))))
