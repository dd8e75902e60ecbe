-- How much a pile holds after each step.
use Rattle.std.proofs.Common.{◌≡◌, ℕ, ◌+◌, List, [], ◌∷◌, ◌++◌, length, arith}
use Rattle.std.proofs.lemmas.List.{length_push, length-append}
use Rattle.style.specs.declared.style.StyleSheet.{StyleSheet}
use Rattle.layout.specs.Frames.{Run, Row}
use Rattle.layout.specs.Limits.{bytes_of_runs, bytes_of_rows, runs_of_rows}
use Rattle.store.specs.Piles.{Pile, bytes_of, runs_of, put_text, end_run, end_row}

bytes_of_runs-push : (rs : List Run) (r : Run) → bytes_of_runs (rs ++ r ∷ []) ≡ bytes_of_runs rs + length r.text
unfolding bytes_of_runs
bytes_of_runs-push [] r = omega arith
bytes_of_runs-push (q ∷ rs) r = omega (arith, bytes_of_runs-push rs r)

bytes_of_rows-push : (ws : List Row) (w : Row) → bytes_of_rows (ws ++ w ∷ []) ≡ bytes_of_rows ws + bytes_of_runs w.runs
unfolding bytes_of_rows
bytes_of_rows-push [] w = omega arith
bytes_of_rows-push (v ∷ ws) w = omega (arith, bytes_of_rows-push ws w)

runs_of_rows-push : (ws : List Row) (w : Row) → runs_of_rows (ws ++ w ∷ []) ≡ runs_of_rows ws + length w.runs
unfolding runs_of_rows
runs_of_rows-push [] w = omega arith
runs_of_rows-push (v ∷ ws) w = omega (arith, runs_of_rows-push ws w)

pub put-bytes : (bs : List ℕ) (p : Pile) → bytes_of (put_text bs p) ≡ bytes_of p + length bs
put-bytes bs p = omega (arith, length-append p.text bs)

pub run-bytes : (s : StyleSheet) (p : Pile) → bytes_of (end_run s p) ≡ bytes_of p
unfolding bytes_of_runs
run-bytes s p = omega (arith, bytes_of_runs-push p.runs (record { text = p.text; style = s }))

pub run-runs : (s : StyleSheet) (p : Pile) → runs_of (end_run s p) ≡ runs_of p + 1
run-runs s p = omega (arith, length_push p.runs (record { text = p.text; style = s }))

pub row-bytes : (w h : ℕ) (p : Pile) → bytes_of (end_row w h p) ≡ bytes_of p
unfolding bytes_of_runs
row-bytes w h p = omega (arith, bytes_of_rows-push p.rows (record { runs = p.runs; width = w; hash = h }))

pub row-runs : (w h : ℕ) (p : Pile) → runs_of (end_row w h p) ≡ runs_of p
row-runs w h p = omega (arith, runs_of_rows-push p.rows (record { runs = p.runs; width = w; hash = h }))
