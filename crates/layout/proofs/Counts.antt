-- The counts of a frame follow its steps.
use Rattle.std.proofs.Common.{◌≡◌, ℕ, ◌+◌, Bool, true, false, cond, not, ◌||◌, List, [], ◌∷◌, ◌++◌, length, refl, ap, ◌∙◌, arith, length-append}
use Rattle.style.specs.Styles.{is_plain}
use Rattle.style.specs.declared.style.StyleSheet.{StyleSheet}
use Rattle.layout.specs.Frames.{Run, Row, Frame, Rule}
use Rattle.layout.specs.Writing.{some, run, joined_runs, closed}
use Rattle.layout.specs.Limits.{bytes_of_runs, bytes_of_rows, runs_of_rows}
use Rattle.layout.specs.Tally.{tally_of, tally_closed}

pub bytes-of-runs-push : (rs : List Run) (r : Run) → bytes_of_runs (rs ++ (r ∷ [])) ≡ bytes_of_runs rs + length r.text
unfolding bytes_of_runs
bytes-of-runs-push [] r = omega arith
bytes-of-runs-push (s ∷ rs) r = let h = bytes-of-runs-push rs r in omega arith

bytes-of-rows-push : (ws : List Row) (w : Row) → bytes_of_rows (ws ++ (w ∷ [])) ≡ bytes_of_rows ws + bytes_of_runs w.runs
unfolding bytes_of_rows
bytes-of-rows-push [] w = omega arith
bytes-of-rows-push (v ∷ ws) w = let h = bytes-of-rows-push ws w in omega arith

runs-of-rows-push : (ws : List Row) (w : Row) → runs_of_rows (ws ++ (w ∷ [])) ≡ runs_of_rows ws + length w.runs
unfolding runs_of_rows
runs-of-rows-push [] w = omega arith
runs-of-rows-push (v ∷ ws) w = let h = runs-of-rows-push ws w in omega arith

pub some-append : {X : Type 0} (xs ys : List X) → some (xs ++ ys) ≡ (some ys || some xs)
some-append [] [] = refl
some-append [] (y ∷ ys) = refl
some-append (x ∷ xs) [] = refl
some-append (x ∷ xs) (y ∷ ys) = refl

-- the open row's runs with the current run, which joins by the test b
abbrev pub joining : List Run → List ℕ → StyleSheet → Bool → List Run
joining rs bs s b = cond b (rs ++ (run bs s ∷ [])) rs

pub joining-some : (rs : List Run) (bs : List ℕ) (s : StyleSheet) (b : Bool) → some (joining rs bs s b) ≡ (b || some rs)
joining-some rs bs s true = some-append rs (run bs s ∷ [])
joining-some rs bs s false = refl

joining-length : (rs : List Run) (bs : List ℕ) (s : StyleSheet) (b : Bool) → length (joining rs bs s b) ≡ cond b (length rs + 1) (length rs)
joining-length rs bs s true = length-append rs (run bs s ∷ [])
joining-length rs bs s false = refl

joining-bytes : (rs : List Run) (bs : List ℕ) (s : StyleSheet) (bare : Bool) → bytes_of_runs (joining rs bs s (some bs || not bare)) ≡ bytes_of_runs rs + length bs
joining-bytes rs [] s true = omega arith
joining-bytes rs [] s false = bytes-of-runs-push rs (run [] s)
joining-bytes rs (c ∷ bs) s bare = bytes-of-runs-push rs (run (c ∷ bs) s)

-- rows to which a row is added if asked for, or if it has runs
abbrev adding : List Row → Bool → Row → List Row
adding ws always w = cond (always || some w.runs) (ws ++ (w ∷ [])) ws

adding-length : (ws : List Row) (b : Bool) (w : Row) → length (cond b (ws ++ (w ∷ [])) ws) ≡ cond b (length ws + 1) (length ws)
adding-length ws true w = length-append ws (w ∷ [])
adding-length ws false w = refl

-- a count of rows that is 0 of a row without runs
module _ (count : List Row → ℕ) (own : List Run → ℕ) (none : own [] ≡ 0) (push : (ws : List Row) (w : Row) → count (ws ++ (w ∷ [])) ≡ count ws + own w.runs) where
  adding-counts : (ws : List Row) (always : Bool) (rs : List Run) (n h : ℕ) → count (adding ws always (record { runs = rs; width = n; hash = h })) ≡ count ws + own rs
  adding-counts ws true rs n h = push ws (record { runs = rs; width = n; hash = h })
  adding-counts ws false [] n h = omega (arith, none)
  adding-counts ws false (r ∷ rs) n h = push ws (record { runs = r ∷ rs; width = n; hash = h })

pub no_bytes : bytes_of_runs [] ≡ 0
unfolding bytes_of_runs
no_bytes = refl

plus-cond : (b : Bool) (a n : ℕ) → a + cond b (n + 1) n ≡ cond b (a + n + 1) (a + n)
plus-cond true a n = omega arith
plus-cond false a n = refl

module _ (k : Rule) (always : Bool) (f : Frame) where
  abbrev joins : Bool
  joins = some f.text || not (is_plain f.style)

  closed-rows : length (closed k always f).rows ≡ (tally_closed (is_plain f.style) always (tally_of f)).rows
  closed-rows =
      adding-length f.rows (always || some (joined_runs f)) _
      ∙ ap (λ b. cond (always || b) (length f.rows + 1) (length f.rows)) (joining-some f.runs f.text f.style joins)

  closed-runs : runs_of_rows (closed k always f).rows + 0 ≡ (tally_closed (is_plain f.style) always (tally_of f)).runs
  closed-runs =
      let one = adding-counts runs_of_rows length refl runs-of-rows-push f.rows always (joined_runs f) f.width f.hash in
      let two = joining-length f.runs f.text f.style joins in
      let three = plus-cond joins (runs_of_rows f.rows) (length f.runs) in
      omega (arith, one, two, three)

  closed-bytes : (bytes_of_rows (closed k always f).rows + bytes_of_runs []) + 0 ≡ (tally_of f).bytes
  closed-bytes =
      let one = adding-counts bytes_of_rows bytes_of_runs no_bytes bytes-of-rows-push f.rows always (joined_runs f) f.width f.hash in
      let two = joining-bytes f.runs f.text f.style (is_plain f.style) in
      omega (arith, one, two, no_bytes)

  pub tally-closed : tally_of (closed k always f) ≡ tally_closed (is_plain f.style) always (tally_of f)
  tally-closed = λ i. record { rows = closed-rows i; runs = closed-runs i; bytes = closed-bytes i; begun = false; text = false; width = 0 }
