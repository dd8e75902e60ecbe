-- What wrapping anew makes, told by counts, and how far counts grow.
use Rattle.std.proofs.Common.{◌≡◌, ℕ, ◌+◌, ◌-◌, ◌<◌, ◌≤◌, Bool, true, false, cond, ◌||◌, eqb, ltb, List, [], ◌∷◌, length, IsUtf8, fold, sym, refl, ap, ◌∙◌, subst, arith, length-append}
use lib.Utf8.{encode}
use Rattle.std.proofs.lemmas.Bool.{cond_both}
use Rattle.std.proofs.lemmas.Str.{length-encode, len_utf8_bounds}
use Rattle.style.specs.declared.style.StyleSheet.{StyleSheet}
use Rattle.style.specs.Styles.{plain, is_plain}
use Rattle.ansi.specs.Law.{Lawful}
use Rattle.ansi.specs.Pieces.{Part, sequence, letter, pieces}
use Rattle.ansi.proofs.Laws.{lawful}
use Rattle.layout.specs.Frames.{Run, Row, Frame, Rule}
use Rattle.layout.specs.Limits.{bytes_of_runs, bytes_of_rows, runs_of_rows, fits}
use Rattle.layout.specs.Tally.{Tally, Within, tally_of, tally_joins, tally_closed, tally_carried, tally_folding, tally_put, tally_all, tally_ended, tally_fits}
use Rattle.layout.proofs.Rooms.{fits-within}
use Rattle.layout.specs.Writing.{some, run, closed, fresh, put_all, styled, ended, written, rewrite_run, rewrite_row, rewrapped}
use Rattle.layout.proofs.Tallies.{style-ended, style-put-all, tally-fits, tally-put-all, tally-of-written}
use Rattle.store.proofs.Found.{bytes-held, rows-count, runs-held}
use Rattle.frame.specs.Counts.{counts_of, Room, counting}
use Rattle.frame.specs.Drafts.{frame_of, rule_at}
use Rattle.frame.specs.Rewraps.{Tells, MeasuresRuns, MeasuresRows, Spread, runs_room, rows_room}
use Rattle.frame.specs.declared.draft.Draft.{Draft}
use Rattle.frame.specs.declared.rewrap.Measured.{Measured}
use Rattle.frame.specs.declared.tally.Counts.{Counts}
use Rattle.frame.proofs.Fitting.{same-counts}

at_most : (b : Bool) (n : ℕ) → cond b (n + 1) n ≤ n + 1
at_most b n = cond_both b (n + 1) n (λ m. m ≤ n + 1) (λ _. omega arith) (λ _. omega arith)

pub spread-closed : (bare always : Bool) (t : Tally) → Spread 1 t (tally_closed bare always t)
spread-closed bare always t = record { rows = at_most (always || (tally_joins bare t || t.begun)) t.rows; runs = at_most (tally_joins bare t) t.runs; bytes = omega arith }

spread-ended : (t : Tally) → Spread 1 t (tally_ended t)
spread-ended t =
    cond_both t.text (record { rows = t.rows; runs = t.runs + 1; bytes = t.bytes; begun = true; text = false; width = t.width }) t (Spread 1 t)
    (λ _. record { rows = omega arith; runs = omega arith; bytes = omega arith }) (λ _. record { rows = omega arith; runs = omega arith; bytes = omega arith })

pub spread_join : (m n : ℕ) (t u v : Tally) → Spread m t u → Spread n u v → Spread (m + n) t v
spread_join m n t u v p q = record { rows = omega (arith, p.rows, q.rows); runs = omega (arith, p.runs, q.runs); bytes = omega (arith, p.bytes, q.bytes) }

-- one piece adds a row and a run at most, and its bytes
module _ (k : Rule) (bare : Bool) (t : Tally) where
  spread-sequence : (bs : List ℕ) → 0 < length bs → Spread (length bs) t (tally_put k bare t (sequence bs))
  spread-sequence bs l = record { rows = omega arith; runs = omega arith; bytes = omega arith }

  folded-rows : (c : ℕ) → Spread 1 t (tally_folding k bare c t) × ((tally_folding k bare c t).bytes ≡ t.bytes)
  folded-rows c =
      cond_both (ltb (k.columns - t.width) (k.cells c)) (tally_closed bare false t) t (λ u. Spread 1 t u × (u.bytes ≡ t.bytes)) (λ _. (spread-closed bare false t, refl))
      (λ _. (record { rows = omega arith; runs = omega arith; bytes = omega arith }, refl))

  spread-letter : (c : ℕ) → Spread (length (encode c)) t (tally_put k bare t (letter c))
  spread-letter c =
      let some : 0 < length (encode c) = omega (arith, length-encode c, (len_utf8_bounds c).0) in
      let f = folded-rows c in
      let s = spread-closed bare true t in
      let u : Tally = tally_folding k bare c t in
      cond_both (eqb c 10) (tally_closed bare true t) (tally_carried (encode c) (k.cells c) u) (Spread (length (encode c)) t)
      (λ _. record { rows = omega (arith, s.rows, some); runs = omega (arith, s.runs, some); bytes = omega (arith, s.bytes, some) })
      (λ _. record { rows = omega (arith, f.0.rows, some); runs = omega (arith, f.0.runs, some); bytes = omega (arith, f.1) })

-- a text adds no more rows, runs and bytes than it has bytes
spread-parts : (k : Rule) (bare : Bool) (t : Tally) (ps : List Part) (bs : List ℕ) → Lawful bs ps → Spread (length bs) t (tally_all k bare t ps)
unfolding tally_all
spread-parts k bare t [] bs h = record { rows = omega arith; runs = omega arith; bytes = omega arith }
spread-parts k bare t (letter c ∷ ps) bs (other, (rest, (is, more))) =
    let u : Tally = tally_put k bare t (letter c) in
    let size = ap length is ∙ length-append (encode c) rest in
    subst (λ n. Spread n t (tally_all k bare u ps)) (sym size) (spread_join (length (encode c)) (length rest) t u (tally_all k bare u ps) (spread-letter k bare t c) (spread-parts k bare u ps rest more))
spread-parts k bare t (sequence q ∷ ps) bs (cs, (rest, (begins, (is, (shortest, more))))) =
    let u : Tally = tally_put k bare t (sequence q) in
    let size = ap length is ∙ length-append q rest in
    let some : 0 < length q = omega (arith, ap length begins) in
    subst (λ n. Spread n t (tally_all k bare u ps)) (sym size) (spread_join (length q) (length rest) t u (tally_all k bare u ps) (spread-sequence k bare t q some) (spread-parts k bare u ps rest more))

spread-run : (k : Rule) (bare : Bool) (t u v : Tally) (text : List ℕ) → IsUtf8 text → u ≡ tally_all k bare t (pieces text) → v ≡ tally_ended u → Spread (1 + length text) t v
spread-run k bare t u v text w is end =
    let p : Spread (length text) t u = subst (Spread (length text) t) (sym is) (spread-parts k bare t (pieces text) text (lawful text w)) in
    let q : Spread 1 u v = subst (Spread 1 u) (sym end) (spread-ended u) in
    record { rows = omega (arith, p.rows, q.rows); runs = omega (arith, p.runs, q.runs); bytes = omega (arith, p.bytes, q.bytes) }

plain-either : (b : Bool) (s : StyleSheet) → is_plain (cond b plain s) ≡ (b || is_plain s)
plain-either true s = refl
plain-either false s = refl

-- what was measured of a run
module _ (columns : ℕ) (cells : ℕ → ℕ) (seed : ℕ) (step : ℕ → ℕ → ℕ) (style : StyleSheet) (text : List ℕ) (f : Frame) (start end : Tally) (bare : Bool) (is : bare ≡ is_plain style) (from : start ≡ tally_of f) (all : end ≡ tally_all (counting columns cells) bare start (pieces text)) where
  abbrev k : Rule
  k = rule_at columns cells seed step

  whole : end ≡ tally_all k (is_plain style) (tally_of f) (pieces text)
  whole = all ∙ (λ i. tally_all (counting columns cells) (is i) (from i) (pieces text)) ∙ sym (same-counts columns cells seed step (is_plain style) (tally_of f) (pieces text))

  run-counts : (last : Tally) → last ≡ tally_ended end → last ≡ tally_of (written k style text f)
  run-counts last e = e ∙ ap tally_ended whole ∙ sym (tally-of-written k style text f)

  run-bare : (b : Bool) → b ≡ (end.text || bare) → b ≡ is_plain (written k style text f).style
  run-bare b e =
      let g : Frame = put_all k (styled style f) (pieces text) in
      let s = style-put-all k (styled style f) (pieces text) in
      let t = tally-put-all k (styled style f) (pieces text) in
      let ends : is_plain (ended g).style ≡ (some g.text || is_plain g.style) = ap is_plain (style-ended g) ∙ plain-either (some g.text) g.style in
      e ∙ (λ i. (whole i).text || is i) ∙ sym (ends ∙ (λ i. (t i).text || is_plain (s i)))

-- one run, measured
module _ (columns : ℕ) (cells : ℕ → ℕ) (style : StyleSheet) (text : List ℕ) (s : Measured) (end last : Counts) (bare : Bool) (utf8 : IsUtf8 text) (is : bare ≡ is_plain style) (all : counts_of end ≡ tally_all (counting columns cells) bare (counts_of s.counts) (pieces text)) (ends : counts_of last ≡ tally_ended (counts_of end)) where
  pub run-measured : (b : Bool) → b ≡ (end.text || bare) → MeasuresRuns columns cells (run text style ∷ []) s (record { counts = last; bare = b })
  unfolding bytes_of_runs
  run-measured b e =
      let p = spread-run (counting columns cells) bare (counts_of s.counts) (counts_of end) (counts_of last) text utf8 all ends in
      record {
        tells = λ seed step f t. record {
          counts = run-counts columns cells seed step style text f _ _ _ is t.counts all _ ends;
          bare = run-bare columns cells seed step style text f _ _ _ is t.counts all b e;
        };
        spread = record { rows = omega (arith, p.rows); runs = omega (arith, p.runs); bytes = omega (arith, p.bytes) };
      }

spread_none : (t : Tally) → Spread 0 t t
spread_none t = record { rows = omega arith; runs = omega arith; bytes = omega arith }

-- a turn of the loop over the runs
module _ (columns : ℕ) (cells : ℕ → ℕ) where
  no-runs : (m : Measured) → MeasuresRuns columns cells [] m m
  unfolding bytes_of_runs
  no-runs m = record { tells = λ seed step f t. t; spread = spread_none (counts_of m.counts) }

  more-runs : (r : Run) (rs : List Run) (s m n : Measured) → MeasuresRuns columns cells (r ∷ []) s m → MeasuresRuns columns cells rs m n → MeasuresRuns columns cells (r ∷ rs) s n
  unfolding bytes_of_runs
  more-runs r rs s m n h g = record {
    tells = λ seed step f t. g.tells seed step (rewrite_run (rule_at columns cells seed step) f r) (h.tells seed step f t);
    spread = record { rows = omega (arith, h.spread.rows, g.spread.rows); runs = omega (arith, h.spread.runs, g.spread.runs); bytes = omega (arith, h.spread.bytes, g.spread.bytes) };
  }

  module _ (rs rest : List Run) (r : Run) (is : rs ≡ r ∷ rest) (m n : Measured) (h : MeasuresRuns columns cells (r ∷ []) m n) where
    pub runs_turn : (all : List Run) (s : Measured) → ((u : Measured) → MeasuresRuns columns cells rs m u → MeasuresRuns columns cells all s u) → (u : Measured) → MeasuresRuns columns cells rest n u → MeasuresRuns columns cells all s u
    runs_turn all s so u g = so u (rw is (more-runs r rest m n u h g))

    pub runs_turn-room : Room (1 + runs_room rs) m.counts → Room (1 + runs_room rest) n.counts
    unfolding bytes_of_runs
    runs_turn-room w = let o = rw is at w in record { rows = omega (arith, o.rows, h.spread.rows); runs = omega (arith, o.runs, h.spread.runs); bytes = omega (arith, o.bytes, h.spread.bytes) }

  -- after the last one
  pub runs_whole : (all left given : List Run) (s m : Measured) → left ≡ [] → all ≡ given → ((u : Measured) → MeasuresRuns columns cells left m u → MeasuresRuns columns cells all s u) → MeasuresRuns columns cells given s m
  runs_whole all left given s m none is so = rw (← is) (so m (rw none (no-runs m)))

pub run_room : (rs rest : List Run) (r : Run) → rs ≡ r ∷ rest → (m : Counts) → Room (1 + runs_room rs) m → Room (2 + length r.text) m
unfolding bytes_of_runs
run_room rs rest r is m w = let o = rw is at w in record { rows = omega (arith, o.rows); runs = omega (arith, o.runs); bytes = omega (arith, o.bytes) }

pub row_room : (ws rest : List Row) (w : Row) → ws ≡ w ∷ rest → (more : ℕ) (s : Counts) → Room (1 + rows_room ws + more) s → Room (1 + runs_room w.runs) s
unfolding bytes_of_rows runs_of_rows
row_room ws rest w is more s room = let o = rw is at room in record { rows = omega (arith, o.rows); runs = omega (arith, o.runs); bytes = omega (arith, o.bytes) }

-- a turn of the loop over the rows
module _ (columns : ℕ) (cells : ℕ → ℕ) where
  no-rows : (m : Measured) → MeasuresRows columns cells [] m m
  unfolding bytes_of_rows runs_of_rows
  no-rows m = record { tells = λ seed step f t. t; spread = spread_none (counts_of m.counts) }

  pub rows_whole : (all left given : List Row) (s m : Measured) → left ≡ [] → all ≡ given → ((u : Measured) → MeasuresRows columns cells left m u → MeasuresRows columns cells all s u) → MeasuresRows columns cells given s m
  rows_whole all left given s m none is so = rw (← is) (so m (rw none (no-rows m)))

  -- The next row is w: its runs are measured, and it is closed. After the last row there is room for some more.
  module _ (ws rest : List Row) (w : Row) (is : ws ≡ w ∷ rest) (more : ℕ) (s : Measured) (room : Room (1 + rows_room ws + more) s.counts) where
    module _ (m : Measured) (h : MeasuresRuns columns cells w.runs s m) where
      pub closing_room : Room 1 m.counts
      unfolding bytes_of_rows runs_of_rows
      closing_room = let o = rw is at room in record { rows = omega (arith, o.rows, h.spread.rows); runs = omega (arith, o.runs, h.spread.runs); bytes = omega (arith, o.bytes, h.spread.bytes) }

      module _ (n : Measured) (tells : (k : Rule) (f : Frame) → Tells m f → Tells n (closed k true f)) (one : Spread 1 (counts_of m.counts) (counts_of n.counts)) where
        pub rows_turn-room : Room (1 + rows_room rest + more) n.counts
        unfolding bytes_of_rows runs_of_rows
        rows_turn-room = let o = rw is at room in record { rows = omega (arith, o.rows, h.spread.rows, one.rows); runs = omega (arith, o.runs, h.spread.runs, one.runs); bytes = omega (arith, o.bytes, h.spread.bytes, one.bytes) }

        more-rows : (u : Measured) → MeasuresRows columns cells rest n u → MeasuresRows columns cells (w ∷ rest) s u
        unfolding bytes_of_rows runs_of_rows
        more-rows u g = record {
          tells = λ seed step f t. g.tells seed step (rewrite_row (rule_at columns cells seed step) f w) (tells (rule_at columns cells seed step) (fold (rewrite_run (rule_at columns cells seed step)) f w.runs) (h.tells seed step f t));
          spread = record { rows = omega (arith, h.spread.rows, one.rows, g.spread.rows); runs = omega (arith, h.spread.runs, one.runs, g.spread.runs); bytes = omega (arith, h.spread.bytes, one.bytes, g.spread.bytes) };
        }

        pub rows_turn : (all : List Row) (start : Measured) → ((u : Measured) → MeasuresRows columns cells ws s u → MeasuresRows columns cells all start u) → (u : Measured) → MeasuresRows columns cells rest n u → MeasuresRows columns cells all start u
        rows_turn all start so u g = so u (rw is (more-rows u g))

pub fresh-tally : (k : Rule) → record { rows = 0; runs = 0; bytes = 0; begun = false; text = false; width = 0 } ≡ tally_of (fresh k [])
unfolding bytes_of_rows bytes_of_runs runs_of_rows
fresh-tally k = refl

-- before the first row: a store keeps within its limits
pub start_room : {R : Type 0} (d : Draft R) (ws : List Row) (s : Measured) → ws ≡ (frame_of d).rows → ((k : Rule) → Tells s (fresh k [])) → Room (1 + rows_room ws + runs_room (frame_of d).runs) s.counts
start_room d ws s is start =
    let k = counting 0 (λ c. 0) in
    let none = (start k).counts ∙ sym (fresh-tally k) in
    let u = d.store in
    let rows = ap length is ∙ rows-count u in
    let runs = ap runs_of_rows is in
    let bytes = ap bytes_of_rows is in
    record {
      rows = omega (arith, ap (λ t. t.rows) none, rows, runs, bytes, runs-held u, bytes-held u, u.limits);
      runs = omega (arith, ap (λ t. t.runs) none, rows, runs, bytes, runs-held u, bytes-held u, u.limits);
      bytes = omega (arith, ap (λ t. t.bytes) none, rows, runs, bytes, runs-held u, bytes-held u, u.limits);
    }

-- after the last row, the open one
module _ (ws : List Row) (none : ws ≡ []) (rs given : List Run) (is : given ≡ rs) (s : Counts) (room : Room (1 + rows_room ws + runs_room rs) s) where
  pub open_room : Room (1 + runs_room given) s
  unfolding bytes_of_rows runs_of_rows
  open_room = let o = rw none at room in rw is (record { rows = omega (arith, o.rows); runs = omega (arith, o.runs); bytes = omega (arith, o.bytes) })

  pub last_room : (m : Counts) → Spread (runs_room given) (counts_of s) (counts_of m) → Room 1 m
  last_room m h = let w = open_room in record { rows = omega (arith, w.rows, h.rows); runs = omega (arith, w.runs, h.runs); bytes = omega (arith, w.bytes, h.bytes) }

pub rewrap-counts : (columns : ℕ) (cells : ℕ → ℕ) (seed : ℕ) (step : ℕ → ℕ → ℕ) (f : Frame) (s m n : Measured) (given : List Run) → given ≡ f.runs → ((k : Rule) → Tells s (fresh k [])) → MeasuresRows columns cells f.rows s m → MeasuresRuns columns cells given m n → counts_of n.counts ≡ tally_of (rewrapped (rule_at columns cells seed step) f)
unfolding rewrapped
rewrap-counts columns cells seed step f s m n given is start rows runs =
    let k = rule_at columns cells seed step in
    let g : Frame = fold (rewrite_row k) (fresh k []) f.rows in
    let t : Tells n (fold (rewrite_run k) g given) = runs.tells seed step g (rows.tells seed step (fresh k []) (start k)) in
    t.counts ∙ ap (λ (rs : List Run). tally_of (fold (rewrite_run k) g rs)) is

-- whether what was measured fits
module _ (k : Rule) (f : Frame) (end : Tally) (bare fit : Bool) (is : end ≡ tally_of (rewrapped k f)) (same : bare ≡ is_plain f.style) (told : fit ≡ tally_fits bare end) where
  pub rewrap-fits : fit ≡ fits k (rewrapped k f)
  unfolding rewrapped
  rewrap-fits = told ∙ (λ i. tally_fits (same i) (is i)) ∙ sym (tally-fits k (rewrapped k f))

  pub rewrap-within : fit ≡ true → Within (tally_of (rewrapped k f))
  rewrap-within e = fits-within k (rewrapped k f) (sym rewrap-fits ∙ e)
