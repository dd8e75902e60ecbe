-- Orders that are carried out one after another, run by run and row by row.
use Rattle.std.proofs.Common.{◌≡◌, ℕ, zero, suc, ◌+◌, ◌-◌, ◌<◌, ◌≤◌, List, [], ◌∷◌, ◌++◌, length, get_or, drop, Some, None, Ok, Err, Result, refl, sym, ap, ◌∙◌, subst, arith}
use Rattle.std.proofs.lemmas.List.{drop_more, length-drop}
use Rattle.std.proofs.lemmas.Option.{slice_get-get_or}
use Rattle.std.proofs.lemmas.Bool.{lt-ltb, le-ltb}
use Rattle.layout.specs.Frames.{Run, Row}
use Rattle.store.specs.Piles.{no_row}
use Rattle.terminal.specs.Pages.{Page}
use Rattle.terminal.specs.Calls.{Call, write, return, feed, kind_of, Order}
use Rattle.terminal.specs.Outcomes.{Outcome, Did, none}
use Rattle.terminal.specs.declared.fault.Fault.{Fault}
use Rattle.terminal.proofs.Joins.{one, fails, then-did, then-stopped, stopped-early, Leads, leads-more, leads-all}
use Rattle.drawing.specs.declared.error.DrawError.{DrawError}
use Rattle.drawing.specs.Drawing.{for_row, for_no_row, steps, sent, row_orders, row_end, rows_from}
use Rattle.drawing.specs.Tries.{Tried, drawn}

module _ (cells : ℕ → ℕ) where
  -- one order, of which the answer is told with its kind and its row
  pub tried_one : (o : Order) (p q : Page) (a : Result (Unit {0}) Fault) (r : Result (Unit {0}) DrawError) → Outcome cells o.call p a q → r ≡ drawn a (kind_of o.call) o.row → Tried cells (o ∷ []) p r q
  tried_one o p q (Ok x) r h e = rw e (one h)
  tried_one o p q (Err f) r h e = rw e (o, fails o [] h, refl, refl)

  -- orders behind orders that are performed
  pub then-tried : (cs ds : List Order) (p m q : Page) (r : Result (Unit {0}) DrawError) → Did cells cs p m → Tried cells ds m r q → Tried cells (cs ++ ds) p r q
  then-tried cs ds p m q (Ok x) d t = then-did d t
  then-tried cs ds p m q (Err e) d t = (t.0, then-stopped d t.1, t.2, t.3)

  -- orders of which one faults, and others behind them
  pub first-fault : (cs ds : List Order) (p q : Page) (e : DrawError) (r : Result (Unit {0}) DrawError) → r ≡ Err e → Tried cells cs p (Err e) q → Tried cells (cs ++ ds) p r q
  first-fault cs ds p q e r is t = rw is (t.0, stopped-early ds t.1, t.2, t.3)

  -- where the first orders of those that are left stop, all stop
  pub lead-fault : {os : List Order} {p : Page} (ds es : List Order) (m q : Page) (e : DrawError) → Leads cells os p (ds ++ es) m → Tried cells ds m (Err e) q → Tried cells os p (Err e) q
  lead-fault ds es m q e so t = (t.0, so.1 q t.0 e.fault (stopped-early es t.1), t.2, t.3)

  -- a turn of the loop over the runs of row i: the next is r
  module _ (i : ℕ) (all us rest : List Run) (r : Run) (is : us ≡ r ∷ rest) {p m : Page} (so : Leads cells (sent i all) p (sent i us) m) where
    run-leads : Leads cells (sent i all) p (for_row i (write r) ∷ sent i rest) m
    run-leads = subst (λ vs. Leads cells (sent i all) p (sent i vs) m) is so

    pub run-next : {q : Page} → Did cells (for_row i (write r) ∷ []) m q → Leads cells (sent i all) p (sent i rest) q
    run-next d = leads-more (for_row i (write r) ∷ []) run-leads d

    pub run-fault : (q : Page) (e : DrawError) → Tried cells (for_row i (write r) ∷ []) m (Err e) q → Tried cells (sent i all) p (Err e) q
    run-fault q e t = lead-fault (for_row i (write r) ∷ []) (sent i rest) m q e run-leads t

  pub runs-end : (i : ℕ) (all us given : List Run) {p m : Page} → us ≡ [] → all ≡ given → Leads cells (sent i all) p (sent i us) m → Did cells (sent i given) p m
  runs-end i all us given {p} {m} last is so = leads-all (rw (← is) (subst (λ vs. Leads cells (sent i all) p (sent i vs) m) last so))

  -- a move from a to b, back or on
  module _ (back on : ℕ → Call) (a b : ℕ) (p q : Page) (r : Result (Unit {0}) DrawError) where
    pub back-tried : b < a → Tried cells (for_no_row (back (a - b)) ∷ []) p r q → Tried cells (steps back on a b) p r q
    back-tried l t = rw (lt-ltb b a l) t

    pub on-tried : a < b → Tried cells (for_no_row (on (b - a)) ∷ []) p r q → Tried cells (steps back on a b) p r q
    on-tried l t = let g : a ≤ b = omega arith in rw (le-ltb b a g, lt-ltb a b l) t

  pub no_move : (back on : ℕ → Call) (a b : ℕ) (p : Page) → a ≤ b → b ≤ a → Did cells (steps back on a b) p p
  no_move back on a b p g l = rw (le-ltb b a g, le-ltb a b l) none

  -- the feed behind row i, after the return
  module _ (i : ℕ) {p m : Page} (d : Did cells (for_row i return ∷ []) p m) where
    pub feed-none : (n : ℕ) → n ≤ 0 → Did cells (row_end i n) p m
    feed-none zero l = d
    feed-none (suc n) l = absurd (omega arith)

    pub feed-tried : (n : ℕ) (q : Page) (r : Result (Unit {0}) DrawError) → 0 < n → Tried cells (for_row i feed ∷ []) m r q → Tried cells (row_end i n) p r q
    feed-tried zero q r l t = absurd (omega arith)
    feed-tried (suc n) q r l t = then-tried (for_row i return ∷ []) (for_row i feed ∷ []) p m q r d t

  -- a turn of the loop over the rows: i of them are done, and ws are left
  module _ (rows : List Row) (i : ℕ) (ws : List Row) {p m : Page} (so : Leads cells (rows_from [] rows (length rows) 0) p (rows_from [] rows (length rows - i) i) m) (left : ws ≡ drop i rows) where
    pub rows_end : ws ≡ [] → Did cells (rows_from [] rows (length rows) 0) p m
    rows_end last =
        let e : length rows - i ≡ 0 = omega (arith, ap length left, ap length last, length-drop i rows) in
        leads-all (subst (λ n. Leads cells (rows_from [] rows (length rows) 0) p (rows_from [] rows n i) m) e so)

    -- the next is w
    module _ (w : Row) (rest : List Row) (is : ws ≡ w ∷ rest) where
      inside : i < length rows
      inside = omega (arith, ap length left, ap length is, length-drop i rows)

      parted : w ∷ rest ≡ get_or rows i no_row ∷ drop (i + 1) rows
      parted = sym is ∙ left ∙ drop_more rows i no_row inside

      pub rest_left : rest ≡ drop (i + 1) rows
      rest_left = let e = parted in cc

      row_is : get_or rows i no_row ≡ w
      row_is = let e = parted in cc

      row-left : rows_from [] rows (length rows - i) i ≡ sent i w.runs ++ (row_end i (length rows - (i + 1)) ++ rows_from [] rows (length rows - (i + 1)) (i + 1))
      row-left =
          let n = length rows - (i + 1) in
          let l = inside in
          let e : length rows - i ≡ suc n = omega arith in
          let f : suc i ≡ i + 1 = omega arith in
          ap (λ x. rows_from [] rows x i) e
          ∙ ap (λ w. row_orders i None w ++ (row_end i n ++ rows_from [] rows n (suc i))) (slice_get-get_or rows i no_row l ∙ ap Some row_is)
          ∙ ap (λ x. sent i w.runs ++ (row_end i n ++ rows_from [] rows n x)) f

      row-leads : Leads cells (rows_from [] rows (length rows) 0) p (sent i w.runs ++ (row_end i (length rows - (i + 1)) ++ rows_from [] rows (length rows - (i + 1)) (i + 1))) m
      row-leads = subst (λ os. Leads cells (rows_from [] rows (length rows) 0) p os m) row-left so

      pub sent-fault : (q : Page) (e : DrawError) → Tried cells (sent i w.runs) m (Err e) q → Tried cells (rows_from [] rows (length rows) 0) p (Err e) q
      sent-fault q e t = lead-fault (sent i w.runs) (row_end i (length rows - (i + 1)) ++ rows_from [] rows (length rows - (i + 1)) (i + 1)) m q e row-leads t

      -- once its runs are sent, n rows remain behind row i
      module _ {o : Page} (d : Did cells (sent i w.runs) m o) (n : ℕ) (behind : n ≡ length rows - i - 1) where
        sent-leads : Leads cells (rows_from [] rows (length rows) 0) p (row_end i n ++ rows_from [] rows (length rows - (i + 1)) (i + 1)) o
        sent-leads =
            let e : length rows - (i + 1) ≡ n = omega arith in
            subst (λ x. Leads cells (rows_from [] rows (length rows) 0) p (row_end i x ++ rows_from [] rows (length rows - (i + 1)) (i + 1)) o) e (leads-more (sent i w.runs) row-leads d)

        pub end-fault : (q : Page) (e : DrawError) → Tried cells (row_end i n) o (Err e) q → Tried cells (rows_from [] rows (length rows) 0) p (Err e) q
        end-fault q e t = lead-fault (row_end i n) (rows_from [] rows (length rows - (i + 1)) (i + 1)) o q e sent-leads t

        pub row_next : {q : Page} → Did cells (row_end i n) o q → Leads cells (rows_from [] rows (length rows) 0) p (rows_from [] rows (length rows - (i + 1)) (i + 1)) q
        row_next h = leads-more (row_end i n) sent-leads h
