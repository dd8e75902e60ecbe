-- What has room wrapped anew has room for each step of the writing.
use Rattle.std.proofs.Common.{◌≡◌, true, List, [], ◌∷◌, fold, sym, ap, ◌∙◌, subst}
use Rattle.layout.specs.Frames.{Run, Row, Frame, Rule}
use Rattle.layout.specs.Tally.{Within, Grows, tally_of}
use Rattle.layout.specs.Writing.{closed, fresh, styled, rewrite_run, rewrite_row, rewrapped}
use Rattle.layout.proofs.Grow.{grows_self, grows-join, grows-closed, grows-written, within-grows}

module _ (k : Rule) where
  grows-runs : (f : Frame) (rs : List Run) → Grows (tally_of f) (tally_of (fold (rewrite_run k) f rs))
  grows-runs f [] = grows_self (tally_of f)
  grows-runs f (r ∷ rs) =
      let g : Frame = rewrite_run k f r in
      grows-join (tally_of f) (tally_of g) (tally_of (fold (rewrite_run k) g rs)) (grows-written k r.style r.text f) (grows-runs g rs)

  grows-row : (f : Frame) (w : Row) → Grows (tally_of f) (tally_of (rewrite_row k f w))
  grows-row f w =
      let g : Frame = fold (rewrite_run k) f w.runs in
      grows-join (tally_of f) (tally_of g) (tally_of (closed k true g)) (grows-runs f w.runs) (grows-closed k true g)

  grows-rows : (f : Frame) (ws : List Row) → Grows (tally_of f) (tally_of (fold (rewrite_row k) f ws))
  grows-rows f [] = grows_self (tally_of f)
  grows-rows f (w ∷ ws) =
      let g : Frame = rewrite_row k f w in
      grows-join (tally_of f) (tally_of g) (tally_of (fold (rewrite_row k) g ws)) (grows-row f w) (grows-rows g ws)

  -- a turn of the loop over the runs: the next is r
  module _ (rs rest : List Run) (r : Run) (is : rs ≡ r ∷ rest) (f all : Frame) (so : fold (rewrite_run k) f rs ≡ all) where
    next : fold (rewrite_run k) (rewrite_run k f r) rest ≡ all
    next = sym (ap (fold (rewrite_run k) f) is) ∙ so

    pub run-within : Within (tally_of all) → Within (tally_of (rewrite_run k f r))
    run-within w = within-grows (tally_of (rewrite_run k f r)) (tally_of all) (subst (λ g. Grows (tally_of (rewrite_run k f r)) (tally_of g)) next (grows-runs (rewrite_run k f r) rest)) w

    pub run_step : (g : Frame) → g ≡ rewrite_run k f r → fold (rewrite_run k) g rest ≡ all
    run_step g e = ap (λ h. fold (rewrite_run k) h rest) e ∙ next

  -- a turn of the loop over the rows of the frame o
  module _ (o : Frame) (ws : List Row) (f : Frame) (so : fold (rewrite_row k) f ws ≡ fold (rewrite_row k) (fresh k []) o.rows) (room : Within (tally_of (rewrapped k o))) where
    all-within : Within (tally_of (fold (rewrite_row k) f ws))
    unfolding rewrapped
    all-within =
        let all : Frame = fold (rewrite_row k) (fresh k []) o.rows in
        subst (λ g. Within (tally_of g)) (sym so) (within-grows (tally_of all) (tally_of (fold (rewrite_run k) all o.runs)) (grows-runs all o.runs) room)

    -- after the last row, the open one
    module _ (none : ws ≡ []) (given : List Run) (is : given ≡ o.runs) where
      rows_done : f ≡ fold (rewrite_row k) (fresh k []) o.rows
      rows_done = sym (ap (fold (rewrite_row k) f) none) ∙ so

      pub rewrap-end : (g : Frame) → g ≡ fold (rewrite_run k) f given → styled o.style g ≡ rewrapped k o
      unfolding rewrapped
      rewrap-end g e = ap (styled o.style) (e ∙ (λ i. fold (rewrite_run k) (rows_done i) (is i)))

      pub open-within : Within (tally_of (fold (rewrite_run k) f given))
      unfolding rewrapped
      open-within = subst (λ g. Within (tally_of g)) (sym (λ i. fold (rewrite_run k) (rows_done i) (is i))) room

    -- the next row is w
    module _ (rest : List Row) (w : Row) (is : ws ≡ w ∷ rest) where
      next_row : fold (rewrite_row k) f ws ≡ fold (rewrite_row k) (rewrite_row k f w) rest
      next_row = ap (fold (rewrite_row k) f) is

      pub row_within : Within (tally_of (rewrite_row k f w))
      row_within =
          let g : Frame = rewrite_row k f w in
          within-grows (tally_of g) (tally_of (fold (rewrite_row k) g rest)) (grows-rows g rest) (subst (λ h. Within (tally_of h)) next_row all-within)

      pub line-within : Within (tally_of (fold (rewrite_run k) f w.runs))
      line-within =
          let g : Frame = fold (rewrite_run k) f w.runs in
          within-grows (tally_of g) (tally_of (closed k true g)) (grows-closed k true g) row_within

      pub row_step : (g : Frame) → g ≡ rewrite_row k f w → fold (rewrite_row k) g rest ≡ fold (rewrite_row k) (fresh k []) o.rows
      row_step g e = ap (λ h. fold (rewrite_row k) h rest) e ∙ sym next_row ∙ so
