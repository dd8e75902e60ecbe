-- A store that has room for a closed row has room for each step of the closing.
use Rattle.std.proofs.Common.{◌≡◌, ℕ, ◌+◌, ◌-◌, ◌<◌, Bool, true, false, cond, not, ◌||◌, ltb, List, [], ◌∷◌, ◌++◌, length, sym, refl, ap, ◌∙◌, subst, arith, length-append}
use Rattle.style.specs.Styles.{is_plain}
use Rattle.layout.specs.Frames.{Row, Frame, Rule}
use Rattle.layout.specs.Writing.{some, joined_runs, closed, carried, folding, put, put_all, ended}
use Rattle.layout.specs.Limits.{runs_of_rows}
use Rattle.layout.specs.Tally.{Within, tally_of, tally_all, tally_ended}
use Rattle.layout.proofs.Counts.{tally-closed}
use Rattle.layout.proofs.Grow.{within-grows, grows_all, grows-ended}
use Rattle.layout.proofs.Tallies.{tally-put-all, tally-ended}
use Rattle.ansi.specs.declared.pieces.AnsiAwareChars.{AnsiAwareChars}
use Rattle.ansi.specs.declared.pieces.Piece.{Piece}
use Rattle.ansi.specs.Pieces.{Part}
use Rattle.ansi.specs.Reading.{part, remaining, Takes, Done}

module _ (k : Rule) (always : Bool) (f : Frame) (h : Within (tally_of (closed k always f))) where
  pub run_room : (some f.text || not (is_plain f.style)) ≡ true → runs_of_rows f.rows + length f.runs < 1024
  run_room e =
      let n : ℕ = runs_of_rows f.rows + length f.runs in
      let w = (subst Within (tally-closed k always f) h).runs in
      let one = ap (λ b. cond b (n + 1) n) e in
      omega (arith, w, one)

  pub row_room : (always || some (joined_runs f)) ≡ true → length f.rows < 256
  row_room e =
      let r : Row = record { runs = joined_runs f; width = f.width; hash = f.hash } in
      let w = h.rows in
      let one = ap (λ b. length (cond b (f.rows ++ (r ∷ [])) f.rows)) e in
      omega (arith, w, one, length-append f.rows (r ∷ []))

-- before a piece was carried there was room too
pub carried-within : (k : Rule) (bs : List ℕ) (n : ℕ) (f : Frame) → Within (tally_of (carried k bs n f)) → Within (tally_of f)
carried-within k bs n f h = let size = length-append f.text bs in record { bytes = omega (arith, h.bytes); runs = h.runs; rows = h.rows }

module _ (k : Rule) (c : ℕ) (f : Frame) where
  pub fold-within : Within (tally_of (folding k c f)) → ltb (k.columns - f.width) (k.cells c) ≡ true → Within (tally_of (closed k false f))
  fold-within h e = subst (λ g. Within (tally_of g)) (ap (λ b. cond b (closed k false f) f) e) h

-- what has room after more pieces had room before them
pub put-all-within : (k : Rule) (f : Frame) (ps : List Part) → Within (tally_of (put_all k f ps)) → Within (tally_of f)
put-all-within k f ps h = within-grows (tally_of f) (tally_all k (is_plain f.style) (tally_of f) ps) (grows_all k (is_plain f.style) (tally_of f) ps) (subst Within (tally-put-all k f ps) h)

pub ended-within : (f : Frame) → Within (tally_of (ended f)) → Within (tally_of f)
ended-within f h = within-grows (tally_of f) (tally_ended (tally_of f)) (grows-ended (tally_of f)) (subst Within (tally-ended f) h)

put-more : (k : Rule) (f : Frame) (p : Part) (ps : List Part) → put_all k f (p ∷ ps) ≡ put_all k (put k f p) ps
unfolding put_all
put-more k f p ps = refl

put-none : (k : Rule) (f : Frame) → put_all k f [] ≡ f
unfolding put_all
put-none k f = refl

-- a turn of the loop over the pieces
module _ (k : Rule) (f : Frame) (s u : AnsiAwareChars) where
  pub put-end : Done s u → put_all k f (remaining s) ≡ f
  put-end h = ap (put_all k f) h.pieces ∙ put-none k f

  module _ (p : Piece) (h : Takes s p u) (all : Frame) (e : put_all k f (remaining s) ≡ all) where
    put_next : put_all k (put k f (part p)) (remaining u) ≡ all
    put_next = sym (put-more k f (part p) (remaining u)) ∙ sym (ap (put_all k f) h.pieces) ∙ e

    pub put_step : (g : Frame) → g ≡ put k f (part p) → put_all k g (remaining u) ≡ all
    put_step g is = ap (λ x. put_all k x (remaining u)) is ∙ put_next

    pub put-room : Within (tally_of all) → Within (tally_of (put k f (part p)))
    put-room w = put-all-within k (put k f (part p)) (remaining u) (subst (λ x. Within (tally_of x)) (sym put_next) w)

pub ended-room : (f : Frame) → Within (tally_of (ended f)) → some f.text ≡ true → runs_of_rows f.rows + length f.runs < 1024
ended-room f h e =
    let w = (subst Within (tally-ended f) h).runs in
    let one = ap (λ b. (cond b (record { rows = length f.rows; runs = runs_of_rows f.rows + length f.runs + 1; bytes = (tally_of f).bytes; begun = true; text = false; width = f.width }) (tally_of f)).runs) e in
    omega (arith, w, one)
