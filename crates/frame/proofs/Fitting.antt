-- The counts tell whether a frame fits.
use Rattle.std.proofs.Common.{◌≡◌, ℕ, Bool, true, List, [], ◌∷◌, sym, refl, ◌∙◌}
use Rattle.style.specs.declared.style.StyleSheet.{StyleSheet}
use Rattle.style.specs.Styles.{is_plain}
use Rattle.ansi.specs.Pieces.{Part, pieces}
use Rattle.layout.specs.Frames.{Frame, Rule}
use Rattle.layout.specs.Limits.{bytes_of_rows, runs_of_rows, fits}
use Rattle.layout.specs.Tally.{Tally, Within, tally_of, tally_put, tally_all, tally_fits}
use Rattle.layout.specs.Writing.{fresh, written}
use Rattle.layout.proofs.Rooms.{fits-within}
use Rattle.layout.proofs.Tallies.{tally-written}
use Rattle.frame.specs.Counts.{counting}
use Rattle.frame.specs.Drafts.{rule_at}

pub fits_fresh : (k : Rule) → fits k (fresh k []) ≡ true
unfolding bytes_of_rows runs_of_rows
fits_fresh k = refl

-- no hash is counted
module _ (columns : ℕ) (cells : ℕ → ℕ) (seed : ℕ) (step : ℕ → ℕ → ℕ) where
  pub same-counts : (bare : Bool) (t : Tally) (ps : List Part) → tally_all (rule_at columns cells seed step) bare t ps ≡ tally_all (counting columns cells) bare t ps
  unfolding tally_all
  same-counts bare t [] = refl
  same-counts bare t (p ∷ ps) = same-counts bare (tally_put (counting columns cells) bare t p) ps

  abbrev k : Rule
  k = rule_at columns cells seed step

  -- what was measured
  module _ (style : StyleSheet) (text : List ℕ) (f : Frame) (start end : Tally) (bare fit : Bool) (plain : bare ≡ is_plain style) (from : start ≡ tally_of f) (is : end ≡ tally_all (counting columns cells) bare start (pieces text)) (told : fit ≡ tally_fits bare end) where
    pub measured : fit ≡ fits k (written k style text f)
    measured =
        let whole : tally_all (counting columns cells) bare start (pieces text) ≡ tally_all k (is_plain style) (tally_of f) (pieces text) = (λ i. tally_all (counting columns cells) (plain i) (from i) (pieces text)) ∙ sym (same-counts (is_plain style) (tally_of f) (pieces text)) in
        told ∙ (λ i. tally_fits (plain i) ((is ∙ whole) i)) ∙ sym (tally-written k style text f)

    pub measured-within : fit ≡ true → Within (tally_of (written k style text f))
    measured-within e = fits-within k (written k style text f) (sym measured ∙ e)
