-- Loops over the pieces of a text.
use Rattle.std.proofs.Common.{◌≡◌, ◌+◌, Bool, List, ◌∷◌, length, sym, refl, ap, ◌∙◌, length-append}
use Rattle.ansi.specs.declared.pieces.AnsiAwareChars.{AnsiAwareChars}
use Rattle.ansi.specs.declared.pieces.Piece.{Piece}
use Rattle.ansi.specs.Pieces.{Part, bytes}
use Rattle.ansi.specs.Reading.{part, remaining, unread, Takes, Done}
use Rattle.layout.specs.Frames.{Rule}
use Rattle.layout.specs.Tally.{Tally, tally_put, tally_all}

-- a piece has the bytes that become read
pub size-taken : (s t : AnsiAwareChars) (p : Piece) → Takes s p t → length (unread s) ≡ length (bytes (part p)) + length (unread t)
size-taken s t p h = ap length h.split ∙ length-append (bytes (part p)) (unread t)

module _ (k : Rule) (bare : Bool) (t : Tally) where
  tally-more : (p : Part) (ps : List Part) → tally_all k bare (tally_put k bare t p) ps ≡ tally_all k bare t (p ∷ ps)
  unfolding tally_all
  tally-more p ps = refl

  pub tally-end : (s u : AnsiAwareChars) → Done s u → tally_all k bare t (remaining s) ≡ t
  unfolding tally_all
  tally-end s u h = ap (tally_all k bare t) h.pieces

  pub tally-step : (s u : AnsiAwareChars) (p : Piece) (v all : Tally) → Takes s p u → v ≡ tally_put k bare t (part p) → tally_all k bare t (remaining s) ≡ all → tally_all k bare v (remaining u) ≡ all
  tally-step s u p v all h is e = ap (λ x. tally_all k bare x (remaining u)) is ∙ tally-more (part p) (remaining u) ∙ sym (ap (tally_all k bare t) h.pieces) ∙ e
