-- A step, from what is known of the state after it part by part.
use Rattle.std.proofs.Common.{◌≡◌, ℕ, ◌≤◌, true, false, cond, ◌&&◌, List, ℤ, pos, Some, None, Option, sym, subst}
use Rattle.size.specs.declared.position.Position.{Position}
use Rattle.style.specs.declared.style.StyleSheet.{StyleSheet}
use Rattle.layout.specs.Frames.{Frame}
use Rattle.frame.specs.Marks.{mark_at}
use Rattle.frame.specs.States.{Writes, Denies, BadMark}
use Rattle.frame.specs.declared.error.FrameError.{FrameError}
use Rattle.frame.specs.declared.error.FrameError.TheVariants.{TooLarge}
use Rattle.terminal.specs.Pages.{Page}
use Rattle.history.specs.Machines.{Rules, at, empty, Sheet, resting, drawn}
use Rattle.history.specs.Sizing.{sized, resized_to, fits_size, corrected}
use Rattle.history.specs.Steps.{start, refresh, write, mark, accepted, refused, with, Step, starts, start-large, refreshes, refresh-large, writes, denies, marks, mark-bad}
use Rattle.history.specs.declared.error.RenderError.TheVariants.{Frame as OfFrame}

module _ (r : Rules) (p : Page) (f : Sheet) (c : Position) where
  -- what holds of the page's size holds of numbers that are equal to it
  at_size : (P : ℕ → ℕ → Type 0) (w h : ℕ) → w ≡ p.width → h ≡ p.height → P p.width p.height → P w h
  at_size P w h a b x = subst (λ v. P v h) (sym a) (subst (P p.width) (sym b) x)

  module _ (w h : ℕ) (a : w ≡ p.width) (b : h ≡ p.height) where
    pub by-start : {f' g : Sheet} {c' : Position} {o : Option Position} →
        (w ≡ 1 → ⊥) → fits_size r w h f ≡ true → f' ≡ resized_to r w h f → c' ≡ corrected w c → g ≡ record { frame = empty r; width = w; height = h } → o ≡ None →
        Step r (accepted start) (resting f c p) (drawn f' c' g o p)
    by-start {f'} {g} {c'} {o} =
        at_size (λ w h. (w ≡ 1 → ⊥) → fits_size r w h f ≡ true → f' ≡ resized_to r w h f → c' ≡ corrected w c → g ≡ record { frame = empty r; width = w; height = h } → o ≡ None →
        Step r (accepted start) (resting f c p) (drawn f' c' g o p)) w h a b
        (λ wide fit ef ec eg eo. rw (ef, ec, eg, eo) (starts wide fit))

    pub by-start-large : (w ≡ 1 → ⊥) → fits_size r w h f ≡ false → Step r (refused start (OfFrame TooLarge)) (resting f c p) (resting f c p)
    by-start-large = at_size (λ w h. (w ≡ 1 → ⊥) → fits_size r w h f ≡ false → Step r (refused start (OfFrame TooLarge)) (resting f c p) (resting f c p)) w h a b start-large

    module _ (g : Sheet) (o : Option Position) where
      pub by-refresh : {f' g' : Sheet} {c' : Position} {o' : Option Position} →
          (w ≡ 1 → ⊥) → (fits_size r w h f && fits_size r w h g) ≡ true → f' ≡ resized_to r w h f → c' ≡ corrected w c → g' ≡ resized_to r w h g → o' ≡ cond (sized w h g) o None →
          Step r (accepted refresh) (drawn f c g o p) (drawn f' c' g' o' p)
      by-refresh {f'} {g'} {c'} {o'} =
          at_size (λ w h. (w ≡ 1 → ⊥) → (fits_size r w h f && fits_size r w h g) ≡ true → f' ≡ resized_to r w h f → c' ≡ corrected w c → g' ≡ resized_to r w h g → o' ≡ cond (sized w h g) o None →
          Step r (accepted refresh) (drawn f c g o p) (drawn f' c' g' o' p)) w h a b
          (λ wide fit ef ec eg eo. rw (ef, ec, eg, eo) (refreshes wide fit))

      pub by-refresh-large : (w ≡ 1 → ⊥) → (fits_size r w h f && fits_size r w h g) ≡ false → Step r (refused refresh (OfFrame TooLarge)) (drawn f c g o p) (drawn f c g o p)
      by-refresh-large =
          at_size (λ w h. (w ≡ 1 → ⊥) → (fits_size r w h f && fits_size r w h g) ≡ false → Step r (refused refresh (OfFrame TooLarge)) (drawn f c g o p) (drawn f c g o p)) w h a b refresh-large

module _ (r : Rules) {p : Page} {f g : Sheet} {c : Position} {o : Option Position} where
  pub by-write : {g' : Sheet} {o' : Option Position} (h : Frame) (s : StyleSheet) (text : List ℕ) →
      Writes (at g.width r) s text g.frame h → g' ≡ with g h → o' ≡ o →
      Step r (accepted (write s text)) (drawn f c g o p) (drawn f c g' o' p)
  by-write h s text x eg eo = rw (eg, eo) (writes x)

  pub by-denial : {g' : Sheet} {o' : Option Position} (s : StyleSheet) (text : List ℕ) (e : FrameError) →
      Denies (at g.width r) s text g.frame e → g' ≡ g → o' ≡ o →
      Step r (refused (write s text) (OfFrame e)) (drawn f c g o p) (drawn f c g' o' p)
  by-denial s text e x eg eo = rw (eg, eo) (denies x)

  pub by-mark : {g' : Sheet} {o' : Option Position} (offset : ℤ) (n : ℕ) →
      offset ≡ pos n → n ≤ 65535 → g' ≡ g → o' ≡ Some (mark_at (at g.width r) g.frame n) →
      Step r (accepted (mark offset)) (drawn f c g o p) (drawn f c g' o' p)
  by-mark offset n e x eg eo = rw (e, eg, eo) (marks x)

  pub by-bad-mark : {g' : Sheet} {o' : Option Position} (offset : ℤ) (e : FrameError) →
      BadMark offset e → g' ≡ g → o' ≡ o →
      Step r (refused (mark offset) (OfFrame e)) (drawn f c g o p) (drawn f c g' o' p)
  by-bad-mark offset e x eg eo = rw (eg, eo) (mark-bad x)
