-- A start or a refresh that is refused is a step of the law.
use Rattle.std.proofs.Common.{◌≡◌, ℕ, ◌&&◌, Option, sym, ◌∙◌}
use Rattle.size.specs.declared.position.Position.{Position}
use Rattle.frame.specs.declared.error.FrameError.TheVariants.{Text, TooLarge, BadOffset}
use Rattle.terminal.specs.Pages.{Page}
use Rattle.history.specs.Machines.{Rules, Sheet, resting, drawn}
use Rattle.history.specs.Sizing.{fits_size}
use Rattle.history.specs.Steps.{start, refresh, refused, Step, start-narrow, refresh-narrow}
use Rattle.history.specs.declared.error.RenderError.{RenderError}
use Rattle.history.specs.declared.error.RenderError.TheVariants.{Frame as OfFrame, OneColumn, Draw}
use Rattle.history.proofs.Making.{by-start-large, by-refresh-large}
use Rattle.renderer.specs.Frames.{Unfit}

module _ (r : Rules) (p : Page) (f : Sheet) (c : Position) (w h : ℕ) (a : w ≡ p.width) (b : h ≡ p.height) where
  start-refused : (e : RenderError) → Unfit w (fits_size r w h f) e → Step r (refused start e) (resting f c p) (resting f c p)
  start-refused OneColumn x = start-narrow (sym a ∙ x)
  start-refused (OfFrame TooLarge) x = by-start-large r p f c w h a b x.0 x.1
  start-refused (OfFrame (Text e)) x = absurd x
  start-refused (OfFrame BadOffset) x = absurd x
  start-refused (Draw e) x = absurd x

  pub refuses-start : {f' : Sheet} (e : RenderError) → Unfit w (fits_size r w h f) e → f' ≡ f → Step r (refused start e) (resting f c p) (resting f' c p)
  refuses-start e x ef = rw ef (start-refused e x)

  refresh-refused : (g : Sheet) (o : Option Position) (e : RenderError) → Unfit w (fits_size r w h f && fits_size r w h g) e → Step r (refused refresh e) (drawn f c g o p) (drawn f c g o p)
  refresh-refused g o OneColumn x = refresh-narrow (sym a ∙ x)
  refresh-refused g o (OfFrame TooLarge) x = by-refresh-large r p f c w h a b g o x.0 x.1
  refresh-refused g o (OfFrame (Text e)) x = absurd x
  refresh-refused g o (OfFrame BadOffset) x = absurd x
  refresh-refused g o (Draw e) x = absurd x

  pub refuses-refresh : {f' g' : Sheet} {o' : Option Position} (g : Sheet) (o : Option Position) (e : RenderError) → Unfit w (fits_size r w h f && fits_size r w h g) e → f' ≡ f → g' ≡ g → o' ≡ o →
      Step r (refused refresh e) (drawn f c g o p) (drawn f' c g' o' p)
  refuses-refresh g o e x ef eg eo = rw (ef, eg, eo) (refresh-refused g o e x)
