-- What the size of a terminal makes of a renderer's frames.
use Rattle.std.specs.Prelude.{◌≡◌, ℕ, Bool, true, false, cond, ◌&&◌, None, ◌≢◌}
use Rattle.frame.specs.declared.error.FrameError.TheVariants.{Text, TooLarge, BadOffset}
use Rattle.frame.specs.declared.state.FrameState.{FrameState}
use Rattle.history.specs.Machines.{Rules, empty}
use Rattle.history.specs.Sizing.{sized, resized_to, fits_size}
use Rattle.history.specs.declared.error.RenderError.{RenderError}
use Rattle.history.specs.declared.error.RenderError.TheVariants.{Frame as OfFrame, OneColumn, Draw}
use Rattle.renderer.specs.Rulings.{sheet_from}
use Rattle.renderer.specs.declared.frames.Frames.{Frames}

-- a frame s is t, folded for w columns and h rows
pub record Resized {C R : Type 0} (r : Rules) (w h : ℕ) (s t : FrameState C R) : Type 0 where
  pub sheet : sheet_from t ≡ resized_to r w h (sheet_from s)
  pub mark : t.expected_cursor_position ≡ cond (sized w h (sheet_from s)) s.expected_cursor_position None

-- the last frame is folded for the size, and the current one is empty
pub record Started {C R : Type 0} (r : Rules) (w h : ℕ) (s t : Frames C R) : Type 0 where
  pub wide : w ≡ 1 → ⊥
  pub fit : fits_size r w h (sheet_from s.last) ≡ true
  pub last : sheet_from t.last ≡ resized_to r w h (sheet_from s.last)
  pub current : sheet_from t.current ≡ record { frame = empty r; width = w; height = h }
  pub mark : t.current.expected_cursor_position ≡ None

-- both are folded for the size
pub record Refreshed {C R : Type 0} (r : Rules) (w h : ℕ) (s t : Frames C R) : Type 0 where
  pub wide : w ≡ 1 → ⊥
  pub fit : (fits_size r w h (sheet_from s.last) && fits_size r w h (sheet_from s.current)) ≡ true
  pub last : sheet_from t.last ≡ resized_to r w h (sheet_from s.last)
  pub current : Resized r w h s.current t.current

-- there is one column, or what should fit does not
abbrev pub Unfit : ℕ → Bool → RenderError → Type 0
Unfit w fit OneColumn = w ≡ 1
Unfit w fit (OfFrame TooLarge) = (w ≢ 1) × (fit ≡ false)
Unfit w fit (OfFrame (Text e)) = ⊥
Unfit w fit (OfFrame BadOffset) = ⊥
Unfit w fit (Draw e) = ⊥
