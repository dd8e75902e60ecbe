-- What a renderer is, together with the page below it.
use Rattle.std.specs.Prelude.{ℕ, [], Option}
use Rattle.size.specs.declared.position.Position.{Position}
use Rattle.layout.specs.Frames.{Frame, Rule}
use Rattle.layout.specs.Writing.{fresh}
use Rattle.terminal.specs.Pages.{Page, origin}

-- By what frames are made: the cells of each character, and the row hash's start number and step.
pub record Rules : Type 0 where
  pub cells : ℕ → ℕ
  pub seed : ℕ
  pub step : ℕ → ℕ → ℕ

-- the same for a terminal of w columns
abbrev pub at : ℕ → Rules → Rule
at w r = record { columns = w; cells = r.cells; seed = r.seed; step = r.step }

-- a frame without a row; it does not depend on the columns
abbrev pub empty : Rules → Frame
empty r = fresh (at 0 r) []

-- a frame, and the size of the terminal that it is folded for
pub record Sheet : Type 0 where
  pub frame : Frame
  pub width : ℕ
  pub height : ℕ

pub data Machine : Type 0 where
  -- the frame that was finished last, where the cursor was noted, and the page
  resting : Sheet → Position → Page → Machine
  -- the same, with the frame that is being drawn and its mark before the page
  drawn : Sheet → Position → Sheet → Option Position → Page → Machine
  -- a finish broke off
  lost : Page → Machine

abbrev pub page_of : Machine → Page
page_of (resting f c p) = p
page_of (drawn f c g o p) = p
page_of (lost p) = p

-- no row, for the size that is taken where none is known
abbrev pub unsized : Rules → Sheet
unsized r = record { frame = empty r; width = 80; height = 24 }

-- an untouched renderer over a page
abbrev pub opened : Rules → Page → Machine
opened r p = resting (unsized r) origin p
