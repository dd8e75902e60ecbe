-- What each call of a renderer answers, and what it leaves.
use Rattle.std.specs.Prelude.{◌≡◌, ℕ, ◌≤◌, Bool, true, false, ◌&&◌, List, ℤ, pos, Some, None, Option, ◌≢◌}
use Rattle.size.specs.declared.position.Position.{Position}
use Rattle.style.specs.declared.style.StyleSheet.{StyleSheet}
use Rattle.layout.specs.Frames.{Frame}
use Rattle.layout.specs.Writing.{finished}
use Rattle.frame.specs.Marks.{mark_at}
use Rattle.frame.specs.States.{Writes, Denies, BadMark}
use Rattle.frame.specs.declared.error.FrameError.{FrameError}
use Rattle.frame.specs.declared.error.FrameError.TheVariants.{TooLarge}
use Rattle.terminal.specs.Pages.{Page}
use Rattle.terminal.specs.Calls.{Order, kind_of}
use Rattle.terminal.specs.Outcomes.{Did, Stopped}
use Rattle.drawing.specs.Drawing.{drawing, behind, rests_at}
use Rattle.drawing.specs.declared.error.DrawError.{DrawError}
use Rattle.history.specs.Machines.{Rules, at, Sheet, Machine, resting, drawn, lost}
use Rattle.history.specs.Sizing.{resized, fits_page, kept_mark, sheet_for, corrected}
use Rattle.history.specs.declared.error.RenderError.{RenderError}
use Rattle.history.specs.declared.error.RenderError.TheVariants.{Frame as OfFrame, OneColumn, Draw}

-- what a user asks of a renderer
pub data Ask : Type 0 where
  start refresh : Ask
  -- a text under a style
  write : StyleSheet → List ℕ → Ask
  -- an offset behind the end of the open row
  mark : ℤ → Ask
  -- with an empty line behind the rows, or without
  finish : Bool → Ask

-- an ask and its answer
pub data Event : Type 0 where
  accepted : Ask → Event
  refused : Ask → RenderError → Event

-- a sheet with another frame on it
abbrev pub with : Sheet → Frame → Sheet
with s f = record { frame = f; width = s.width; height = s.height }

-- the rows that a frame has once it is finished
abbrev pub done : Rules → Sheet → Frame
done r s = finished (at s.width r) s.frame

-- the orders that draw the frame g over the frame f
abbrev pub finishing : Rules → Sheet → Position → Sheet → Option Position → Bool → List Order
finishing r f c g o b = drawing f.frame.rows (done r g).rows c b o

-- the error of an order that faulted
pub record Tells (e : DrawError) (o : Order) : Type 0 where
  pub call : e.call ≡ kind_of o.call
  pub row : e.row ≡ o.row

-- A renderer that was m is n after the event. In each refusal but the last n is m.
pub data Step (r : Rules) : Event → Machine → Machine → Type 0 where
  -- start and refresh take the size of the page: both are refused at one column, and then where a frame does not fit
  starts : {f : Sheet} {c : Position} {p : Page} →
      (p.width ≢ 1) → fits_page r p f ≡ true →
      Step r (accepted start) (resting f c p) (drawn (resized r p f) (corrected p.width c) (sheet_for r p) None p)
  start-narrow : {f : Sheet} {c : Position} {p : Page} →
      p.width ≡ 1 →
      Step r (refused start OneColumn) (resting f c p) (resting f c p)
  start-large : {f : Sheet} {c : Position} {p : Page} →
      (p.width ≢ 1) → fits_page r p f ≡ false →
      Step r (refused start (OfFrame TooLarge)) (resting f c p) (resting f c p)
  refreshes : {f g : Sheet} {c : Position} {o : Option Position} {p : Page} →
      (p.width ≢ 1) → (fits_page r p f && fits_page r p g) ≡ true →
      Step r (accepted refresh) (drawn f c g o p) (drawn (resized r p f) (corrected p.width c) (resized r p g) (kept_mark p g o) p)
  refresh-narrow : {f g : Sheet} {c : Position} {o : Option Position} {p : Page} →
      p.width ≡ 1 →
      Step r (refused refresh OneColumn) (drawn f c g o p) (drawn f c g o p)
  refresh-large : {f g : Sheet} {c : Position} {o : Option Position} {p : Page} →
      (p.width ≢ 1) → (fits_page r p f && fits_page r p g) ≡ false →
      Step r (refused refresh (OfFrame TooLarge)) (drawn f c g o p) (drawn f c g o p)
  -- a text is written to the frame, or the frame denies it
  writes : {f g : Sheet} {c : Position} {o : Option Position} {p : Page} {h : Frame} {s : StyleSheet} {text : List ℕ} →
      Writes (at g.width r) s text g.frame h →
      Step r (accepted (write s text)) (drawn f c g o p) (drawn f c (with g h) o p)
  denies : {f g : Sheet} {c : Position} {o : Option Position} {p : Page} {s : StyleSheet} {text : List ℕ} {e : FrameError} →
      Denies (at g.width r) s text g.frame e →
      Step r (refused (write s text) (OfFrame e)) (drawn f c g o p) (drawn f c g o p)
  -- an offset of 0 to 65,535 is marked
  marks : {f g : Sheet} {c : Position} {o : Option Position} {p : Page} {n : ℕ} →
      n ≤ 65535 →
      Step r (accepted (mark (pos n))) (drawn f c g o p) (drawn f c g (Some (mark_at (at g.width r) g.frame n)) p)
  mark-bad : {f g : Sheet} {c : Position} {o : Option Position} {p : Page} {offset : ℤ} {e : FrameError} →
      BadMark offset e →
      Step r (refused (mark offset) (OfFrame e)) (drawn f c g o p) (drawn f c g o p)
  -- the frame is closed and drawn over the last one, and becomes the last
  finishes : {f g : Sheet} {c : Position} {o : Option Position} {p q : Page} {b : Bool} →
      Did r.cells (finishing r f c g o b) p q →
      Step r (accepted (finish b)) (drawn f c g o p) (resting (with g (done r g)) (rests_at (behind f.frame.rows (done r g).rows b) o) q)
  -- a call of the terminal faults: those before it stand
  breaks : {f g : Sheet} {c : Position} {o : Option Position} {p q : Page} {b : Bool} {e : DrawError} {d : Order} →
      Stopped r.cells (finishing r f c g o b) p d e.fault q → Tells e d →
      Step r (refused (finish b) (Draw e)) (drawn f c g o p) (lost q)
