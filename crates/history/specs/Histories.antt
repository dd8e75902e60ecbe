-- Lists of calls with their answers, and what they tell.
use Rattle.std.specs.Prelude.{Bool, List, [], ◌∷◌, ℤ, pos, negsuc, Some, None, Option}
use Rattle.size.specs.declared.position.Position.{Position}
use Rattle.layout.specs.Frames.{Frame, Rule}
use Rattle.layout.specs.Inks.{Write}
use Rattle.layout.specs.Writing.{written, finished}
use Rattle.frame.specs.Marks.{mark_at}
use Rattle.terminal.specs.Pages.{Page}
use Rattle.terminal.specs.Calls.{Order}
use Rattle.drawing.specs.Drawing.{drawing}
use Rattle.history.specs.Machines.{Rules, empty, Machine, opened}
use Rattle.history.specs.Steps.{start, refresh, write, mark, finish, Event, accepted, refused, Step}
use Rattle.history.specs.declared.error.RenderError.TheVariants.{Frame as OfFrame, OneColumn, Draw}

-- From an untouched renderer over the page p the events, the newest first, lead to a machine. Each is a step upon the
-- outcome of those before it.
pub data History (r : Rules) (p : Page) : List Event → Machine → Type 0 where
  untouched : History r p [] (opened r p)
  then : {e : Event} {es : List Event} {m n : Machine} → History r p es m → Step r e m n → History r p (e ∷ es) n

-- no call of the terminal faulted
abbrev pub Faultless : List Event → Type 0
Faultless [] = Unit {0}
Faultless (accepted a ∷ es) = Faultless es
Faultless (refused a (OfFrame e) ∷ es) = Faultless es
Faultless (refused a OneColumn ∷ es) = Faultless es
Faultless (refused a (Draw e) ∷ es) = ⊥

-- The rest is told by the events alone, the newest first; k is how frames are made.

-- the texts that the frame being drawn has accepted, the newest first
abbrev pub writes_of : List Event → List Write
writes_of [] = []
writes_of (refused a e ∷ es) = writes_of es
writes_of (accepted start ∷ es) = []
writes_of (accepted refresh ∷ es) = writes_of es
writes_of (accepted (write s text) ∷ es) = record { style = s; text = text } ∷ writes_of es
writes_of (accepted (mark n) ∷ es) = writes_of es
writes_of (accepted (finish b) ∷ es) = writes_of es

-- the frame that such texts make
abbrev pub given : Rule → Rules → List Write → Frame
given k r [] = empty r
given k r (w ∷ ws) = written k w.style w.text (given k r ws)

-- where an accepted offset stands
abbrev pub standing : Rule → Frame → ℤ → Option Position
standing k f (pos n) = Some (mark_at k f n)
standing k f (negsuc n) = None

-- the mark that the frame being drawn has accepted last
abbrev pub mark_of : Rule → Rules → List Event → Option Position
mark_of k r [] = None
mark_of k r (refused a e ∷ es) = mark_of k r es
mark_of k r (accepted start ∷ es) = None
mark_of k r (accepted refresh ∷ es) = mark_of k r es
mark_of k r (accepted (write s text) ∷ es) = mark_of k r es
mark_of k r (accepted (mark n) ∷ es) = standing k (given k r (writes_of es)) n
mark_of k r (accepted (finish b) ∷ es) = mark_of k r es

-- the texts of the newest finished frame, if one was finished
abbrev pub finished_writes : List Event → Option (List Write)
finished_writes [] = None
finished_writes (refused a e ∷ es) = finished_writes es
finished_writes (accepted start ∷ es) = finished_writes es
finished_writes (accepted refresh ∷ es) = finished_writes es
finished_writes (accepted (write s text) ∷ es) = finished_writes es
finished_writes (accepted (mark n) ∷ es) = finished_writes es
finished_writes (accepted (finish b) ∷ es) = Some (writes_of es)

abbrev pub finished_frame : Rule → Rules → Option (List Write) → Frame
finished_frame k r None = empty r
finished_frame k r (Some ws) = finished k (given k r ws)

-- the newest finished frame, and an empty one where none was finished
abbrev pub newest : Rule → Rules → List Event → Frame
newest k r es = finished_frame k r (finished_writes es)

-- the orders that finish the frame being drawn, with the cursor at c
abbrev pub orders : Rule → Rules → List Event → Bool → Position → List Order
orders k r es b c = drawing (newest k r es).rows (finished k (given k r (writes_of es))).rows c b (mark_of k r es)
