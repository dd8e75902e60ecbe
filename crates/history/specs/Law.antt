-- The law of a renderer's page, over whole histories at one size.
use Rattle.std.specs.Prelude.{◌≡◌, ◌+◌, ◌≤◌, Bool, true, List, ◌∷◌, Some}
use Rattle.size.specs.declared.position.Position.{Position}
use Rattle.terminal.specs.Pages.{Page}
use Rattle.terminal.specs.Calls.{Order, effects, costs}
use Rattle.terminal.specs.Outcomes.{Alike, Stopped}
use Rattle.drawing.specs.Painted.{painted, Shows, Blank}
use Rattle.drawing.specs.declared.error.DrawError.{DrawError}
use Rattle.history.specs.Machines.{Rules, at, Machine, page_of}
use Rattle.history.specs.Steps.{finish, Event, accepted, refused, Step, Tells}
use Rattle.history.specs.Histories.{History, Faultless, writes_of, mark_of, finished_writes, newest, orders}
use Rattle.history.specs.declared.error.RenderError.TheVariants.{Draw}

-- At every point of a history without a fault each cell of the page is that of the newest finished frame, painted once on
-- a blank page.
abbrev pub Faithful : Rules → Type 0
Faithful r =
    (p : Page) (es : List Event) (m : Machine) → Blank p → History r p es m → Faultless es →
    Shows (page_of m) (painted r.cells (newest (at p.width r) r es).rows)

-- After each finish the cursor is shown, and stands at the mark that the frame accepted last, if there is one.
abbrev pub Marked : Rules → Type 0
Marked r =
    (p : Page) (b : Bool) (es : List Event) (m : Machine) → Blank p → History r p (accepted (finish b) ∷ es) m → Faultless es →
    ((page_of m).shown ≡ true) × ((x : Position) → mark_of (at p.width r) r es ≡ Some x → (page_of m).cursor ≡ x)

-- A finish of a frame that accepted the texts of the frame finished before it, in equal order under equal styles, leaves
-- `work` as it was.
abbrev pub Idle : Rules → Type 0
Idle r =
    (p : Page) (b : Bool) (es : List Event) (m n : Machine) → Blank p → History r p es m → Faultless es →
    finished_writes es ≡ Some (writes_of es) → Step r (accepted (finish b)) m n →
    (page_of n).work ≡ (page_of m).work

-- A finish leaves the page that the drawing's orders make, and `left` lower by at most their costs.
abbrev pub Exact : Rules → Type 0
Exact r =
    (p : Page) (b : Bool) (es : List Event) (m n : Machine) → Blank p → History r p es m → Faultless es → Step r (accepted (finish b)) m n →
    Alike (effects r.cells (orders (at p.width r) r es b (page_of m).cursor) (page_of m)) (page_of n)
    × ((page_of n).left ≤ (page_of m).left)
    × ((page_of m).left ≤ (page_of n).left + costs (orders (at p.width r) r es b (page_of m).cursor))

-- A finish that breaks off leaves what the orders before the first fault make, and tells the order that faulted.
abbrev pub Broken : Rules → Type 0
Broken r =
    (p : Page) (b : Bool) (e : DrawError) (es : List Event) (m n : Machine) → Blank p → History r p es m → Faultless es →
    Step r (refused (finish b) (Draw e)) m n →
    (d : Order) × Stopped r.cells (orders (at p.width r) r es b (page_of m).cursor) (page_of m) d e.fault (page_of n) × Tells e d

pub record Holds (r : Rules) : Type 0 where
  pub faithful : Faithful r
  pub marked : Marked r
  pub idle : Idle r
  pub exact : Exact r
  pub broken : Broken r

abbrev pub Law : Type 0
Law = (r : Rules) → Holds r
