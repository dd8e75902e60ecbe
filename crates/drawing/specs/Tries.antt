-- What comes of orders that are carried out up to a first fault.
use Rattle.std.specs.Prelude.{◌≡◌, ℕ, List, Ok, Err, Result, Option}
use Rattle.terminal.specs.Pages.{Page}
use Rattle.terminal.specs.Calls.{Order, kind_of}
use Rattle.terminal.specs.Outcomes.{Did, Stopped}
use Rattle.terminal.specs.declared.fault.CallKind.{CallKind}
use Rattle.terminal.specs.declared.fault.Fault.{Fault}
use Rattle.drawing.specs.declared.error.DrawError.{DrawError}

-- All are performed, or one faults, and the error has its fault, the kind of its call, and its row.
abbrev pub Tried : (ℕ → ℕ) → List Order → Page → Result (Unit {0}) DrawError → Page → Type 0
Tried cells os p (Ok x) q = Did cells os p q
Tried cells os p (Err e) q = (o : Order) × Stopped cells os p o e.fault q × (e.call ≡ kind_of o.call) × (e.row ≡ o.row)

-- the answer of a call, told with its kind and its row
abbrev pub drawn : Result (Unit {0}) Fault → CallKind → Option ℕ → Result (Unit {0}) DrawError
drawn (Ok x) call row = Ok x
drawn (Err f) call row = Err (record { fault = f; call = call; row = row })
