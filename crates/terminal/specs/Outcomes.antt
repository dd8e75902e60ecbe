-- What comes of a call, and of calls made one after another up to a first fault.
use Rattle.std.specs.Prelude.{◌≡◌, ℕ, ◌+◌, ◌<◌, ◌≤◌, List, [], ◌∷◌, Ok, Err, Result}
use Rattle.terminal.specs.Pages.{Page}
use Rattle.terminal.specs.Calls.{Call, Order, effect, cost}
use Rattle.terminal.specs.Faults.{Allowed, Faulty}
use Rattle.terminal.specs.declared.fault.Fault.{Fault}

-- q is the page p but for `left`
pub record Alike (p q : Page) : Type 0 where
  pub width : q.width ≡ p.width
  pub height : q.height ≡ p.height
  pub lines : q.lines ≡ p.lines
  pub cells : (i k : ℕ) → i < p.lines → k < p.width → q.cells i k ≡ p.cells i k
  pub cursor : q.cursor ≡ p.cursor
  pub shown : q.shown ≡ p.shown
  pub work : q.work ≡ p.work

-- a call is performed: q is what it makes of p, and `left` falls by at most the cost
pub record Does (cells : ℕ → ℕ) (call : Call) (p q : Page) : Type 0 where
  pub allowed : Allowed cells call p
  pub made : Alike (effect cells call p) q
  pub falls : q.left ≤ p.left
  pub paid : p.left ≤ q.left + cost call

-- the answer of a call: it is performed, or it faults and nothing changes
abbrev pub Outcome : {X : Type 0} → (ℕ → ℕ) → Call → Page → Result X Fault → Page → Type 0
Outcome cells call p (Ok x) q = Does cells call p q
Outcome cells call p (Err f) q = Faulty cells call p f × (q ≡ p)

-- calls performed one after another
pub data Did (cells : ℕ → ℕ) : List Order → Page → Page → Type 0 where
  none : {p : Page} → Did cells [] p p
  more : {o : Order} {os : List Order} {p m q : Page} → Does cells o.call p m → Did cells os m q → Did cells (o ∷ os) p q

-- Of the orders on the page p the order o is the first whose call faults, by f, and the calls before it leave q.
pub data Stopped (cells : ℕ → ℕ) : List Order → Page → Order → Fault → Page → Type 0 where
  here : {o : Order} {os : List Order} {f : Fault} {p : Page} → Faulty cells o.call p f → Stopped cells (o ∷ os) p o f p
  later : {o d : Order} {os : List Order} {f : Fault} {p m q : Page} → Does cells o.call p m → Stopped cells os m d f q → Stopped cells (o ∷ os) p d f q
