-- Performed calls joined to performed calls.
use Rattle.std.proofs.Common.{◌≡◌, ℕ, List, [], ◌∷◌, ◌++◌, sym, subst}
use Rattle.terminal.specs.Pages.{Page}
use Rattle.terminal.specs.Calls.{Order}
use Rattle.terminal.specs.Faults.{Faulty}
use Rattle.terminal.specs.Outcomes.{Does, Did, none, more, Stopped, here, later}
use Rattle.terminal.specs.declared.fault.Fault.{Fault}

module _ {cells : ℕ → ℕ} where
  pub one : {o : Order} {p q : Page} → Does cells o.call p q → Did cells (o ∷ []) p q
  one d = more d none

  -- a fault as a call gives it: the page after it is the page before it
  pub fails : (o : Order) (os : List Order) {f : Fault} {p q : Page} → Faulty cells o.call p f × (q ≡ p) → Stopped cells (o ∷ os) p o f q
  fails o os {f} {p} h = subst (λ x. Stopped cells (o ∷ os) p o f x) (sym h.1) (here h.0)

  pub then-did : {cs ds : List Order} {p m q : Page} → Did cells cs p m → Did cells ds m q → Did cells (cs ++ ds) p q
  then-did none e = e
  then-did (more d ds) e = more d (then-did ds e)

  pub then-stopped : {cs ds : List Order} {p m q : Page} {o : Order} {f : Fault} → Did cells cs p m → Stopped cells ds m o f q → Stopped cells (cs ++ ds) p o f q
  then-stopped none e = e
  then-stopped (more d ds) e = later d (then-stopped ds e)

  pub stopped-early : {cs : List Order} (ds : List Order) {p q : Page} {o : Order} {f : Fault} → Stopped cells cs p o f q → Stopped cells (cs ++ ds) p o f q
  stopped-early ds (here h) = here h
  stopped-early ds (later d e) = later d (stopped-early ds e)

-- Of the calls cs on the page p those before ds are performed and left m, so what ds does from here cs does from p. It is
-- what a loop over calls keeps.
abbrev pub Leads : (ℕ → ℕ) → List Order → Page → List Order → Page → Type 0
Leads cells cs p ds m = ((q : Page) → Did cells ds m q → Did cells cs p q) × ((q : Page) (o : Order) (f : Fault) → Stopped cells ds m o f q → Stopped cells cs p o f q)

module _ {cells : ℕ → ℕ} where
  pub leads-none : (cs : List Order) (p : Page) → Leads cells cs p cs p
  leads-none cs p = (λ q d. d, λ q o f d. d)

  pub leads-more : {cs es : List Order} {p m n : Page} (ds : List Order) → Leads cells cs p (ds ++ es) m → Did cells ds m n → Leads cells cs p es n
  leads-more ds h x = (λ q d. h.0 q (then-did x d), λ q o f d. h.1 q o f (then-stopped x d))

  pub leads-all : {cs : List Order} {p m : Page} → Leads cells cs p [] m → Did cells cs p m
  leads-all {m = m} h = h.0 m none
