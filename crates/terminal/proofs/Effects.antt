-- Performed calls leave the page that their effects make, but for `left`.
use Rattle.std.proofs.Common.{◌≡◌, ℕ, ◌+◌, ◌≤◌, List, [], ◌∷◌, ◌++◌, refl, ◌∙◌, arith}
use Rattle.terminal.specs.Pages.{Page}
use Rattle.terminal.specs.Calls.{Call, Order, effect, effects, costs}
use Rattle.terminal.specs.Outcomes.{Alike, Did, none, more}

pub alike_self : (p : Page) → Alike p p
alike_self p = record { width = refl; height = refl; lines = refl; cells = λ i k h g. refl; cursor = refl; shown = refl; work = refl }

pub alike_then : {p m q : Page} → Alike p m → Alike m q → Alike p q
alike_then {p} {m} {q} a b =
    record {
      width = b.width ∙ a.width;
      height = b.height ∙ a.height;
      lines = b.lines ∙ a.lines;
      cells = λ i k h g. b.cells i k (omega arith) (omega arith) ∙ a.cells i k h g;
      cursor = b.cursor ∙ a.cursor;
      shown = b.shown ∙ a.shown;
      work = b.work ∙ a.work;
    }

module _ (cells : ℕ → ℕ) where
  -- a call changes a cell by what that cell held, so what is alike stays alike
  alike-effect : (c : Call) {p q : Page} → Alike p q → Alike (effect cells c p) (effect cells c q)
  alike-effect c {p} {q} a =
      record {
        width = a.width;
        height = a.height;
        lines = a.lines;
        cells = λ i k h g. let e = a.cells i k h g in cc;
        cursor = cc;
        shown = cc;
        work = cc;
      }

  alike-effects : (os : List Order) {p q : Page} → Alike p q → Alike (effects cells os p) (effects cells os q)
  alike-effects [] a = a
  alike-effects (o ∷ os) a = alike-effects os (alike-effect o.call a)

  pub did-effects : {os : List Order} {p q : Page} → Did cells os p q → Alike (effects cells os p) q
  did-effects (none {p = p}) = alike_self p
  did-effects (more {os = os} d ds) = alike_then (alike-effects os d.made) (did-effects ds)

  pub effects-append : (os ds : List Order) (p : Page) → effects cells (os ++ ds) p ≡ effects cells ds (effects cells os p)
  effects-append [] ds p = refl
  effects-append (o ∷ os) ds p = effects-append os ds (effect cells o.call p)

  -- no call changes the size
  pub effects-width : (os : List Order) (p : Page) → (effects cells os p).width ≡ p.width
  effects-width [] p = refl
  effects-width (o ∷ os) p = effects-width os (effect cells o.call p)

  pub effects-lines : (os : List Order) (p : Page) → (effects cells os p).lines ≡ p.lines
  effects-lines [] p = refl
  effects-lines (o ∷ os) p = effects-lines os (effect cells o.call p)

  pub effects-height : (os : List Order) (p : Page) → (effects cells os p).height ≡ p.height
  effects-height [] p = refl
  effects-height (o ∷ os) p = effects-height os (effect cells o.call p)

-- `left` falls, by at most the costs of the calls
pub did-left : {cells : ℕ → ℕ} {os : List Order} {p q : Page} → Did cells os p q → (q.left ≤ p.left) × (p.left ≤ q.left + costs os)
did-left none = omega arith
did-left (more d ds) = let h = did-left ds in omega arith
