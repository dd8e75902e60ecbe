-- What a purse says: how many runs and clears were paid, and what is left for the calls to come.
use Rattle.std.specs.Prelude.{◌≡◌, ℕ, ◌+◌, ◌-◌, ◌<◌, ◌≤◌, Result, MatchResult}
use Rattle.terminal.specs.Pages.{Page}
use Rattle.terminal.specs.Calls.{Call, cost}
use Rattle.terminal.specs.Outcomes.{Outcome}
use Rattle.terminal.specs.declared.fault.Fault.{Fault}
use Rattle.terminal.specs.declared.fault.Fault.TheVariants.{Full}
use Rattle.screen.specs.declared.purse.Purse.{Purse}

abbrev pub work_of : Purse → ℕ
work_of p = p.work

abbrev pub left_of : Purse → ℕ
left_of p = p.left

-- a call of this cost is paid, which is so much work more: p becomes q
pub record Pays (cost more : ℕ) (p q : Purse) : Type 0 where
  pub able : cost ≤ left_of p
  pub left : left_of q ≡ left_of p - cost
  pub work : work_of q ≡ more + work_of p

-- less is left than the call costs, and p stays
pub record Lacks (cost : ℕ) (p q : Purse) (f : Fault) : Type 0 where
  pub fault : f ≡ Full
  pub short : left_of p < cost
  pub same : q ≡ p

-- the outcome of a call, which if performed lowers `left` by its very cost
abbrev pub Exactly : {X : Type 0} → (ℕ → ℕ) → Call → Page → Result X Fault → Page → Type 0
Exactly cells call p r q = Outcome cells call p r q × MatchResult r (λ _. q.left + cost call ≡ p.left) (λ _. q.left ≡ p.left)
