-- Calls that leave the cursor where it is, at any width and on any page.
use Rattle.std.specs.Prelude.{◌≡◌, ℕ, List}
use Rattle.size.specs.declared.position.Position.{Position}
use Rattle.width.specs.Widths.{table_cells}
use Rattle.terminal.specs.Pages.{Page}
use Rattle.terminal.specs.Calls.{Call, meaning, cost}
use Rattle.terminal.specs.Faults.{Sound, Narrow, Above}
use Rattle.stream.specs.Bytes.{sent, Typed}

-- such a call sends these bytes at the common cost, and is so much work
pub record Still (call : Call) (bs : List ℕ) (work : ℕ) : Type 0 where
  pub bytes : sent call ≡ bs
  pub sound : Sound call
  pub typed : Typed call
  pub narrow : (p : Page) → Narrow table_cells call p
  pub above : (p : Page) → Above call p
  pub price : cost call ≡ 8
  pub stays : (w : ℕ) (p : Position) → (meaning table_cells w call).move p ≡ p
  pub worth : (w : ℕ) → (meaning table_cells w call).work ≡ work
