-- What is asked of a run before it is written.
use Rattle.std.specs.Prelude.{◌≡◌, ℕ, ◌<◌, ◌≤◌, List, length}
use Rattle.style.specs.declared.style.StyleSheet.{StyleSheet}
use Rattle.layout.specs.Writing.{run}
use Rattle.terminal.specs.Pages.{ink}
use Rattle.terminal.specs.Faults.{OneLine}
use Rattle.terminal.specs.declared.fault.Fault.{Fault}
use Rattle.terminal.specs.declared.fault.Fault.TheVariants.{Full, Bottom, Text, Wide, Size}

-- the text is one line of n cells, for which there is room
pub record Fitting (cells : ℕ → ℕ) (text : List ℕ) (room n : ℕ) : Type 0 where
  pub line : OneLine text
  pub width : (style : StyleSheet) → length (ink cells (run text style)) ≡ n
  pub within : n ≤ room

-- the text is not one line, or wider than the room
abbrev pub Misfit : (ℕ → ℕ) → List ℕ → ℕ → Fault → Type 0
Misfit cells text room Text = OneLine text → ⊥
Misfit cells text room Wide = OneLine text × ((style : StyleSheet) → room < length (ink cells (run text style)))
Misfit cells text room Full = ⊥
Misfit cells text room Bottom = ⊥
Misfit cells text room Size = ⊥
