-- What the derived `==` of the sizes of terminals decides.
use Rattle.std.proofs.Common.{◌≡◌, Bool, Decides, rules}
use Rattle.std.specs.Cmp.Rules.{comparing}
use Rattle.size.specs.declared.terminal_size.TerminalSize.{TerminalSize}
use Rattle.size.specs.contracts.terminal_size.TerminalSizePartialEq.TheImpl as derived

-- as many columns, and as many rows
abbrev pub same_size : TerminalSize → TerminalSize → Bool
same_size = derived.ghosts.eq

-- The test tells whether both are equal.
abbrev pub SizesDecide : Type 0
SizesDecide = (a b : TerminalSize) → Decides (same_size a b) ((a.width ≡ b.width) × (a.height ≡ b.height))

pub sizes_decide : SizesDecide
sizes_decide a b = search (comparing, rules)
