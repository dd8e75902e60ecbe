-- The size that a renderer takes of a terminal's answer: 80 by 24 where there is none.
use Rattle.std.specs.Prelude.{◌≡◌, Some, None, Ok, Err, Option, Result}
use Rattle.size.specs.declared.terminal_size.TerminalSize.{TerminalSize}
use Rattle.terminal.specs.Pages.{Page}
use Rattle.terminal.specs.declared.fault.Fault.{Fault}

abbrev pub HasSize : Page → Result (Option TerminalSize) Fault → Type 0
HasSize p (Ok (Some z)) = (p.width ≡ z.width) × (p.height ≡ z.height)
HasSize p (Ok None) = (p.width ≡ 80) × (p.height ≡ 24)
HasSize p (Err f) = (p.width ≡ 80) × (p.height ≡ 24)
