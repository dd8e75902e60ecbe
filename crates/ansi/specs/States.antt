-- The states of the code, and those of the machine.
use Rattle.std.specs.Prelude.{Option, None, Some}
use Rattle.ansi.specs.declared.matcher.AnsiMatcher.{AnsiMatcher}
use Rattle.ansi.specs.declared.matcher.AnsiMatcher.TheVariants as code
use Rattle.ansi.specs.Machine.{State, InEscape, InCsi, InIntermediate, InString, Move, stop, to}

abbrev pub state_of : AnsiMatcher → State
state_of code.Escape = InEscape
state_of code.CsiEntry = InCsi
state_of code.EscapeIntermediate = InIntermediate
state_of code.String = InString

abbrev pub move_of : Option AnsiMatcher → Move
move_of None = stop
move_of (Some s) = to (state_of s)
