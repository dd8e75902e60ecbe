-- A renderer's states by their meaning.
use Rattle.terminal.specs.Pages.{Page}
use Rattle.history.specs.Machines.{Machine, resting, drawn, lost}
use Rattle.renderer.specs.Rulings.{sheet_from}
use Rattle.renderer.specs.declared.states.Resting.{Resting}
use Rattle.renderer.specs.declared.states.Drawing.{Drawing}
use Rattle.renderer.specs.declared.states.Lost.{Lost}

abbrev pub rests : {T R W : Type 0} → (T → Page) → Resting T R W → Machine
rests page s = resting (sheet_from s.frames.last) s.cursor_position (page s.terminal)

abbrev pub draws : {T R W : Type 0} → (T → Page) → Drawing T R W → Machine
draws page s = drawn (sheet_from s.frames.last) s.cursor_position (sheet_from s.frames.current) s.frames.current.expected_cursor_position (page s.terminal)

abbrev pub is_lost : {T R W : Type 0} → (T → Page) → Lost T R W → Machine
is_lost page s = lost (page s.terminal)
