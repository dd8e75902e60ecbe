use Rattle.terminal.specs.Calls.{hide}
use Rattle.ansi_out.proofs.calls.AnsiOutTerminal.cursor_hide.Given as goal

abbrev pub ghost-send : goal.ghost-send
ghost-send a = hide
