use Rattle.terminal.specs.Calls.{show}
use Rattle.ansi_out.proofs.calls.AnsiOutTerminal.cursor_show.Given as goal

abbrev pub ghost-send : goal.ghost-send
ghost-send a = show
