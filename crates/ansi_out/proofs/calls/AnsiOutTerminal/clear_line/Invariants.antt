use Rattle.terminal.specs.Calls.{clear_line}
use Rattle.ansi_out.proofs.calls.AnsiOutTerminal.clear_line.Given as goal

abbrev pub ghost-send : goal.ghost-send
ghost-send a = clear_line
