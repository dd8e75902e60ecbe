use Rattle.terminal.specs.Calls.{clear_until_new_line}
use Rattle.ansi_out.proofs.calls.AnsiOutTerminal.clear_until_new_line.Given as goal

abbrev pub ghost-send : goal.ghost-send
ghost-send a = clear_until_new_line
