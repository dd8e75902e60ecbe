use Rattle.std.proofs.Common.{rules}
use Rattle.ansi.proofs.Runs.{strips}
use Rattle.ansi.proofs.pieces.AnsiStrippedChars.of.Goals as goal

pub returns : goal.returns
returns c = strips _ _ (search rules) (search rules)
