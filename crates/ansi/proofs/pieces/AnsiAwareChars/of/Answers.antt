use Rattle.std.proofs.Common.{rules}
use Rattle.ansi.proofs.Runs.{reads}
use Rattle.ansi.proofs.pieces.AnsiAwareChars.of.Goals as goal

pub returns : goal.returns
returns c = reads _ _ (search rules) (search rules) (search rules)
