use Rattle.std.proofs.Common.{arith}
use Rattle.screen.specs.Cells.{cell_of}
use Rattle.screen.proofs.Stores.{stored-spread, stored_one}
use Rattle.screen.proofs.cells.put_char.Goals as goal

pub returns-then-n-gt0 : goal.returns-then-n-gt0
returns-then-n-gt0 c = stored-spread c.args.at c.args.n (cell_of c.args.cell) (omega arith) (stored_one c.args.at c.args.cell c.args.cells.now (omega arith)) c.fill.ensures
