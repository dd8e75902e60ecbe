use Rattle.std.proofs.Common.{rules}
use Rattle.store.specs.Stores.{pile_of}
use Rattle.store.proofs.store.Store.rows.Goals as goal

pub returns : goal.returns
unfolding pile_of
returns c = search rules
