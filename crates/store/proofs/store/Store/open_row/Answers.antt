use Rattle.store.specs.Stores.{pile_of}
use Rattle.store.proofs.Walking.{runs-behind}
use Rattle.store.proofs.store.Store.open_row.Goals as goal

pub returns : goal.returns
unfolding pile_of
returns c = runs-behind _ _ c.as_str.ensures.value _ _ c.deref.ensures.value _
