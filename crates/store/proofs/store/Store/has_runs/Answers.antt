use Rattle.std.proofs.Common.{sym, ◌∙◌}
use Rattle.store.proofs.Found.{some-drop, runs-count}
use Rattle.store.specs.Stores.{pile_of}
use Rattle.store.proofs.store.Store.has_runs.Goals as goal

pub returns : goal.returns
unfolding pile_of
returns c = some-drop _ _ _ (c.len.ensures ∙ sym (runs-count c.args.self.now))
