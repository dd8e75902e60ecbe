use Rattle.std.proofs.Common.{◌∙◌}
use Rattle.store.proofs.Found.{some-drop}
use Rattle.store.specs.Stores.{pile_of}
use Rattle.store.proofs.store.Store.has_text.Goals as goal

pub returns : goal.returns
unfolding pile_of
returns c = some-drop _ _ _ (c.len.ensures ∙ c.args.self.now.bytes.bytes.ok.0)
