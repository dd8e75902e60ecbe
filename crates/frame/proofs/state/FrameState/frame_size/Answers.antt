use Rattle.std.proofs.Common.{max, ◌∙◌, rules, tests}
use Rattle.std.proofs.lemmas.Iterator.Consumers.{YieldsList-from_first, fold_from_yields_List}
use Rattle.store.specs.Walks.{row_of, rows_left}
use Rattle.frame.specs.States.{widest}
use Rattle.frame.proofs.state.FrameState.frame_size.Goals as goal

pub returns : goal.returns
unfolding widest
returns g c =
    let widths = fold_from_yields_List _ (λ n w. max w.width n) _ _ c.fold-width.ensures.ran (YieldsList-from_first row_of rows_left _ c.rows.ensures) (λ a x b q k. search (rules, tests)) in
    (c.new.ensures.0 ∙ widths, c.new.ensures.1 ∙ c.rows_len.ensures.value)
