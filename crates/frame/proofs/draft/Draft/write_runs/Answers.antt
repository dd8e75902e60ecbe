use Rattle.std.proofs.Common.{ap, ◌∙◌, fold}
use Rattle.layout.specs.Writing.{rewrite_run}
use Rattle.store.specs.Walks.{runs_left}
use Rattle.frame.specs.Drafts.{frame_of, rule_by}
use Rattle.frame.proofs.Rewriting.{run-within}
use Rattle.frame.proofs.draft.Draft.write_runs.Goals as goal

pub write-requires : goal.write-requires
write-requires g c =
    let k = rule_by c.args.columns g.C.WidthRule g.R.RowHash in
    let given = ap (λ s. fold (rewrite_run k) (frame_of c.args.self.now) (runs_left s)) c.into_iter-text-iterator.ensures.into_iter_gives in
    run-within k _ _ _ c.in-Some.ensures.steps (frame_of c.loop-text.self) _ (c.loop-text.invariant ∙ given) c.requires
