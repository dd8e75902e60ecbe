use Rattle.std.proofs.Common.{◌≡◌, fold}
use Rattle.layout.specs.Writing.{rewrite_run}
use Rattle.store.specs.Walks.{runs_left}
use Rattle.frame.specs.Drafts.{frame_of, rule_by}
use Rattle.frame.proofs.draft.Draft.write_runs.Given as goal

-- what is left makes of the frame what all made of it at the start
abbrev pub invariant-loop-text : goal.invariant-loop-text
invariant-loop-text g l = fold (rewrite_run (rule_by l.columns g.C.WidthRule g.R.RowHash)) (frame_of l.self) (runs_left l.text-iterator) ≡ fold (rewrite_run (rule_by l.columns g.C.WidthRule g.R.RowHash)) (frame_of l.initial.self) (runs_left l.initial.text-iterator)
