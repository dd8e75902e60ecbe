use Rattle.std.proofs.Common.{◌≡◌}
use Rattle.ansi.specs.Reading.{remaining}
use Rattle.layout.specs.Writing.{put_all}
use Rattle.frame.specs.Drafts.{frame_of, rule_at}
use Rattle.frame.proofs.draft.Draft.put_all.Given as goal

-- what is left makes of the frame what all made of it at the start
abbrev pub invariant-loop-piece : goal.invariant-loop-piece
invariant-loop-piece g l = put_all (rule_at l.columns g.C.WidthRule.cells g.R.RowHash.seed g.R.RowHash.step) (frame_of l.self) (remaining l.piece-iterator) ≡ put_all (rule_at l.columns g.C.WidthRule.cells g.R.RowHash.seed g.R.RowHash.step) (frame_of l.initial.self) (remaining l.initial.piece-iterator)
