use Rattle.std.proofs.Common.{◌≡◌, [], fold}
use Rattle.layout.specs.Writing.{fresh, rewrite_row}
use Rattle.store.specs.Walks.{rows_left}
use Rattle.frame.specs.Drafts.{frame_of, rule_by}
use Rattle.frame.proofs.draft.Draft.rewrite.Given as goal

-- what is left makes of the frame what all made of it at the start
abbrev pub invariant-loop-row : goal.invariant-loop-row
invariant-loop-row g l = fold (rewrite_row (rule_by l.columns g.C.WidthRule g.R.RowHash)) (frame_of l.self) (rows_left l.row-iterator) ≡ fold (rewrite_row (rule_by l.columns g.C.WidthRule g.R.RowHash)) (fresh (rule_by l.columns g.C.WidthRule g.R.RowHash) []) (frame_of l.from).rows
