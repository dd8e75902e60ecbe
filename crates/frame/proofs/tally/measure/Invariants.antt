use Rattle.std.proofs.Common.{◌≡◌, ◌+◌, length}
use Rattle.ansi.specs.Reading.{remaining, unread}
use Rattle.layout.specs.Tally.{tally_all}
use Rattle.frame.specs.Counts.{counts_of, Room, counting}
use Rattle.frame.proofs.tally.measure.Given as goal

-- what is left makes of the counts what all made of them at the start
abbrev pub invariant-loop-piece : goal.invariant-loop-piece
invariant-loop-piece g l = (tally_all (counting l.columns g.C.WidthRule.cells) l.bare (counts_of l.counts) (remaining l.piece-iterator) ≡ tally_all (counting l.columns g.C.WidthRule.cells) l.bare (counts_of l.initial.counts) (remaining l.initial.piece-iterator)) × Room (1 + length (unread l.piece-iterator)) l.counts
