use Rattle.std.proofs.Common.{◌≡◌, ◌≤◌, length}
use Rattle.ansi.specs.Pieces.{pieces, letters}
use Rattle.ansi.proofs.pieces.AnsiStrippedCharsIterator.next.Given as goal

-- what is unread has the characters that were unread at the start
abbrev pub invariant-loop-c : goal.invariant-loop-c
invariant-loop-c l = (letters (pieces l.self.input.now) ≡ letters (pieces l.initial.self.input.now)) × (length l.self.input.now ≤ length l.initial.self.input.now)

abbrev pub decreases-loop-c : goal.decreases-loop-c
decreases-loop-c l = length l.self.input.now
