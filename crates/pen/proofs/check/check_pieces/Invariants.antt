use Rattle.std.proofs.Common.{◌≡◌, ◌+◌, length}
use Rattle.ansi.specs.Reading.{remaining, unread}
use Rattle.pen.specs.Checks.{first_offence}
use Rattle.pen.proofs.check.check_pieces.Given as goal

-- what is left has the first offence of the whole, and begins at the place
abbrev pub invariant-loop-piece : goal.invariant-loop-piece
invariant-loop-piece l = (first_offence l.place (remaining l.piece-iterator) ≡ first_offence 0 (remaining l.initial.piece-iterator)) × (l.place + length (unread l.piece-iterator) ≡ length (unread l.initial.piece-iterator))
