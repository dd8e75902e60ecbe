use Rattle.std.proofs.Common.{◌≡◌, length}
use denote.Shadow.{shadow}
use denote.Text.{Utf8}
use Rattle.ansi.specs.Machine.{InEscape}
use Rattle.ansi.specs.Places.{behind}
use Rattle.ansi.specs.States.{state_of}
use Rattle.ansi.proofs.matcher.behind_sequence.Given as goal

abbrev pub invariant-loop-c : goal.invariant-loop-c
invariant-loop-c l = (behind (state_of l.state) l.unread ≡ behind InEscape l.fn.text) × shadow (Utf8 l.unread)

abbrev pub decreases-loop-c : goal.decreases-loop-c
decreases-loop-c l = length l.unread
