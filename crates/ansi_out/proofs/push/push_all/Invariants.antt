use Rattle.std.proofs.Common.{take}
use Rattle.ansi_out.specs.Adds.{Adds}
use Rattle.ansi_out.proofs.push.push_all.Given as goal

abbrev pub invariant-loop-b : goal.invariant-loop-b
invariant-loop-b l = Adds l.initial.out l.out (take l.b-index l.bytes)
