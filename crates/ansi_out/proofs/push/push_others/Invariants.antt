use Rattle.std.proofs.Common.{take}
use Rattle.stream.specs.Bytes.{others}
use Rattle.ansi_out.specs.Adds.{Adds}
use Rattle.ansi_out.proofs.push.push_others.Given as goal

abbrev pub invariant-loop-n : goal.invariant-loop-n
invariant-loop-n l = Adds l.initial.out l.out (others (take l.n-index l.ns))
