use Rattle.std.proofs.Common.{◌≡◌, true, drop}
use Rattle.pen.specs.Sequences.{parameters}
use Rattle.pen.proofs.Steers.{read_from}
use Rattle.pen.proofs.pen.read.Given as goal

-- what is left to read gives, from here, what all gave from the start
abbrev pub invariant-loop-b : goal.invariant-loop-b
invariant-loop-b l = (read_from l.pen l.n (drop l.b-index l.bytes) ≡ read_from l.initial.pen l.initial.n l.bytes) × (parameters (drop l.b-index l.bytes) ≡ true)
