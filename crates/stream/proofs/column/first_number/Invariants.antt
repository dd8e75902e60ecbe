use Rattle.std.proofs.Common.{◌≡◌, drop}
use Rattle.pen.specs.Sequences.{parameters}
use Rattle.stream.proofs.Numbers.{read_first}
use Rattle.stream.proofs.column.first_number.Given as goal

-- what is left gives the number that all gives, and is parameters where all is
abbrev pub invariant-loop-b : goal.invariant-loop-b
invariant-loop-b l = (read_first l.first l.n (drop l.b-index l.bytes) ≡ read_first l.initial.first 0 l.bytes) × (parameters (drop l.b-index l.bytes) ≡ parameters l.bytes)
