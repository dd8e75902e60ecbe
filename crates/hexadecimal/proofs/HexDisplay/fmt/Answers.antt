use Rattle.std.proofs.Common.{is_ok, ap, arith}
use Rattle.hexadecimal.proofs.Writing.{byte_put, all-put}
use Rattle.hexadecimal.proofs.HexDisplay.fmt.Goals as goal

pub loop-byte-preserved : goal.loop-byte-preserved
loop-byte-preserved g c plain =
    byte_put c.args.self.now.0.now c.loop-byte.byte-index (omega arith) (omega arith)
    g.W.Write.write_str_gives _ _ _ _ c.write_char.result c.write_char-in-loop-byte.result _ _
    c.to_digit.ensures c.to_digit-in-loop-byte.ensures
    (ap is_ok c.in_ok-write_char.was) (ap is_ok c.in_ok-write_char-2.was)
    c.write_char.ensures.writes c.write_char-in-loop-byte.ensures.writes (c.loop-byte.invariant plain)

pub returns-clause-writes : goal.returns-clause-writes
returns-clause-writes g c plain ok =
    all-put g.W.Write.write_str_gives _ _ _ c.loop-byte.byte-index c.if-is_empty.ensures (omega arith) (c.loop-byte.invariant plain)
