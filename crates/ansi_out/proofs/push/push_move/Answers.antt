use Rattle.std.proofs.Common.{arith}
use Rattle.std.proofs.lemmas.Fmt.{length-decimal-le}
use Rattle.ansi_out.proofs.push.push_move.Goals as goal

pub push_decimal-requires : goal.push_decimal-requires
push_decimal-requires c = let d = length-decimal-le 5 c.args.cnt (omega arith) (omega arith) (omega arith) in omega arith

pub push-requires : goal.push-requires
push-requires c = let d = length-decimal-le 5 c.args.cnt (omega arith) (omega arith) (omega arith) in omega arith
