use Rattle.std.proofs.Common.{◌≡◌, [], drop, arith, rules}
use Rattle.std.proofs.Math.ListN.{drop_of_length-le}
use Rattle.stream.proofs.Numbers.{reads_first}
use Rattle.stream.proofs.column.first_number.Goals as goal

pub returns : goal.returns
returns c =
    let none : drop c.loop-b.b-index c.args.bytes.now ≡ [] = drop_of_length-le c.args.bytes.now (omega arith) in
    let all = reads_first 0 c.args.bytes.now in
    search rules
