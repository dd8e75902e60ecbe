use Rattle.std.proofs.Common.{rules}
use Rattle.hexadecimal.proofs.Reading.{one_answer, reads-back, dash-read, by_digits}
use Rattle.hexadecimal.proofs.decode.Goals as goal

pub returns-then-eq : goal.returns-then-eq
returns-then-eq c = record {
  value = dash-read _ _ (search rules) c.new.ensures.items;
  law = (one_answer, reads-back);
}

pub returns-else-eq : goal.returns-else-eq
returns-else-eq c = record {
  value = by_digits _ _ (search rules) c.decode_digits.result (search rules);
  law = (one_answer, reads-back);
}
