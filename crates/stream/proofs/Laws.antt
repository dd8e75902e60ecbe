-- The law on the bytes of calls.
use Rattle.stream.specs.Law.{ReadsBack}
use Rattle.stream.proofs.Costs.{costs}
use Rattle.stream.proofs.Grounded.{grounded-none, grounded-more, grounded-text, grounded-does}
use Rattle.stream.proofs.Cursors.{cursor-found, line_stays, column-within}

pub reads-back : ReadsBack
reads-back = record {
  costs = costs;
  begins = grounded-none;
  stays = grounded-more;
  text = grounded-text;
  does = grounded-does;
  cursor = cursor-found;
  line = line_stays;
  column = column-within;
}
