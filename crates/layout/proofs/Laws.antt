-- The theorems that the contracts name.
use Rattle.layout.specs.Counting.{CountsFollow, FitsBefore}
use Rattle.layout.proofs.Counts.{tally-closed}
use Rattle.layout.proofs.Tallies.{tally-put, tally-put-all, tally-ended, tally-of-written, tally-fits, tally-written}
use Rattle.layout.proofs.Rooms.{fits-put, fits-put-all, fits-first, fits-ended, fits-within, closed-within, folding-within, newline-within, run_room, row_room, newline-room}
use Rattle.layout.proofs.Grow.{grows-written, grows-closed}

pub counts_follow : CountsFollow
counts_follow = record { closes = tally-closed; puts = tally-put; puts-all = tally-put-all; ends = tally-ended; writes = tally-of-written; fitting = tally-fits; text-fitting = tally-written }

pub fits_before : FitsBefore
fits_before = record {
  piece-before = fits-put;
  pieces-before = fits-put-all;
  first_piece = fits-first;
  end_fits = fits-ended;
  holds = fits-within;
  closing = closed-within;
  fold = folding-within;
  line = newline-within;
  run_room = run_room;
  row_room = row_room;
  line-room = newline-room;
  grows = grows-written;
  grows-closed = grows-closed;
}
