use Rattle.std.proofs.Common.{refl}
use Rattle.layout.proofs.Rooms.{closed-within}
use Rattle.layout.proofs.RowLaws.{rows_law, hash_law, equal_writes}
use Rattle.frame.specs.Drafts.{hashing}
use Rattle.frame.specs.States.{sheet_of}
use Rattle.frame.proofs.state.FrameState.finish.Goals as goal

pub finish-requires : goal.finish-requires
finish-requires g c = closed-within (hashing g.R.RowHash.seed g.R.RowHash.step) (sheet_of c.args.self.now) c.args.self.now.fitting

pub returns : goal.returns
returns g c = record { frame = c.finish.ensures; size = refl; mark = refl; law = (rows_law, hash_law, equal_writes) }
