use Rattle.std.proofs.Common.{vec_items, rules}
use Rattle.stream.proofs.Grounded.{grounded-text}
use Rattle.ansi_out.proofs.out.AnsiOut.set_size.Goals as goal

pub unwrap-sent-requires : goal.unwrap-sent-requires
unwrap-sent-requires c = let text = grounded-text (vec_items c.args.self.now.bytes) c.args.self.now.sound in search rules
