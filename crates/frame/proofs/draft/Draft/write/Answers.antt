use Rattle.ansi.specs.Pieces.{pieces}
use Rattle.layout.specs.Writing.{put_all, styled}
use Rattle.frame.specs.Drafts.{frame_of, rule_at}
use Rattle.frame.proofs.Stepping.{ended-within}
use Rattle.frame.proofs.draft.Draft.write.Goals as goal

pub put_all-requires : goal.put_all-requires
put_all-requires g c =
    let k = rule_at c.args.columns g.C.WidthRule.cells g.R.RowHash.seed g.R.RowHash.step in
    ended-within (put_all k (styled c.args.style (frame_of c.args.self.now)) (pieces c.args.text.now)) c.requires
