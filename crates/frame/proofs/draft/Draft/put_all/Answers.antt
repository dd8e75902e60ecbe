use Rattle.std.proofs.Common.{◌≡◌, sym, ap, ◌∙◌, subst, rules}
use Rattle.ansi.specs.Pieces.{pieces}
use Rattle.ansi.specs.Reading.{remaining}
use Rattle.layout.specs.Tally.{Within, tally_of}
use Rattle.layout.specs.Writing.{put_all}
use Rattle.frame.specs.Drafts.{frame_of, rule_at}
use Rattle.frame.proofs.Stepping.{put_step, put-room, put-end}
use Rattle.frame.proofs.draft.Draft.put_all.Goals as goal

pub put-requires : goal.put-requires
put-requires g c =
    let k = rule_at c.args.columns g.C.WidthRule.cells g.R.RowHash.seed g.R.RowHash.step in
    let start : pieces c.args.text.now ≡ remaining c.into_iter-piece-iterator.result = search rules in
    put-room k (frame_of c.loop-piece.self) c.loop-piece.piece-iterator _ _ c.in-Some.ensures.steps _ c.loop-piece.invariant (subst (λ ps. Within (tally_of (put_all k (frame_of c.args.self.now) ps))) start c.requires)

pub loop-piece-preserved : goal.loop-piece-preserved
loop-piece-preserved g c =
    let k = rule_at c.args.columns g.C.WidthRule.cells g.R.RowHash.seed g.R.RowHash.step in
    put_step k (frame_of c.loop-piece.self) c.loop-piece.piece-iterator _ _ c.in-Some.ensures.steps _ c.loop-piece.invariant _ c.put.ensures

pub returns : goal.returns
returns g c =
    let k = rule_at c.args.columns g.C.WidthRule.cells g.R.RowHash.seed g.R.RowHash.step in
    let start : remaining c.into_iter-piece-iterator.result ≡ pieces c.args.text.now = search rules in
    sym (put-end k (frame_of c.loop-piece.self) c.loop-piece.piece-iterator _ c.in-None.ensures.steps) ∙ c.loop-piece.invariant ∙ ap (put_all k (frame_of c.args.self.now)) start
