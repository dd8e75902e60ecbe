use Rattle.std.proofs.Common.{true, sym, subst}
use Rattle.layout.specs.Tally.{Within, tally_of}
use Rattle.layout.specs.Writing.{closed}
use Rattle.frame.specs.Drafts.{frame_of, rule_by}
use Rattle.frame.proofs.Rewriting.{row_within, line-within, open-within, rewrap-end}
use Rattle.frame.proofs.draft.Draft.rewrite.Goals as goal

pub write_runs-requires : goal.write_runs-requires
write_runs-requires g c =
    let k = rule_by c.args.columns g.C.WidthRule g.R.RowHash in
    line-within k (frame_of c.args.from.now) _ (frame_of c.loop-row.self) c.loop-row.invariant c.requires _ _ c.in-Some.ensures.steps

pub close_row-requires : goal.close_row-requires
close_row-requires g c =
    let k = rule_by c.args.columns g.C.WidthRule g.R.RowHash in
    subst (λ f. Within (tally_of (closed k true f))) (sym c.write_runs.ensures) (row_within k (frame_of c.args.from.now) _ (frame_of c.loop-row.self) c.loop-row.invariant c.requires _ _ c.in-Some.ensures.steps)

pub write_runs-requires-2 : goal.write_runs-requires-2
write_runs-requires-2 g c =
    let k = rule_by c.args.columns g.C.WidthRule g.R.RowHash in
    open-within k (frame_of c.args.from.now) _ (frame_of c.loop-row.self) c.loop-row.invariant c.requires c.in-None.ensures.steps.0 _ c.open_row.ensures

pub returns : goal.returns
returns g c =
    let k = rule_by c.args.columns g.C.WidthRule g.R.RowHash in
    rewrap-end k (frame_of c.args.from.now) _ (frame_of c.loop-row.self) c.loop-row.invariant c.requires c.in-None.ensures.steps.0 _ c.open_row.ensures (frame_of c.write_runs-2.new.self) c.write_runs-2.ensures
