use Rattle.std.proofs.Common.{ap, ◌∙◌}
use Rattle.store.specs.Walks.{rows_left}
use Rattle.frame.specs.Drafts.{frame_of}
use Rattle.frame.proofs.Rewrapping.{row_room, closing_room, rows_turn, rows_turn-room, rows_whole, start_room, last_room, rewrap-counts}
use Rattle.frame.proofs.draft.Draft.measure_rewrap.Goals as goal

pub loop-row-init : goal.loop-row-init
loop-row-init g c = ((λ m h. h), start_room c.args.self.now _ c.fresh-end.result (ap rows_left c.into_iter-row-iterator.ensures.into_iter_gives ∙ c.rows-row-items.ensures) c.fresh-end.ensures)

pub write_runs-requires : goal.write_runs-requires
write_runs-requires g c = row_room _ _ _ c.in-Some.ensures.steps _ _ c.loop-row.invariant.1

pub close_row-end-requires : goal.close_row-end-requires
close_row-end-requires g c = closing_room _ _ _ _ _ c.in-Some.ensures.steps _ _ c.loop-row.invariant.1 _ c.write_runs.ensures

pub loop-row-preserved : goal.loop-row-preserved
loop-row-preserved g c = (
  rows_turn _ _ _ _ _ c.in-Some.ensures.steps _ _ c.loop-row.invariant.1 _ c.write_runs.ensures _ c.close_row-end.ensures.value c.close_row-end.ensures.spread _ _ c.loop-row.invariant.0,
  rows_turn-room _ _ _ _ _ c.in-Some.ensures.steps _ _ c.loop-row.invariant.1 _ c.write_runs.ensures _ c.close_row-end.ensures.value c.close_row-end.ensures.spread,
)

pub returns : goal.returns
returns g c =
    let f = frame_of c.args.self.now in
    let all = ap rows_left c.into_iter-row-iterator.ensures.into_iter_gives ∙ c.rows-row-items.ensures in
    let rows = rows_whole c.args.columns g.C.WidthRule.cells _ _ f.rows _ _ c.in-None.ensures.steps.0 all c.loop-row.invariant.0 in
    record {
      value = rewrap-counts _ _ g.R.RowHash.seed g.R.RowHash.step f _ _ _ _ c.open_row.ensures c.fresh-end.ensures rows c.write_runs-2.ensures;
      room = last_room _ c.in-None.ensures.steps.0 _ _ c.open_row.ensures _ c.loop-row.invariant.1 _ c.write_runs-2.ensures.spread;
    }
