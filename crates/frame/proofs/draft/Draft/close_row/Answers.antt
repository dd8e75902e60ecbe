use Rattle.std.proofs.Common.{◌≡◌, ◌<◌, true, ◌||◌, length, sym, ap, ◌∙◌, subst}
use Rattle.std.proofs.lemmas.Bool.{or_left, or_right}
use Rattle.layout.specs.Writing.{some, joined_runs}
use Rattle.frame.specs.Drafts.{frame_of, hashing}
use Rattle.frame.proofs.Stepping.{run_room, row_room}
use Rattle.frame.proofs.draft.Draft.close_row.Goals as goal
use Rattle.frame.proofs.draft.Draft.close_row.Goals.{then-always-via-then-always, then-always-via-else-always+then-has_runs}

pub join_run-requires : goal.join_run-requires
join_run-requires g c = run_room (hashing g.R.RowHash.seed g.R.RowHash.step) c.args.always (frame_of c.args.self.now) c.requires

pub add_row-requires : goal.add_row-requires
add_row-requires g c =
    let f = frame_of c.args.self.now in
    let same = ap (λ d. length d.rows) c.join_run.ensures in
    let adds : (c.args.always || some (joined_runs f)) ≡ true =
    elim c.then-always.branch [
      | then-always-via-then-always w ↦ or_left c.args.always (some (joined_runs f)) w.if-always.true
      | then-always-via-else-always+then-has_runs w ↦ or_right c.args.always (some (joined_runs f)) (sym (ap (λ d. some d.runs) c.join_run.ensures) ∙ sym w.has_runs.ensures ∙ w.if-has_runs.true)
    ]
    in
    subst (λ n. n < 256) (sym same) (row_room (hashing g.R.RowHash.seed g.R.RowHash.step) c.args.always f c.requires adds)
