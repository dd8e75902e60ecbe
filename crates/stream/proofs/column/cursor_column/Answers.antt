use Rattle.std.proofs.Common.{◌≡◌, [], fold, ap, ◌∙◌, subst, rules}
use Rattle.ansi.specs.Pieces.{sequence, letter, pieces}
use Rattle.ansi.specs.Reading.{remaining, Takes}
use Rattle.terminal.specs.Pages.{at}
use Rattle.stream.specs.Controls.{asked}
use Rattle.stream.specs.Cursors.{moved, placed, cursor_of}
use Rattle.stream.proofs.Cursors.{column-more, asked-cells}
use Rattle.stream.proofs.Laws.{reads-back}
use Rattle.stream.proofs.column.cursor_column.Goals as goal

pub loop-piece-preserved-in-Escape : goal.loop-piece-preserved-in-Escape
loop-piece-preserved-in-Escape g c =
    let s = c.loop-piece.piece-iterator in
    let t = c.next.new.self in
    let w = c.args.width in
    let col = c.loop-piece.col in
    let bs = c.in-Escape.text.now in
    let cells = g.C.WidthRule.cells in
    let takes = subst (λ q. Takes s q t) c.in-Escape.is c.in-Some.ensures.steps in
    let told = c.column_behind-col.ensures ∙ ap (λ l. (moved (λ _. 0) w (asked l) (at 0 col)).col) c.as_bytes.ensures.value ∙ asked-cells cells w bs (at 0 col) in
    column-more cells w (sequence bs) (remaining t) (remaining s) (remaining c.into_iter-piece-iterator.result) col c.column_behind-col.result takes.pieces told c.loop-piece.invariant

pub loop-piece-preserved : goal.loop-piece-preserved
loop-piece-preserved g c =
    let s = c.loop-piece.piece-iterator in
    let t = c.next.new.self in
    let takes = subst (λ q. Takes s q t) c.in-Char.is c.in-Some.ensures.steps in
    column-more g.C.WidthRule.cells c.args.width (letter c.in-Char.c) (remaining t) (remaining s) (remaining c.into_iter-piece-iterator.result) c.loop-piece.col c.column_past-col.result takes.pieces c.column_past-col.ensures c.loop-piece.invariant

pub returns : goal.returns
unfolding cursor_of
returns g c =
    let none : [] ≡ remaining c.loop-piece.piece-iterator = search rules in
    let start : remaining c.into_iter-piece-iterator.result ≡ pieces c.args.sent.now = search rules in
    let cells = g.C.WidthRule.cells in
    record {
      value = ap (λ l. (fold (placed cells c.args.width) (at 0 c.loop-piece.col) l).col) none ∙ c.loop-piece.invariant ∙ ap (λ l. (fold (placed cells c.args.width) (at 0 0) l).col) start;
      law = reads-back;
    }
