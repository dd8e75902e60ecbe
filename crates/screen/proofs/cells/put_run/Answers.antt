use Rattle.std.proofs.Common.{◌+◌, ◌≤◌, length, subst}
use Rattle.ansi.specs.declared.pieces.Piece.TheVariants.{Char}
use Rattle.ansi.specs.Reading.{Takes}
use Rattle.screen.proofs.Stores.{letter-within, letter-put}
use Rattle.screen.proofs.cells.put_run.Given as given
use Rattle.screen.proofs.cells.put_run.Goals as goal
use Rattle.screen.proofs.cells.put_run.Goals.{In-Char, After-width-n}

takes : (g : given.Over) (c : goal.In-Char g) → Takes c.loop-piece.piece-iterator (Char c.in-Char.c) c.next.new.self
takes g c = subst (λ q. Takes c.loop-piece.piece-iterator q c.next.new.self) c.in-Char.is c.in-Some.ensures.steps

within : (g : given.Over) (c : goal.After-width-n g) → c.loop-piece.at + c.width-n.result ≤ length c.loop-piece.cells
within g c = letter-within g.C.WidthRule.cells c.loop-piece.pen _ _ c.in-Char.c c.width-n.result c.loop-piece.at c.width-n.ensures (takes g (goal.at.After-width-n g c).In-Char) c.loop-piece.invariant

pub loop-piece-preserved : goal.loop-piece-preserved
loop-piece-preserved g c =
    letter-put g.C.WidthRule.cells c.loop-piece.pen _ _ c.in-Char.c c.width-n.result c.loop-piece.at c.width-n.ensures (takes g (goal.at.loop-piece-preserved g c).In-Char) c.loop-piece.invariant c.put_char.ensures
