use Rattle.drawing.proofs.SameRows.{compares}
use Rattle.drawing.proofs.Redraw.{redraw}
use Rattle.drawing.proofs.Idle.{idle}
use Rattle.drawing.proofs.law.drawings_show.Goals as goal

pub returns : goal.returns
returns c = (redraw, idle, compares)
