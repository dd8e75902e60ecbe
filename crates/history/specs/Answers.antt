-- The numbers of a renderer's refusals.
use Rattle.std.specs.Prelude.{ℕ}
use Rattle.frame.specs.Answers as frames
use Rattle.history.specs.declared.error.RenderError.{RenderError}
use Rattle.history.specs.declared.error.RenderError.TheVariants.{Frame as OfFrame, OneColumn, Draw}

abbrev pub number_of : RenderError → ℕ
number_of (OfFrame e) = frames.number_of e
number_of OneColumn = 6
number_of (Draw e) = 7
