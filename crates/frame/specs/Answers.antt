-- The number of each refusal, its place where it has one, and what is printed of it.
use Rattle.std.specs.Prelude.{ℕ, List, Some, None, Option, decimal}
use Rattle.ansi.specs.Refusals.{number_of as text_number, place_of as text_place, shown as text_shown}
use Rattle.frame.specs.declared.error.FrameError.{FrameError}
use Rattle.frame.specs.declared.error.FrameError.TheVariants.{Text, TooLarge, BadOffset}

abbrev pub number_of : FrameError → ℕ
number_of (Text e) = text_number e
number_of TooLarge = 4
number_of BadOffset = 5

abbrev pub place_of : FrameError → Option ℕ
place_of (Text e) = Some (text_place e)
place_of TooLarge = None
place_of BadOffset = None

-- what is printed of a refusal: a text's with its place, any other by its number
abbrev pub shown : FrameError → List ℕ
shown (Text e) = text_shown e
shown TooLarge = decimal 4
shown BadOffset = decimal 5
