-- Bytes behind which another call may be sent: they end between two pieces, with a plain pen.
use Rattle.std.specs.Prelude.{ℕ, Bool, true, false, ◌&&◌, List, fold}
use Rattle.std.proofs.Math.Utf8.{scalars, encodes}
use Rattle.std.specs.Str.{chars, bytes_eq}
use Rattle.style.specs.declared.style.StyleSheet.{StyleSheet}
use Rattle.style.specs.Styles.{plain, is_plain}
use Rattle.ansi.specs.Pieces.{Part, sequence, letter, Mode, ground, inside, after, pieces}
use Rattle.pen.specs.Pens.{steered}

-- the bytes are UTF-8
abbrev pub is_text : List ℕ → Bool
is_text bs = scalars (chars bs) && bytes_eq (encodes (chars bs)) bs

-- the piece reader is inside no sequence
abbrev pub at_ground : Mode → Bool
at_ground ground = true
at_ground (inside s bs) = false

-- the pen after a piece
abbrev pub penned : StyleSheet → Part → StyleSheet
penned s (letter c) = s
penned s (sequence bs) = steered s bs

-- It is a test, of no width: what passes it passes it on lines of any width.
unfoldable pub grounded : List ℕ → Bool
grounded bs = is_text bs && (at_ground (fold after ground (chars bs)) && is_plain (fold penned plain (pieces bs)))
