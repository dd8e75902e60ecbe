-- What the iterators give, call by call.
use Rattle.std.specs.Prelude.{◌≡◌, ℕ, ◌-◌, List, [], ◌∷◌, ◌++◌, length, IsUtf8, Option, MatchOption}
use Rattle.std.specs.Iterator.{AlwaysYields as gives}
use Rattle.ansi.specs.declared.pieces.AnsiAwareChars.{AnsiAwareChars}
use Rattle.ansi.specs.declared.pieces.AnsiStrippedChars.{AnsiStrippedChars}
use Rattle.ansi.specs.declared.pieces.Piece.{Piece}
use Rattle.ansi.specs.declared.pieces.Piece.TheVariants.{Escape, Char}
use Rattle.ansi.specs.Law.{Lawful}
use Rattle.ansi.specs.Pieces.{Part, sequence, letter, bytes, joined, pieces, letters}

-- a piece by its meaning
abbrev pub part : Piece → Part
part (Escape text place) = sequence text.now
part (Char c) = letter c

-- the place that a piece names, if it names one, is this one
abbrev pub StandsAt : ℕ → Piece → Type 0
StandsAt at (Escape text place) = place ≡ at
StandsAt at (Char c) = Unit {0}

abbrev pub unread : AnsiAwareChars → List ℕ
unread s = s.input.now

-- the place of the next piece: as many bytes as were read
abbrev pub placed : AnsiAwareChars → ℕ
placed s = s.len - length (unread s)

-- the pieces that are yet to come
abbrev pub remaining : AnsiAwareChars → List Part
remaining s = pieces (unread s)

-- s gives the piece p and becomes t
pub record Takes (s : AnsiAwareChars) (p : Piece) (t : AnsiAwareChars) : Type 0 where
  pub pieces : remaining s ≡ part p ∷ remaining t
  pub stands : StandsAt (placed s) p
  pub split : unread s ≡ bytes (part p) ++ unread t
  pub len : t.len ≡ s.len

-- s has nothing more to give, and stays
pub record Done (s t : AnsiAwareChars) : Type 0 where
  pub pieces : remaining s ≡ []
  pub long : length (unread s) ≡ 0
  pub same : t ≡ s

abbrev pub AwareSteps : AnsiAwareChars → Option Piece → AnsiAwareChars → Type 0
AwareSteps s r t = MatchOption r (Done s t) (λ p. Takes s p t)

-- the characters that are yet to come
abbrev pub stripped : AnsiStrippedChars → List ℕ
stripped s = letters (pieces s.input.now)

abbrev pub StrippedSteps : AnsiStrippedChars → Option ℕ → AnsiStrippedChars → Type 0
StrippedSteps s r t = MatchOption r ((stripped s ≡ []) × (stripped t ≡ [])) (λ c. stripped s ≡ c ∷ stripped t)

-- s stands at the start of the text, and calls of `next` give its pieces, in their order, and then none
pub record Reads (text : List ℕ) (s : AnsiAwareChars) : Type 0 where
  pub utf8 : IsUtf8 text
  pub input : unread s ≡ text
  pub len : s.len ≡ length text
  pub gives : gives AwareSteps part s (pieces text)
  pub joined : joined (pieces text) ≡ text
  pub law : Lawful text (pieces text)

-- calls of `next` give the characters among the pieces of the text
pub record Strips (text : List ℕ) (s : AnsiStrippedChars) : Type 0 where
  pub utf8 : IsUtf8 text
  pub input : s.input.now ≡ text
  pub gives : gives StrippedSteps (λ c. c) s (letters (pieces text))
