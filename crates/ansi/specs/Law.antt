-- What makes pieces the pieces of a text, said without the steps of the reading.
use Rattle.std.specs.Prelude.{◌≡◌, ℕ, ◌<◌, ◌⊎◌, List, [], ◌∷◌, ◌++◌, length, take, ◌≢◌}
use Rattle.std.proofs.Math.Utf8.{encode, encodes}
use Rattle.ansi.specs.Machine.{InEscape, stop, run}
use Rattle.ansi.specs.Pieces.{Part, sequence, letter}

-- Behind ESC, the characters cs are the shortest beginning of what follows that brings the machine back to the
-- ground, or, where none does, all of it. What stands behind them is rest.
pub record Shortest (cs rest : List ℕ) : Type 0 where
  pub reaches : (run InEscape cs ≡ stop) ⊎ (rest ≡ [])
  pub before : (k : ℕ) → k < length cs → run InEscape (take k cs) ≢ stop

-- The parts are the pieces of the bytes bs: joined they are bs, a character is not ESC, and a sequence is ESC and
-- then the shortest beginning of the rest that ends it.
abbrev pub Lawful : List ℕ → List Part → Type 0
Lawful bs [] = bs ≡ []
Lawful bs (letter c ∷ ps) = (c ≢ 27) × ((rest : List ℕ) × ((bs ≡ encode c ++ rest) × Lawful rest ps))
Lawful bs (sequence q ∷ ps) = (cs : List ℕ) × ((rest : List ℕ) × ((q ≡ 27 ∷ encodes cs) × ((bs ≡ q ++ rest) × (Shortest cs rest × Lawful rest ps))))
