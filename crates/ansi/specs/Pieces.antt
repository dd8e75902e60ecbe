-- The pieces of a text: escape sequences and characters.
use Rattle.std.specs.Prelude.{ℕ, cond, List, [], ◌∷◌, ◌++◌, ◌==◌}
use Rattle.std.proofs.Math.Utf8.{encode}
use Rattle.std.specs.Str.{chars}
use Rattle.ansi.specs.Machine.{State, InEscape, Move, stop, to, move}

-- the bytes of an escape sequence, or a character
pub data Part : Type 0 where
  sequence : List ℕ → Part
  letter : ℕ → Part

abbrev pub bytes : Part → List ℕ
bytes (sequence bs) = bs
bytes (letter c) = encode c

abbrev pub joined : List Part → List ℕ
joined [] = []
joined (p ∷ ps) = bytes p ++ joined ps

-- between two pieces, or inside a sequence of which some bytes were seen
pub data Mode : Type 0 where
  ground : Mode
  inside : State → List ℕ → Mode

abbrev pub onward : Move → List ℕ → Mode
onward stop bs = ground
onward (to s) bs = inside s bs

abbrev pub closed : Move → List ℕ → List Part
closed stop bs = sequence bs ∷ []
closed (to s) bs = []

-- the mode behind a character
abbrev pub after : Mode → ℕ → Mode
after ground c = cond (c == 27) (inside InEscape (27 ∷ [])) ground
after (inside s bs) c = onward (move s c) (bs ++ encode c)

-- the piece that a character completes, if any
abbrev pub done : Mode → ℕ → List Part
done ground c = cond (c == 27) [] (letter c ∷ [])
done (inside s bs) c = closed (move s c) (bs ++ encode c)

-- the piece that the end of the text completes, if any
abbrev pub rest : Mode → List Part
rest ground = []
rest (inside s bs) = sequence bs ∷ []

abbrev pub scan : Mode → List ℕ → List Part
scan m [] = rest m
scan m (c ∷ cs) = done m c ++ scan (after m c) cs

-- the pieces of the text bs
abbrev pub pieces : List ℕ → List Part
pieces bs = scan ground (chars bs)

-- the characters among the pieces
abbrev pub letters : List Part → List ℕ
letters [] = []
letters (sequence bs ∷ ps) = letters ps
letters (letter c ∷ ps) = c ∷ letters ps
