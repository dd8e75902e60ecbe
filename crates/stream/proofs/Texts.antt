-- A text that is taken ends between two pieces.
use Rattle.std.proofs.Common.{◌≡◌, ℕ, true, List, [], ◌∷◌, ◌++◌, sym, ap, ◌∙◌, subst, arith}
use lib.Utf8.{encode}
use Rattle.std.specs.List.{AllByRecursion}
use Rattle.std.proofs.lemmas.Bool.{ne_eqb}
use Rattle.ansi.specs.Pieces.{Part, sequence, letter, pieces}
use Rattle.ansi.specs.Law.{Lawful}
use Rattle.ansi.proofs.Laws.{lawful}
use Rattle.pen.specs.Sequences.{between, is_colour}
use Rattle.pen.specs.Checks.{Accepted}
use Rattle.pen.proofs.Sequences.{colours_told}
use Rattle.layout.proofs.Seams.{Fine, accepted-fine}
use Rattle.stream.proofs.Sequences.{Gives, gives-join, gives-csi, gives-letter, inner-parameters}

gives-colour : (bs : List ℕ) → is_colour bs ≡ true → Gives bs (sequence bs ∷ [])
gives-colour bs h =
    let s = colours_told.sound bs h in
    subst (λ l. Gives l (sequence l ∷ [])) (sym s.0) (gives-csi (between bs) 109 (inner-parameters (between bs) s.1) (omega arith) (omega arith))

gives-lawful : (ps : List Part) (bs : List ℕ) → Lawful bs ps → AllByRecursion Fine ps → Gives bs ps
gives-lawful [] bs h f more = ap (λ l. pieces (l ++ more)) h
gives-lawful (letter c ∷ ps) bs (other, (rest, (is, later))) f more =
    ap (λ l. pieces (l ++ more)) is
    ∙ gives-join (encode c) rest (letter c ∷ []) ps (gives-letter c f.0.1 (ne_eqb c 27 other)) (gives-lawful ps rest later f.1) more
gives-lawful (sequence q ∷ ps) bs (cs, (rest, (begins, (is, (shortest, later))))) f more =
    ap (λ l. pieces (l ++ more)) is
    ∙ gives-join q rest (sequence q ∷ []) ps (gives-colour q f.0) (gives-lawful ps rest later f.1) more

pub gives-text : (text : List ℕ) → Accepted text → Gives text (pieces text)
gives-text text a = gives-lawful (pieces text) text (lawful text a.utf8) (accepted-fine text a)
