-- What whole runs of the two iterators give.
use Rattle.std.proofs.Common.{◌≡◌, ℕ, List, [], ◌∷◌, ◌++◌, length, IsUtf8, sym, ap, ◌∙◌}
use Rattle.std.specs.Iterator.{AlwaysYields}
use Rattle.ansi.specs.declared.pieces.AnsiAwareChars.{AnsiAwareChars}
use Rattle.ansi.specs.declared.pieces.AnsiStrippedChars.{AnsiStrippedChars}
use Rattle.ansi.specs.Law.{Lawful}
use Rattle.ansi.specs.Pieces.{Part, sequence, letter, bytes, joined, pieces, letters}
use Rattle.ansi.specs.Reading.{part, unread, remaining, stripped, AwareSteps, StrippedSteps, Reads, Strips}
use Rattle.ansi.proofs.Laws.{lawful}

apart : {A : Type 0} (x : A) (xs : List A) → x ∷ xs ≡ [] → ⊥
apart x xs e = cc

aware-gives : (ps : List Part) (s : AnsiAwareChars) → remaining s ≡ ps → AlwaysYields AwareSteps part s ps
aware-gives [] s e = λ p t h. apart (part p) (remaining t) (sym h.pieces ∙ e)
aware-gives (q ∷ ps) s e = (
  λ t h. apart q ps (sym e ∙ h.pieces),
  λ p t h. let both : part p ∷ remaining t ≡ q ∷ ps = sym h.pieces ∙ e in (cc, aware-gives ps t (cc)),
)

stripped-gives : (cs : List ℕ) (s : AnsiStrippedChars) → stripped s ≡ cs → AlwaysYields StrippedSteps (λ c. c) s cs
stripped-gives [] s e = λ c t h. apart c (stripped t) (sym h ∙ e)
stripped-gives (d ∷ cs) s e = (
  λ t h. apart d cs (sym e ∙ h.0),
  λ c t h. let both : c ∷ stripped t ≡ d ∷ cs = sym h ∙ e in (cc, stripped-gives cs t (cc)),
)

-- lawful pieces joined are the text
joins : (ps : List Part) (bs : List ℕ) → Lawful bs ps → joined ps ≡ bs
joins [] bs h = sym h
joins (letter c ∷ ps) bs (other, (rest, (is, more))) = ap (λ l. bytes (letter c) ++ l) (joins ps rest more) ∙ sym is
joins (sequence q ∷ ps) bs (cs, (rest, (begins, (is, (shortest, more))))) = ap (λ l. q ++ l) (joins ps rest more) ∙ sym is

pub reads : (text : List ℕ) (s : AnsiAwareChars) → IsUtf8 text → unread s ≡ text → s.len ≡ length text → Reads text s
reads text s u input len =
    let law = lawful text u in
    record { utf8 = u; input = input; len = len; gives = aware-gives (pieces text) s (ap pieces input); joined = joins (pieces text) text law; law = law }

pub strips : (text : List ℕ) (s : AnsiStrippedChars) → IsUtf8 text → s.input.now ≡ text → Strips text s
strips text s u input = record { utf8 = u; input = input; gives = stripped-gives (letters (pieces text)) s (ap (λ l. letters (pieces l)) input) }
