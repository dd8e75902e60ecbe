-- Bytes that end between two pieces, by the reader's mode.
use Rattle.std.proofs.Common.{◌≡◌, ℕ, ◌+◌, true, false, List, [], ◌∷◌, ◌++◌, length, IsUtf8, fold, sym, refl, ap, ◌∙◌, subst, inl, inr, append_assoc, append-nil, arith, length-append}
use lib.Utf8.{encode}
use Rattle.std.specs.Str.{chars}
use Rattle.std.proofs.lemmas.Bool.{cases_Bool, false≢true}
use Rattle.std.proofs.lemmas.Str.{chars-append}
use Rattle.ansi.specs.Machine.{Move, stop, to, move}
use Rattle.ansi.specs.Pieces.{Part, letter, Mode, ground, inside, onward, closed, after, done, rest, scan, pieces}
use Rattle.stream.specs.Grounded.{at_ground}
use Rattle.stream.proofs.Sequences.{Gives}

at-ground : (m : Mode) → at_ground m ≡ true → m ≡ ground
at-ground ground h = refl
at-ground (inside s bs) h = absurd (false≢true h)

seam : (m : Mode) (a b : List ℕ) → fold after m a ≡ ground → scan m (a ++ b) ≡ scan m a ++ scan ground b
seam m [] b e = subst (λ n. scan n b ≡ rest n ++ scan ground b) (sym e) refl
seam m (c ∷ a) b e = ap (λ l. done m c ++ l) (seam (after m c) a b e) ∙ sym (append_assoc (done m c) (scan (after m c) a) (scan ground b))

-- behind bytes that end on the ground another piece begins
pub gives-from-ground : (bs : List ℕ) → IsUtf8 bs → at_ground (fold after ground (chars bs)) ≡ true → Gives bs (pieces bs)
gives-from-ground bs u h more = ap (scan ground) (chars-append bs more u) ∙ seam ground (chars bs) (chars more) (at-ground _ h)

-- inside a sequence one more character is no piece of its own
one_piece : (v : Move) (bs : List ℕ) → length (closed v bs ++ rest (onward v bs)) ≡ 1
one_piece stop bs = refl
one_piece (to s) bs = refl

same_count : (m : Mode) (cs : List ℕ) → at_ground (fold after m cs) ≡ false → length (scan m (cs ++ (97 ∷ []))) ≡ length (scan m cs)
same_count ground [] h = absurd (false≢true (sym h))
same_count (inside s bs) [] h = one_piece (move s 97) (bs ++ encode 97)
same_count m (c ∷ cs) h = length-append (done m c) _ ∙ ap (λ n. length (done m c) + n) (same_count (after m c) cs h) ∙ sym (length-append (done m c) _)

-- so bytes behind which a letter is one end on the ground
pub ground-from-gives : (bs : List ℕ) (ps : List Part) → IsUtf8 bs → Gives bs ps → at_ground (fold after ground (chars bs)) ≡ true
unfolding chars
ground-from-gives bs ps u g =
    elim (cases_Bool (at_ground (fold after ground (chars bs)))) [
      | inl e ↦ e
      | inr e ↦
          let whole = ap length (ap pieces (sym (append-nil bs)) ∙ g []) in
          let more = ap length (g (97 ∷ [])) in
          let seam = ap (λ cs. length (scan ground cs)) (chars-append bs (97 ∷ []) u) in
          let same = same_count ground (chars bs) e in
          let a = length-append ps [] in
          let b = length-append ps (letter 97 ∷ []) in
          absurd (omega arith)
    ]
