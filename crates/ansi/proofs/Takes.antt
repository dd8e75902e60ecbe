-- One call of `next` on the pieces of a text.
use Rattle.std.proofs.Common.{◌≡◌, ℕ, ◌+◌, ◌-◌, false, eqb, List, ◌∷◌, ◌++◌, length, take, drop, arith, IsUtf8, sym, ap, ◌∙◌, subst, take-append-drop}
use Rattle.std.specs.Char.{len_utf8}
use Rattle.std.specs.Str.{IsCharBoundary}
use Rattle.std.proofs.lemmas.Grind.{common_steps}
use Rattle.std.proofs.lemmas.Str.{IsCharBoundary-from_drop}
use Rattle.ansi.specs.declared.pieces.AnsiAwareChars.{AnsiAwareChars}
use Rattle.ansi.specs.declared.pieces.Piece.{Piece}
use Rattle.ansi.specs.declared.pieces.Piece.TheVariants.{Char}
use Rattle.ansi.specs.Machine.{InEscape}
use Rattle.ansi.specs.Places.{from, ends, behind, Ended, Begins}
use Rattle.ansi.specs.Pieces.{sequence, letter, bytes, ground, scan, pieces, letters}
use Rattle.ansi.specs.Reading.{part, StandsAt, placed, unread, Takes, Done}
use Rattle.ansi.proofs.Scans.{first-escape, first-letter, first-bytes}

-- the part of a text before its last bytes, and these
before : (n : ℕ) (text : List ℕ) → take (length text - length (drop n text)) text ≡ take n text
before n text = grind (arith, common_steps)

after : (n : ℕ) (text : List ℕ) → drop (length text - length (drop n text)) text ≡ drop n text
after n text = grind (arith, common_steps)

-- behind ESC and the rest of the sequence: in the state behind ESC, ESC is passed over
beyond : (text rest : List ℕ) → Begins text 27 rest → behind InEscape text ≡ drop (1 + ends InEscape (from text 1)) text
beyond text rest b = ap (λ cs. drop (ends InEscape cs) text) b.chars

-- where the text is cut behind a sequence
pub cut : (text rest : List ℕ) → IsUtf8 (behind InEscape text) → Begins text 27 rest → IsCharBoundary text (length text - length (behind InEscape text))
cut text rest u b =
    let n = 1 + ends InEscape (from text 1) in
    subst (λ l. IsCharBoundary text (length text - length l)) (sym (beyond text rest b))
    (IsCharBoundary-from_drop text (length text - length (drop n text)) (omega arith) (subst IsUtf8 (beyond text rest b ∙ sym (after n text)) u))

pub letters_behind : (text rest : List ℕ) → IsUtf8 text → Begins text 27 rest → letters (pieces (behind InEscape text)) ≡ letters (pieces text)
letters_behind text rest u b = ap (λ l. letters (pieces l)) (beyond text rest b) ∙ sym (ap letters (first-escape text u (from text 1) b.chars))

pub letters_next : (text : List ℕ) (c : ℕ) (rest : List ℕ) → IsUtf8 text → Begins text c rest → eqb c 27 ≡ false → letters (pieces text) ≡ c ∷ letters (pieces rest)
letters_next text c rest u b other = ap letters (first-letter text u (from text (len_utf8 c)) c b.chars other) ∙ ap (λ l. c ∷ letters (pieces l)) (sym b.after)

module _ (s t : AnsiAwareChars) where
  pub done : t ≡ s → Ended (unread s) 0 → Done s t
  done same e = record { pieces = ap (scan ground) e.chars; long = e.long; same = same }

  module _ (u : IsUtf8 (unread s)) (len : t.len ≡ s.len) where
    pub takes_escape : (p : Piece) (rest : List ℕ) → Begins (unread s) 27 rest → StandsAt (placed s) p → unread t ≡ behind InEscape (unread s) → part p ≡ sequence (take (length (unread s) - length (unread t)) (unread s)) → Takes s p t
    takes_escape p rest begins stands left is =
        let n = 1 + ends InEscape (from (unread s) 1) in
        let past = left ∙ beyond (unread s) rest begins in
        let front = is ∙ ap (λ l. sequence (take (length (unread s) - length l) (unread s))) past ∙ ap sequence (before n (unread s)) in
        record {
          pieces = first-escape (unread s) u (from (unread s) 1) begins.chars ∙ ap (λ q. q ∷ pieces (drop n (unread s))) (sym front) ∙ ap (λ l. part p ∷ pieces l) (sym past);
          stands = stands;
          split = sym (take-append-drop n (unread s)) ∙ ap (λ l. bytes l ++ drop n (unread s)) (sym front) ∙ ap (λ l. bytes (part p) ++ l) (sym past);
          len = len;
        }

    pub takes_letter : (c : ℕ) → Begins (unread s) c (unread t) → eqb c 27 ≡ false → Takes s (Char c) t
    takes_letter c begins other =
        let cs = from (unread s) (len_utf8 c) in
        record {
          pieces = first-letter (unread s) u cs c begins.chars other ∙ ap (λ l. letter c ∷ pieces l) (sym begins.after);
          stands = tt;
          split = first-bytes (unread s) u cs c begins.chars ∙ ap (λ l. bytes (letter c) ++ l) (sym begins.after);
          len = len;
        }
