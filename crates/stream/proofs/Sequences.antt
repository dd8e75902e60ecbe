-- Control sequences among the pieces of a text.
use Rattle.std.proofs.Common.{◌≡◌, ℕ, suc, ◌+◌, ◌-◌, ◌<◌, ◌≤◌, true, false, cond, ◌||◌, eqb, List, [], ◌∷◌, ◌++◌, length, get_or, take, IsAscii, sym, refl, ap, ◌∙◌, append_assoc, append-nil, arith, length-append}
use lib.Seq.{take-append_seam}
use lib.Utf8.{scalar, encode}
use Rattle.std.specs.Char.{is_ascii_digit}
use Rattle.std.specs.List.{AllByRecursion}
use Rattle.std.specs.Str.{chars}
use Rattle.std.proofs.lemmas.Str.Ascii.{IsAscii-nil, IsAscii-cons, IsAscii-push}
use Rattle.std.proofs.lemmas.List.{get_or_push}
use Rattle.std.proofs.lemmas.Str.{encode_ascii, chars-append, chars-encodes, chars-IsAscii, IsUtf8-encode, IsUtf8-from_ascii}
use Rattle.std.proofs.lemmas.Bool.{and_parts, and_from, and_left, and_right, le-leb}
use Rattle.std.proofs.lemmas.Bool.Decides.{nat_tests}
use Rattle.ansi.specs.Machine.{InCsi, InEscape, stop, to, move}
use Rattle.ansi.specs.Pieces.{Part, sequence, letter, ground, inside, onward, closed, scan, pieces}
use Rattle.pen.specs.Sequences.{csi, parameters, between, is_colour}
use Rattle.stream.specs.Controls.{is_control, final}

-- the bytes bs are read as the parts ps, whatever follows
abbrev pub Gives : List ℕ → List Part → Type 0
Gives bs ps = (more : List ℕ) → pieces (bs ++ more) ≡ ps ++ pieces more

pub gives-join : (a b : List ℕ) (ps qs : List Part) → Gives a ps → Gives b qs → Gives (a ++ b) (ps ++ qs)
gives-join a b ps qs g h more =
    ap pieces (append_assoc a b more) ∙ g (b ++ more) ∙ ap (λ l. ps ++ l) (h more) ∙ sym (append_assoc ps qs (pieces more))

-- bytes that a control sequence goes on with
abbrev pub Inner : List ℕ → Type 0
Inner ms = AllByRecursion (λ b. (32 ≤ b) × (b ≤ 63)) ms

pub inner-parameters : (ms : List ℕ) → parameters ms ≡ true → Inner ms
inner-parameters [] h = tt
inner-parameters (b ∷ ms) h =
    let e = and_parts (is_ascii_digit b || eqb b 59) (parameters ms) h in
    let f = e.0 in
    ((grind (arith, nat_tests), grind (arith, nat_tests)), inner-parameters ms e.1)

ascii-inner : (ms : List ℕ) → Inner ms → IsAscii ms
ascii-inner [] h = IsAscii-nil
ascii-inner (b ∷ ms) h = IsAscii-cons b ms (omega arith) (ascii-inner ms h.1)

pub ascii-csi : (ms : List ℕ) (last : ℕ) → Inner ms → last < 128 → IsAscii (csi ms last)
ascii-csi ms last h low =
    IsAscii-cons 27 (91 ∷ (ms ++ (last ∷ []))) (omega arith)
    (IsAscii-cons 91 (ms ++ (last ∷ [])) (omega arith) (IsAscii-push ms last (ascii-inner ms h) low))

-- one byte of a control sequence, read inside it
module _ (seen : List ℕ) (b : ℕ) (cs : List ℕ) where
  goes_on : 32 ≤ b → b ≤ 63 → scan (inside InCsi seen) (b ∷ cs) ≡ scan (inside InCsi (seen ++ (b ∷ []))) cs
  goes_on low high =
      let m : move InCsi b ≡ to InCsi = grind (arith, nat_tests) in
      ap (λ v. closed v (seen ++ encode b) ++ scan (onward v (seen ++ encode b)) cs) m
      ∙ ap (λ l. scan (inside InCsi (seen ++ l)) cs) (encode_ascii b (omega arith))

  ends : 64 ≤ b → b ≤ 126 → scan (inside InCsi seen) (b ∷ cs) ≡ sequence (seen ++ (b ∷ [])) ∷ scan ground cs
  ends low high =
      let m : move InCsi b ≡ stop = grind (arith, nat_tests) in
      ap (λ v. closed v (seen ++ encode b) ++ scan (onward v (seen ++ encode b)) cs) m
      ∙ ap (λ l. sequence (seen ++ l) ∷ scan ground cs) (encode_ascii b (omega arith))

module _ (last : ℕ) (low : 64 ≤ last) (high : last ≤ 126) (cs : List ℕ) where
  finishes : (ms seen : List ℕ) → Inner ms → scan (inside InCsi seen) ((ms ++ (last ∷ [])) ++ cs) ≡ sequence (seen ++ (ms ++ (last ∷ []))) ∷ scan ground cs
  finishes [] seen h = ends seen last cs low high
  finishes (b ∷ ms) seen h =
      goes_on seen b ((ms ++ (last ∷ [])) ++ cs) h.0.0 h.0.1
      ∙ finishes ms (seen ++ (b ∷ [])) h.1
      ∙ ap (λ l. sequence l ∷ scan ground cs) (append_assoc seen (b ∷ []) (ms ++ (last ∷ [])))

  csi-first : (ms : List ℕ) → Inner ms → scan ground (csi ms last ++ cs) ≡ sequence (csi ms last) ∷ scan ground cs
  unfolding encode
  csi-first ms h = finishes ms (27 ∷ 91 ∷ []) h

-- a control sequence is one piece, whatever follows
pub gives-csi : (ms : List ℕ) (last : ℕ) → Inner ms → 64 ≤ last → last ≤ 126 → Gives (csi ms last) (sequence (csi ms last) ∷ [])
gives-csi ms last h low high more =
    let ascii = ascii-csi ms last h (omega arith) in
    ap (scan ground) (chars-append (csi ms last) more (IsUtf8-from_ascii (csi ms last) ascii) ∙ ap (λ l. l ++ chars more) (chars-IsAscii (csi ms last) ascii))
    ∙ csi-first last low high (chars more) ms h

-- and so is a character but ESC
pub gives-letter : (c : ℕ) → scalar c ≡ true → eqb c 27 ≡ false → Gives (encode c) (letter c ∷ [])
gives-letter c sound other more =
    let one : chars (encode c) ≡ c ∷ [] = ap chars (sym (append-nil (encode c))) ∙ chars-encodes (c ∷ []) (and_from (scalar c) true sound refl) in
    ap (scan ground) (chars-append (encode c) more (IsUtf8-encode c sound) ∙ ap (λ l. l ++ chars more) one)
    ∙ ap (λ b. cond b [] (letter c ∷ []) ++ scan (cond b (inside InEscape (27 ∷ [])) ground) (chars more)) other

-- the parts of a control sequence by their places
module _ (ms : List ℕ) (last : ℕ) where
  length-csi : length (csi ms last) ≡ length ms + 3
  length-csi = simp length-append (omega arith)

  pub between-csi : between (csi ms last) ≡ ms
  between-csi =
      let n : length (csi ms last) - 3 ≡ length ms = omega (arith, length-csi) in
      ap (λ k. take k (ms ++ (last ∷ []))) n ∙ take-append_seam ms (last ∷ [])

  pub final-csi : final (csi ms last) ≡ last
  final-csi =
      let n : length (csi ms last) - 1 ≡ suc (suc (length ms)) = omega (arith, length-csi) in
      ap (λ k. get_or (csi ms last) k 0) n ∙ get_or_push ms last 0 (length ms) refl

  pub control-csi : is_control (csi ms last) ≡ true
  control-csi = and_from _ _ (le-leb 3 (length (csi ms last)) (omega (arith, length-csi))) refl

  -- one that ends in another byte than m is no colour sequence
  pub no-colour-csi : eqb last 109 ≡ false → is_colour (csi ms last) ≡ false
  no-colour-csi other = and_right _ _ (and_left (eqb (final (csi ms last)) 109) _ (ap (λ b. eqb b 109) final-csi ∙ other))
