-- The first piece of a text, by the scan.
use Rattle.std.proofs.Common.{◌≡◌, ℕ, ◌+◌, true, false, cond, eqb, List, [], ◌∷◌, ◌++◌, take, drop, IsUtf8, sym, refl, ap, ◌∙◌, append_assoc, append-nil, add-zero}
use lib.Seq.{drop-append-add, take-append-add}
use lib.Utf8.{scalar, scalars, encode, encodes}
use Rattle.std.specs.Char.{len_utf8}
use Rattle.std.specs.Str.{chars}
use Rattle.std.proofs.lemmas.Str.{chars-encodes, encodes-chars, scalars-chars, length-encode}
use Rattle.std.proofs.str.Laws.{both}
use Rattle.ansi.specs.Machine.{State, InEscape, stop, to, move}
use Rattle.ansi.specs.Places.{ends}
use Rattle.ansi.specs.Pieces.{Part, sequence, letter, ground, inside, onward, closed, scan, pieces}

-- past a character, and up to it
past : (c n : ℕ) (bs : List ℕ) → drop (len_utf8 c + n) (encode c ++ bs) ≡ drop n bs
past c n bs = ap (λ k. drop (k + n) (encode c ++ bs)) (sym (length-encode c)) ∙ drop-append-add (encode c) bs n

upto : (c n : ℕ) (bs : List ℕ) → take (len_utf8 c + n) (encode c ++ bs) ≡ encode c ++ take n bs
upto c n bs = ap (λ k. take (k + n) (encode c ++ bs)) (sym (length-encode c)) ∙ take-append-add (encode c) bs n

-- a sequence of n more bytes of cs, and then the pieces behind it
abbrev Closed : List ℕ → List ℕ → ℕ → List Part
Closed seen cs n = sequence (seen ++ take n (encodes cs)) ∷ scan ground (chars (drop n (encodes cs)))

one_more : (seen : List ℕ) (c : ℕ) (cs : List ℕ) (n : ℕ) → Closed (seen ++ encode c) cs n ≡ Closed seen (c ∷ cs) (len_utf8 c + n)
one_more seen c cs n =
    let front = append_assoc seen (encode c) (take n (encodes cs)) ∙ ap (λ l. seen ++ l) (sym (upto c n (encodes cs))) in
    let back = sym (past c n (encodes cs)) in
    λ i. sequence (front i) ∷ scan ground (chars (back i))

none_more : (seen : List ℕ) (cs : List ℕ) → scalars cs ≡ true → (◌≡◌ {A = List Part} (sequence seen ∷ scan ground cs) (Closed seen cs 0))
none_more seen cs e =
    let front = sym (append-nil seen) in
    let back = sym (chars-encodes cs e) in
    λ i. sequence (front i) ∷ scan ground (back i)

closes : (s : State) (seen : List ℕ) (cs : List ℕ) → scalars cs ≡ true → scan (inside s seen) cs ≡ Closed seen cs (ends s cs)
closes s seen [] e = none_more seen [] refl
closes s seen (c ∷ cs) e =
    let more = (both (scalar c) (scalars cs) e).1 in
    elim (move s c) as (λ m. closed m (seen ++ encode c) ++ scan (onward m (seen ++ encode c)) cs ≡ Closed seen (c ∷ cs) (len_utf8 c + elim m [ stop ↦ 0 | to t ↦ ends t cs ])) [
      | stop ↦ none_more (seen ++ encode c) cs more ∙ one_more seen c cs 0
      | to t ↦ closes t (seen ++ encode c) cs more ∙ one_more seen c cs (ends t cs)
    ]

-- of a text that begins with ESC
escape-chars : (cs : List ℕ) → scalars cs ≡ true → scan ground (27 ∷ cs) ≡ Closed [] (27 ∷ cs) (1 + ends InEscape cs)
unfolding encode
escape-chars cs e = closes InEscape (27 ∷ []) cs e ∙ one_more [] 27 cs (ends InEscape cs)

-- of a text that begins with another character
letter-chars : (c : ℕ) (cs : List ℕ) → scalars cs ≡ true → eqb c 27 ≡ false → scan ground (c ∷ cs) ≡ letter c ∷ scan ground (chars (drop (len_utf8 c) (encodes (c ∷ cs))))
letter-chars c cs e other =
    let all = ap (λ k. drop k (encodes (c ∷ cs))) (sym (add-zero (len_utf8 c))) ∙ past c 0 (encodes cs) in
    let back = sym (ap chars all ∙ chars-encodes cs e) in
    ap (λ b. cond b [] (letter c ∷ []) ++ scan (cond b (inside InEscape (27 ∷ [])) ground) cs) other ∙ (λ i. letter c ∷ scan ground (back i))

-- the same of the bytes
module _ (bs : List ℕ) (u : IsUtf8 bs) (cs : List ℕ) where
  later : (c : ℕ) → chars bs ≡ c ∷ cs → scalars cs ≡ true
  later c e = (both (scalar c) (scalars cs) (ap scalars (sym e) ∙ scalars-chars bs u)).1

  spelt : (c : ℕ) → chars bs ≡ c ∷ cs → encodes (c ∷ cs) ≡ bs
  spelt c e = ap encodes (sym e) ∙ encodes-chars bs u

  pub first-escape : chars bs ≡ 27 ∷ cs → pieces bs ≡ sequence (take (1 + ends InEscape cs) bs) ∷ pieces (drop (1 + ends InEscape cs) bs)
  first-escape e =
      let back = spelt 27 e in
      ap (scan ground) e ∙ escape-chars cs (later 27 e) ∙ (λ i. sequence (take (1 + ends InEscape cs) (back i)) ∷ pieces (drop (1 + ends InEscape cs) (back i)))

  pub first-letter : (c : ℕ) → chars bs ≡ c ∷ cs → eqb c 27 ≡ false → pieces bs ≡ letter c ∷ pieces (drop (len_utf8 c) bs)
  first-letter c e other =
      let back = spelt c e in
      ap (scan ground) e ∙ letter-chars c cs (later c e) other ∙ (λ i. letter c ∷ pieces (drop (len_utf8 c) (back i)))

  -- a text that begins with a character is its bytes and then the rest
  pub first-bytes : (c : ℕ) → chars bs ≡ c ∷ cs → bs ≡ encode c ++ drop (len_utf8 c) bs
  first-bytes c e =
      let back = spelt c e in
      let all = ap (λ k. drop k (encode c ++ encodes cs)) (sym (add-zero (len_utf8 c))) ∙ past c 0 (encodes cs) in
      sym back ∙ ap (λ l. encode c ++ l) (sym all) ∙ ap (λ l. encode c ++ drop (len_utf8 c) l) back
