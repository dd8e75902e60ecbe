-- The pieces of an accepted text, cut between any two of them, are read again as they were.
use Rattle.std.proofs.Common.{◌≡◌, ℕ, ◌+◌, ◌≤◌, Bool, true, false, cond, ◌||◌, eqb, List, [], ◌∷◌, ◌++◌, length, Some, None, IsUtf8, IsAscii, Option, sym, refl, ap, ◌∙◌, subst, append_assoc, append-nil, arith}
use lib.Utf8.{scalar, scalars, encode}
use Rattle.std.specs.Char.{is_ascii_digit}
use Rattle.std.specs.List.{AllByRecursion}
use Rattle.std.specs.Str.{chars}
use Rattle.std.proofs.lemmas.Str.Ascii.{IsAscii-nil, IsAscii-cons, IsAscii-push}
use Rattle.std.proofs.lemmas.Str.{encode_ascii, chars-append, chars-encodes, chars-IsAscii, scalars-chars, IsUtf8-nil, IsUtf8-append, IsUtf8-encode, IsUtf8-from_ascii}
use Rattle.std.proofs.lemmas.Bool.{and_parts, and_from, eqb-true, true≢false}
use Rattle.std.proofs.lemmas.Bool.Decides.{nat_tests}
use Rattle.ansi.specs.declared.refusal.Refusal.{Refusal}
use Rattle.ansi.specs.declared.refusal.Refusal.TheVariants.{Control, NoColour}
use Rattle.ansi.specs.Machine.{InCsi, InEscape, stop, to, move}
use Rattle.ansi.specs.Pieces.{Part, sequence, letter, bytes, joined, Mode, ground, inside, onward, closed, after, done, rest, scan, pieces}
use Rattle.pen.specs.Sequences.{csi, parameters, between, is_colour}
use Rattle.pen.specs.Checks.{Accepted, is_barred, offence, or_else, first_offence}
use Rattle.pen.proofs.Sequences.{colours_told}

-- a colour sequence, or a character that is taken
abbrev pub Fine : Part → Type 0
Fine (sequence bs) = is_colour bs ≡ true
Fine (letter c) = (is_barred c ≡ false) × (scalar c ≡ true)

not-escape : (c : ℕ) → is_barred c ≡ false → (b : Bool) → eqb c 27 ≡ b → b ≡ false
not-escape c h true e = absurd (true≢false (ap is_barred (sym (eqb-true c 27 e)) ∙ h))
not-escape c h false e = refl

-- bytes that a colour sequence goes on with
abbrev Inner : List ℕ → Type 0
Inner ms = AllByRecursion (λ b. (48 ≤ b) × (b ≤ 59)) ms

inner-parameters : (ms : List ℕ) → parameters ms ≡ true → Inner ms
inner-parameters [] h = tt
inner-parameters (b ∷ ms) h =
    let e = and_parts (is_ascii_digit b || eqb b 59) (parameters ms) h in
    let f = e.0 in
    ((grind (arith, nat_tests), grind (arith, nat_tests)), inner-parameters ms e.1)

ascii-inner : (ms : List ℕ) → Inner ms → IsAscii ms
ascii-inner [] h = IsAscii-nil
ascii-inner (b ∷ ms) h = IsAscii-cons b ms (omega arith) (ascii-inner ms h.1)

ascii-csi : (ms : List ℕ) → Inner ms → IsAscii (csi ms 109)
ascii-csi ms h = IsAscii-cons 27 (91 ∷ (ms ++ (109 ∷ []))) (omega arith) (IsAscii-cons 91 (ms ++ (109 ∷ [])) (omega arith) (IsAscii-push ms 109 (ascii-inner ms h) (omega arith)))

-- a byte of the sequence, read inside it
goes_on : (seen : List ℕ) (b : ℕ) (cs : List ℕ) → 48 ≤ b → b ≤ 59 → scan (inside InCsi seen) (b ∷ cs) ≡ scan (inside InCsi (seen ++ (b ∷ []))) cs
goes_on seen b cs low high =
    let m : move InCsi b ≡ to InCsi = grind (arith, nat_tests) in
    ap (λ v. closed v (seen ++ encode b) ++ scan (onward v (seen ++ encode b)) cs) m
    ∙ ap (λ l. scan (inside InCsi (seen ++ l)) cs) (encode_ascii b (omega arith))

finishes : (cs ms seen : List ℕ) → Inner ms → scan (inside InCsi seen) ((ms ++ (109 ∷ [])) ++ cs) ≡ sequence (seen ++ (ms ++ (109 ∷ []))) ∷ scan ground cs
unfolding encode
finishes cs [] seen h = refl
finishes cs (b ∷ ms) seen h =
    goes_on seen b ((ms ++ (109 ∷ [])) ++ cs) h.0.0 h.0.1
    ∙ finishes cs ms (seen ++ (b ∷ [])) h.1
    ∙ ap (λ l. sequence l ∷ scan ground cs) (append_assoc seen (b ∷ []) (ms ++ (109 ∷ [])))

csi-first : (cs ms : List ℕ) → Inner ms → scan ground (csi ms 109 ++ cs) ≡ sequence (csi ms 109) ∷ scan ground cs
unfolding encode
csi-first cs ms h = finishes cs ms (27 ∷ 91 ∷ []) h

gives-csi : (ms : List ℕ) → Inner ms → (more : List ℕ) → pieces (csi ms 109 ++ more) ≡ sequence (csi ms 109) ∷ pieces more
gives-csi ms h more =
    let low = ascii-csi ms h in
    ap (scan ground) (chars-append (csi ms 109) more (IsUtf8-from_ascii (csi ms 109) low) ∙ ap (λ l. l ++ chars more) (chars-IsAscii (csi ms 109) low)) ∙ csi-first (chars more) ms h

gives-letter : (c : ℕ) → eqb c 27 ≡ false → scalar c ≡ true → (more : List ℕ) → pieces (encode c ++ more) ≡ letter c ∷ pieces more
gives-letter c other sound more =
    let one : chars (encode c) ≡ c ∷ [] = ap chars (sym (append-nil (encode c))) ∙ chars-encodes (c ∷ []) (and_from (scalar c) true sound refl) in
    ap (scan ground) (chars-append (encode c) more (IsUtf8-encode c sound) ∙ ap (λ l. l ++ chars more) one)
    ∙ ap (λ b. cond b [] (letter c ∷ []) ++ scan (cond b (inside InEscape (27 ∷ [])) ground) (chars more)) other

gives_part : (p : Part) → Fine p → (more : List ℕ) → pieces (bytes p ++ more) ≡ p ∷ pieces more
gives_part (sequence bs) h more =
    let s = colours_told.sound bs h in
    let e = s.0 in
    ap (λ l. pieces (l ++ more)) e ∙ gives-csi (between bs) (inner-parameters (between bs) s.1) more ∙ ap (λ l. sequence l ∷ pieces more) (sym e)
gives_part (letter c) h more = gives-letter c (not-escape c h.0 (eqb c 27) refl) h.1 more

pub no_pieces : pieces [] ≡ []
unfolding chars
no_pieces = refl

-- fine pieces, joined, are read as those pieces
pub pieces-joined : (ps : List Part) → AllByRecursion Fine ps → pieces (joined ps) ≡ ps
pieces-joined [] h = no_pieces
pieces-joined (p ∷ ps) h = gives_part p h.0 (joined ps) ∙ ap (λ l. p ∷ l) (pieces-joined ps h.1)

-- the characters of a text are scalar values
abbrev Scalar : Part → Type 0
Scalar (sequence bs) = Unit {0}
Scalar (letter c) = scalar c ≡ true

scalars-done : (m : Mode) (c : ℕ) → scalar c ≡ true → (ps : List Part) → AllByRecursion Scalar ps → AllByRecursion Scalar (done m c ++ ps)
scalars-done ground c h ps a = elim (eqb c 27) as (λ b. AllByRecursion Scalar (cond b [] (letter c ∷ []) ++ ps)) [ true ↦ a | false ↦ (h, a) ]
scalars-done (inside s bs) c h ps a = elim (move s c) as (λ v. AllByRecursion Scalar (closed v (bs ++ encode c) ++ ps)) [ stop ↦ (tt, a) | to t ↦ a ]

scalars-rest : (m : Mode) → AllByRecursion Scalar (rest m)
scalars-rest ground = tt
scalars-rest (inside s bs) = (tt, tt)

scalars-scan : (cs : List ℕ) (m : Mode) → scalars cs ≡ true → AllByRecursion Scalar (scan m cs)
scalars-scan [] m h = scalars-rest m
scalars-scan (c ∷ cs) m h =
    let e = and_parts (scalar c) (scalars cs) h in
    scalars-done m c e.0 (scan (after m c) cs) (scalars-scan cs (after m c) e.1)

-- no piece of an accepted text is refused
abbrev Clean : Part → Type 0
Clean (sequence bs) = is_colour bs ≡ true
Clean (letter c) = is_barred c ≡ false

some≢none : {X : Type 0} (x : X) → ◌≡◌ {A = Option X} (Some x) None → ⊥
some≢none x e = let z : ◌≡◌ {A = ℕ} 0 1 = ap (λ o. elim o [ Some y ↦ 0 | None ↦ 1 ]) e in omega arith

when-none : {X : Type 0} (x : X) (b : Bool) → cond b None (Some x) ≡ None → b ≡ true
when-none x true e = refl
when-none x false e = absurd (some≢none x e)

unless-none : {X : Type 0} (x : X) (b : Bool) → cond b (Some x) None ≡ None → b ≡ false
unless-none x true e = absurd (some≢none x e)
unless-none x false e = refl

clean-part : (at : ℕ) (p : Part) → offence at p ≡ None → Clean p
clean-part at (sequence bs) h = when-none (NoColour at) (is_colour bs) h
clean-part at (letter c) h = unless-none (Control at) (is_barred c) h

or-else : (o q : Option Refusal) → or_else o q ≡ None → (o ≡ None) × (q ≡ None)
or-else None q e = (refl, e)
or-else (Some x) q e = absurd (some≢none x e)

clean-parts : (ps : List Part) (at : ℕ) → first_offence at ps ≡ None → AllByRecursion Clean ps
clean-parts [] at h = tt
clean-parts (p ∷ ps) at h =
    let e = or-else (offence at p) (first_offence (at + length (bytes p)) ps) h in
    (clean-part at p e.0, clean-parts ps (at + length (bytes p)) e.1)

fine-part : (p : Part) → Clean p → Scalar p → Fine p
fine-part (sequence bs) h s = h
fine-part (letter c) h s = (h, s)

fine-parts : (ps : List Part) → AllByRecursion Clean ps → AllByRecursion Scalar ps → AllByRecursion Fine ps
fine-parts [] h s = tt
fine-parts (p ∷ ps) h s = (fine-part p h.0 s.0, fine-parts ps h.1 s.1)

pub accepted-fine : (text : List ℕ) → Accepted text → AllByRecursion Fine (pieces text)
accepted-fine text a = fine-parts (pieces text) (clean-parts (pieces text) 0 a.clean) (scalars-scan (chars text) ground (scalars-chars text a.utf8))

-- and such pieces, joined, are an accepted text again
utf8-part : (p : Part) → Fine p → IsUtf8 (bytes p)
utf8-part (sequence bs) h =
    let s = colours_told.sound bs h in
    subst IsUtf8 (sym s.0) (IsUtf8-from_ascii (csi (between bs) 109) (ascii-csi (between bs) (inner-parameters (between bs) s.1)))
utf8-part (letter c) h = IsUtf8-encode c h.1

utf8-joined : (ps : List Part) → AllByRecursion Fine ps → IsUtf8 (joined ps)
utf8-joined [] h = IsUtf8-nil
utf8-joined (p ∷ ps) h = IsUtf8-append (bytes p) (joined ps) (utf8-part p h.0) (utf8-joined ps h.1)

taken-part : (at : ℕ) (p : Part) → Fine p → offence at p ≡ None
taken-part at (sequence bs) h = ap (λ b. cond b None (Some (NoColour at))) h
taken-part at (letter c) h = ap (λ b. cond b (Some (Control at)) None) h.0

taken-parts : (ps : List Part) (at : ℕ) → AllByRecursion Fine ps → first_offence at ps ≡ None
taken-parts [] at h = refl
taken-parts (p ∷ ps) at h =
    ap (λ o. or_else o (first_offence (at + length (bytes p)) ps)) (taken-part at p h.0) ∙ taken-parts ps (at + length (bytes p)) h.1

pub fine-accepted : (ps : List Part) → AllByRecursion Fine ps → Accepted (joined ps)
fine-accepted ps h = record { utf8 = utf8-joined ps h; clean = ap (first_offence 0) (pieces-joined ps h) ∙ taken-parts ps 0 h }
