-- The test for colour sequences tells them.
use Rattle.std.proofs.Common.{◌≡◌, ℕ, suc, ◌+◌, ◌-◌, Bool, true, ◌&&◌, eqb, leb, List, [], ◌∷◌, ◌++◌, length, get_or, take, sym, refl, ap, ◌∙◌, arith, length-append}
use lib.Seq.{take-append_seam}
use Rattle.std.proofs.lemmas.Bool.{and_parts, and_from, le-leb, eqb-true, false≢true}
use Rattle.pen.specs.Sequences.{csi, parameters, Colours, between, is_colour, ColoursTold}

length-csi : (ms : List ℕ) (last : ℕ) → length (csi ms last) ≡ length ms + 3
length-csi ms last = simp length-append (omega arith)

between-csi : (ms : List ℕ) (last : ℕ) → between (csi ms last) ≡ ms
between-csi ms last =
    let n : length (csi ms last) - 3 ≡ length ms = omega (arith, length-csi ms last) in
    ap (λ k. take k (ms ++ (last ∷ []))) n ∙ take-append_seam ms (last ∷ [])

at-end : (ms : List ℕ) (last : ℕ) → get_or (ms ++ (last ∷ [])) (length ms) 0 ≡ last
at-end [] last = refl
at-end (b ∷ ms) last = at-end ms last

final-csi : (ms : List ℕ) (last : ℕ) → get_or (csi ms last) (length (csi ms last) - 1) 0 ≡ last
final-csi ms last =
    let n : length (csi ms last) - 1 ≡ suc (suc (length ms)) = omega (arith, length-csi ms last) in
    ap (λ k. get_or (csi ms last) k 0) n ∙ at-end ms last

told-csi : (ms : List ℕ) → parameters ms ≡ true → is_colour (csi ms 109) ≡ true
told-csi ms h =
    and_from _ _ (le-leb 3 (length (csi ms 109)) (omega (arith, length-csi ms 109)))
    (and_from _ _ (ap (λ b. eqb b 109) (final-csi ms 109)) (ap parameters (between-csi ms 109) ∙ h))

-- a list by all but its last, and its last
snoc : (x : ℕ) (t : List ℕ) → x ∷ t ≡ take (length t) (x ∷ t) ++ (get_or (x ∷ t) (length t) 0 ∷ [])
snoc x [] = refl
snoc x (y ∷ t) = ap (λ l. x ∷ l) (snoc y t)

shape : (bs : List ℕ) → is_colour bs ≡ true → Colours (between bs) bs
shape [] h = absurd (false≢true h)
shape (a ∷ []) h = absurd (false≢true h)
shape (a ∷ b ∷ []) h = absurd (false≢true h)
shape (a ∷ b ∷ c ∷ t) h =
    let bs = a ∷ b ∷ c ∷ t in
    let ends : Bool = eqb (get_or (a ∷ b ∷ c ∷ t) (length (a ∷ b ∷ c ∷ t) - 1) 0) 109 in
    let inner : Bool = parameters (between (a ∷ b ∷ c ∷ t)) in
    let p = and_parts (leb 3 (length bs)) (eqb a 27 && (eqb b 91 && (ends && inner))) h in
    let q = and_parts (eqb a 27) (eqb b 91 && (ends && inner)) p.1 in
    let r = and_parts (eqb b 91) (ends && inner) q.1 in
    let s = and_parts ends inner r.1 in
    let m : length bs - 3 ≡ length t = omega arith in
    let n : length bs - 1 ≡ suc (suc (length t)) = omega arith in
    let front = ap (λ k. take k (c ∷ t)) (sym m) in
    let back = ap (λ k. get_or bs k 0) (sym n) ∙ eqb-true _ 109 s.0 in
    let first = eqb-true a 27 q.0 in
    let second = eqb-true b 91 r.0 in
    let rest = snoc c t ∙ (λ i. front i ++ (back i ∷ [])) in
    (λ i. first i ∷ second i ∷ rest i, s.1)

pub colours_told : ColoursTold
colours_told = record {
  sound = shape;
  complete = λ ms bs h. (ap is_colour h.0 ∙ told-csi ms h.1, ap between h.0 ∙ between-csi ms 109);
}
