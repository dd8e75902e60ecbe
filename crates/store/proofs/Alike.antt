-- When the items of two iterators are equal, and when two rows are.
use Rattle.std.proofs.Common.{◌≡◌, ℕ, Bool, true, false, List, [], ◌∷◌, ◌++◌, map, length, Some, None, nat_eq, ◌&&◌, Decides, sym, refl, ap, ◌∙◌, arith, length-append}
use Rattle.std.specs.Iterator.{YieldsFirstBy, Yields, ComparesItemsByEq}
use Rattle.std.specs.List.{AllZip}
use Rattle.std.proofs.lemmas.Bool.{both_ways}
use Rattle.std.proofs.lemmas.Bool.Decides.{Decides-and}
use Rattle.std.specs.Borrow.{Bor}
use Rattle.std.specs.Cmp.Lexicographic.{pointwise, bytes_decides}
use Rattle.style.specs.declared.style.StyleSheet.{StyleSheet}
use Rattle.style.specs.Equality.{same_style}
use Rattle.style.specs.Deciding.{styles_decide}
use Rattle.layout.specs.Frames.{Run}
use Rattle.store.specs.Walks.{run_of}

-- lists with equal beginnings and then other elements
parting : {B : Type 0} (xs ys us vs : List B) (u v : B) → length xs ≡ length ys → xs ++ u ∷ us ≡ ys ++ v ∷ vs → u ≡ v
parting [] [] us vs u v l e = cc
parting [] (y ∷ ys) us vs u v l e = absurd (omega arith)
parting (x ∷ xs) [] us vs u v l e = absurd (omega arith)
parting (x ∷ xs) (y ∷ ys) us vs u v l e = parting xs ys us vs u v (omega arith) (cc)

pub never : {P : Type 0} (r : Bool) → r ≡ false → (P → ⊥) → Decides r P
never r e h = ((λ q. absurd (both_ways r e q)), (λ p. absurd (h p)))

module _ {S A B : Type 0} (v : A → B) (rest : S → List B) where
  -- what was given, and what is left
  given : (s : S) (xs : List A) (t : S) → Yields (YieldsFirstBy v rest) s xs t → rest s ≡ map v xs ++ rest t
  given s [] t h = ap rest h
  given s (x ∷ xs) t h = let b = given h.0 xs t h.2 in h.1 ∙ ap (λ bs. v x ∷ bs) b

  module _ (eq : A → A → Bool) (decides : (x y : A) → Decides (eq x y) (v x ≡ v y)) where
    zipped : (xs ys : List A) → AllZip (λ x y. eq x y ≡ true) xs ys → map v xs ≡ map v ys
    zipped [] [] h = refl
    zipped [] (y ∷ ys) h = elim h [ ]
    zipped (x ∷ xs) [] h = elim h [ ]
    zipped (x ∷ xs) (y ∷ ys) h = let a : v x ≡ v y = (decides x y).0 h.0 in let b = zipped xs ys h.1 in cc

    -- what the last calls gave
    module _ (s o it t w : S) (xs ys : List A) (b : it ≡ o) (f : Yields (YieldsFirstBy v rest) s xs t) (g : Yields (YieldsFirstBy v rest) it ys w) (z : AllZip (λ x y. eq x y ≡ true) xs ys) where
      ours : rest s ≡ map v xs ++ rest t
      ours = given s xs t f

      theirs : rest o ≡ map v xs ++ rest w
      theirs = ap rest (sym b) ∙ given it ys w g ∙ ap (λ vs. vs ++ rest w) (sym (zipped xs ys z))

      both : rest t ≡ rest w → rest s ≡ rest o
      both e = ours ∙ ap (λ vs. map v xs ++ vs) e ∙ sym theirs

      behind : rest s ≡ rest o → map v xs ++ rest t ≡ map v xs ++ rest w
      behind e = sym ours ∙ e ∙ theirs

      lengths : rest s ≡ rest o → length (rest t) ≡ length (rest w)
      lengths e =
          let l = ap length (behind e) in
          let m = length-append (map v xs) (rest t) in
          let n = length-append (map v xs) (rest w) in
          omega arith

      firsts : (x y : B) (us vs : List B) → rest t ≡ x ∷ us → rest w ≡ y ∷ vs → rest s ≡ rest o → x ≡ y
      firsts x y us vs p q e = parting (map v xs) (map v xs) us vs x y refl (ap (λ bs. map v xs ++ bs) (sym p) ∙ behind e ∙ ap (λ bs. map v xs ++ bs) q)

    pub items_decided : (s o : S) (r : Bool) → ComparesItemsByEq (YieldsFirstBy v rest) (λ a b. b ≡ a) (YieldsFirstBy v rest) s o eq r → Decides r (rest s ≡ rest o)
    items_decided s o r (it, xs, ys, None, None, u, w, b, (t, f, m), (k, g, n), z, e) = ((λ _. both s o it t k xs ys b f g z (m.0 ∙ sym n.0)), (λ _. e))
    items_decided s o r (it, xs, ys, None, Some y, u, w, b, (t, f, m), (k, g, n), z, e) = never r e (λ p. let l = lengths s o it t k xs ys b f g z p in omega (arith, l, ap length m.0, ap length n))
    items_decided s o r (it, xs, ys, Some x, None, u, w, b, (t, f, m), (k, g, n), z, e) = never r e.0 (λ p. let l = lengths s o it t k xs ys b f g z p in omega (arith, l, ap length m, ap length n.0))
    items_decided s o r (it, xs, ys, Some x, Some y, u, w, b, (t, f, m), (k, g, n), z, e) = never r e.0 (λ p. both_ways (eq x y) e.1 ((decides x y).1 (firsts s o it t k xs ys b f g z (v x) (v y) (rest u) (rest w) m n p)))

-- The test of a text and a style decides whether the runs are equal.
pub run_decided : (x y : Bor (List ℕ) × StyleSheet) → Decides (pointwise nat_eq x.0.now y.0.now && same_style x.1 y.1) (run_of x ≡ run_of y)
run_decided x y =
    let h = Decides-and _ _ (bytes_decides x.0.now y.0.now) (styles_decide x.1 y.1) in
    ((λ e. let p = h.0 e in λ i. record { text = p.0 i; style = p.1 i }), (λ e. h.1 (ap (λ (r : Run). r.text) e, ap (λ (r : Run). r.style) e)))
