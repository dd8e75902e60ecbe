-- Bytes added one after another.
use Rattle.std.proofs.Common.{◌≡◌, ℕ, zero, suc, ◌+◌, ◌<◌, ◌≤◌, eqb, List, [], ◌∷◌, ◌++◌, length, get_or, take, vec_items, decimal, Vec, sym, refl, ap, ◌∙◌, append_assoc, append-nil, arith, length-append}
use Rattle.std.proofs.lemmas.List.{take_more}
use Rattle.std.proofs.lemmas.Bool.{cond-false, ne_eqb}
use Rattle.pen.specs.Sequences.{csi}
use Rattle.stream.specs.Bytes.{others, moving}
use Rattle.ansi_out.specs.Adds.{Room, Adds}

module _ {Z : Type 0} where
  pub adds_none : (v : Vec ℕ Z) → Adds v v []
  adds_none v = record { items = sym (append-nil (vec_items v)); len = omega arith; capacity = refl }

  pub adds-join : {u v w : Vec ℕ Z} {a b : List ℕ} → Adds u v a → Adds v w b → Adds u w (a ++ b)
  adds-join {u} {v} {w} {a} {b} g h = record {
    items = h.items ∙ ap (λ l. l ++ b) g.items ∙ append_assoc (vec_items u) a b;
    len = simp length-append (omega arith);
    capacity = h.capacity ∙ g.capacity;
  }

  -- room for two texts is room for the first, and then for the second
  pub room-first : (v : Vec ℕ Z) (a b : List ℕ) → Room v (a ++ b) → Room v a
  room-first v a b h = omega (arith, length-append a b)

  pub room-then : {v w : Vec ℕ Z} (a b : List ℕ) → Room v (a ++ b) → Adds v w a → Room w b
  room-then a b h g = omega (arith, length-append a b)

-- numbers behind semicolons, one more
others-push : (ns : List ℕ) (n : ℕ) → others (ns ++ (n ∷ [])) ≡ others ns ++ (59 ∷ decimal n)
others-push [] n = ap (λ l. 59 ∷ l) (append-nil (decimal n))
others-push (m ∷ ns) n = ap (λ l. 59 ∷ (decimal m ++ l)) (others-push ns n) ∙ ap (λ l. 59 ∷ l) (sym (append_assoc (decimal m) (others ns) (59 ∷ decimal n)))

pub others-more : (ns : List ℕ) (i : ℕ) → i < length ns → others (take (i + 1) ns) ≡ others (take i ns) ++ (59 ∷ decimal (get_or ns i 0))
others-more ns i h = ap others (take_more ns i 0 h) ∙ others-push (take i ns) (get_or ns i 0)

-- and they are no more bytes than all
pub others-within : (ns : List ℕ) (i : ℕ) → i < length ns → length (others (take i ns)) + (1 + length (decimal (get_or ns i 0))) ≤ length (others ns)
others-within [] i h = absurd (omega arith)
others-within (n ∷ ns) zero h = simp length-append (omega arith)
others-within (n ∷ ns) (suc i) h = let more = others-within ns i (omega arith) in simp length-append (omega arith)

-- a move by a count that is not 0
pub moving-some : (n last : ℕ) → (n ≡ 0 → ⊥) → csi (decimal n) last ≡ moving n last
moving-some n last some = sym (cond-false (eqb n 0) [] (csi (decimal n) last) (ne_eqb n 0 some))
