-- The runs of a row lie one behind the other.
use Rattle.std.proofs.Common.{◌≡◌, ℕ, ◌-◌, ◌<◌, ◌≤◌, List, [], ◌∷◌, ◌++◌, length, get_or, take, drop, sym, refl, ap, ◌∙◌, arith}
use Rattle.std.specs.List.{slice_range}
use Rattle.std.proofs.lemmas.List.{append-nil, drop-append-le, length-take-le, take-append-drop, take-take}
use Rattle.std.proofs.lemmas.Slice.{between_is}
use Rattle.store.specs.Piles.{joined}
use Rattle.store.specs.Spans.{runs_at, RunsIn, Joins}
use Rattle.store.specs.declared.spans.Span.{Span}
use Rattle.store.proofs.Walking.{inside-later, joins-later}

-- two parts, one behind the other
parts_join : {X : Type 0} (xs : List X) (a b c : ℕ) → a ≤ b → b ≤ c → c ≤ length xs → drop a (take b xs) ++ drop b (take c xs) ≡ drop a (take c xs)
parts_join {X = X} xs a b c l m n =
    let t : take b (take c xs) ≡ take b xs = take-take b c xs m in
    let s : take b xs ++ drop b (take c xs) ≡ take c xs = ap (λ (ys : List X). ys ++ drop b (take c xs)) (sym t) ∙ take-append-drop b (take c xs) in
    let d = drop-append-le a (take b xs) (drop b (take c xs)) (omega (arith, length-take-le b xs (omega arith))) in
    sym d ∙ ap (drop a) s

abbrev last_of : Span → List Span → Span
last_of x [] = x
last_of x (y ∷ ss) = last_of y ss

last-read : (x : Span) (ss : List Span) (d : Span) → get_or (x ∷ ss) (length ss) d ≡ last_of x ss
last-read x [] d = refl
last-read x (y ∷ ss) d = last-read y ss d

module _ (bs : List ℕ) where
  -- from the first run's start to the last one's end
  record Joined (x : Span) (ss : List Span) : Type 0 where
    forward : x.from ≤ (last_of x ss).to
    inside : (last_of x ss).to ≤ length bs
    whole : joined (runs_at bs (x ∷ ss)) ≡ drop x.from (take (last_of x ss).to bs)

  lie_joined : (x : Span) (ss : List Span) → RunsIn (x ∷ ss) (length bs) → Joins (x ∷ ss) → Joined x ss
  lie_joined x [] h j = let i = h 0 x (omega arith) in record { forward = i.0; inside = i.1; whole = append-nil _ }
  lie_joined x (y ∷ ss) h j =
      let i = h 0 x (omega arith) in
      let r = lie_joined y ss (inside-later _ (y ∷ ss) x refl _ h) (joins-later _ (y ∷ ss) x refl j) in
      let q : y.from ≡ x.to = j 0 x (omega arith) in
      let p = parts_join bs x.from x.to (last_of y ss).to i.0 (omega (arith, r.forward)) r.inside in
      record {
        forward = omega (arith, r.forward);
        inside = r.inside;
        whole = ap (λ ts. drop x.from (take x.to bs) ++ ts) (r.whole ∙ ap (λ n. drop n (take (last_of y ss).to bs)) q) ∙ p;
      }

  -- where the first run is x, and the last one y
  pub ends_joined : (rs : List Span) → RunsIn rs (length bs) → Joins rs → (x y : Span) → 0 < length rs → ((d : Span) → x ≡ get_or rs 0 d) → ((d : Span) → y ≡ get_or rs (length rs - 1) d) → (x.from ≤ y.to) × (slice_range bs x.from y.to ≡ joined (runs_at bs rs))
  ends_joined [] h j x y l p q = absurd (omega arith)
  ends_joined (z ∷ ss) h j x y l p q =
      let r = lie_joined z ss h j in
      let e : x ≡ z = p z in
      let n : length (z ∷ ss) - 1 ≡ length ss = omega arith in
      let f : y ≡ last_of z ss = q z ∙ ap (λ k. get_or (z ∷ ss) k z) n ∙ last-read z ss z in
      rw (e, f) (r.forward, between_is bs z.from (last_of z ss).to ∙ sym r.whole)
