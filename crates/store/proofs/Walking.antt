-- What is left behind the first of a row's runs, and behind the first row.
use Rattle.std.proofs.Common.{◌≡◌, ℕ, suc, ◌+◌, ◌<◌, List, ◌∷◌, length, drop, take, map, sym, ap, ◌∙◌, arith}
use Rattle.std.specs.List.{slice_range}
use Rattle.std.proofs.lemmas.List.{take_all, take-map, drop-map}
use Rattle.std.proofs.lemmas.Slice.{between_is}
use Rattle.layout.specs.Frames.{Run, Row}
use Rattle.store.specs.Spans.{run_at, runs_at, row_at, RunsIn, RowsIn, Cuts, Joins}
use Rattle.store.specs.declared.spans.RowSpan.{RowSpan}
use Rattle.store.specs.declared.spans.Span.{Span}

behind : {X : Type 0} (xs ys : List X) (x : X) → xs ≡ x ∷ ys → (k : ℕ) → k < length ys → suc k < length xs
behind xs ys x e k l = rw e (omega arith)

module _ (rs ss : List Span) (x : Span) (e : rs ≡ x ∷ ss) where
  pub inside-later : (n : ℕ) → RunsIn rs n → RunsIn ss n
  inside-later n h k d l = let g = h (suc k) d (behind rs ss x e k l) in rw e at g

  pub cuts-later : (bs : List ℕ) → Cuts bs rs → Cuts bs ss
  cuts-later bs h k d l = let g = h (suc k) d (behind rs ss x e k l) in rw e at g

  pub joins-later : Joins rs → Joins ss
  joins-later h k d l =
      let j : suc k + 1 ≡ suc (k + 1) = omega arith in
      let g = h (suc k) d (rw (j, e) (omega (arith, l))) in
      rw (j, e) at g

  pub run-first : (bs ts : List ℕ) → ts ≡ slice_range bs x.from x.to → runs_at bs rs ≡ record { text = ts; style = x.style } ∷ runs_at bs ss
  run-first bs ts is = rw e (ap (λ (us : List ℕ). record { text = us; style = x.style } ∷ runs_at bs ss) (sym (is ∙ between_is bs x.from x.to)))

pub lines-later : (ws vs : List RowSpan) (w : RowSpan) → ws ≡ w ∷ vs → (n : ℕ) → RowsIn ws n → RowsIn vs n
lines-later ws vs w e n h k d l = let g = h (suc k) d (behind ws vs w e k l) in rw e at g

-- A part of the runs, read, is that part of the runs read.
pub part-runs : (bs : List ℕ) (rs : List Span) (w : RowSpan) → ◌≡◌ {A = Row} (record { runs = runs_at bs (slice_range rs w.from w.to); width = w.width; hash = w.hash }) (row_at (runs_at bs rs) w)
part-runs bs rs w =
    let a = ap (map (run_at bs)) (between_is rs w.from w.to) in
    let b = drop-map (run_at bs) w.from (take w.to rs) in
    let c = ap (drop w.from) (take-map (run_at bs) w.to rs) in
    ap (λ (qs : List Run). record { runs = qs; width = w.width; hash = w.hash }) (a ∙ sym b ∙ sym c)

-- The runs from b on, read, are those behind the first b of all that are read.
pub runs-behind : (ts bs : List ℕ) → ts ≡ bs → (qs rs : List Span) → qs ≡ rs → (b : ℕ) → runs_at ts (slice_range qs b (length qs)) ≡ drop b (runs_at bs rs)
runs-behind ts bs e qs rs f b =
    let a = between_is qs b (length qs) ∙ ap (drop b) (take_all (length qs) qs (omega arith)) in
    ap (map (run_at ts)) a ∙ sym (drop-map (run_at ts) b qs) ∙ (λ i. drop b (runs_at (e i) (f i)))
