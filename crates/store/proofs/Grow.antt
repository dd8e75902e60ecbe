-- What each step makes of the parts of a store.
use Rattle.std.proofs.Common.{◌≡◌, ℕ, suc, ◌+◌, ◌<◌, ◌≤◌, true, ◌&&◌, List, [], ◌∷◌, ◌++◌, map, length, get_or, drop, vec_items, string_bytes, IsUtf8, sym, refl, ap, ◌∙◌, inl, inr, arith}
use Rattle.std.proofs.lemmas.List.Elements.{AllWithin-push}
use Rattle.std.proofs.lemmas.List.{take-append-le, drop-append-le, take_all, drop_all, map_push, length_push, length-append, length-map, get_or_append_left, get_or_push}
use Rattle.std.proofs.lemmas.Bool.{and_parts, and_from, cases_lt}
use Rattle.style.specs.declared.style.StyleSheet.{StyleSheet}
use Rattle.layout.specs.Frames.{Run}
use Rattle.layout.specs.Limits.{bytes_of_runs, bytes_of_rows, runs_of_rows}
use Rattle.store.specs.Piles.{empty, bytes_of, runs_of, put_text, end_run, end_row}
use Rattle.store.specs.Spans.{run_at, runs_at, row_at, pile_at, cut, Opens, RunsIn, RowsIn, Cuts, Joins, Ends, Sized}
use Rattle.store.specs.declared.spans.Span.{Span}
use Rattle.store.specs.declared.spans.RowSpan.{RowSpan}
use Rattle.store.specs.declared.store.Store.{Store}
use Rattle.store.proofs.Cutting.{cut-end, cut-grow}
use Rattle.store.proofs.Sizes.{put-bytes, run-bytes, run-runs, row-bytes, row-runs}

map_same : {X Y : Type 0} (f g : X → Y) (xs : List X) → ((k : ℕ) (d : X) → k < length xs → f (get_or xs k d) ≡ g (get_or xs k d)) → map f xs ≡ map g xs
map_same f g [] h = refl
map_same f g (x ∷ xs) h =
    let a : f x ≡ g x = h 0 x (omega arith) in
    let b : map f xs ≡ map g xs = map_same f g xs (λ k d l. h (suc k) d (omega arith)) in
    cc

-- parts that lie inside read the same from a longer list
runs_grow : (bs cs : List ℕ) (rs : List Span) → RunsIn rs (length bs) → runs_at (bs ++ cs) rs ≡ runs_at bs rs
runs_grow bs cs rs h =
    map_same (run_at (bs ++ cs)) (run_at bs) rs (λ k d l. ap (λ (t : List ℕ). record { text = drop (get_or rs k d).from t; style = (get_or rs k d).style }) (take-append-le (get_or rs k d).to bs cs (h k d l).1))

rows_grow : (rs ss : List Run) (ws : List RowSpan) → RowsIn ws (length rs) → map (row_at (rs ++ ss)) ws ≡ map (row_at rs) ws
rows_grow rs ss ws h =
    map_same (row_at (rs ++ ss)) (row_at rs) ws (λ k d l. ap (λ (t : List Run). record { runs = drop (get_or ws k d).from t; width = (get_or ws k d).width; hash = (get_or ws k d).hash }) (take-append-le (get_or ws k d).to rs ss (h k d l).1))

-- what the ghost fields say
pub record Sound (bs : List ℕ) (rs : List Span) (ws : List RowSpan) (b s : ℕ) : Type 0 where
  pub opens : Opens bs rs b s
  pub spans : RunsIn rs (length bs)
  pub lines : RowsIn ws (length rs)
  pub cuts : Cuts bs rs
  pub joins : Joins rs
  pub ends : Ends rs s
  pub sized : Sized bs rs ws b s

pub sound : (f : Store) → Sound (string_bytes f.bytes) (vec_items f.runs) (vec_items f.rows) f.begins f.starts
sound f = record { opens = f.opens; spans = f.spans; lines = f.lines; cuts = f.cuts; joins = f.joins; ends = f.ends; sized = f.sized }

pub empty-pile : (bs : List ℕ) (rs : List Span) (ws : List RowSpan) → bs ≡ [] → rs ≡ [] → ws ≡ [] → pile_at bs rs ws 0 0 ≡ empty
empty-pile bs rs ws e f g = rw (e, f, g)

pub empty-kept : (bs : List ℕ) (rs : List Span) (ws : List RowSpan) → bs ≡ [] → rs ≡ [] → ws ≡ [] → Sound bs rs ws 0 0
unfolding bytes_of_runs bytes_of_rows runs_of_rows
empty-kept bs rs ws e f g =
    rw (e, f, g) (record {
      opens = (omega arith, omega arith, refl);
      spans = (λ k d l. absurd (omega arith));
      lines = (λ k d l. absurd (omega arith));
      cuts = (λ k d l. absurd (omega arith));
      joins = (λ k d l. absurd (omega arith));
      ends = (λ k d l. absurd (omega arith));
      sized = (refl, refl);
    })

module _ (bs : List ℕ) (rs : List Span) (ws : List RowSpan) (b s : ℕ) (ok : Sound bs rs ws b s) where
  module _ (cs bs' : List ℕ) (e : bs' ≡ bs ++ cs) where
    pub put-pile : pile_at bs' rs ws b s ≡ put_text cs (pile_at bs rs ws b s)
    put-pile =
        let r = runs_grow bs cs rs ok.spans in
        let d = drop-append-le s bs cs ok.opens.0 in
        rw e (rw (r, d))

    put-cuts : IsUtf8 cs → Cuts (bs ++ cs) rs
    put-cuts u k d l =
        let h = and_parts _ _ (ok.cuts k d l) in
        and_from _ _ (cut-grow bs cs _ u (omega (arith, ok.spans k d l)) h.0) (cut-grow bs cs _ u (ok.spans k d l).1 h.1)

    pub put-kept : IsUtf8 cs → Sound bs' rs ws b s
    put-kept u =
        let n : length (bs ++ cs) ≡ length bs + length cs = length-append bs cs in
        let m : length bs' ≡ length bs + length cs = ap length e ∙ n in
        let p = pile_at bs rs ws b s in
        let z : Sized bs' rs ws b s = (omega (arith, ap bytes_of put-pile, put-bytes cs p, ok.sized.0), ap runs_of put-pile ∙ ok.sized.1) in
        record {
          opens = (omega (arith, ok.opens.0), ok.opens.1, rw e (cut-grow bs cs s u ok.opens.0 ok.opens.2));
          spans = (λ k d l. ((ok.spans k d l).0, omega (arith, (ok.spans k d l).1)));
          lines = ok.lines;
          cuts = rw e (put-cuts u);
          joins = ok.joins;
          ends = ok.ends;
          sized = z;
        }

  module _ (y : StyleSheet) (n : ℕ) (rs' : List Span) (m : n ≡ length bs) (e : rs' ≡ rs ++ record { from = s; to = n; style = y } ∷ []) where
    abbrev new : Span
    new = record { from = s; to = n; style = y }

    pub run-pile : pile_at bs rs' ws b n ≡ end_run y (pile_at bs rs ws b s)
    run-pile =
        let a = map_push (run_at bs) rs new in
        let j = length-map rs (run_at bs) in
        let l = rows_grow (runs_at bs rs) (run_at bs new ∷ []) ws (λ k d h. ((ok.lines k d h).0, omega (arith, (ok.lines k d h).1))) in
        let d = drop-append-le b (runs_at bs rs) (run_at bs new ∷ []) (omega (arith, ok.opens.1)) in
        let t = take_all n bs (omega arith) in
        let z = drop_all n bs (omega arith) in
        rw e (rw (a, l, d, t, z))

    run-spans : RunsIn (rs ++ new ∷ []) (length bs)
    run-spans k d l = AllWithin-push (λ (r : Span). (r.from ≤ r.to) × (r.to ≤ length bs)) rs new (λ k d l h. ok.spans k d h) (omega (arith, ok.opens.0), omega arith) k d (omega arith) l

    run-cuts : Cuts bs (rs ++ new ∷ [])
    run-cuts k d l = AllWithin-push (λ (r : Span). cut bs r.from && cut bs r.to ≡ true) rs new (λ k d l h. ok.cuts k d h) (and_from _ _ ok.opens.2 (cut-end bs n m)) k d (omega arith) l

    run-joins : Joins (rs ++ new ∷ [])
    run-joins k d l =
        let q = length_push rs new in
        let a : get_or (rs ++ new ∷ []) k d ≡ get_or rs k d = get_or_append_left rs (new ∷ []) d k (omega arith) in
        elim (cases_lt (k + 1) (length rs)) [
          | inl h ↦ ap (λ (r : Span). r.from) (get_or_append_left rs (new ∷ []) d (k + 1) h) ∙ ok.joins k d h ∙ sym (ap (λ (r : Span). r.to) a)
          | inr h ↦ ap (λ (r : Span). r.from) (get_or_push rs new d (k + 1) (omega arith)) ∙ sym (ok.ends k d (omega arith)) ∙ sym (ap (λ (r : Span). r.to) a)
        ]

    run_ends : Ends (rs ++ new ∷ []) n
    run_ends k d l = ap (λ (r : Span). r.to) (get_or_push rs new d k (omega (arith, length_push rs new)))

    pub run-kept : Sound bs rs' ws b n
    run-kept =
        let j : length rs' ≡ length rs + 1 = ap length e ∙ length_push rs new in
        let p = pile_at bs rs ws b s in
        let z : Sized bs rs' ws b n = (ap bytes_of run-pile ∙ run-bytes y p ∙ ok.sized.0, omega (arith, ap runs_of run-pile, run-runs y p, ok.sized.1)) in
        record {
          opens = (omega arith, omega (arith, ok.opens.1), cut-end bs n m);
          spans = rw e run-spans;
          lines = (λ k d l. ((ok.lines k d l).0, omega (arith, (ok.lines k d l).1)));
          cuts = rw e run-cuts;
          joins = rw e run-joins;
          ends = rw e run_ends;
          sized = z;
        }

  module _ (w h n : ℕ) (ws' : List RowSpan) (m : n ≡ length rs) (e : ws' ≡ ws ++ record { from = b; to = n; width = w; hash = h } ∷ []) where
    abbrev made : RowSpan
    made = record { from = b; to = n; width = w; hash = h }

    pub row-pile : pile_at bs rs ws' n s ≡ end_row w h (pile_at bs rs ws b s)
    row-pile =
        let a = map_push (row_at (runs_at bs rs)) ws made in
        let j = length-map rs (run_at bs) in
        let t = take_all n (runs_at bs rs) (omega arith) in
        let z = drop_all n (runs_at bs rs) (omega arith) in
        rw e (rw (a, t, z))

    row-lines : RowsIn (ws ++ made ∷ []) (length rs)
    row-lines k d l = AllWithin-push (λ (r : RowSpan). (r.from ≤ r.to) × (r.to ≤ length rs)) ws made (λ k d l h. ok.lines k d h) (omega (arith, ok.opens.1), omega arith) k d (omega arith) l

    pub row_kept : Sound bs rs ws' n s
    row_kept =
        let p = pile_at bs rs ws b s in
        let z : Sized bs rs ws' n s = (ap bytes_of row-pile ∙ row-bytes w h p ∙ ok.sized.0, ap runs_of row-pile ∙ row-runs w h p ∙ ok.sized.1) in
        record {
          opens = (ok.opens.0, omega arith, ok.opens.2);
          spans = ok.spans;
          lines = rw e row-lines;
          cuts = ok.cuts;
          joins = ok.joins;
          ends = ok.ends;
          sized = z;
        }
