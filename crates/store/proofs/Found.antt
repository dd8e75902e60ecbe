-- How much a store's parts are.
use Rattle.std.proofs.Common.{◌≡◌, ℕ, ◌-◌, ltb, List, [], ◌∷◌, length, drop, vec_items, vec_len, string_bytes, string_len, sym, refl, ap, ◌∙◌, arith}
use Rattle.std.proofs.lemmas.List.{length-drop, length-map}
use Rattle.std.proofs.lemmas.Bool.{lt-ltb}
use Rattle.std.proofs.lemmas.Bool.Decides.{nat_tests}
use Rattle.layout.specs.Writing.{some}
use Rattle.store.specs.Piles.{bytes_of, runs_of}
use Rattle.store.specs.Spans.{run_at, row_at}
use Rattle.store.specs.Stores.{pile_of, all_runs}
use Rattle.store.specs.declared.store.Store.{Store}

some_is : {X : Type 0} (xs : List X) → ltb 0 (length xs) ≡ some xs
some_is [] = refl
some_is (x ∷ xs) = lt-ltb 0 (length (x ∷ xs)) (omega arith)

pub some-drop : {X : Type 0} (xs : List X) (i n : ℕ) → n ≡ length xs → ltb i n ≡ some (drop i xs)
some-drop xs i n e =
    let l = length-drop i xs in
    let a : ltb i n ≡ ltb 0 (length (drop i xs)) = grind (arith, nat_tests) in
    a ∙ some_is (drop i xs)

module _ (s : Store) where
  pub runs-count : length (all_runs s) ≡ vec_len s.runs
  runs-count = length-map (vec_items s.runs) (run_at (string_bytes s.bytes)) ∙ sym s.runs.ok.0

  pub rows-count : length (pile_of s).rows ≡ vec_len s.rows
  unfolding pile_of
  rows-count = length-map (vec_items s.rows) (row_at (all_runs s)) ∙ sym s.rows.ok.0

  pub bytes-held : bytes_of (pile_of s) ≡ string_len s.bytes
  unfolding pile_of
  bytes-held = s.sized.0 ∙ sym s.bytes.bytes.ok.0

  pub runs-held : runs_of (pile_of s) ≡ vec_len s.runs
  unfolding pile_of
  runs-held = s.sized.1 ∙ sym s.runs.ok.0

  pub open-count : length (pile_of s).runs ≡ vec_len s.runs - s.begins
  unfolding pile_of
  open-count = length-drop s.begins (all_runs s) ∙ ap (λ n. n - s.begins) runs-count
