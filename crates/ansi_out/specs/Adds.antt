-- Bytes at the end of a Vec.
use Rattle.std.specs.Prelude.{◌≡◌, ℕ, ◌+◌, ◌≤◌, List, ◌++◌, length, vec_items, vec_len, vec_capacity, Vec}

-- so many bytes more are within the capacity
abbrev pub Room : {Z : Type 0} → Vec ℕ Z → List ℕ → Type 0
Room v bs = vec_len v + length bs ≤ vec_capacity v

-- v became w, by bs at the end, within its capacity
pub record Adds {Z : Type 0} (v w : Vec ℕ Z) (bs : List ℕ) : Type 0 where
  pub items : vec_items w ≡ vec_items v ++ bs
  pub len : vec_len w ≡ vec_len v + length bs
  pub capacity : vec_capacity w ≡ vec_capacity v
