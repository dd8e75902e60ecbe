-- Where a text may be cut.
use Rattle.std.proofs.Common.{◌≡◌, ℕ, ◌+◌, ◌<◌, ◌≤◌, true, ◌⊎◌, List, ◌++◌, length, get_or, IsUtf8, refl, inl, inr, arith}
use Rattle.std.specs.Str.{IsCharBoundary}
use Rattle.std.proofs.lemmas.List.{get_or_append_left, length-append}
use Rattle.std.proofs.lemmas.Bool.{cases_lt}
use Rattle.std.proofs.lemmas.Str.{IsCharBoundary-at_seam}
use Rattle.std.proofs.lemmas.Bool.Decides.{nat_tests}
use Rattle.store.specs.Spans.{cut}

pub boundary-from-cut : (bs : List ℕ) (i : ℕ) → i ≤ length bs → cut bs i ≡ true → IsCharBoundary bs i
boundary-from-cut bs i l h = (l, λ m n. grind (arith, nat_tests))

cut-from-boundary : (bs : List ℕ) (i : ℕ) → IsCharBoundary bs i → cut bs i ≡ true
cut-from-boundary bs i h = elim (cases_lt i (length bs)) [ inl l ↦ inside l (cases_lt (get_or bs i 0) 128) | inr l ↦ grind (arith, nat_tests) ]
  where
    inside : i < length bs → (get_or bs i 0 < 128) ⊎ (128 ≤ get_or bs i 0) → cut bs i ≡ true
    inside l (inl a) = grind (arith, nat_tests)
    inside l (inr a) = let b : 192 ≤ get_or bs i 0 = h.1 l a in grind (arith, nat_tests)

pub cut-end : (bs : List ℕ) (n : ℕ) → n ≡ length bs → cut bs n ≡ true
cut-end bs n e = grind (arith, nat_tests)

-- more text behind
pub cut-grow : (bs cs : List ℕ) (i : ℕ) → IsUtf8 cs → i ≤ length bs → cut bs i ≡ true → cut (bs ++ cs) i ≡ true
cut-grow bs cs i u l h = elim (cases_lt i (length bs)) [
  | inl m ↦ (let e : get_or (bs ++ cs) i 0 ≡ get_or bs i 0 = get_or_append_left bs cs 0 i m in
      let n : length (bs ++ cs) ≡ length bs + length cs = length-append bs cs in
      grind (arith, nat_tests))
  | inr m ↦ (let e : i ≡ length bs = omega arith in rw e (cut-from-boundary (bs ++ cs) (length bs) (IsCharBoundary-at_seam (bs ++ cs) bs cs refl u)))
]
