-- Digits that are written pair by pair.
use Rattle.std.proofs.Common.{◌≡◌, ℕ, ◌+◌, ◌/◌, ◌%◌, ◌<◌, true, false, eqb, List, [], ◌∷◌, ◌++◌, length, get_or, take, is_ok, Result, sym, refl, ap, ◌∙◌, true≢false, append_assoc, arith}
use lib.Utf8.{encode}
use Rattle.hexadecimal.specs.Hex.{digit_of, digits_of, hex_of}
use Rattle.std.proofs.lemmas.Str.Ascii.{encode_ascii}
use Rattle.std.proofs.lemmas.List.{take_more, take_all}
use Rattle.std.proofs.lemmas.Bool.Decides.{nat_tests}
use Rattle.std.proofs.Output.{has_written_append, has_written_of_eq}
use Rattle.std.specs.declared.fmt.Error.{Error}
use Rattle.std.specs.declared.fmt.Formatter.{Formatter}
use Rattle.std.specs.Fmt.{HasWritten, WritesOnOk}

pub digits_append : (xs ys : List ℕ) → digits_of (xs ++ ys) ≡ digits_of xs ++ digits_of ys
digits_append [] ys = refl
digits_append (x ∷ xs) ys = ap (λ (l : List ℕ). digit_of (x / 16) ∷ digit_of (x % 16) ∷ l) (digits_append xs ys)

-- a digit is one byte of text
digit-encoded : (n c : ℕ) → c ≡ digit_of n → n < 16 → encode c ≡ digit_of n ∷ []
digit-encoded n c e h = let below : digit_of n < 128 = grind (arith, nat_tests) in ap encode e ∙ encode_ascii (digit_of n) below

module _ (bs : List ℕ) (i : ℕ) (inside : i < length bs) (fits : get_or bs i 0 < 256) where
  digits_more : (upper lower : ℕ) → upper ≡ digit_of (get_or bs i 0 / 16) → lower ≡ digit_of (get_or bs i 0 % 16)
      → (digits_of (take i bs) ++ encode upper) ++ encode lower ≡ digits_of (take (i + 1) bs)
  digits_more upper lower u l =
      let eu = digit-encoded (get_or bs i 0 / 16) upper u (omega arith) in
      let el = digit-encoded (get_or bs i 0 % 16) lower l (omega arith) in
      let more = take_more bs i 0 inside in
      let pushed = digits_append (take i bs) (get_or bs i 0 ∷ []) in
      let joined = append_assoc (digits_of (take i bs)) (encode upper) (encode lower) in
      cc

  -- one byte more
  pub byte_put : {W : Type 0} (took : W → List ℕ → W → Type 0) (f₀ f₁ f₂ f₃ : Formatter W) (r s : Result (Unit {0}) Error) (upper lower : ℕ)
      → upper ≡ digit_of (get_or bs i 0 / 16) → lower ≡ digit_of (get_or bs i 0 % 16) → is_ok r ≡ true → is_ok s ≡ true
      → WritesOnOk took f₁ r (encode upper) f₂ → WritesOnOk took f₂ s (encode lower) f₃
      → HasWritten took f₀ (digits_of (take i bs)) f₁ → HasWritten took f₀ (digits_of (take (i + 1) bs)) f₃
  byte_put took f₀ f₁ f₂ f₃ r s upper lower u l ok ok' first second so_far =
      let a = first so_far.plain ok in
      let b = second a.plain ok' in
      has_written_of_eq took f₀ _ _ f₃ (digits_more upper lower u l)
      (has_written_append took f₀ _ f₂ _ f₃ (has_written_append took f₀ _ f₁ _ f₂ so_far a) b)

hex_of-digits : (bs : List ℕ) → false ≡ eqb (length bs) 0 → digits_of bs ≡ hex_of bs
hex_of-digits [] e = absurd (true≢false (sym e))
hex_of-digits (b ∷ bs) e = refl

-- all that there are
pub all-put : {W : Type 0} (took : W → List ℕ → W → Type 0) (f₀ f₁ : Formatter W) (bs : List ℕ) (i : ℕ)
    → false ≡ eqb (length bs) 0 → length bs ≡ i → HasWritten took f₀ (digits_of (take i bs)) f₁ → HasWritten took f₀ (hex_of bs) f₁
all-put took f₀ f₁ bs i some end so_far =
    has_written_of_eq took f₀ _ _ f₁ (ap digits_of (take_all i bs (omega arith)) ∙ hex_of-digits bs some) so_far
