-- Numbers written in decimal are read as those numbers.
use Rattle.std.proofs.Common.{◌≡◌, ℕ, ◌+◌, ◌-◌, ◌*◌, ◌/◌, ◌%◌, ◌^◌, ◌<◌, min, Bool, true, false, cond, ◌||◌, eqb, List, [], ◌∷◌, ◌++◌, length, get_or, decimal, refl, ap, ◌∙◌, append_assoc, arith}
use Rattle.std.specs.Char.{is_ascii_digit}
use Rattle.std.specs.List.{AllByRecursion}
use Rattle.std.proofs.lemmas.Fmt.{decimal_by_steps}
use Rattle.std.proofs.lemmas.Bool.{cond-false, ne_eqb, and_from, and_parts}
use Rattle.std.proofs.lemmas.Bool.Decides.{nat_tests}
use Rattle.pen.specs.Sequences.{parameters}
use Rattle.pen.specs.Pens.{numbers_from, numbers}
use Rattle.stream.specs.Bytes.{others, spelt}

-- one more digit
digit : (m d : ℕ) (more : List ℕ) → d < 10 → numbers_from m ((48 + d) ∷ more) ≡ numbers_from (m * 10 + d) more
digit m d more small =
    cond-false (eqb (48 + d) 59) _ _ (ne_eqb (48 + d) 59 (λ e. omega arith)) ∙ ap (λ n. numbers_from (m * 10 + n) more) (omega arith)

-- a number in decimal is read as that number, whatever follows
pub reads-decimal : (n : ℕ) → n < 2 ^ 64 → (more : List ℕ) → numbers_from 0 (decimal n ++ more) ≡ numbers_from n more
reads-decimal n small =
    decimal_by_steps
    (λ n ds. (more : List ℕ) → numbers_from 0 (ds ++ more) ≡ numbers_from n more)
    (λ n lt more. digit 0 n more lt ∙ ap (λ m. numbers_from m more) (omega arith))
    (λ n ds big h more.
    ap (numbers_from 0) (append_assoc ds ((48 + n % 10) ∷ []) more)
    ∙ h ((48 + n % 10) ∷ more)
    ∙ digit (n / 10) (n % 10) more (omega arith)
    ∙ ap (λ m. numbers_from m more) (omega arith))
    n small

reads-others : (n : ℕ) (ns : List ℕ) → AllByRecursion (λ m. m < 2 ^ 64) ns → numbers_from n (others ns) ≡ n ∷ ns
reads-others n [] h = refl
reads-others n (m ∷ ns) h = ap (λ l. n ∷ l) (reads-decimal m h.0 (others ns) ∙ reads-others m ns h.1)

-- numbers with semicolons between them are read as those numbers
pub reads-spelt : (ns : List ℕ) → 0 < length ns → AllByRecursion (λ m. m < 2 ^ 64) ns → numbers (spelt ns) ≡ ns
reads-spelt [] some h = absurd (omega arith)
reads-spelt (n ∷ ns) some h = reads-decimal n h.0 (others ns) ∙ reads-others n ns h.1

-- the first number of the bytes bs, of which n was read, in 16 bits; behind a semicolon nothing is added to it
abbrev pub read_first : Bool → ℕ → List ℕ → ℕ
read_first first n [] = n
read_first first n (b ∷ bs) = cond (eqb b 59) (read_first false n bs) (read_first first (cond first (min (n * 10 + (b - 48)) 65535) n) bs)

stays-read : (n : ℕ) (bs : List ℕ) → read_first false n bs ≡ n
stays-read n [] = refl
stays-read n (b ∷ bs) = elim (eqb b 59) as (λ v. cond v (read_first false n bs) (read_first false n bs) ≡ n) [ true ↦ stays-read n bs | false ↦ stays-read n bs ]

pub reads_first : (m : ℕ) (bs : List ℕ) → read_first true (min m 65535) bs ≡ min (get_or (numbers_from m bs) 0 0) 65535
reads_first m [] = refl
reads_first m (b ∷ bs) =
    let more : min (min m 65535 * 10 + (b - 48)) 65535 ≡ min (m * 10 + (b - 48)) 65535 = omega arith in
    elim (eqb b 59) as (λ v. cond v (read_first false (min m 65535) bs) (read_first true (min (min m 65535 * 10 + (b - 48)) 65535) bs) ≡ min (get_or (cond v (m ∷ numbers_from 0 bs) (numbers_from (m * 10 + (b - 48)) bs)) 0 0) 65535) [
      | true ↦ stays-read (min m 65535) bs
      | false ↦ ap (λ n. read_first true n bs) more ∙ reads_first (m * 10 + (b - 48)) bs
    ]

-- numbers in decimal are parameters
parameters-append : (xs ys : List ℕ) → parameters xs ≡ true → parameters ys ≡ true → parameters (xs ++ ys) ≡ true
parameters-append [] ys h g = g
parameters-append (x ∷ xs) ys h g =
    let b = and_parts (is_ascii_digit x || eqb x 59) (parameters xs) h in
    and_from (is_ascii_digit x || eqb x 59) (parameters (xs ++ ys)) b.0 (parameters-append xs ys b.1 g)

pub parameters-decimal : (n : ℕ) → n < 2 ^ 64 → parameters (decimal n) ≡ true
parameters-decimal n small =
    decimal_by_steps (λ n ds. parameters ds ≡ true)
    (λ n lt. grind (arith, nat_tests))
    (λ n ds big h. parameters-append ds ((48 + n % 10) ∷ []) h (grind (arith, nat_tests)))
    n small

parameters-others : (ns : List ℕ) → AllByRecursion (λ m. m < 2 ^ 64) ns → parameters (others ns) ≡ true
parameters-others [] h = refl
parameters-others (n ∷ ns) h = parameters-append (decimal n) (others ns) (parameters-decimal n h.0) (parameters-others ns h.1)

pub parameters-spelt : (ns : List ℕ) → AllByRecursion (λ m. m < 2 ^ 64) ns → parameters (spelt ns) ≡ true
parameters-spelt [] h = refl
parameters-spelt (n ∷ ns) h = parameters-append (decimal n) (others ns) (parameters-decimal n h.0) (parameters-others ns h.1)
