-- What the numbers of a colour sequence mean, and that large ones need no more than 16 bits.
use Rattle.std.proofs.Common.{◌≡◌, ℕ, ◌+◌, ◌-◌, ◌*◌, ◌<◌, min, Bool, true, false, cond, ◌&&◌, eqb, leb, List, [], ◌∷◌, length, get_or, drop, add-one, drop-cons, Some, sym, refl, ap, ◌∙◌, inl, inr, arith}
use Rattle.std.proofs.lemmas.Bool.{cases_Bool, leb-true, leb-false}
use Rattle.std.proofs.lemmas.Bool.Decides.{nat_tests}
use Rattle.style.specs.declared.color.Color.TheVariants.{AnsiValue, Rgb}
use Rattle.style.specs.declared.style.StyleSheet.{StyleSheet}
use Rattle.pen.specs.declared.pen.Side.{Side}
use Rattle.pen.specs.declared.pen.Side.TheVariants.{Fore, Back}
use Rattle.pen.specs.declared.pen.Expect.TheVariants.{Code, Form, Index, Red, Green, Blue, Dropped}
use Rattle.pen.specs.declared.pen.Expect.{Expect}
use Rattle.pen.specs.declared.pen.Pen.{Pen}
use Rattle.pen.specs.Pens.{painted, coded, pen, told_at, told, told_all, after, numbers_from, introduces, NumbersSteer}

-- once dropped, the rest of the numbers leaves the style
dropped : (s : StyleSheet) (ns : List ℕ) → (told_all (pen s Dropped) ns).style ≡ s
dropped s [] = refl
dropped s (n ∷ ns) = dropped s ns

waits : (s : StyleSheet) (side : Side) → told_at Code s (introduces side) ≡ pen s (Form side)
waits s Fore = refl
waits s Back = refl

-- after the number that introduces an extended colour
introduced : (s : StyleSheet) (side : Side) (ns : List ℕ) → after s (introduces side ∷ ns) ≡ (told_all (pen s (Form side)) ns).style
introduced s side ns = ap (λ p. (told_all p ns).style) (waits s side)

-- a number of at most 255 goes on, another drops the rest
narrow : (b : Bool) (s : StyleSheet) (p : Pen) (ns : List ℕ) → (told_all (cond b p (pen s Dropped)) ns).style ≡ cond b (told_all p ns).style s
narrow true s p ns = refl
narrow false s p ns = dropped s ns

alone : (s : StyleSheet) (n : ℕ) (ns : List ℕ) → eqb n 38 ≡ false → eqb n 48 ≡ false → after s (n ∷ ns) ≡ after (coded s n) ns
alone s n ns e f = ap (λ b. (told_all (cond b (pen s (Form Fore)) (cond (eqb n 48) (pen s (Form Back)) (pen (coded s n) Code))) ns).style) e ∙ ap (λ b. (told_all (cond b (pen s (Form Back)) (pen (coded s n) Code)) ns).style) f

other : (s : StyleSheet) (side : Side) (n : ℕ) (ns : List ℕ) → eqb n 5 ≡ false → eqb n 2 ≡ false → (told_all (pen s (Form side)) (n ∷ ns)).style ≡ s
other s side n ns e f = ap (λ b. (told_all (cond b (pen s (Index side)) (cond (eqb n 2) (pen s (Red side)) (pen s Dropped))) ns).style) e ∙ ap (λ b. (told_all (cond b (pen s (Red side)) (pen s Dropped)) ns).style) f ∙ dropped s ns

cond_same : (b : Bool) (s : StyleSheet) → cond b s s ≡ s
cond_same true s = refl
cond_same false s = refl

two-parts : (s : StyleSheet) (side : Side) (r g : ℕ) (v : Bool) → leb r 255 ≡ v → (told_all (pen s (Red side)) (r ∷ g ∷ [])).style ≡ s
two-parts s side r g true e = ap (λ v. (told (cond v (pen s (Green side r)) (pen s Dropped)) g).style) e ∙ narrow (leb g 255) s (pen s (Blue side r g)) [] ∙ cond_same (leb g 255) s
two-parts s side r g false e = ap (λ v. (told (cond v (pen s (Green side r)) (pen s Dropped)) g).style) e

-- three numbers, of which the first that is too large drops the rest
module _ (s : StyleSheet) (side : Side) (r g b : ℕ) (ns : List ℕ) where
  green : (v : Bool) → leb r 255 ≡ v → (told_all (pen s (Red side)) (r ∷ g ∷ b ∷ ns)).style ≡ (told_all (told (told (cond v (pen s (Green side r)) (pen s Dropped)) g) b) ns).style
  green v e = ap (λ v. (told_all (told (told (cond v (pen s (Green side r)) (pen s Dropped)) g) b) ns).style) e

  blue : (v : Bool) → leb g 255 ≡ v → (told_all (pen s (Green side r)) (g ∷ b ∷ ns)).style ≡ (told_all (told (cond v (pen s (Blue side r g)) (pen s Dropped)) b) ns).style
  blue v e = ap (λ v. (told_all (told (cond v (pen s (Blue side r g)) (pen s Dropped)) b) ns).style) e

  parts : (x y : Bool) → leb r 255 ≡ x → leb g 255 ≡ y → (told_all (pen s (Red side)) (r ∷ g ∷ b ∷ ns)).style ≡ cond (x && (y && leb b 255)) (after (painted side (Some (Rgb r g b)) s) ns) s
  parts false y e f = green false e ∙ dropped s ns
  parts true false e f = green true e ∙ blue false f ∙ dropped s ns
  parts true true e f = green true e ∙ blue true f ∙ narrow (leb b 255) s (pen (painted side (Some (Rgb r g b)) s) Code) ns

pub numbers_steer : NumbersSteer
numbers_steer = record {
  none = λ s. refl;
  alone = alone;
  indexed = λ s side n ns. introduced s side (5 ∷ n ∷ ns) ∙ narrow (leb n 255) s (pen (painted side (Some (AnsiValue n)) s) Code) ns;
  direct = λ s side r g b ns. introduced s side (2 ∷ r ∷ g ∷ b ∷ ns) ∙ parts s side r g b ns (leb r 255) (leb g 255) refl refl;
  cut = λ s side. introduced s side [];
  cut5 = λ s side. introduced s side (5 ∷ []);
  cut2 = λ s side. introduced s side (2 ∷ []);
  cut2r = λ s side r. introduced s side (2 ∷ r ∷ []) ∙ narrow (leb r 255) s (pen s (Green side r)) [] ∙ cond_same (leb r 255) s;
  cut2g = λ s side r g. introduced s side (2 ∷ r ∷ g ∷ []) ∙ two-parts s side r g (leb r 255) refl;
  other = λ s side n ns e f. introduced s side (n ∷ ns) ∙ other s side n ns e f;
}

-- a number above 255 does nothing, or drops the rest
abbrev large : Expect → Expect
large Code = Code
large (Form side) = Dropped
large (Index side) = Dropped
large (Red side) = Dropped
large (Green side r) = Dropped
large (Blue side r g) = Dropped
large Dropped = Dropped

code-large : (s : StyleSheet) (n : ℕ) → 255 < n → coded s n ≡ s
code-large s n h = grind (arith, nat_tests)

told-large : (e : Expect) (s : StyleSheet) (n : ℕ) → 255 < n → told_at e s n ≡ pen s (large e)
told-large Code s n h =
    let a : eqb n 38 ≡ false = grind (arith, nat_tests) in
    let b : eqb n 48 ≡ false = grind (arith, nat_tests) in
    ap (λ v. cond v (pen s (Form Fore)) (cond (eqb n 48) (pen s (Form Back)) (pen (coded s n) Code))) a ∙ ap (λ v. cond v (pen s (Form Back)) (pen (coded s n) Code)) b ∙ ap (λ t. pen t Code) (code-large s n h)
told-large (Form side) s n h = grind (arith, nat_tests)
told-large (Index side) s n h = grind (arith, nat_tests)
told-large (Red side) s n h = grind (arith, nat_tests)
told-large (Green side r) s n h = grind (arith, nat_tests)
told-large (Blue side r g) s n h = grind (arith, nat_tests)
told-large Dropped s n h = refl

-- a number that is cut at the largest of 16 bits says what the number says
told-cut : (p : Pen) (n : ℕ) → told p (min n 65535) ≡ told p n
told-cut p n =
    elim (cases_Bool (leb n 65535)) [
      | inl h ↦ let low = leb-true n 65535 h in let e : min n 65535 ≡ n = omega arith in ap (told p) e
      | inr h ↦ let high = leb-false n 65535 h in told-large p.expect p.style (min n 65535) (omega arith) ∙ sym (told-large p.expect p.style n (omega arith))
    ]

-- the pen after the bytes bs, where n was read of their first number, in 16 bits
abbrev pub read_from : Pen → ℕ → List ℕ → Pen
read_from p n [] = told p n
read_from p n (b ∷ bs) = cond (eqb b 59) (read_from (told p n) 0 bs) (read_from p (min (n * 10 + (b - 48)) 65535) bs)

pub reads-numbers : (bs : List ℕ) (p : Pen) (m : ℕ) → read_from p (min m 65535) bs ≡ told_all p (numbers_from m bs)
reads-numbers [] p m = told-cut p m
reads-numbers (b ∷ bs) p m =
    let more : min (min m 65535 * 10 + (b - 48)) 65535 ≡ min (m * 10 + (b - 48)) 65535 = omega arith in
    elim (eqb b 59) as (λ v. cond v (read_from (told p (min m 65535)) 0 bs) (read_from p (min (min m 65535 * 10 + (b - 48)) 65535) bs) ≡ told_all p (cond v (m ∷ numbers_from 0 bs) (numbers_from (m * 10 + (b - 48)) bs))) [
      | true ↦ ap (λ q. read_from q 0 bs) (told-cut p m) ∙ reads-numbers bs (told p m) 0
      | false ↦ ap (λ n. read_from p n bs) more ∙ reads-numbers bs p (m * 10 + (b - 48))
    ]

-- the next of the bytes that are left to read
pub next_byte : (bs : List ℕ) (i : ℕ) → i < length bs → drop i bs ≡ get_or bs i 0 ∷ drop (i + 1) bs
next_byte bs i inside = rw (add-one, drop-cons bs i 0)
