-- A style that is sent is read as that style.
use Rattle.std.proofs.Common.{◌≡◌, ℕ, ◌^◌, ◌<◌, ◌≤◌, cond, List, [], ◌∷◌, length, Some, Option, refl, ap, ◌∙◌, arith, length-append, rules}
use Rattle.std.specs.List.{AllByRecursion}
use Rattle.std.proofs.lemmas.Fmt.{length-decimal-le}
use Rattle.style.specs.declared.color.Color.{Color}
use Rattle.style.specs.declared.style.StyleSheet.{StyleSheet}
use Rattle.style.specs.Styles.{with_fg, with_bg}
use Rattle.pen.specs.Pens.{after, numbers, steered}
use Rattle.pen.proofs.Sequences.{colours_told}
use Rattle.stream.proofs.Numbers.{reads-spelt, parameters-spelt}
use Rattle.stream.specs.Bytes.{spelt, colouring, setting, coloured, Octets}

pub wider : (ns : List ℕ) → AllByRecursion (λ n. n < 2 ^ 8) ns → AllByRecursion (λ n. n < 2 ^ 64) ns
wider [] h = tt
wider (n ∷ ns) h = (omega arith, wider ns h.1)

-- a colour sequence that is sent steers the pen by its numbers
pub steered-colouring : (s : StyleSheet) (ns : List ℕ) → 0 < length ns → AllByRecursion (λ n. n < 2 ^ 64) ns → steered s (colouring ns) ≡ after s ns
steered-colouring s ns some small =
    let told = colours_told.complete (spelt ns) (colouring ns) (refl, parameters-spelt ns small) in
    let is = ap numbers told.1 ∙ reads-spelt ns some small in
    λ i. cond (told.0 i) (after s (is i)) s

-- the numbers of a colour set that colour, and no other
pub sets-fore : (s : StyleSheet) (c : Color) → Octets 30 (Some c) → after s (setting 30 c) ≡ with_fg s c
sets-fore s c h = search rules

pub sets-back : (s : StyleSheet) (c : Color) → Octets 40 (Some c) → after s (setting 40 c) ≡ with_bg s c
sets-back s c h = search rules

pub sets-some : (base : ℕ) (c : Color) → 0 < length (setting base c)
sets-some base c = search rules

-- they take 19 bytes at most
brief-one : (n : ℕ) → n < 1000 → length (colouring (n ∷ [])) ≤ 6
brief-one n h = let d = length-decimal-le 3 n (omega arith) (omega arith) (omega arith) in simp length-append (omega arith)

brief-index : (l n : ℕ) → l < 100 → n < 1000 → length (colouring (l ∷ 5 ∷ n ∷ [])) ≤ 19
brief-index l n g h =
    let c = length-decimal-le 2 l (omega arith) (omega arith) (omega arith) in
    let f = length-decimal-le 1 5 (omega arith) (omega arith) (omega arith) in
    let d = length-decimal-le 3 n (omega arith) (omega arith) (omega arith) in
    simp length-append (omega arith)

brief-parts : (l r g b : ℕ) → l < 100 → r < 1000 → g < 1000 → b < 1000 → length (colouring (l ∷ 2 ∷ r ∷ g ∷ b ∷ [])) ≤ 19
brief-parts l r g b h i j k =
    let c = length-decimal-le 2 l (omega arith) (omega arith) (omega arith) in
    let f = length-decimal-le 1 2 (omega arith) (omega arith) (omega arith) in
    let x = length-decimal-le 3 r (omega arith) (omega arith) (omega arith) in
    let y = length-decimal-le 3 g (omega arith) (omega arith) (omega arith) in
    let z = length-decimal-le 3 b (omega arith) (omega arith) (omega arith) in
    simp length-append (omega arith)

pub colour-brief : (base : ℕ) (o : Option Color) → base ≤ 40 → Octets base o → length (coloured base o) ≤ 19
colour-brief base o low h = search (rules, brief-one, brief-index, brief-parts)
