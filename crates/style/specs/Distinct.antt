-- Distinct styles have distinct bytes: the bytes tell the style.
use Rattle.std.proofs.Common.{◌≡◌, ℕ, zero, suc, List, ◌++◌, length, take, drop, get_or, Some, None, Option, sym, ap, ◌∙◌, rules}
use Rattle.std.proofs.Math.Seq.{take-append_seam, drop-append_seam}
use Rattle.style.specs.declared.color.Color.{Color}
use Rattle.style.specs.declared.color.Color.TheVariants.{Rgb, AnsiValue}
use Rattle.style.specs.declared.style.Attributes.{Attributes}
use Rattle.style.specs.declared.style.StyleSheet.{StyleSheet}
use Rattle.style.specs.Attrs.{bits_of}
use Rattle.style.specs.Bytes.{color_bytes, optional_bytes, style_bytes}
use Rattle.style.specs.Colors.{named}

-- The colour, if any, with this kind and three other bytes.
abbrev told : ℕ → ℕ → ℕ → ℕ → Option Color
told zero x y z = None
told (suc zero) x y z = named x
told (suc (suc zero)) x y z = Some (AnsiValue x)
told (suc (suc (suc k))) x y z = Some (Rgb x y z)

abbrev read : List ℕ → Option Color
read bytes = told (get_or bytes 0 0) (get_or bytes 1 0) (get_or bytes 2 0) (get_or bytes 3 0)

read-optional : (o : Option Color) → read (optional_bytes o) ≡ o
read-optional o = search rules

pub optional-len : (o : Option Color) → length (optional_bytes o) ≡ 4
optional-len o = search rules

same-optional : (o p : Option Color) → optional_bytes o ≡ optional_bytes p → o ≡ p
same-optional o p e = sym (read-optional o) ∙ ap read e ∙ read-optional p

pub same-color : (c d : Color) → color_bytes c ≡ color_bytes d → c ≡ d
same-color c d e = let some : Some c ≡ Some d = same-optional (Some c) (Some d) e in cc

same_bits : (a b : Attributes) → bits_of a ≡ bits_of b → a ≡ b
same_bits a b e = search rules

-- Two joined lists whose fronts have one length.
parted : (a b c d : List ℕ) → length a ≡ length b → a ++ c ≡ b ++ d → (a ≡ b) × (c ≡ d)
parted a b c d l e = (
  sym (take-append_seam a c) ∙ (λ i. take (l i) (e i)) ∙ take-append_seam b d,
  sym (drop-append_seam a c) ∙ (λ i. drop (l i) (e i)) ∙ drop-append_seam b d,
)

pub distinct : (s t : StyleSheet) → style_bytes s ≡ style_bytes t → s ≡ t
unfolding style_bytes
distinct s t e =
    let fg = parted _ _ _ _ (optional-len s.fg ∙ sym (optional-len t.fg)) e in
    let bg = parted _ _ _ _ (optional-len s.bg ∙ sym (optional-len t.bg)) fg.1 in
    let bits = bg.1 in
    let att : s.att ≡ t.att = same_bits _ _ (cc) in
    λ i. record { fg = same-optional s.fg t.fg fg.0 i; bg = same-optional s.bg t.bg bg.0 i; att = att i }
