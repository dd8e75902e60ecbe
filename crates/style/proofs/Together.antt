-- The nine bytes of a style, put together.
use Rattle.std.proofs.Common.{◌≡◌, ℕ, List, [], ◌∷◌, ◌++◌, length, get_or, Option, ap, ◌∙◌, length-append, rules}
use Rattle.style.specs.declared.color.Color.{Color}
use Rattle.style.specs.declared.style.StyleSheet.{StyleSheet}
use Rattle.style.specs.Attrs.{bits_of}
use Rattle.style.specs.Bytes.{optional_bytes, style_bytes, BytesTell}
use Rattle.style.specs.Distinct.{distinct, optional-len}

nine : (s : StyleSheet) → length (style_bytes s) ≡ 9
unfolding style_bytes
nine s = simp (length-append, optional-len)

pub bytes_tell : BytesTell
bytes_tell = record { nine = nine; distinct = distinct }

-- Four bytes that are read one by one and put in front of others.
abbrev in_front : List ℕ → List ℕ → List ℕ
in_front xs rest = get_or xs 0 0 ∷ get_or xs 1 0 ∷ get_or xs 2 0 ∷ get_or xs 3 0 ∷ rest

optional-in-front : (o : Option Color) (rest : List ℕ) → in_front (optional_bytes o) rest ≡ optional_bytes o ++ rest
optional-in-front o rest = search rules

pub put_together : (s : StyleSheet) (fg bg : List ℕ) (n : ℕ)
    → fg ≡ optional_bytes s.fg → bg ≡ optional_bytes s.bg → n ≡ bits_of s.att
    → in_front fg (in_front bg (n ∷ [])) ≡ style_bytes s
unfolding style_bytes
put_together s fg bg n f b a =
    (λ i. in_front (f i) (in_front (b i) (a i ∷ [])))
    ∙ optional-in-front s.fg _
    ∙ ap (λ rest. optional_bytes s.fg ++ rest) (optional-in-front s.bg _)
