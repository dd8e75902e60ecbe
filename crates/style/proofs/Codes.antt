-- The codes of the named colours.
use Rattle.std.proofs.Common.{◌≡◌, ℕ, zero, suc, ◌+◌, List, [], ◌∷◌, IfSome, Some, None, Option, sym, ap, ◌∙◌, subst, zero-add, arith, Bor, rules}
use Rattle.std.specs.Option.{option_map}
use Rattle.std.specs.Slice.{IsGetResult}
use Rattle.std.specs.List.{slice_get}
use Rattle.std.proofs.lemmas.Option.{slice_get-get_or, slice_get_past}
use Rattle.style.specs.declared.color.Color.{Color}
use Rattle.style.specs.Colors.{code_of, names, named, CodesName}

-- What `get` finds, copied, is the element at that place.
pub picked : {X : Type 0} (xs : List X) (i : ℕ) (r : Option (Bor X)) → IsGetResult xs i i r → option_map (λ x. x.now) r ≡ slice_get xs i
picked xs i None h = sym (slice_get_past xs i h.3)
picked xs i (Some x) h = ap Some h.1 ∙ sym (slice_get-get_or xs i x.now h.3.0)

-- The code of a named colour names it.
code-names : (c : Color) → IfSome (code_of c) (λ n. named n ≡ Some c)
code-names c = search rules

-- The colours of a list have the codes k, k + 1 and so on.
abbrev Coded : ℕ → List Color → Type 0
Coded k [] = Unit {0}
Coded k (c ∷ cs) = (code_of c ≡ Some k) × Coded (suc k) cs

coded-nth : (k : ℕ) (cs : List Color) (i : ℕ) (c : Color) → Coded k cs → slice_get cs i ≡ Some c → code_of c ≡ Some (k + i)
coded-nth k [] i c h e = cc
coded-nth k (x ∷ cs) zero c h e = let same : x ≡ c = cc in let sum : k ≡ k + zero = omega arith in cc h.0
coded-nth k (x ∷ cs) (suc i) c h e = let sum : suc k + i ≡ k + suc i = omega arith in cc (coded-nth (suc k) cs i c h.1 e)

names-coded : Coded 0 names
names-coded = search rules

pub codes_name : CodesName
codes_name c n = (
  λ e. subst (λ (o : Option ℕ). IfSome o (λ m. named m ≡ Some c)) e (code-names c),
  λ e. coded-nth 0 names n c names-coded e ∙ ap Some (zero-add n),
)
