-- What the derived `==` decides. No proof of the last three rests on another of them, so that each fails by itself.
use Rattle.std.proofs.Common.{◌≡◌, Bool, true, false, ◌&&◌, ◌⊎◌, MatchBool, inl, inr, Some, None, Decides, refl, ap, arith, rules}
use Rattle.std.proofs.lemmas.Bool.Decides.{Decides-and}
use Rattle.std.specs.Cmp.Rules.{comparing}
use Rattle.std.specs.Option.{option_eq}
use Rattle.style.specs.declared.color.Color.{Color}
use Rattle.style.specs.declared.style.StyleSheet.{StyleSheet}
use Rattle.style.specs.Equality.{same_attributes, ColorsDecide, StylesDecide, StyledAlike}

abbrev Exact : {A : Type 0} → (A → A → Bool) → Type 0
Exact same = (x y : _) → Decides (same x y) (x ≡ y)

options-decide : {A : Type 0} {same : A → A → Bool} → Exact same → Exact (option_eq same)
options-decide each None None = (λ _. refl, λ _. refl)
options-decide each None (Some y) = (λ e. cc, λ e. cc)
options-decide each (Some x) None = (λ e. cc, λ e. cc)
options-decide each (Some x) (Some y) = (λ e. ap Some ((each x y).0 e), λ e. (each x y).1 (cc))

pub attributes_decide : Exact same_attributes
attributes_decide a b = search (comparing, rules)

fields-decide : {same : Color → Color → Bool} → Exact same → (s t : StyleSheet)
    → Decides (option_eq same s.fg t.fg && (option_eq same s.bg t.bg && same_attributes s.att t.att)) (s ≡ t)
fields-decide each s t =
    let d = Decides-and _ _ (options-decide each s.fg t.fg) (Decides-and _ _ (options-decide each s.bg t.bg) (attributes_decide s.att t.att)) in (
      λ h. let e = d.0 h in λ i. record { fg = e.0 i; bg = e.1.0 i; att = e.1.1 i },
      λ h. d.1 ((λ i. (h i).fg), ((λ i. (h i).bg), (λ i. (h i).att))),
    )

-- The contents' test stands first, as the contents do.
alike-at : (x y : Bool) {P : Type 0} → Decides y P → MatchBool (x && y) (P × (true ≡ x)) ((P → ⊥) ⊎ (false ≡ x))
alike-at true true d = (d.0 refl, refl)
alike-at true false d = inl (λ p. let no : false ≡ true = d.1 p in cc)
alike-at false y d = inr refl

pub record AllAlike : Type 1 where
  pub at : {T : Type 0} (same : T → T → Bool) → StyledAlike same

alike-by : StylesDecide → AllAlike
alike-by each = record { at = λ same a b. alike-at _ _ (each a.style b.style) }

pub colors_decide : ColorsDecide
colors_decide = record { colors = λ c d. grind arith; options = options-decide (λ c d. grind arith) }

pub styles_decide : StylesDecide
styles_decide = fields-decide (λ c d. grind arith)

pub styled_alike : AllAlike
styled_alike = alike-by (fields-decide (λ c d. grind arith))
