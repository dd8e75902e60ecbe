-- What the derived `==` computes of colours, of styles and of styled contents, and what that decides.
use Rattle.std.specs.Prelude.{◌≡◌, Bool, Decides, Option}
use Rattle.std.specs.Option.{option_eq}
use Rattle.std.specs.Ordering.{on, eq_of_both}
use Rattle.style.specs.declared.color.Color.{Color}
use Rattle.style.specs.declared.style.Attributes.{Attributes}
use Rattle.style.specs.declared.style.StyleSheet.{StyleSheet}
use Rattle.style.specs.declared.style.Styled.{Styled}
use Rattle.style.specs.contracts.color.ColorPartialEq.TheImpl as of_colors
use Rattle.style.specs.contracts.style.AttributesPartialEq.TheImpl as of_attributes
use Rattle.style.specs.contracts.style.StyleSheetPartialEq.TheImpl as of_styles
use Rattle.style.specs.Styles.{Alike}

-- colours
abbrev pub same_color : Color → Color → Bool
same_color = of_colors.ghosts.eq

-- attributes, flag by flag
abbrev pub same_attributes : Attributes → Attributes → Bool
same_attributes = of_attributes.ghosts.eq

-- styles, field by field
abbrev pub same_style : StyleSheet → StyleSheet → Bool
same_style = of_styles.ghosts.eq

-- styled contents, by the contents' own test and by their styles
abbrev pub same_styled : {T : Type 0} → (T → T → Bool) → Styled T → Styled T → Bool
same_styled same = eq_of_both (on (λ a. a.content) same) (on (λ a. a.style) same_style)

-- The test of colours decides equality, and so does that of colours that may be missing.
pub record ColorsDecide : Type 0 where
  pub colors : (c d : Color) → Decides (same_color c d) (c ≡ d)
  pub options : (c d : Option Color) → Decides (option_eq same_color c d) (c ≡ d)

-- The test of styles decides equality.
abbrev pub StylesDecide : Type 0
StylesDecide = (s t : StyleSheet) → Decides (same_style s t) (s ≡ t)

-- The test of styled contents tells whether they are alike.
abbrev pub StyledAlike : {T : Type 0} → (T → T → Bool) → Type 0
StyledAlike same = (a b : Styled _) → Alike (λ x y r. r ≡ same x y) a b (same_styled same a b)
