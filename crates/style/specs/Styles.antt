-- Styles: colours and attributes of text.
use Rattle.std.specs.Prelude.{◌≡◌, Bool, true, false, not, ◌||◌, ◌⊎◌, is_some, Some, None, Decides, MatchBool, ◌≢◌}
use Rattle.style.specs.declared.color.Color.{Color}
use Rattle.style.specs.declared.style.Attributes.{Attributes}
use Rattle.style.specs.declared.style.StyleSheet.{StyleSheet}
use Rattle.style.specs.declared.style.Styled.{Styled}
use Rattle.style.specs.Attrs.{no_flags}

-- The empty style: no colours and no attributes.
abbrev pub plain : StyleSheet
plain = record { fg = None; bg = None; att = no_flags }

-- Whether a style is plain.
abbrev pub is_plain : StyleSheet → Bool
is_plain s = not (is_some s.fg || is_some s.bg || s.att.italic || s.att.bold)

-- The empty style alone is plain.
abbrev pub OnlyPlain : Type 0
OnlyPlain = (s : StyleSheet) → Decides (is_plain s) (s ≡ plain)

-- The same style with another foreground, background or other attributes.
abbrev pub with_fg : StyleSheet → Color → StyleSheet
with_fg s c = record { fg = Some c; bg = s.bg; att = s.att }

abbrev pub with_bg : StyleSheet → Color → StyleSheet
with_bg s c = record { fg = s.fg; bg = Some c; att = s.att }

abbrev pub with_attr : StyleSheet → Attributes → StyleSheet
with_attr s a = record { fg = s.fg; bg = s.bg; att = a }

-- A content in a style.
abbrev pub styled : {T : Type 0} → T → StyleSheet → Styled T
styled x s = record { content = x; style = s }

-- Two styled contents are alike where the styles are equal and the contents are, by their own test.
abbrev pub Alike : {T : Type 0} → (T → T → Bool → Type 0) → Styled T → Styled T → Bool → Type 0
Alike same a b r =
    MatchBool r ((a.style ≡ b.style) × same a.content b.content true) ((a.style ≢ b.style) ⊎ same a.content b.content false)
