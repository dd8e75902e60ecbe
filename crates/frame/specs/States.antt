-- A frame state by its meaning, and the answers of its calls.
use Rattle.std.specs.Prelude.{◌≡◌, ℕ, ◌<◌, ◌≤◌, max, true, false, ◌⊎◌, List, length, ℤ, pos, Some, IsUtf8, fold}
use Rattle.ansi.specs.Pieces.{pieces}
use Rattle.ansi.specs.Refusals.{NotText}
use Rattle.pen.specs.Checks.{first_offence, Accepted}
use Rattle.style.specs.declared.style.StyleSheet.{StyleSheet}
use Rattle.size.specs.declared.position.Position.{Position}
use Rattle.layout.specs.Frames.{Row, Frame, Rule}
use Rattle.layout.specs.Limits.{fits}
use Rattle.layout.specs.Writing.{written}
use Rattle.frame.specs.declared.error.FrameError.{FrameError}
use Rattle.frame.specs.declared.error.FrameError.TheVariants.{Text, TooLarge, BadOffset}
use Rattle.frame.specs.declared.state.FrameState.{FrameState}
use Rattle.width.specs.declared.hash.RowHash.{Ghosts as RowHash}
use Rattle.width.specs.declared.rule.WidthRule.{Ghosts as WidthRule}
use Rattle.frame.specs.Drafts.{frame_of, rule_by}
use Rattle.frame.specs.Marks.{mark_at}

abbrev pub sheet_of : {C R : Type 0} → FrameState C R → Frame
sheet_of s = frame_of s.draft

abbrev pub rule_of : {C R : Type 0} → FrameState C R → WidthRule C → RowHash R → Rule
rule_of s c r = rule_by s.terminal_size.width c r

-- a text is written: it is short enough, it is taken, and the frame that it makes fits
pub record Writes (k : Rule) (style : StyleSheet) (text : List ℕ) (f g : Frame) : Type 0 where
  pub short : length text ≤ 65535
  pub taken : Accepted text
  pub fit : fits k (written k style text f) ≡ true
  pub frame : g ≡ written k style text f

-- a write is refused: the length is looked at first, then the text, then the frame that it would make
abbrev pub Denies : Rule → StyleSheet → List ℕ → Frame → FrameError → Type 0
Denies k style text f (Text e) = (length text ≤ 65535) × (NotText text e ⊎ (IsUtf8 text × (first_offence 0 (pieces text) ≡ Some e)))
Denies k style text f TooLarge = (65535 < length text) ⊎ (Accepted text × (fits k (written k style text f) ≡ false))
Denies k style text f BadOffset = ⊥

-- a mark is set: the offset is n, and all but the mark stays
pub record Marks {C R : Type 0} (k : Rule) (offset : ℤ) (s t : FrameState C R) (p : Position) : Type 0 where
  pub range : (n : ℕ) × ((offset ≡ pos n) × ((n ≤ 65535) × (p ≡ mark_at k (sheet_of s) n)))
  pub mark : t.expected_cursor_position ≡ Some p
  pub frame : sheet_of t ≡ sheet_of s
  pub size : t.terminal_size ≡ s.terminal_size

-- an offset below 0 or above 65,535
abbrev pub BadMark : ℤ → FrameError → Type 0
BadMark offset e = (e ≡ BadOffset) × ((n : ℕ) → offset ≡ pos n → 65535 < n)

-- the width of the widest row
unfoldable pub widest : List Row → ℕ
widest ws = fold (λ n w. max w.width n) 0 ws
