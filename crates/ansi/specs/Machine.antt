-- The machine that tells where an escape sequence ends: states, classes of characters, and the table of moves.
-- It is Williams's description of a parser for DEC's terminals, https://vt100.net/emu/dec_ansi_parser, with
-- the states between which an end makes no difference taken as one. Two departures: BEL ends a string, as it
-- does on terminals in use, and of the characters 80 to 9F only ST acts, and that in a string.
use Rattle.std.specs.Prelude.{ℕ, Bool, cond, ◌||◌, List, [], ◌∷◌, ◌==◌}
use Rattle.std.specs.Int.{is_in_range}

-- what is being read
pub data State : Type 0 where
  -- behind ESC
  InEscape : State
  -- behind ESC [
  InCsi : State
  -- behind ESC and a character of 20 to 2F
  InIntermediate : State
  -- in a string: DCS, SOS, OSC, PM or APC
  InString : State

pub data Class : Type 0 where
  -- 07
  Bell : Class
  -- 18 CAN, 1A SUB
  Cancel : Class
  -- 1B
  Esc : Class
  -- 20 to 2F
  Intermediate : Class
  -- 30 to 3F
  Parameter : Class
  -- 5B
  Bracket : Class
  -- 50 DCS, 58 SOS, 5D OSC, 5E PM, 5F APC
  Opener : Class
  -- the others of 40 to 7E
  Final : Class
  -- 9C
  Terminator : Class
  -- the other controls, 7F, and all above
  Other : Class

abbrev pub opens : ℕ → Bool
opens c = (((c == 80 || c == 88) || c == 93) || c == 94) || c == 95

-- the class of a character, given by its code point
abbrev pub class_of : ℕ → Class
class_of c =
    cond (c == 7) Bell
    (cond (c == 24 || c == 26) Cancel
    (cond (c == 27) Esc
    (cond (is_in_range 32 47 c) Intermediate
    (cond (is_in_range 48 63 c) Parameter
    (cond (c == 91) Bracket
    (cond (opens c) Opener
    (cond (is_in_range 64 126 c) Final
    (cond (c == 156) Terminator Other))))))))

-- the sequence ends with this character, or goes on in a state
pub data Move : Type 0 where
  stop : Move
  to : State → Move

-- the table
abbrev pub table : State → Class → Move
table InEscape Bell = to InEscape
table InEscape Cancel = stop
table InEscape Esc = to InEscape
table InEscape Intermediate = to InIntermediate
table InEscape Parameter = stop
table InEscape Bracket = to InCsi
table InEscape Opener = to InString
table InEscape Final = stop
table InEscape Terminator = to InEscape
table InEscape Other = to InEscape
table InCsi Bell = to InCsi
table InCsi Cancel = stop
table InCsi Esc = to InEscape
table InCsi Intermediate = to InCsi
table InCsi Parameter = to InCsi
table InCsi Bracket = stop
table InCsi Opener = stop
table InCsi Final = stop
table InCsi Terminator = to InCsi
table InCsi Other = to InCsi
table InIntermediate Bell = to InIntermediate
table InIntermediate Cancel = stop
table InIntermediate Esc = to InEscape
table InIntermediate Intermediate = to InIntermediate
table InIntermediate Parameter = stop
table InIntermediate Bracket = stop
table InIntermediate Opener = stop
table InIntermediate Final = stop
table InIntermediate Terminator = to InIntermediate
table InIntermediate Other = to InIntermediate
table InString Bell = stop
table InString Cancel = stop
table InString Esc = to InEscape
table InString Intermediate = to InString
table InString Parameter = to InString
table InString Bracket = to InString
table InString Opener = to InString
table InString Final = to InString
table InString Terminator = stop
table InString Other = to InString

abbrev pub move : State → ℕ → Move
move s c = table s (class_of c)

-- where the machine is behind the characters cs: back on the ground at one of them, or still in a state
abbrev pub run : State → List ℕ → Move
run s [] = to s
run s (c ∷ cs) = elim (move s c) [ stop ↦ stop | to t ↦ run t cs ]
