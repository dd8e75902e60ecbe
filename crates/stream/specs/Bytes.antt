-- The bytes that the calls of a terminal send (ECMA-48: SGR, CUU, CUD, CUF, CUB, EL; DEC: DECTCEM).
use Rattle.std.specs.Prelude.{ℕ, ◌+◌, ◌^◌, ◌<◌, Bool, cond, List, [], ◌∷◌, ◌++◌, Some, None, decimal, Option, ◌==◌, nat_lt}
use Rattle.std.specs.Option.{unwrap_or}
use Rattle.std.specs.List.{AllByRecursion}
use Rattle.style.specs.declared.color.Color.{Color}
use Rattle.style.specs.declared.color.Color.TheVariants.{Black, LightRed, DarkRed, LightGreen, DarkGreen, LightYellow, DarkYellow, LightBlue, DarkBlue, LightMagenta, DarkMagenta, LightCyan, DarkCyan, White, Grey, DarkGrey, Rgb, AnsiValue}
use Rattle.style.specs.declared.style.StyleSheet.{StyleSheet}
use Rattle.style.specs.Colors.{code_of}
use Rattle.pen.specs.Sequences.{csi}
use Rattle.terminal.specs.Calls.{Call, write, return, feed, clear_line, clear_until_new_line, hide, show, up, down, left, right, flush}

-- numbers in decimal, each behind a semicolon
abbrev pub others : List ℕ → List ℕ
others [] = []
others (n ∷ ns) = 59 ∷ (decimal n ++ others ns)

-- numbers in decimal with semicolons between them
abbrev pub spelt : List ℕ → List ℕ
spelt [] = []
spelt (n ∷ ns) = decimal n ++ others ns

-- the colour sequence of some numbers
abbrev pub colouring : List ℕ → List ℕ
colouring ns = csi (spelt ns) 109

-- The numbers that set a colour. Those of the foreground are counted from 30 on and those of the background from 40 on:
-- 30 to 37 and 90 to 97, or 40 to 47 and 100 to 107, set a named colour by its code, and 38 or 48 introduces any other.
abbrev pub short : ℕ → ℕ → ℕ
short base code = cond (nat_lt code 8) (base + code) (base + 52 + code)

abbrev by_name : ℕ → Color → List ℕ
by_name base c = short base (unwrap_or (code_of c) 0) ∷ []

abbrev pub setting : ℕ → Color → List ℕ
setting base Black = by_name base Black
setting base LightRed = by_name base LightRed
setting base DarkRed = by_name base DarkRed
setting base LightGreen = by_name base LightGreen
setting base DarkGreen = by_name base DarkGreen
setting base LightYellow = by_name base LightYellow
setting base DarkYellow = by_name base DarkYellow
setting base LightBlue = by_name base LightBlue
setting base DarkBlue = by_name base DarkBlue
setting base LightMagenta = by_name base LightMagenta
setting base DarkMagenta = by_name base DarkMagenta
setting base LightCyan = by_name base LightCyan
setting base DarkCyan = by_name base DarkCyan
setting base White = by_name base White
setting base Grey = by_name base Grey
setting base DarkGrey = by_name base DarkGrey
setting base (Rgb r g b) = (base + 8) ∷ 2 ∷ r ∷ g ∷ b ∷ []
setting base (AnsiValue n) = (base + 8) ∷ 5 ∷ n ∷ []

-- a style has a sequence for each colour that it has, and for each attribute
abbrev pub coloured : ℕ → Option Color → List ℕ
coloured base None = []
coloured base (Some c) = colouring (setting base c)

abbrev pub flagged : ℕ → Bool → List ℕ
flagged n on = cond on (colouring (n ∷ [])) []

abbrev pub styling : StyleSheet → List ℕ
styling s = coloured 30 s.fg ++ (coloured 40 s.bg ++ (flagged 1 s.att.bold ++ flagged 3 s.att.italic))

-- a move by a count; count 0 sends nothing
abbrev pub moving : ℕ → ℕ → List ℕ
moving n last = cond (n == 0) [] (csi (decimal n) last)

-- the bytes of a call: a run ends with a plain pen
abbrev pub sent : Call → List ℕ
sent (write u) = styling u.style ++ (u.text ++ colouring (0 ∷ []))
sent return = 13 ∷ []
sent feed = 10 ∷ []
sent clear_line = csi (50 ∷ []) 75
sent clear_until_new_line = csi [] 75
sent hide = csi (63 ∷ 50 ∷ 53 ∷ []) 108
sent show = csi (63 ∷ 50 ∷ 53 ∷ []) 104
sent (up n) = moving n 65
sent (down n) = moving n 66
sent (right n) = moving n 67
sent (left n) = moving n 68
sent flush = []

-- What the types of a program hold of a call: a colour's numbers in 8 bits, a count in 16.
abbrev pub Octets : ℕ → Option Color → Type 0
Octets base None = Unit {0}
Octets base (Some c) = AllByRecursion (λ n. n < 2 ^ 8) (setting base c)

abbrev pub Typed : Call → Type 0
Typed (write u) = Octets 30 u.style.fg × Octets 40 u.style.bg
Typed return = Unit {0}
Typed feed = Unit {0}
Typed clear_line = Unit {0}
Typed clear_until_new_line = Unit {0}
Typed hide = Unit {0}
Typed show = Unit {0}
Typed (up n) = n < 2 ^ 16
Typed (down n) = n < 2 ^ 16
Typed (left n) = n < 2 ^ 16
Typed (right n) = n < 2 ^ 16
Typed flush = Unit {0}
