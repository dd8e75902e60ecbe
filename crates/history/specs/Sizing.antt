-- What the size of the page makes of a frame, of its mark and of the noted cursor.
use Rattle.std.specs.Prelude.{ℕ, ◌+◌, ◌/◌, ◌%◌, min, Bool, cond, ◌&&◌, ◌||◌, None, Option, ◌==◌, nat_lt}
use Rattle.size.specs.declared.position.Position.{Position}
use Rattle.layout.specs.Limits.{fits}
use Rattle.layout.specs.Writing.{rewrapped}
use Rattle.terminal.specs.Pages.{Page}
use Rattle.history.specs.Machines.{Rules, at, empty, Sheet}

-- the frame is folded for w columns and h rows
abbrev pub sized : ℕ → ℕ → Sheet → Bool
sized w h s = s.width == w && s.height == h

-- the frame for that size: wrapped anew if it is for another, in columns or in rows
abbrev pub resized_to : Rules → ℕ → ℕ → Sheet → Sheet
resized_to r w h s = cond (sized w h s) s (record { frame = rewrapped (at w r) s.frame; width = w; height = h })

-- which keeps within the limits
abbrev pub fits_size : Rules → ℕ → ℕ → Sheet → Bool
fits_size r w h s = sized w h s || fits (at w r) (rewrapped (at w r) s.frame)

-- the same for the size of a page
abbrev pub same_size : Sheet → Page → Bool
same_size s p = sized p.width p.height s

abbrev pub resized : Rules → Page → Sheet → Sheet
resized r p s = resized_to r p.width p.height s

abbrev pub fits_page : Rules → Page → Sheet → Bool
fits_page r p s = fits_size r p.width p.height s

-- a mark is lost where its frame is wrapped anew
abbrev pub kept_mark : Page → Sheet → Option Position → Option Position
kept_mark p s o = cond (same_size s p) o None

-- a new frame for the page
abbrev pub sheet_for : Rules → Page → Sheet
sheet_for r p = record { frame = empty r; width = p.width; height = p.height }

-- a noted column of w or more is folded: the terminal did so when it became narrower
abbrev pub corrected : ℕ → Position → Position
corrected w c = cond (nat_lt c.col w) c (record { row = min (c.row + c.col / w) 65535; col = c.col % w })
