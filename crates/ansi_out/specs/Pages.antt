-- The page of an AnsiOut: its bytes, read on lines of its width.
use Rattle.std.specs.Prelude.{◌≡◌, ℕ, ◌-◌, ◌<◌, true, ◌⊎◌, List, vec_items, vec_len, vec_capacity}
use Rattle.width.specs.Widths.{table_cells}
use Rattle.terminal.specs.Pages.{Page, blank, origin}
use Rattle.stream.specs.Reader.{view_of}
use Rattle.terminal.specs.declared.fault.Fault.{Fault}
use Rattle.terminal.specs.declared.fault.Fault.TheVariants.{Size}
use Rattle.ansi_out.specs.declared.out.AnsiOut.{AnsiOut}

-- the page of w columns that the bytes bs show; its lines are those that 16 bits count, but the last
abbrev pub page_at : ℕ → ℕ → List ℕ → ℕ → ℕ → Page
page_at w h bs work left = record {
  width = w;
  height = h;
  lines = 65535;
  cells = (view_of table_cells w bs).cells;
  cursor = (view_of table_cells w bs).cursor;
  shown = (view_of table_cells w bs).shown;
  work = work;
  left = left;
}

-- what is left is the room behind the bytes
abbrev pub page_of : AnsiOut → Page
page_of s = page_at s.width s.height (vec_items s.bytes) s.work (vec_capacity s.bytes - vec_len s.bytes)

-- a page on which nothing was written
abbrev pub blank_page : ℕ → ℕ → ℕ → Page
blank_page w h left = record { width = w; height = h; lines = 65535; cells = λ i k. blank; cursor = origin; shown = true; work = 0; left = left }

-- a size without cells is fault 5
pub record Sizeless (w h : ℕ) (f : Fault) : Type 0 where
  pub none : (w ≡ 0) ⊎ (h ≡ 0)
  pub fault : f ≡ Size

-- s became t by another size: the bytes are the same, and are read on lines of that width
pub record Resized (w h : ℕ) (s t : AnsiOut) : Type 0 where
  pub some : (0 < w) × (0 < h)
  pub bytes : t.bytes ≡ s.bytes
  pub page : page_of t ≡ page_at w h (vec_items s.bytes) s.work (page_of s).left
