-- A call's bytes behind those of an AnsiOut.
use Rattle.std.proofs.Common.{◌≡◌, ℕ, ◌+◌, ◌-◌, ◌<◌, ◌≤◌, true, List, [], ◌++◌, length, vec_items, vec_len, vec_capacity, Vec, Global, sym, refl, ap, ◌∙◌, subst, arith, length-append}
use Rattle.std.specs.Str.{chars}
use Rattle.style.specs.declared.style.StyleSheet.{StyleSheet}
use Rattle.width.specs.Widths.{table_cells}
use Rattle.layout.specs.Writing.{run}
use Rattle.terminal.specs.Pages.{at, origin}
use Rattle.terminal.specs.Calls.{Call, write, return, feed, clear_line, clear_until_new_line, hide, show, up, down, left, right, flush, meaning, cost}
use Rattle.terminal.specs.Faults.{Sound, Narrow, Above, Faulty}
use Rattle.terminal.specs.declared.fault.Fault.{Fault}
use Rattle.terminal.specs.declared.fault.Fault.TheVariants.{Full, Bottom, Text, Wide, Size}
use Rattle.terminal.specs.Outcomes.{Does}
use Rattle.terminal.specs.Runs.{Fitting, Misfit}
use Rattle.stream.specs.Bytes.{sent, Typed}
use Rattle.stream.specs.Cursors.{cursor_of}
use Rattle.stream.specs.Grounded.{grounded}
use Rattle.stream.specs.Reader.{view_of}
use Rattle.stream.proofs.Costs.{costs}
use Rattle.stream.proofs.Cursors.{cursor-found, column-within}
use Rattle.stream.proofs.Grounded.{grounded-more, grounded-does}
use Rattle.ansi_out.specs.declared.out.AnsiOut.{AnsiOut}
use Rattle.ansi_out.specs.Adds.{Adds}
use Rattle.ansi_out.specs.Still.{Still}
use Rattle.ansi_out.specs.Pages.{page_at, page_of, blank_page}

-- no bytes

pub blank-page : (w h m n : ℕ) (bs : List ℕ) → bs ≡ [] → m ≡ n → page_at w h bs 0 m ≡ blank_page w h n
unfolding chars
blank-page w h m n bs none room = λ i. page_at w h (none i) 0 (room i)

pub blank-cursor : (w : ℕ) (bs : List ℕ) → bs ≡ [] → cursor_of table_cells w bs ≡ origin
unfolding chars cursor_of
blank-cursor w bs none = ap (cursor_of table_cells w) none

-- the cursor of the page is the one that is held

module _ (s : AnsiOut) where
  held-cursor : (page_of s).cursor ≡ at s.line s.col
  held-cursor = cursor-found table_cells s.width (vec_items s.bytes) ∙ (λ i. at (s.row i) (s.column i))

  pub held-line : (page_of s).cursor.row ≡ s.line
  held-line = ap (λ p. p.row) held-cursor

  pub held-column : (page_of s).cursor.col ≡ s.col
  held-column = ap (λ p. p.col) held-cursor

  pub held-within : s.col ≤ s.width
  held-within = let h = column-within table_cells s.width (vec_items s.bytes) in let e = s.column in omega arith

-- less is left than a call costs

pub full-faulty : (s : AnsiOut) (call : Call) (f : Fault) → Sound call → Narrow table_cells call (page_of s) → Above call (page_of s) → (f ≡ Full) × ((page_of s).left < cost call) → Faulty table_cells call (page_of s) f
full-faulty s call f sound narrow above full = subst (λ x. Faulty table_cells call (page_of s) x) (sym full.0) (sound, narrow, above, full.1)

-- a run that fits what is left of the line, and one that does not

module _ (s : AnsiOut) (text : List ℕ) (style : StyleSheet) where
  pub fits-narrow : (n : ℕ) → Fitting table_cells text (s.width - s.col) n → Narrow table_cells (write (run text style)) (page_of s)
  fits-narrow n fits = omega (arith, held-column s, held-within s, fits.width style, fits.within)

  pub misfit-faulty : (f : Fault) → Misfit table_cells text (s.width - s.col) f → Faulty table_cells (write (run text style)) (page_of s) f
  misfit-faulty Text h = h
  misfit-faulty Wide h = (h.0, λ narrow. omega (arith, held-column s, h.1 style))
  misfit-faulty Full h = absurd h
  misfit-faulty Bottom h = absurd h
  misfit-faulty Size h = absurd h

-- a call that counts as work sends bytes

works-sends : (w : ℕ) (call : Call) → (meaning table_cells w call).work ≤ length (sent call)
works-sends w (write u) = simp length-append (omega arith)
works-sends w return = omega arith
works-sends w feed = omega arith
works-sends w clear_line = omega arith
works-sends w clear_until_new_line = omega arith
works-sends w hide = omega arith
works-sends w show = omega arith
works-sends w (up n) = omega arith
works-sends w (down n) = omega arith
works-sends w (left n) = omega arith
works-sends w (right n) = omega arith
works-sends w flush = omega arith

-- what is to be shown of the bytes cs, of which there are len within cap, and of the count of work
pub record Called (s : AnsiOut) (call : Call) (cs : List ℕ) (len cap work : ℕ) : Type 0 where
  pub sound : grounded cs ≡ true
  pub row : (cursor_of table_cells s.width cs).row ≡ ((meaning table_cells s.width call).move (at s.line s.col)).row
  pub column : (cursor_of table_cells s.width cs).col ≡ ((meaning table_cells s.width call).move (at s.line s.col)).col
  pub paid : work ≤ len
  pub does : Does table_cells call (page_of s) (page_at s.width s.height cs work (cap - len))

module _ (s : AnsiOut) (call : Call) (cs : List ℕ) (len cap work : ℕ) where
  pub called : Sound call → Typed call → Narrow table_cells call (page_of s) → Above call (page_of s) → cost call ≤ (page_of s).left → cs ≡ vec_items s.bytes ++ sent call → len ≡ vec_len s.bytes + length (sent call) → cap ≡ vec_capacity s.bytes → work ≡ (meaning table_cells s.width call).work + s.work → Called s call cs len cap work
  called sound typed narrow above paid items long room worked =
      let bs = vec_items s.bytes in
      let shows = grounded-does table_cells call bs (page_of s) sound typed s.sound narrow refl ∙ ap (view_of table_cells s.width) (sym items) in
      let cursor = sym (cursor-found table_cells s.width cs) ∙ sym (ap (λ v. v.cursor) shows) ∙ ap (λ p. (meaning table_cells s.width call).move p) (held-cursor s) in
      let cheap = costs call typed in
      let more = works-sends s.width call in
      let held = s.paid in
      record {
        sound = subst (λ l. grounded l ≡ true) (sym items) (grounded-more call bs sound typed s.sound);
        row = ap (λ p. p.row) cursor;
        column = ap (λ p. p.col) cursor;
        paid = omega arith;
        does = record {
          allowed = record { sound = sound; narrow = narrow; above = above; paid = paid };
          made = record {
            width = refl;
            height = refl;
            lines = refl;
            cells = λ i k h g. sym (ap (λ v. v.cells i k) shows);
            cursor = sym (ap (λ v. v.cursor) shows);
            shown = sym (ap (λ v. v.shown) shows);
            work = worked;
          };
          falls = omega arith;
          paid = omega arith;
        };
      }

-- the bytes of a call that leaves the cursor where it is
pub sent-still : (s : AnsiOut) (call : Call) (bs : List ℕ) (n : ℕ) (v : Vec ℕ Global) → Still call bs n → 8 ≤ (page_of s).left → Adds s.bytes v bs → Called s call (vec_items v) (vec_len v) (vec_capacity v) (s.work + n)
sent-still s call bs n v h paid a =
    called s call (vec_items v) (vec_len v) (vec_capacity v) (s.work + n) h.sound h.typed (h.narrow (page_of s)) (h.above (page_of s)) (omega (arith, h.price))
    (a.items ∙ ap (λ l. vec_items s.bytes ++ l) (sym h.bytes))
    (omega (arith, a.len, ap length h.bytes)) a.capacity (omega (arith, h.worth s.width))
