-- What every history keeps, and the law from it.
use Rattle.std.proofs.Common.{◌≡◌, ℕ, ◌%◌, ◌<◌, Bool, true, ◌&&◌, eqb, ltb, ◌⊎◌, List, Some, None, Option, sym, refl, ap, ◌∙◌, subst, inl, inr, mod-lt, arith}
use Rattle.std.proofs.lemmas.Bool.{cond-true, cond_both, lt-ltb, eq-eqb, and_from}
use Rattle.size.specs.declared.position.Position.{Position}
use Rattle.layout.specs.Frames.{Frame, Rule}
use Rattle.layout.specs.Inks.{Write}
use Rattle.layout.specs.Writing.{written, finished, rewrapped}
use Rattle.frame.specs.Marks.{mark_at, mark_column}
use Rattle.terminal.specs.Pages.{Page}
use Rattle.terminal.specs.Outcomes.{Did, Stopped}
use Rattle.terminal.proofs.Effects.{did-effects, did-left}
use Rattle.drawing.specs.Painted.{painted, Shows, Blank}
use Rattle.drawing.specs.Drawing.{drawing, behind, rests_at}
use Rattle.drawing.specs.Law.{Inside, Redrawn}
use Rattle.drawing.proofs.Redraw.{redraw}
use Rattle.drawing.proofs.Idle.{idle}
use Rattle.history.specs.Machines.{Rules, at, empty, Sheet, Machine, resting, drawn, lost, page_of}
use Rattle.history.specs.Sizing.{same_size, resized, kept_mark, corrected}
use Rattle.history.specs.Steps.{Event, starts, start-narrow, start-large, refreshes, refresh-narrow, refresh-large, writes, denies, marks, mark-bad, finishes, breaks, done, finishing}
use Rattle.history.specs.Histories.{History, untouched, then, Faultless, writes_of, given, mark_of, finished_frame, newest, orders}
use Rattle.history.specs.Law.{Faithful, Marked, Idle, Exact, Broken, Law}

-- The facts below are over what the events tell, and not over the events: an event that leaves what is told then leaves
-- the facts, with no proof.

-- the page has the size of the page p that the history began on
record Sized (p q : Page) : Type 0 where
  pub width : q.width ≡ p.width
  pub height : q.height ≡ p.height

-- the frame is folded for the page's size, or has no row
abbrev Folded : Rules → Page → Sheet → Type 0
Folded r q f = (same_size f q ≡ true) ⊎ (f.frame ≡ empty r)

-- the renderer's last frame f is the newest, the page shows it, and the cursor is at c, where the renderer noted it
record Still (r : Rules) (p : Page) (newest : Frame) (f : Sheet) (c : Position) (q : Page) : Type 0 where
  pub size : Sized p q
  pub last : f.frame ≡ newest
  pub folded : Folded r q f
  pub shows : Shows q (painted r.cells f.frame.rows)
  pub cursor : q.cursor ≡ c
  pub inside : c.col < q.width

-- the frame g being drawn has the texts that were accepted, and o is the mark
record Begun (r : Rules) (p : Page) (ws : List Write) (m : Option Position) (g : Sheet) (o : Option Position) (q : Page) : Type 0 where
  pub size : same_size g q ≡ true
  pub width : g.width ≡ p.width
  pub frame : g.frame ≡ given (at p.width r) r ws
  pub mark : o ≡ m
  pub inside : Inside o q.width

abbrev Kept : Rules → Page → Frame → List Write → Option Position → Type 0 → Machine → Type 0
Kept r p newest ws m faultless (resting f c q) = Still r p newest f c q
Kept r p newest ws m faultless (drawn f c g o q) = Still r p newest f c q × Begun r p ws m g o q
Kept r p newest ws m faultless (lost q) = faultless → ⊥

-- an empty frame wrapped anew is empty
rewrapped-empty : (r : Rules) (w : ℕ) → rewrapped (at w r) (empty r) ≡ empty r
unfolding rewrapped
rewrapped-empty r w = refl

same_size-made : (w h : ℕ) (q : Page) (f : Frame) → w ≡ q.width → h ≡ q.height → same_size (record { frame = f; width = w; height = h }) q ≡ true
same_size-made w h q f a b = and_from (eqb w q.width) (eqb h q.height) (eq-eqb w q.width a) (eq-eqb h q.height b)

-- a page of the same size
same-page : (g : Sheet) (q t : Page) → t.width ≡ q.width → t.height ≡ q.height → same_size g q ≡ true → same_size g t ≡ true
same-page g q t e f h = (λ i. eqb g.width (e i) && eqb g.height (f i)) ∙ h

module _ (r : Rules) where
  resized-frame : (q : Page) (f : Sheet) → Folded r q f → (resized r q f).frame ≡ f.frame
  resized-frame q f (inl e) = ap (λ (s : Sheet). s.frame) (cond-true (same_size f q) f _ e)
  resized-frame q f (inr e) =
      cond_both (same_size f q) f (record { frame = rewrapped (at q.width r) f.frame; width = q.width; height = q.height }) (λ s. s.frame ≡ f.frame)
      (λ _. refl)
      (λ _. ap (rewrapped (at q.width r)) e ∙ rewrapped-empty r q.width ∙ sym e)

  resized-size : (q : Page) (f : Sheet) → same_size (resized r q f) q ≡ true
  resized-size q f =
      cond_both (same_size f q) f (record { frame = rewrapped (at q.width r) f.frame; width = q.width; height = q.height }) (λ s. same_size s q ≡ true)
      (λ e. e)
      (λ _. same_size-made q.width q.height q (rewrapped (at q.width r) f.frame) refl refl)

  corrected-inside : (w : ℕ) (c : Position) → c.col < w → corrected w c ≡ c
  corrected-inside w c h = cond-true (ltb c.col w) c _ (lt-ltb c.col w h)

  -- a frame at the page's size stays as it is
  still-resized : {p q : Page} {n : Frame} {f : Sheet} {c : Position} → Still r p n f c q → Still r p n (resized r q f) (corrected q.width c) q
  still-resized {p} {q} {n} {f} {c} s =
      let e = resized-frame q f s.folded in
      let d = corrected-inside q.width c s.inside in
      record {
        size = s.size;
        last = e ∙ s.last;
        folded = inl (resized-size q f);
        shows = λ i k h g. s.shows i k h g ∙ ap (λ (x : Frame). painted r.cells x.rows i k) (sym e);
        cursor = s.cursor ∙ sym d;
        inside = subst (λ (x : Position). x.col < q.width) (sym d) s.inside;
      }

  begun-resized : {p q : Page} {ws : List Write} {m o : Option Position} {g : Sheet} → Begun r p ws m g o q → Begun r p ws m (resized r q g) (kept_mark q g o) q
  begun-resized {p} {q} {ws} {m} {o} {g} b =
      let e = cond-true (same_size g q) g (record { frame = rewrapped (at q.width r) g.frame; width = q.width; height = q.height }) b.size in
      let k = cond-true (same_size g q) o None b.size in
      record {
        size = resized-size q g;
        width = ap (λ (s : Sheet). s.width) e ∙ b.width;
        frame = ap (λ (s : Sheet). s.frame) e ∙ b.frame;
        mark = k ∙ b.mark;
        inside = subst (λ x. Inside x q.width) (sym k) b.inside;
      }

  rests-inside : (a : Position) (o : Option Position) (w : ℕ) → a.col < w → Inside o w → (rests_at a o).col < w
  rests-inside a None w h g = h
  rests-inside a (Some x) w h g = g

  -- what a finish makes of the page
  redrawn : {p q t : Page} {n : Frame} {f g : Sheet} {c : Position} {ws : List Write} {m o : Option Position} (b : Bool) → Still r p n f c q → Begun r p ws m g o q →
      Did r.cells (finishing r f c g o b) q t → Redrawn r.cells (done r g).rows (rests_at (behind f.frame.rows (done r g).rows b) o) q t
  redrawn {q = q} {t = t} {f = f} {g = g} {c = c} {o = o} b s k d = redraw r.cells f.frame.rows (done r g).rows c b o q t s.shows s.cursor s.inside k.inside d

  -- a mark's column lies on the page
  mark-inside : (k : Rule) (f : Frame) (n w : ℕ) → k.columns ≡ w → 0 < w → (mark_at k f n).col < w
  mark-inside k f n w e some = subst (λ v. mark_column f.width n % v < w) (sym e) (mod-lt (mark_column f.width n) some)

  kept : {p : Page} {es : List Event} {m : Machine} → Blank p → History r p es m → Kept r p (newest (at p.width r) r es) (writes_of es) (mark_of (at p.width r) r es) (Faultless es) m
  kept b untouched = record {
    size = record { width = refl; height = refl };
    last = refl;
    folded = inr refl;
    shows = λ i k h g. b.cells i k h g;
    cursor = b.cursor;
    inside = b.some;
  }
  kept b (then h (start-narrow x)) = kept b h
  kept b (then h (start-large x y)) = kept b h
  kept b (then h (refresh-narrow x)) = kept b h
  kept b (then h (refresh-large x y)) = kept b h
  kept b (then h (denies x)) = kept b h
  kept b (then h (mark-bad x)) = kept b h
  kept {p} b (then h (starts {p = q} x y)) =
      let k = kept b h in
      (still-resized k, record { size = same_size-made q.width q.height q (empty r) refl refl; width = k.size.width; frame = refl; mark = refl; inside = tt })
  kept b (then h (refreshes x y)) = let k = kept b h in (still-resized k.0, begun-resized k.1)
  kept {p} b (then h (writes {g = g} {s = s} {text = text} x)) =
      let k = kept b h in
      let e = x.frame ∙ (λ i. written (at (k.1.width i) r) s text (k.1.frame i)) in
      (k.0, record { size = k.1.size; width = k.1.width; frame = e; mark = k.1.mark; inside = k.1.inside })
  kept {p} b (then h (marks {g = g} {p = q} {n = n} x)) =
      let k = kept b h in
      let w = k.0.size.width in
      let some : 0 < q.width = omega (arith, b.some) in
      (k.0, record { size = k.1.size; width = k.1.width; frame = k.1.frame; mark = λ i. Some (mark_at (at (k.1.width i) r) (k.1.frame i) n); inside = mark-inside (at g.width r) g.frame n q.width (k.1.width ∙ sym w) some })
  kept {p} b (then h (finishes {f = f} {g = g} {o = o} {p = q} {q = t} {b = e} d)) =
      let k = kept b h in
      let x = redrawn e k.0 k.1 d in
      let s = k.0.size in
      let i = k.0.inside in
      record {
        size = record { width = x.width ∙ s.width; height = x.height ∙ s.height };
        last = λ i. finished (at (k.1.width i) r) (k.1.frame i);
        folded = inl (same-page g q t x.width x.height k.1.size);
        shows = x.shows;
        cursor = x.cursor;
        inside = rw x.width (rests-inside (behind f.frame.rows (done r g).rows e) o _ (omega arith) k.1.inside);
      }
  kept b (then h (breaks x y)) = λ none. none

  shows-newest : (p : Page) (es : List Event) (m : Machine) → Faultless es → Kept r p (newest (at p.width r) r es) (writes_of es) (mark_of (at p.width r) r es) (Faultless es) m →
      Shows (page_of m) (painted r.cells (newest (at p.width r) r es).rows)
  shows-newest p es (resting f c q) x k i j h g = k.shows i j h g ∙ ap (λ (n : Frame). painted r.cells n.rows i j) k.last
  shows-newest p es (drawn f c g o q) x k i j h e = k.0.shows i j h e ∙ ap (λ (n : Frame). painted r.cells n.rows i j) k.0.last
  shows-newest p es (lost q) x k i j h e = absurd (k x)

  faithful : Faithful r
  faithful p es m b h x = shows-newest p es m x (kept b h)

  marked : Marked r
  marked p b es m blank (then h (finishes {f = f} {g = g} d)) x =
      let k = kept blank h in
      let e = redrawn b k.0 k.1 d in
      (e.shown, λ x t. e.cursor ∙ ap (rests_at (behind f.frame.rows (done r g).rows b)) (k.1.mark ∙ t))

  idles : Idle r
  idles p b es m n blank h x t (finishes {f = f} {g = g} {c = c} {o = o} {p = q} {q = u} d) =
      let k = kept blank h in
      let same : f.frame ≡ done r g = k.0.last ∙ ap (finished_frame (at p.width r) r) t ∙ sym (λ i. finished (at (k.1.width i) r) (k.1.frame i)) in
      idle r.cells f.frame.rows (done r g).rows c b o q u (ap (λ (f : Frame). f.rows) same) d

  -- the orders of a finish are those that the events tell
  told : (p : Page) (es : List Event) {f g : Sheet} {c : Position} {o : Option Position} {q : Page} (b : Bool) →
      Still r p (newest (at p.width r) r es) f c q → Begun r p (writes_of es) (mark_of (at p.width r) r es) g o q →
      finishing r f c g o b ≡ orders (at p.width r) r es b q.cursor
  told p es b s k = λ i. drawing (s.last i).rows (finished (at (k.width i) r) (k.frame i)).rows (sym s.cursor i) b (k.mark i)

  exact : Exact r
  exact p b es m n blank h x (finishes {p = q} {q = t} d) =
      let k = kept blank h in
      let d = subst (λ os. Did r.cells os q t) (told p es b k.0 k.1) d in
      let l = did-left d in
      (did-effects r.cells d, l.0, l.1)

  broken : Broken r
  broken p b e es m n blank h x (breaks {p = q} {q = t} {d = d} s y) =
      let k = kept blank h in
      (d, subst (λ os. Stopped r.cells os q d e.fault t) (told p es b k.0 k.1) s, y)

pub law : Law
law r = record { faithful = faithful r; marked = marked r; idle = idles r; exact = exact r; broken = broken r }
