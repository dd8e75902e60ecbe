-- The rows of a frame break as the law says.
use Rattle.std.proofs.Common.{◌≡◌, ℕ, ◌+◌, ◌-◌, ◌<◌, ◌≤◌, Bool, true, false, cond, eqb, ltb, List, [], ◌∷◌, ◌++◌, sym, refl, ap, ◌∙◌, subst, append_assoc, append-nil, arith}
use lib.Utf8.{encode}
use Rattle.std.specs.List.{AllByRecursion}
use Rattle.std.proofs.lemmas.Bool.{eqb-true, ltb-true, ltb-false, true≢false}
use Rattle.std.proofs.lemmas.List.Sums.{fold_push}
use Rattle.style.specs.Styles.{plain}
use Rattle.style.specs.declared.style.StyleSheet.{StyleSheet}
use Rattle.ansi.specs.Pieces.{Part, sequence, letter, bytes, pieces}
use Rattle.pen.specs.Checks.{Accepted}
use Rattle.layout.specs.Frames.{Run, Row, Frame, Rule}
use Rattle.layout.specs.Writing.{some, joined_runs, closed, carried, folding, newline, put_all, styled, ended, written, opening, fresh, fed_piece}
use Rattle.layout.specs.Inks.{Write, Ink, ink, inks, inks_of, inks_given, drawn, cells_of, cells_of_part, is_line, fed_inks}
use Rattle.layout.specs.RowLaw.{Fair, Breaks}
use Rattle.layout.specs.RowLaw.Breaks.{none, last, line, fold}
use Rattle.layout.proofs.Seams.{Fine, accepted-fine}
use Rattle.layout.proofs.Opens.{Open, open-runs, open-texts, open_none, open-carried, open-styled, open-ended}

-- the rows become all, and those behind them break as us
record Ends (k : Rule) (rows : List Row) (h : ℕ) (us : List Ink) (all : List Row) : Type 0 where
  new : List Row
  all-is : all ≡ rows ++ new
  breaks : Breaks k h us new

-- a row that is closed now, under a hash
abbrev shut : Frame → ℕ → Row
shut f n = record { runs = joined_runs f; width = f.width; hash = n }

fair : (k : Rule) (f : Frame) (h : ℕ) (us : List Ink) (n : ℕ) → Open k f h us → Fair k (shut f n)
fair k f h us n o =
    let e = sym (open-runs k f h us o) in
    record {
      texts = open-texts k f h us o;
      unbroken = subst (AllByRecursion (λ u. is_line u.part ≡ false)) e o.unbroken;
      width = o.width ∙ ap (cells_of k) e;
      within = o.within;
    }

-- the frame is finished
no-inks : (rs : List Run) → some rs ≡ false → inks_of rs ≡ []
no-inks [] e = refl
no-inks (r ∷ rs) e = absurd (true≢false e)

finish : (k : Rule) (f : Frame) (h : ℕ) (us : List Ink) → Open k f h us → Ends k f.rows h (us ++ []) (closed k false f).rows
finish k f h us o = by (some (joined_runs f)) refl
  where
    e : inks_of (joined_runs f) ≡ us
    e = open-runs k f h us o

    by : (b : Bool) → some (joined_runs f) ≡ b → Ends k f.rows h (us ++ []) (cond b (f.rows ++ (shut f f.hash ∷ [])) f.rows)
    by true t =
        let w : Row = shut f f.hash in
        record { new = w ∷ []; all-is = refl; breaks = subst (λ l. Breaks k h l (w ∷ [])) (e ∙ sym (append-nil us)) (last h w (fair k f h us f.hash o) t (o.hash ∙ ap (fed_inks k h) (sym e))) }
    by false t = record { new = []; all-is = sym (append-nil f.rows); breaks = subst (λ l. Breaks k h l []) (sym (no-inks (joined_runs f) t) ∙ e ∙ sym (append-nil us)) (none h) }

-- one row more
ends-behind : (k : Rule) (rows : List Row) (w : Row) (g h : ℕ) (us vs : List Ink) (all : List Row) → Ends k (rows ++ (w ∷ [])) g us all → ((ws : List Row) → Breaks k g us ws → Breaks k h vs (w ∷ ws)) → Ends k rows h vs all
ends-behind k rows w g h us vs all e more = record { new = w ∷ e.new; all-is = e.all-is ∙ append_assoc rows (w ∷ []) e.new; breaks = more e.new e.breaks }

-- final gives the rows in the end, and rest is what comes behind the pieces
module _ (k : Rule) (broad : 2 ≤ k.columns) (narrow : (c : ℕ) → k.cells c ≤ 2) (final : Frame → List Row) (rest : List Ink) where
  abbrev Leads : List Part → Type 0
  Leads ps = (f : Frame) (h : ℕ) (us : List Ink) → Open k f h us → Ends k f.rows h (us ++ (inks f.style ps ++ rest)) (final (put_all k f ps))

  lead-carried : (p : Part) (ps : List Part) → Leads ps → Fine p → is_line p ≡ false → (f : Frame) (h : ℕ) (us : List Ink) → Open k f h us → f.width + cells_of_part k p ≤ k.columns → Ends k f.rows h (us ++ (ink f.style p ∷ (inks f.style ps ++ rest))) (final (put_all k (carried k (bytes p) (cells_of_part k p) f) ps))
  lead-carried p ps more fine other f h us o fits =
      let u : Ink = ink f.style p in
      let g : Frame = carried k (bytes p) (cells_of_part k p) f in
      subst (λ l. Ends k f.rows h l (final (put_all k g ps))) (append_assoc us (u ∷ []) (inks f.style ps ++ rest)) (more g h (us ++ (u ∷ [])) (open-carried k f h us p o fine other fits))

  lead-line : (ps : List Part) → Leads ps → (f : Frame) (h : ℕ) (us : List Ink) → Open k f h us → Ends k f.rows h (us ++ (ink f.style (letter 10) ∷ (inks f.style ps ++ rest))) (final (put_all k (newline k f) ps))
  unfolding encode
  lead-line ps more f h us o =
      let s : StyleSheet = f.style in
      let u : Ink = ink s (letter 10) in
      let vs : List Ink = inks s ps ++ rest in
      let w : Row = shut f (fed_piece k s f.hash (10 ∷ [])) in
      let e = open-runs k f h us o in
      let fed = ap (λ n. fed_piece k s n (10 ∷ [])) o.hash ∙ sym (fold_push (λ n v. fed_piece k v.style n (bytes v.part)) h us u) ∙ ap (λ l. fed_inks k h (l ++ (u ∷ []))) (sym e) in
      ends-behind k f.rows w (opening k s) h vs (us ++ (u ∷ vs)) (final (put_all k (newline k f) ps)) (more (newline k f) (opening k s) [] (open_none k (f.rows ++ (w ∷ [])) s))
      (λ ws b. subst (λ l. Breaks k h (l ++ (u ∷ vs)) (w ∷ ws)) e (line h w s vs ws (fair k f h us (fed_piece k s f.hash (10 ∷ [])) o) fed b))

  -- a row that is full has runs
  full : (c : ℕ) (f : Frame) (h : ℕ) (us : List Ink) → Open k f h us → k.columns - f.width < k.cells c → (b : Bool) → some (joined_runs f) ≡ b → b ≡ true
  full c f h us o much true e = refl
  full c f h us o much false e =
      let empty : f.width ≡ 0 = o.width ∙ ap (cells_of k) (sym (open-runs k f h us o) ∙ no-inks (joined_runs f) e) in
      absurd (omega (arith, empty, much, broad, narrow c))

  lead-fold : (c : ℕ) (ps : List Part) → Leads ps → Fine (letter c) → eqb c 10 ≡ false → (f : Frame) (h : ℕ) (us : List Ink) → Open k f h us → k.columns - f.width < k.cells c → Ends k f.rows h (us ++ (ink f.style (letter c) ∷ (inks f.style ps ++ rest))) (final (put_all k (carried k (encode c) (k.cells c) (closed k false f)) ps))
  lead-fold c ps more fine other f h us o much =
      let s : StyleSheet = f.style in
      let u : Ink = ink s (letter c) in
      let vs : List Ink = inks s ps ++ rest in
      let w : Row = shut f f.hash in
      let e = open-runs k f h us o in
      let over : k.columns < f.width + k.cells c = omega (arith, much, o.within) in
      let g : Frame = record { rows = f.rows ++ (w ∷ []); runs = []; text = []; style = s; width = 0; hash = opening k s } in
      let has = full c f h us o much (some (joined_runs f)) refl in
      let begun = open-carried k g (opening k s) [] (letter c) (open_none k (f.rows ++ (w ∷ [])) s) fine other (omega (arith, broad, narrow c)) in
      let next = more (carried k (encode c) (k.cells c) g) (opening k s) (u ∷ []) begun in
      let all = final (put_all k (carried k (encode c) (k.cells c) g) ps) in
      let ends = ends-behind k f.rows w (opening k s) h (u ∷ vs) (us ++ (u ∷ vs)) all next
      (λ ws b. subst (λ l. Breaks k h (l ++ (u ∷ vs)) (w ∷ ws)) e (fold h w s c vs ws (fair k f h us f.hash o) other over (o.hash ∙ ap (fed_inks k h) (sym e)) b))
      in
      subst (λ b. Ends k f.rows h (us ++ (u ∷ vs)) (final (put_all k (carried k (encode c) (k.cells c) (record { rows = cond b (f.rows ++ (w ∷ [])) f.rows; runs = []; text = []; style = s; width = 0; hash = opening k s })) ps))) (sym has) ends

  lead-stay : (c : ℕ) (ps : List Part) → Leads ps → Fine (letter c) → eqb c 10 ≡ false → (f : Frame) (h : ℕ) (us : List Ink) → Open k f h us → (b : Bool) → ltb (k.columns - f.width) (k.cells c) ≡ b → Ends k f.rows h (us ++ (ink f.style (letter c) ∷ (inks f.style ps ++ rest))) (final (put_all k (carried k (encode c) (k.cells c) (cond b (closed k false f) f)) ps))
  lead-stay c ps more fine other f h us o true e = lead-fold c ps more fine other f h us o (ltb-true (k.columns - f.width) (k.cells c) e)
  lead-stay c ps more fine other f h us o false e =
      let fits : f.width + k.cells c ≤ k.columns = omega (arith, ltb-false (k.columns - f.width) (k.cells c) e, o.within) in
      lead-carried (letter c) ps more fine other f h us o fits

  lead-letter : (c : ℕ) (ps : List Part) → Leads ps → Fine (letter c) → (f : Frame) (h : ℕ) (us : List Ink) → Open k f h us → (b : Bool) → eqb c 10 ≡ b → Ends k f.rows h (us ++ (ink f.style (letter c) ∷ (inks f.style ps ++ rest))) (final (put_all k (cond b (newline k f) (carried k (encode c) (k.cells c) (folding k c f))) ps))
  lead-letter c ps more fine f h us o true e =
      subst (λ d. Ends k f.rows h (us ++ (ink f.style (letter d) ∷ (inks f.style ps ++ rest))) (final (put_all k (newline k f) ps))) (sym (eqb-true c 10 e)) (lead-line ps more f h us o)
  lead-letter c ps more fine f h us o false e = lead-stay c ps more fine e f h us o (ltb (k.columns - f.width) (k.cells c)) refl

  lead : ((g : Frame) (h : ℕ) (us : List Ink) → Open k g h us → Ends k g.rows h (us ++ rest) (final g)) → (ps : List Part) → AllByRecursion Fine ps → Leads ps
  unfolding put_all
  lead base [] a f h us o = base f h us o
  lead base (sequence bs ∷ ps) a f h us o = lead-carried (sequence bs) ps (lead base ps a.1) a.0 refl f h us o (omega (arith, o.within))
  lead base (letter c ∷ ps) a f h us o = lead-letter c ps (lead base ps a.1) a.0 f h us o (eqb c 10) refl

module _ (k : Rule) (broad : 2 ≤ k.columns) (narrow : (c : ℕ) → k.cells c ≤ 2) where
  abbrev finals : List Write → Frame → List Row
  finals ws f = (closed k false (drawn k f ws)).rows

  -- between two texts
  abbrev Writes : List Write → Type 0
  Writes ws = (f : Frame) (h : ℕ) (us : List Ink) → Open k f h us → f.text ≡ [] → Ends k f.rows h (us ++ inks_given ws) (finals ws f)

  write-one : (s : StyleSheet) (text : List ℕ) → Accepted text → (ws : List Write) → Writes ws → (f : Frame) (h : ℕ) (us : List Ink) → Open k f h us → f.text ≡ [] → Ends k f.rows h (us ++ (inks s (pieces text) ++ inks_given ws)) (finals ws (written k s text f))
  write-one s text ok ws more f h us o e =
      let base : (g : Frame) (n : ℕ) (vs : List Ink) → Open k g n vs → Ends k g.rows n (vs ++ inks_given ws) (finals ws (ended g)) =
      λ g n vs q. let r = open-ended k g n vs q in subst (λ l. Ends k l n (vs ++ inks_given ws) (finals ws (ended g))) r.rows (more (ended g) n vs r.open_row r.text)
      in
      lead k broad narrow (λ g. finals ws (ended g)) (inks_given ws) base (pieces text) (accepted-fine text ok) (styled s f) h us (open-styled k f h us s o e)

  writes : (ws : List Write) → AllByRecursion (λ w. Accepted w.text) ws → Writes ws
  unfolding drawn
  writes [] a f h us o e = finish k f h us o
  writes (w ∷ ws) a f h us o e = write-one w.style w.text a.0 ws (writes ws a.1) f h us o e

  pub rows-break : (ws : List Write) → AllByRecursion (λ w. Accepted w.text) ws → Breaks k k.seed (inks_given ws) (finals ws (fresh k []))
  rows-break ws a =
      let e = writes ws a (fresh k []) k.seed [] (open_none k [] plain) refl in
      subst (Breaks k k.seed (inks_given ws)) (sym e.all-is) e.breaks
