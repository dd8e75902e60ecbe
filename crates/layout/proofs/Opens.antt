-- What the open row carries, while pieces are put.
use Rattle.std.proofs.Common.{◌≡◌, ℕ, ◌+◌, ◌≤◌, Bool, true, false, not, ◌||◌, List, [], ◌∷◌, ◌++◌, sym, refl, ap, ◌∙◌, subst, append_assoc, append-nil, arith}
use Rattle.std.specs.List.{AllByRecursion}
use Rattle.std.proofs.ByRecursion.{All-append}
use Rattle.std.proofs.lemmas.List.Sums.{fold_push}
use Rattle.std.proofs.lemmas.Bool.{cond_both, true≢false}
use Rattle.style.specs.Styles.{plain, is_plain}
use Rattle.style.specs.declared.style.StyleSheet.{StyleSheet}
use Rattle.ansi.specs.Pieces.{Part, bytes, joined, pieces}
use Rattle.pen.specs.Checks.{Accepted}
use Rattle.layout.specs.Frames.{Run, Row, Frame, Rule}
use Rattle.layout.specs.Writing.{some, run, joined_runs, carried, styled, ended, opening, fed_piece}
use Rattle.layout.specs.Inks.{Ink, ink, inks, inks_of, cells_of, cells_of_part, is_line, fed_inks}
use Rattle.layout.proofs.Counts.{joining}
use Rattle.layout.proofs.Seams.{Fine, pieces-joined, no_pieces, fine-accepted}

inks-append : (s : StyleSheet) (ps qs : List Part) → inks s (ps ++ qs) ≡ inks s ps ++ inks s qs
inks-append s [] qs = refl
inks-append s (p ∷ ps) qs = ap (λ l. ink s p ∷ l) (inks-append s ps qs)

inks-of-push : (rs : List Run) (r : Run) → inks_of (rs ++ (r ∷ [])) ≡ inks_of rs ++ inks r.style (pieces r.text)
inks-of-push [] r = append-nil (inks r.style (pieces r.text))
inks-of-push (q ∷ rs) r = ap (λ l. inks q.style (pieces q.text) ++ l) (inks-of-push rs r) ∙ sym (append_assoc (inks q.style (pieces q.text)) (inks_of rs) (inks r.style (pieces r.text)))

inks-of-joining : (rs : List Run) (bs : List ℕ) (s : StyleSheet) (bare : Bool) → inks_of (joining rs bs s (some bs || not bare)) ≡ inks_of rs ++ inks s (pieces bs)
inks-of-joining rs [] s true = sym (append-nil (inks_of rs)) ∙ ap (λ l. inks_of rs ++ inks s l) (sym no_pieces)
inks-of-joining rs [] s false = inks-of-push rs (run [] s)
inks-of-joining rs (b ∷ bs) s bare = inks-of-push rs (run (b ∷ bs) s)

joined-push : (ps : List Part) (p : Part) → joined (ps ++ (p ∷ [])) ≡ joined ps ++ bytes p
joined-push [] p = append-nil (bytes p)
joined-push (q ∷ ps) p = ap (λ l. bytes q ++ l) (joined-push ps p) ∙ sym (append_assoc (bytes q) (joined ps) (bytes p))

cells-push : (k : Rule) (us : List Ink) (u : Ink) → cells_of k (us ++ (u ∷ [])) ≡ cells_of k us + cells_of_part k u.part
cells-push k [] u = omega arith
cells-push k (v ∷ us) u = let h = cells-push k us u in omega arith

abbrev pub Taken : Run → Type 0
Taken r = Accepted r.text

-- The open row of f was opened with the hash h and carries us; the current run has the pieces ts.
pub record Open (k : Rule) (f : Frame) (h : ℕ) (us : List Ink) : Type 0 where
  pub ts : List Part
  pub texts : AllByRecursion Taken f.runs
  pub fine : AllByRecursion Fine ts
  pub text : f.text ≡ joined ts
  pub carries : inks_of f.runs ++ inks f.style ts ≡ us
  pub unbroken : AllByRecursion (λ u. is_line u.part ≡ false) us
  pub width : f.width ≡ cells_of k us
  pub within : f.width ≤ k.columns
  pub hash : f.hash ≡ fed_inks k h us

-- the pieces of the current run are those of its bytes
pub open-pieces : (k : Rule) (f : Frame) (h : ℕ) (us : List Ink) (o : Open k f h us) → pieces f.text ≡ o.ts
open-pieces k f h us o = ap pieces o.text ∙ pieces-joined o.ts o.fine

open-text : (k : Rule) (f : Frame) (h : ℕ) (us : List Ink) → Open k f h us → Accepted f.text
open-text k f h us o = subst Accepted (sym o.text) (fine-accepted o.ts o.fine)

pub open-texts : (k : Rule) (f : Frame) (h : ℕ) (us : List Ink) → Open k f h us → AllByRecursion Taken (joined_runs f)
open-texts k f h us o =
    cond_both (some f.text || not (is_plain f.style)) (f.runs ++ (run f.text f.style ∷ [])) f.runs (AllByRecursion Taken)
    (λ _. All-append Taken f.runs (run f.text f.style ∷ []) o.texts (open-text k f h us o, tt)) (λ _. o.texts)

-- a row that is closed carries what the open row carried
pub open-runs : (k : Rule) (f : Frame) (h : ℕ) (us : List Ink) → Open k f h us → inks_of (joined_runs f) ≡ us
open-runs k f h us o =
    inks-of-joining f.runs f.text f.style (is_plain f.style) ∙ ap (λ l. inks_of f.runs ++ inks f.style l) (open-pieces k f h us o) ∙ o.carries

-- behind a row that was closed
pub open_none : (k : Rule) (rows : List Row) (s : StyleSheet) → Open k (record { rows = rows; runs = []; text = []; style = s; width = 0; hash = opening k s }) (opening k s) []
open_none k rows s = record { ts = []; texts = tt; fine = tt; text = refl; carries = refl; unbroken = tt; width = refl; within = omega arith; hash = refl }

-- a piece joins
pub open-carried : (k : Rule) (f : Frame) (h : ℕ) (us : List Ink) (p : Part) → Open k f h us → Fine p → is_line p ≡ false → f.width + cells_of_part k p ≤ k.columns → Open k (carried k (bytes p) (cells_of_part k p) f) h (us ++ (ink f.style p ∷ []))
open-carried k f h us p o fine other fits =
    let u : Ink = ink f.style p in
    record {
      ts = o.ts ++ (p ∷ []);
      texts = o.texts;
      fine = All-append Fine o.ts (p ∷ []) o.fine (fine, tt);
      text = ap (λ l. l ++ bytes p) o.text ∙ sym (joined-push o.ts p);
      carries = ap (λ l. inks_of f.runs ++ l) (inks-append f.style o.ts (p ∷ [])) ∙ sym (append_assoc (inks_of f.runs) (inks f.style o.ts) (u ∷ [])) ∙ ap (λ l. l ++ (u ∷ [])) o.carries;
      unbroken = All-append (λ v. is_line v.part ≡ false) us (u ∷ []) o.unbroken (other, tt);
      width = omega (arith, o.width, cells-push k us u);
      within = fits;
      hash = ap (λ n. fed_piece k f.style n (bytes p)) o.hash ∙ sym (fold_push (λ n v. fed_piece k v.style n (bytes v.part)) h us u);
    }

-- the style of a current run without bytes may change
pub open-styled : (k : Rule) (f : Frame) (h : ℕ) (us : List Ink) (s : StyleSheet) → Open k f h us → f.text ≡ [] → Open k (styled s f) h us
open-styled k f h us s o e =
    let none : o.ts ≡ [] = sym (open-pieces k f h us o) ∙ ap pieces e ∙ no_pieces in
    record { ts = []; texts = o.texts; fine = tt; text = e; carries = ap (λ l. inks_of f.runs ++ inks f.style l) (sym none) ∙ o.carries; unbroken = o.unbroken; width = o.width; within = o.within; hash = o.hash }

nothing : (bs : List ℕ) → some bs ≡ false → bs ≡ []
nothing [] e = refl
nothing (b ∷ bs) e = absurd (true≢false e)

-- the end of a text
pub record Rests (k : Rule) (f : Frame) (h : ℕ) (us : List Ink) (g : Frame) : Type 0 where
  pub open_row : Open k g h us
  pub text : g.text ≡ []
  pub rows : g.rows ≡ f.rows

pub open-ended : (k : Rule) (f : Frame) (h : ℕ) (us : List Ink) → Open k f h us → Rests k f h us (ended f)
open-ended k f h us o =
    let r : Run = run f.text f.style in
    let all = append-nil (inks_of (f.runs ++ (r ∷ []))) ∙ inks-of-push f.runs r ∙ ap (λ l. inks_of f.runs ++ inks f.style l) (open-pieces k f h us o) ∙ o.carries in
    cond_both (some f.text) (record { rows = f.rows; runs = f.runs ++ (r ∷ []); text = []; style = plain; width = f.width; hash = f.hash }) f (Rests k f h us)
    (λ _. record { open_row = record { ts = []; texts = All-append Taken f.runs (r ∷ []) o.texts (open-text k f h us o, tt); fine = tt; text = refl; carries = all; unbroken = o.unbroken; width = o.width; within = o.within; hash = o.hash }; text = refl; rows = refl })
    (λ e. record { open_row = o; text = nothing f.text e; rows = refl })
