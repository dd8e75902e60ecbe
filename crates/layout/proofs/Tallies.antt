-- Writing, told by counts.
use Rattle.std.proofs.Common.{◌≡◌, ℕ, ◌+◌, ◌-◌, Bool, true, false, cond, ◌&&◌, eqb, ltb, leb, List, [], ◌∷◌, ◌++◌, length, refl, ap, ◌∙◌, arith, length-append}
use lib.Utf8.{encode}
use Rattle.style.specs.Styles.{plain, is_plain}
use Rattle.style.specs.declared.style.StyleSheet.{StyleSheet}
use Rattle.ansi.specs.Pieces.{Part, sequence, letter, pieces}
use Rattle.layout.specs.Frames.{Run, Row, Frame, Rule}
use Rattle.layout.specs.Writing.{some, run, closed, carried, folding, newline, put, put_all, styled, ended, written, finished, fed_piece}
use Rattle.layout.specs.Limits.{bytes_of_runs, bytes_of_rows, runs_of_rows, small, fits}
use Rattle.layout.specs.Tally.{tally_of, tally_closed, tally_carried, tally_folding, tally_put, tally_all, tally_ended, tally_fits}
use Rattle.layout.proofs.Counts.{some-append, no_bytes, bytes-of-runs-push, tally-closed}

-- a function on the two ways of a test
branch : {X Y : Type 0} (g : X → Y) (b : Bool) (x y : X) → g (cond b x y) ≡ cond b (g x) (g y)
branch g true x y = refl
branch g false x y = refl

pub tally-carried : (k : Rule) (bs : List ℕ) (n : ℕ) (f : Frame) → tally_of (carried k bs n f) ≡ tally_carried bs n (tally_of f)
tally-carried k bs n f =
    let more : (bytes_of_rows f.rows + bytes_of_runs f.runs) + length (f.text ++ bs) ≡ ((bytes_of_rows f.rows + bytes_of_runs f.runs) + length f.text) + length bs = omega (arith, length-append f.text bs) in
    let has = some-append f.text bs in
    λ i. record { rows = length f.rows; runs = runs_of_rows f.rows + length f.runs; bytes = more i; begun = some f.runs; text = has i; width = f.width + n }

pub tally-newline : (k : Rule) (f : Frame) → tally_of (newline k f) ≡ tally_closed (is_plain f.style) true (tally_of f)
tally-newline k f = tally-closed k true (record { rows = f.rows; runs = f.runs; text = f.text; style = f.style; width = f.width; hash = fed_piece k f.style f.hash (10 ∷ []) })

pub tally-folding : (k : Rule) (c : ℕ) (f : Frame) → tally_of (folding k c f) ≡ tally_folding k (is_plain f.style) c (tally_of f)
tally-folding k c f =
    let wide : Bool = ltb (k.columns - f.width) (k.cells c) in
    branch tally_of wide (closed k false f) f ∙ ap (λ t. cond wide t (tally_of f)) (tally-closed k false f)

pub tally-put : (k : Rule) (f : Frame) (p : Part) → tally_of (put k f p) ≡ tally_put k (is_plain f.style) (tally_of f) p
tally-put k f (sequence bs) = tally-carried k bs 0 f
tally-put k f (letter c) =
    let right = tally-carried k (encode c) (k.cells c) (folding k c f) ∙ ap (tally_carried (encode c) (k.cells c)) (tally-folding k c f) in
    let left = tally-newline k f in
    branch tally_of (eqb c 10) (newline k f) (carried k (encode c) (k.cells c) (folding k c f)) ∙ (λ i. cond (eqb c 10) (left i) (right i))

-- the style stays while pieces are put
same-ways : {X : Type 0} (b : Bool) (x : X) → cond b x x ≡ x
same-ways true x = refl
same-ways false x = refl

pub style-put : (k : Rule) (f : Frame) (p : Part) → (put k f p).style ≡ f.style
style-put k f (sequence bs) = refl
style-put k f (letter c) =
    let fold = branch (λ g. g.style) (ltb (k.columns - f.width) (k.cells c)) (closed k false f) f ∙ same-ways (ltb (k.columns - f.width) (k.cells c)) f.style in
    branch (λ g. g.style) (eqb c 10) (newline k f) (carried k (encode c) (k.cells c) (folding k c f)) ∙ ap (cond (eqb c 10) f.style) fold ∙ same-ways (eqb c 10) f.style

pub style-put-all : (k : Rule) (f : Frame) (ps : List Part) → (put_all k f ps).style ≡ f.style
unfolding put_all
style-put-all k f [] = refl
style-put-all k f (p ∷ ps) = style-put-all k (put k f p) ps ∙ style-put k f p

pub tally-put-all : (k : Rule) (f : Frame) (ps : List Part) → tally_of (put_all k f ps) ≡ tally_all k (is_plain f.style) (tally_of f) ps
unfolding put_all tally_all
tally-put-all k f [] = refl
tally-put-all k f (p ∷ ps) =
    let s = style-put k f p in
    let t = tally-put k f p in
    tally-put-all k (put k f p) ps ∙ (λ i. tally_all k (is_plain (s i)) (t i) ps)

-- the end of a text
pub tally-ended : (f : Frame) → tally_of (ended f) ≡ tally_ended (tally_of f)
tally-ended f =
    let rs : List Run = f.runs ++ (run f.text f.style ∷ []) in
    let more : runs_of_rows f.rows + length rs ≡ runs_of_rows f.rows + length f.runs + 1 = omega (arith, length-append f.runs (run f.text f.style ∷ [])) in
    let same : bytes_of_rows f.rows + bytes_of_runs rs + 0 ≡ (tally_of f).bytes = omega (arith, bytes-of-runs-push f.runs (run f.text f.style)) in
    let has = some-append f.runs (run f.text f.style ∷ []) in
    branch tally_of (some f.text) (record { rows = f.rows; runs = rs; text = []; style = plain; width = f.width; hash = f.hash }) f
    ∙ (λ i. cond (some f.text) (record { rows = length f.rows; runs = more i; bytes = same i; begun = has i; text = false; width = f.width }) (tally_of f))

pub style-ended : (f : Frame) → (ended f).style ≡ cond (some f.text) plain f.style
style-ended f = branch (λ g. g.style) (some f.text) (record { rows = f.rows; runs = f.runs ++ (run f.text f.style ∷ []); text = []; style = plain; width = f.width; hash = f.hash }) f

-- a frame finished behind the end of a text is the frame finished at once
finished-at : (k : Rule) (rows : List Row) (rs : List Run) (bs : List ℕ) (s : StyleSheet) (w h : ℕ) → (let f : Frame = record { rows = rows; runs = rs; text = bs; style = s; width = w; hash = h } in finished k (ended f) ≡ finished k f)
finished-at k rows rs [] s w h = refl
finished-at k rows rs (c ∷ bs) s w h = refl

pub finished-ended : (k : Rule) (f : Frame) → finished k (ended f) ≡ finished k f
finished-ended k f = finished-at k f.rows f.runs f.text f.style f.width f.hash

-- whether a frame fits is told by its counts
pub tally-fits : (k : Rule) (f : Frame) → fits k f ≡ tally_fits (is_plain f.style) (tally_of f)
tally-fits k f =
    let t = tally-closed k false f in
    let ws : List Row = (closed k false f).rows in
    let b : bytes_of_rows ws ≡ (tally_of f).bytes = omega (arith, ap (λ t. t.bytes) t, no_bytes) in
    let r : runs_of_rows ws ≡ (tally_closed (is_plain f.style) false (tally_of f)).runs = omega (arith, ap (λ t. t.runs) t) in
    let n = ap (λ t. t.rows) t in
    λ i. leb (b i) 16384 && (leb (r i) 1024 && leb (n i) 256)

-- so is whether a text fits
pub tally-written : (k : Rule) (s : StyleSheet) (text : List ℕ) (f : Frame) → fits k (written k s text f) ≡ tally_fits (is_plain s) (tally_all k (is_plain s) (tally_of f) (pieces text))
tally-written k s text f =
    let g : Frame = put_all k (styled s f) (pieces text) in
    let t = tally-put-all k (styled s f) (pieces text) in
    let same = style-put-all k (styled s f) (pieces text) in
    ap (λ h. small h.rows) (finished-ended k g) ∙ tally-fits k g ∙ (λ i. tally_fits (is_plain (same i)) (t i))

pub tally-of-written : (k : Rule) (s : StyleSheet) (text : List ℕ) (f : Frame) → tally_of (written k s text f) ≡ tally_ended (tally_all k (is_plain s) (tally_of f) (pieces text))
tally-of-written k s text f = tally-ended (put_all k (styled s f) (pieces text)) ∙ ap tally_ended (tally-put-all k (styled s f) (pieces text))
