-- Frames that fit: those before them fit too, and what is stored on the way keeps within the limits.
use Rattle.std.proofs.Common.{◌≡◌, ℕ, ◌+◌, ◌-◌, ◌<◌, true, false, cond, not, ◌||◌, ltb, List, ◌∷◌, length, sym, ap, ◌∙◌, subst, arith}
use Rattle.std.proofs.lemmas.Bool.{cond_both}
use Rattle.style.specs.Styles.{is_plain}
use Rattle.ansi.specs.Pieces.{Part}
use Rattle.layout.specs.Frames.{Frame, Rule}
use Rattle.layout.specs.Writing.{some, joined_runs, closed, carried, folding, newline, put, put_all, ended}
use Rattle.layout.specs.Limits.{small, fits, runs_of_rows}
use Rattle.layout.specs.Tally.{Within, tally_of, tally_put, tally_all, tally_fits}
use Rattle.layout.proofs.Counts.{tally-closed, joining-some}
use Rattle.layout.proofs.Tallies.{tally-fits, tally-put, tally-put-all, tally-carried, tally-newline, style-put, style-put-all, finished-ended}
use Rattle.layout.proofs.Monotone.{tally-fits-put, tally-fits-all, tally-fits-carried, tally-within}

pub fits-ended : (k : Rule) (f : Frame) → fits k (ended f) ≡ fits k f
fits-ended k f = ap (λ g. small g.rows) (finished-ended k f)

pub fits-carried : (k : Rule) (bs : List ℕ) (n : ℕ) (f : Frame) → fits k (carried k bs n f) ≡ true → fits k f ≡ true
fits-carried k bs n f h =
    tally-fits k f ∙ tally-fits-carried (is_plain f.style) bs n (tally_of f) (ap (tally_fits (is_plain f.style)) (sym (tally-carried k bs n f)) ∙ sym (tally-fits k (carried k bs n f)) ∙ h)

pub fits-put : (k : Rule) (f : Frame) (p : Part) → fits k (put k f p) ≡ true → fits k f ≡ true
fits-put k f p h =
    let s = style-put k f p in
    let t = tally-put k f p in
    let e : tally_fits (is_plain f.style) (tally_put k (is_plain f.style) (tally_of f) p) ≡ fits k (put k f p) = sym (tally-fits k (put k f p) ∙ (λ i. tally_fits (is_plain (s i)) (t i))) in
    tally-fits k f ∙ tally-fits-put k (is_plain f.style) (tally_of f) p (e ∙ h)

pub fits-put-all : (k : Rule) (f : Frame) (ps : List Part) → fits k (put_all k f ps) ≡ true → fits k f ≡ true
fits-put-all k f ps h =
    let s = style-put-all k f ps in
    let t = tally-put-all k f ps in
    let e : tally_fits (is_plain f.style) (tally_all k (is_plain f.style) (tally_of f) ps) ≡ fits k (put_all k f ps) = sym (tally-fits k (put_all k f ps) ∙ (λ i. tally_fits (is_plain (s i)) (t i))) in
    tally-fits k f ∙ tally-fits-all k (is_plain f.style) (tally_of f) ps (e ∙ h)

pub fits-first : (k : Rule) (f : Frame) (p : Part) (ps : List Part) → fits k (put_all k f (p ∷ ps)) ≡ true → fits k (put k f p) ≡ true
unfolding put_all
fits-first k f p ps h = fits-put-all k (put k f p) ps h

pub fits-within : (k : Rule) (f : Frame) → fits k f ≡ true → Within (tally_of f)
fits-within k f h = (tally-within (is_plain f.style) (tally_of f) (sym (tally-fits k f) ∙ h)).0

pub closed-within : (k : Rule) (f : Frame) → fits k f ≡ true → Within (tally_of (closed k false f))
closed-within k f h = subst Within (sym (tally-closed k false f)) (tally-within (is_plain f.style) (tally_of f) (sym (tally-fits k f) ∙ h)).1

pub newline-within : (k : Rule) (f : Frame) → fits k (newline k f) ≡ true → Within (tally_of (closed k true f))
newline-within k f h = subst Within (tally-newline k f ∙ sym (tally-closed k true f)) (fits-within k (newline k f) h)

pub folding-within : (k : Rule) (c : ℕ) (f : Frame) → fits k f ≡ true → Within (tally_of (folding k c f))
folding-within k c f h = cond_both (ltb (k.columns - f.width) (k.cells c)) (closed k false f) f (λ g. Within (tally_of g)) (λ _. closed-within k f h) (λ _. fits-within k f h)

-- what a store with these limits has room for
pub run_room : (k : Rule) (f : Frame) → fits k f ≡ true → (some f.text || not (is_plain f.style)) ≡ true → runs_of_rows f.rows + length f.runs < 1024
run_room k f h e =
    let n : ℕ = runs_of_rows f.rows + length f.runs in
    let w = (tally-within (is_plain f.style) (tally_of f) (sym (tally-fits k f) ∙ h)).1.runs in
    let one = ap (λ b. cond b (n + 1) n) e in
    omega (arith, w, one)

pub row_room : (k : Rule) (f : Frame) → fits k f ≡ true → some (joined_runs f) ≡ true → length f.rows < 256
row_room k f h e =
    let n : ℕ = length f.rows in
    let w = (tally-within (is_plain f.style) (tally_of f) (sym (tally-fits k f) ∙ h)).1.rows in
    let one = ap (λ b. cond b (n + 1) n) (sym (joining-some f.runs f.text f.style (some f.text || not (is_plain f.style))) ∙ e) in
    omega (arith, w, one)

pub newline-room : (k : Rule) (f : Frame) → fits k (newline k f) ≡ true → length f.rows < 256
newline-room k f h =
    let w = (fits-within k (newline k f) h).rows in
    let e = ap (λ t. t.rows) (tally-newline k f) in
    omega (arith, w, e)
