-- No step of a frame lowers a count.
use Rattle.std.proofs.Common.{ℕ, ◌+◌, ◌-◌, ◌≤◌, Bool, true, false, cond, ◌||◌, eqb, ltb, List, [], ◌∷◌, sym, subst, arith}
use lib.Utf8.{encode}
use Rattle.std.proofs.lemmas.Bool.{cond_both}
use Rattle.style.specs.Styles.{is_plain}
use Rattle.style.specs.declared.style.StyleSheet.{StyleSheet}
use Rattle.ansi.specs.Pieces.{Part, sequence, letter, pieces}
use Rattle.layout.specs.Frames.{Frame, Rule}
use Rattle.layout.specs.Writing.{closed, written}
use Rattle.layout.specs.Tally.{Tally, Within, Grows, tally_of, tally_joins, tally_closed, tally_carried, tally_folding, tally_put, tally_all, tally_ended}
use Rattle.layout.proofs.Counts.{tally-closed}
use Rattle.layout.proofs.Tallies.{tally-of-written}

pub grows_self : (t : Tally) → Grows t t
grows_self t = record { bytes = omega arith; runs = omega arith; rows = omega arith }

pub grows-join : (t u v : Tally) → Grows t u → Grows u v → Grows t v
grows-join t u v p q = record { bytes = omega (arith, p.bytes, q.bytes); runs = omega (arith, p.runs, q.runs); rows = omega (arith, p.rows, q.rows) }

pub within-grows : (t u : Tally) → Grows t u → Within u → Within t
within-grows t u p q = record { bytes = omega (arith, p.bytes, q.bytes); runs = omega (arith, p.runs, q.runs); rows = omega (arith, p.rows, q.rows) }

pub at_least : (b : Bool) (n : ℕ) → n ≤ cond b (n + 1) n
at_least b n = grind arith

pub grows-tally-closed : (bare always : Bool) (t : Tally) → Grows t (tally_closed bare always t)
grows-tally-closed bare always t = record { bytes = omega arith; runs = at_least (tally_joins bare t) t.runs; rows = at_least (always || (tally_joins bare t || t.begun)) t.rows }

grows-carried : (bs : List ℕ) (n : ℕ) (t : Tally) → Grows t (tally_carried bs n t)
grows-carried bs n t = record { bytes = omega arith; runs = omega arith; rows = omega arith }

grows-folding : (k : Rule) (bare : Bool) (c : ℕ) (t : Tally) → Grows t (tally_folding k bare c t)
grows-folding k bare c t = cond_both (ltb (k.columns - t.width) (k.cells c)) (tally_closed bare false t) t (Grows t) (λ _. grows-tally-closed bare false t) (λ _. grows_self t)

pub grows-put : (k : Rule) (bare : Bool) (t : Tally) (p : Part) → Grows t (tally_put k bare t p)
grows-put k bare t (sequence bs) = grows-carried bs 0 t
grows-put k bare t (letter c) =
    let u : Tally = tally_folding k bare c t in
    let v : Tally = tally_carried (encode c) (k.cells c) u in
    cond_both (eqb c 10) (tally_closed bare true t) v (Grows t) (λ _. grows-tally-closed bare true t) (λ _. grows-join t u v (grows-folding k bare c t) (grows-carried (encode c) (k.cells c) u))

pub grows_all : (k : Rule) (bare : Bool) (t : Tally) (ps : List Part) → Grows t (tally_all k bare t ps)
unfolding tally_all
grows_all k bare t [] = grows_self t
grows_all k bare t (p ∷ ps) = grows-join t (tally_put k bare t p) (tally_all k bare (tally_put k bare t p) ps) (grows-put k bare t p) (grows_all k bare (tally_put k bare t p) ps)

pub grows-ended : (t : Tally) → Grows t (tally_ended t)
grows-ended t =
    cond_both t.text (record { rows = t.rows; runs = t.runs + 1; bytes = t.bytes; begun = true; text = false; width = t.width }) t (Grows t)
    (λ _. record { bytes = omega arith; runs = omega arith; rows = omega arith }) (λ _. grows_self t)

pub grows-closed : (k : Rule) (always : Bool) (f : Frame) → Grows (tally_of f) (tally_of (closed k always f))
grows-closed k always f = subst (Grows (tally_of f)) (sym (tally-closed k always f)) (grows-tally-closed (is_plain f.style) always (tally_of f))

pub grows-written : (k : Rule) (s : StyleSheet) (text : List ℕ) (f : Frame) → Grows (tally_of f) (tally_of (written k s text f))
grows-written k s text f =
    let t : Tally = tally_all k (is_plain s) (tally_of f) (pieces text) in
    subst (Grows (tally_of f)) (sym (tally-of-written k s text f)) (grows-join (tally_of f) t (tally_ended t) (grows_all k (is_plain s) (tally_of f) (pieces text)) (grows-ended t))
