-- What fits after more pieces fitted before: the counts.
use Rattle.std.proofs.Common.{◌≡◌, ℕ, ◌+◌, ◌-◌, ◌≤◌, Bool, true, false, cond, not, ◌&&◌, ◌||◌, eqb, ltb, leb, List, [], ◌∷◌, arith}
use lib.Utf8.{encode}
use Rattle.std.proofs.lemmas.Bool.{and_parts, and_from, leb-true, le-leb, cond_both}
use Rattle.ansi.specs.Pieces.{Part, sequence, letter}
use Rattle.layout.specs.Frames.{Rule}
use Rattle.layout.specs.Writing.{some}
use Rattle.layout.specs.Tally.{Tally, Within, Grows, tally_joins, tally_closed, tally_carried, tally_folding, tally_put, tally_all, tally_fits}
use Rattle.layout.proofs.Grow.{at_least, grows_self, grows-join, grows-tally-closed, within-grows}

-- finished now, t would count at most what u would
abbrev Below : Bool → Tally → Tally → Type 0
Below bare t u = Grows (tally_closed bare false t) (tally_closed bare false u)

runs_grow : (bare text more : Bool) (n : ℕ) → cond (text || not bare) (n + 1) n ≤ cond ((more || text) || not bare) (n + 1) n
runs_grow bare text more n = grind arith

rows_grow : (bare text more begun : Bool) (n : ℕ) → cond ((text || not bare) || begun) (n + 1) n ≤ cond (((more || text) || not bare) || begun) (n + 1) n
rows_grow bare text more begun n = grind arith

carried-below : (bare : Bool) (bs : List ℕ) (n : ℕ) (t : Tally) → Below bare t (tally_carried bs n t)
carried-below bare bs n t = record { bytes = omega arith; runs = runs_grow bare t.text (some bs) t.runs; rows = rows_grow bare t.text (some bs) t.begun t.rows }

below_self : (bare : Bool) (t : Tally) → Below bare t t
below_self bare t = grows_self (tally_closed bare false t)

below-join : (bare : Bool) (t u v : Tally) → Below bare t u → Below bare u v → Below bare t v
below-join bare t u v p q = grows-join (tally_closed bare false t) (tally_closed bare false u) (tally_closed bare false v) p q

closed-rows-grow : (always here : Bool) (n : ℕ) → cond here (n + 1) n ≤ cond (always || here) (n + 1) n
closed-rows-grow always here n = grind arith

closed-below : (bare always : Bool) (t : Tally) → Below bare t (tally_closed bare always t)
closed-below bare always t =
    let u : Tally = tally_closed bare always t in
    record {
      bytes = omega arith;
      runs = at_least (tally_joins bare u) u.runs;
      rows = omega (arith, closed-rows-grow always (tally_joins bare t || t.begun) t.rows, at_least (tally_joins bare u || u.begun) u.rows);
    }

folding-below : (k : Rule) (bare : Bool) (c : ℕ) (t : Tally) → Below bare t (tally_folding k bare c t)
folding-below k bare c t = cond_both (ltb (k.columns - t.width) (k.cells c)) (tally_closed bare false t) t (Below bare t) (λ _. closed-below bare false t) (λ _. below_self bare t)

put-below : (k : Rule) (bare : Bool) (t : Tally) (p : Part) → Below bare t (tally_put k bare t p)
put-below k bare t (sequence bs) = carried-below bare bs 0 t
put-below k bare t (letter c) =
    let u : Tally = tally_folding k bare c t in
    let v : Tally = tally_carried (encode c) (k.cells c) u in
    cond_both (eqb c 10) (tally_closed bare true t) v (Below bare t) (λ _. closed-below bare true t) (λ _. below-join bare t u v (folding-below k bare c t) (carried-below bare (encode c) (k.cells c) u))

all-below : (k : Rule) (bare : Bool) (t : Tally) (ps : List Part) → Below bare t (tally_all k bare t ps)
unfolding tally_all
all-below k bare t [] = below_self bare t
all-below k bare t (p ∷ ps) = below-join bare t (tally_put k bare t p) (tally_all k bare (tally_put k bare t p) ps) (put-below k bare t p) (all-below k bare (tally_put k bare t p) ps)

limits : (bare : Bool) (t : Tally) → tally_fits bare t ≡ true → Within (tally_closed bare false t)
limits bare t h =
    let u : Tally = tally_closed bare false t in
    let p = and_parts (leb u.bytes 16384) (leb u.runs 1024 && leb u.rows 256) h in
    let q = and_parts (leb u.runs 1024) (leb u.rows 256) p.1 in
    record { bytes = leb-true u.bytes 16384 p.0; runs = leb-true u.runs 1024 q.0; rows = leb-true u.rows 256 q.1 }

from-limits : (bare : Bool) (t : Tally) → Within (tally_closed bare false t) → tally_fits bare t ≡ true
from-limits bare t h =
    let u : Tally = tally_closed bare false t in
    and_from (leb u.bytes 16384) (leb u.runs 1024 && leb u.rows 256) (le-leb u.bytes 16384 h.bytes)
    (and_from (leb u.runs 1024) (leb u.rows 256) (le-leb u.runs 1024 h.runs) (le-leb u.rows 256 h.rows))

fits_below : (bare : Bool) (t u : Tally) → Below bare t u → tally_fits bare u ≡ true → tally_fits bare t ≡ true
fits_below bare t u p h = from-limits bare t (within-grows (tally_closed bare false t) (tally_closed bare false u) p (limits bare u h))

pub tally-fits-put : (k : Rule) (bare : Bool) (t : Tally) (p : Part) → tally_fits bare (tally_put k bare t p) ≡ true → tally_fits bare t ≡ true
tally-fits-put k bare t p = fits_below bare t (tally_put k bare t p) (put-below k bare t p)

pub tally-fits-all : (k : Rule) (bare : Bool) (t : Tally) (ps : List Part) → tally_fits bare (tally_all k bare t ps) ≡ true → tally_fits bare t ≡ true
tally-fits-all k bare t ps = fits_below bare t (tally_all k bare t ps) (all-below k bare t ps)

pub tally-fits-carried : (bare : Bool) (bs : List ℕ) (n : ℕ) (t : Tally) → tally_fits bare (tally_carried bs n t) ≡ true → tally_fits bare t ≡ true
tally-fits-carried bare bs n t = fits_below bare t (tally_carried bs n t) (carried-below bare bs n t)

pub tally-within : (bare : Bool) (t : Tally) → tally_fits bare t ≡ true → Within t × Within (tally_closed bare false t)
tally-within bare t h =
    let q = limits bare t h in
    (within-grows t (tally_closed bare false t) (grows-tally-closed bare false t) q, q)
