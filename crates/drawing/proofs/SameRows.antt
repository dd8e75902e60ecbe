-- The test of two rows is true of equal rows, and of no others.
use Rattle.std.proofs.Common.{◌≡◌, eqb, List, [], ◌∷◌, length, Decides, refl, ap, arith}
use Rattle.std.specs.Str.{bytes_eq}
use Rattle.std.proofs.lemmas.Slice.Eq.{bytes_eq-Decides}
use Rattle.std.proofs.lemmas.Bool.Decides.{Decides-and, Decides-eqb, Decides-like}
use Rattle.store.proofs.Alike.{never}
use Rattle.style.specs.declared.style.StyleSheet.{StyleSheet}
use Rattle.style.specs.Bytes.{style_bytes}
use Rattle.style.specs.Distinct.{distinct}
use Rattle.layout.specs.Frames.{Run}
use Rattle.drawing.specs.SameRows.{same_run, same_runs, same_row, Compares}

style-decides : (a b : StyleSheet) → Decides (bytes_eq (style_bytes a) (style_bytes b)) (a ≡ b)
style-decides a b = Decides-like (bytes_eq (style_bytes a) (style_bytes b)) (distinct a b) (ap style_bytes) (bytes_eq-Decides (style_bytes a) (style_bytes b))

run-decides : (a b : Run) → Decides (same_run a b) (a ≡ b)
run-decides a b =
    Decides-like (same_run a b) (λ h i. record { text = h.0 i; style = h.1 i }) (λ e. (ap (λ u. u.text) e, ap (λ u. u.style) e))
    (Decides-and (bytes_eq a.text b.text) (bytes_eq (style_bytes a.style) (style_bytes b.style)) (bytes_eq-Decides a.text b.text) (style-decides a.style b.style))

runs-decide : (us vs : List Run) → Decides (same_runs us vs) (us ≡ vs)
runs-decide [] [] = ((λ _. refl), (λ _. refl))
runs-decide [] (v ∷ vs) = never _ refl (λ e. omega (arith, ap length e))
runs-decide (u ∷ us) [] = never _ refl (λ e. omega (arith, ap length e))
runs-decide (u ∷ us) (v ∷ vs) =
    Decides-like (same_runs (u ∷ us) (v ∷ vs)) (λ h i. h.0 i ∷ h.1 i) (λ e. (cc, cc)) (Decides-and (same_run u v) (same_runs us vs) (run-decides u v) (runs-decide us vs))

pub compares : Compares
compares a b =
    Decides-like (same_row a b) (λ h i. record { runs = h.0 i; width = h.1.0 i; hash = h.1.1 i }) (λ e. (ap (λ w. w.runs) e, (ap (λ w. w.width) e, ap (λ w. w.hash) e)))
    (Decides-and (same_runs a.runs b.runs) _ (runs-decide a.runs b.runs)
    (Decides-and (eqb a.width b.width) (eqb a.hash b.hash) (Decides-eqb a.width b.width) (Decides-eqb a.hash b.hash)))
