-- What follows from where rows break.
use Rattle.std.proofs.Common.{◌≡◌, ℕ, true, false, cond, eqb, List, [], ◌∷◌, ◌++◌, fold as folded, sym, refl, ap, ◌∙◌, inl, inr, append-nil}
use Rattle.std.specs.List.{AllByRecursion}
use Rattle.style.specs.Styles.{plain}
use Rattle.style.specs.declared.style.StyleSheet.{StyleSheet}
use Rattle.ansi.specs.Pieces.{Part, sequence, letter}
use Rattle.layout.specs.Frames.{Row, Rule}
use Rattle.layout.specs.Writing.{opening}
use Rattle.layout.specs.Inks.{Ink, ink, inks_given, inks_of, inks_of_rows, chars_of, without_newlines, is_line, without_lines, fed_inks, drawn}
use Rattle.layout.specs.RowLaw.{Fair, Breaks, Hashed, RowsLaw, HashLaw, EqualWrites}
use Rattle.layout.specs.RowLaw.Breaks.{none, last, line, fold}
use Rattle.layout.proofs.Breaking.{rows-break}

without-append : (us vs : List Ink) → AllByRecursion (λ u. is_line u.part ≡ false) us → without_lines (us ++ vs) ≡ us ++ without_lines vs
without-append [] vs h = refl
without-append (u ∷ us) vs h = ap (λ b. cond b (without_lines (us ++ vs)) (u ∷ without_lines (us ++ vs))) h.0 ∙ ap (λ l. u ∷ l) (without-append us vs h.1)

carries : (k : Rule) (h : ℕ) (us : List Ink) (ws : List Row) → Breaks k h us ws → inks_of_rows ws ≡ without_lines us
carries k h us ws (none _) = refl
carries k h us ws (last _ w fair some fed) = sym (without-append (inks_of w.runs) [] fair.unbroken) ∙ ap without_lines (append-nil (inks_of w.runs))
carries k h us ws (line _ w s vs rows fair fed more) =
    ap (λ l. inks_of w.runs ++ l) (carries k (opening k s) vs rows more) ∙ sym (without-append (inks_of w.runs) (ink s (letter 10) ∷ vs) fair.unbroken)
carries k h us ws (fold _ w s c vs rows fair other over fed more) =
    ap (λ l. inks_of w.runs ++ l) (carries k (opening k s) (ink s (letter c) ∷ vs) rows more) ∙ sym (without-append (inks_of w.runs) (ink s (letter c) ∷ vs) fair.unbroken)

chars-part : (s : StyleSheet) (p : Part) (us : List Ink) → chars_of (without_lines us) ≡ without_newlines (chars_of us) → chars_of (without_lines (ink s p ∷ us)) ≡ without_newlines (chars_of (ink s p ∷ us))
chars-part s (sequence bs) us e = e
chars-part s (letter c) us e = elim (eqb c 10) as (λ b. chars_of (cond b (without_lines us) (ink s (letter c) ∷ without_lines us)) ≡ cond b (without_newlines (chars_of us)) (c ∷ without_newlines (chars_of us))) [ true ↦ e | false ↦ ap (λ l. c ∷ l) e ]

chars-without : (us : List Ink) → chars_of (without_lines us) ≡ without_newlines (chars_of us)
chars-without [] = refl
chars-without (u ∷ us) = chars-part u.style u.part us (chars-without us)

widths : (k : Rule) (h : ℕ) (us : List Ink) (ws : List Row) → Breaks k h us ws → AllByRecursion (Fair k) ws
widths k h us ws (none _) = tt
widths k h us ws (last _ w fair some fed) = (fair, tt)
widths k h us ws (line _ w s vs rows fair fed more) = (fair, widths k (opening k s) vs rows more)
widths k h us ws (fold _ w s c vs rows fair other over fed more) = (fair, widths k (opening k s) (ink s (letter c) ∷ vs) rows more)

hashes : (k : Rule) (h : ℕ) (us : List Ink) (ws : List Row) → Breaks k h us ws → (t : StyleSheet) → h ≡ opening k t → AllByRecursion (Hashed k) ws
hashes k h us ws (none _) t e = tt
hashes k h us ws (last _ w fair some fed) t e = ((t, inl (fed ∙ ap (λ n. fed_inks k n (inks_of w.runs)) e)), tt)
hashes k h us ws (line _ w s vs rows fair fed more) t e = ((t, inr (s, fed ∙ ap (λ n. fed_inks k n (inks_of w.runs ++ (ink s (letter 10) ∷ []))) e)), hashes k (opening k s) vs rows more s refl)
hashes k h us ws (fold _ w s c vs rows fair other over fed more) t e = ((t, inl (fed ∙ ap (λ n. fed_inks k n (inks_of w.runs)) e)), hashes k (opening k s) (ink s (letter c) ∷ vs) rows more s refl)

pub rows_law : RowsLaw
rows_law = record {
  breaks = λ k broad narrow ws a. rows-break k broad narrow ws a;
  carries = λ k broad narrow ws a. carries k k.seed _ _ (rows-break k broad narrow ws a);
  characters = λ k broad narrow ws a. ap chars_of (carries k k.seed _ _ (rows-break k broad narrow ws a)) ∙ chars-without (inks_given ws);
  widths = λ k broad narrow ws a. widths k k.seed _ _ (rows-break k broad narrow ws a);
}

pub hash_law : HashLaw
hash_law k broad narrow ws a = hashes k k.seed _ _ (rows-break k broad narrow ws a) plain refl

pub equal_writes : EqualWrites
equal_writes k f vs ws e = ap (drawn k f) e

-- a hash fed with bytes and then with more
pub folded_append : (step : ℕ → ℕ → ℕ) (h : ℕ) (xs ys : List ℕ) → folded step (folded step h xs) ys ≡ folded step h (xs ++ ys)
folded_append step h [] ys = refl
folded_append step h (x ∷ xs) ys = folded_append step (step h x) xs ys
