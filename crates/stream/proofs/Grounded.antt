-- What the test of bytes says, and that the bytes of a call keep it.
use Rattle.std.proofs.Common.{◌≡◌, ℕ, ◌^◌, ◌<◌, ◌≤◌, Bool, true, false, eqb, List, [], ◌∷◌, ◌++◌, Some, None, IsUtf8, decimal, fold, Option, sym, refl, ap, ◌∙◌, append-nil, arith, rules}
use lib.Utf8.{scalar, scalars, encodes, encode}
use Rattle.std.specs.List.{AllByRecursion}
use Rattle.std.specs.Str.{chars}
use Rattle.std.proofs.lemmas.Slice.Eq.{bytes_eq-Decides}
use Rattle.std.proofs.lemmas.Bool.{and_parts, and_from, cond-false, cond_both}
use Rattle.std.proofs.lemmas.Str.{IsUtf8-append, IsUtf8-nil, IsUtf8-encode, IsUtf8-from_ascii, encodes-chars, scalars-chars}
use Rattle.style.specs.declared.color.Color.{Color}
use Rattle.style.specs.declared.style.StyleSheet.{StyleSheet}
use Rattle.style.specs.Styles.{plain, is_plain}
use Rattle.ansi.specs.Pieces.{Part, sequence, letter, ground, after, pieces}
use Rattle.pen.specs.Sequences.{csi, is_colour}
use Rattle.layout.specs.Frames.{Run}
use Rattle.terminal.specs.Pages.{Page}
use Rattle.terminal.specs.Calls.{Call, write, return, feed, clear_line, clear_until_new_line, hide, show, up, down, left, right, flush, effect}
use Rattle.terminal.specs.Faults.{OneLine, Sound, Narrow}
use Rattle.stream.specs.Bytes.{spelt, colouring, setting, coloured, flagged, moving, sent, Octets, Typed}
use Rattle.stream.specs.Reader.{View, viewed, Desk, desk, start, step, view_of}
use Rattle.stream.specs.Grounded.{is_text, at_ground, penned, grounded}
use Rattle.stream.specs.Law.{Shows}
use Rattle.stream.proofs.Numbers.{parameters-decimal, parameters-spelt}
use Rattle.stream.proofs.Sequences.{Gives, Inner, gives-join, gives-csi, gives-letter, inner-parameters, ascii-csi, no-colour-csi}
use Rattle.stream.proofs.Texts.{gives-text}
use Rattle.stream.proofs.Styles.{wider, steered-colouring}
use Rattle.stream.proofs.Effects.{folded-append, Takes, takes-join, takes-as, takes-parts, takes-call}
use Rattle.stream.proofs.Seams.{gives-from-ground, ground-from-gives}

-- the tests

text-from-test : (bs : List ℕ) → is_text bs ≡ true → IsUtf8 bs
text-from-test bs h =
    let e = and_parts (scalars (chars bs)) _ h in
    (chars bs, (e.0, (bytes_eq-Decides (encodes (chars bs)) bs).0 e.1))

test-from-text : (bs : List ℕ) → IsUtf8 bs → is_text bs ≡ true
test-from-text bs u = and_from (scalars (chars bs)) _ (scalars-chars bs u) ((bytes_eq-Decides (encodes (chars bs)) bs).1 (encodes-chars bs u))

only-plain : (s : StyleSheet) → is_plain s ≡ true → s ≡ plain
only-plain s h = search rules

-- bytes that are pieces, whatever follows
record Cut (bs : List ℕ) : Type 0 where
  utf8 : IsUtf8 bs
  parts : List Part
  gives : Gives bs parts

cut-pieces : (bs : List ℕ) (c : Cut bs) → pieces bs ≡ c.parts
unfolding chars
cut-pieces bs c = ap pieces (sym (append-nil bs)) ∙ c.gives [] ∙ append-nil c.parts

-- and leave a plain pen plain
record Whole (bs : List ℕ) : Type 0 where
  cut : Cut bs
  pen : fold penned plain cut.parts ≡ plain

-- the test passes at them, and at no other bytes

whole_from : (bs : List ℕ) → grounded bs ≡ true → Whole bs
unfolding grounded
whole_from bs h =
    let e = and_parts (is_text bs) _ h in
    let f = and_parts (at_ground (fold after ground (chars bs))) _ e.1 in
    let u = text-from-test bs e.0 in
    record { cut = record { utf8 = u; parts = pieces bs; gives = gives-from-ground bs u f.0 }; pen = only-plain _ f.1 }

grounded-from : (bs : List ℕ) → Whole bs → grounded bs ≡ true
unfolding grounded
grounded-from bs w =
    and_from (is_text bs) _ (test-from-text bs w.cut.utf8)
    (and_from (at_ground (fold after ground (chars bs))) _ (ground-from-gives bs w.cut.parts w.cut.utf8 w.cut.gives)
    (ap (λ l. is_plain (fold penned plain l)) (cut-pieces bs w.cut) ∙ ap is_plain w.pen))

cut-none : Cut []
cut-none = record { utf8 = IsUtf8-nil; parts = []; gives = λ more. refl }

cut-join : {a b : List ℕ} → Cut a → Cut b → Cut (a ++ b)
cut-join {a} {b} g h = record { utf8 = IsUtf8-append a b g.utf8 h.utf8; parts = g.parts ++ h.parts; gives = gives-join a b g.parts h.parts g.gives h.gives }

cut-csi : (ms : List ℕ) (last : ℕ) → Inner ms → 64 ≤ last → last ≤ 126 → Cut (csi ms last)
cut-csi ms last i low high = record { utf8 = IsUtf8-from_ascii (csi ms last) (ascii-csi ms last i (omega arith)); parts = sequence (csi ms last) ∷ []; gives = gives-csi ms last i low high }

cut-colouring : (ns : List ℕ) → AllByRecursion (λ m. m < 2 ^ 64) ns → Cut (colouring ns)
cut-colouring ns small = cut-csi (spelt ns) 109 (inner-parameters (spelt ns) (parameters-spelt ns small)) (omega arith) (omega arith)

cut-coloured : (base : ℕ) (o : Option Color) → Octets base o → Cut (coloured base o)
cut-coloured base None h = cut-none
cut-coloured base (Some c) h = cut-colouring (setting base c) (wider (setting base c) h)

cut-flagged : (n : ℕ) (on : Bool) → n < 2 ^ 64 → Cut (flagged n on)
cut-flagged n true h = cut-colouring (n ∷ []) (h, tt)
cut-flagged n false h = cut-none

whole_join : {a b : List ℕ} → Whole a → Whole b → Whole (a ++ b)
unfolding cut-join
whole_join g h = record { cut = cut-join g.cut h.cut; pen = folded-append penned plain g.cut.parts h.cut.parts ∙ ap (λ s. fold penned s h.cut.parts) g.pen ∙ h.pen }

-- bytes behind which any pen is plain
record Ends (bs : List ℕ) : Type 0 where
  cut : Cut bs
  pen : (s : StyleSheet) → fold penned s cut.parts ≡ plain

ends_join : {a b : List ℕ} → Cut a → Ends b → Ends (a ++ b)
unfolding cut-join
ends_join g h = record { cut = cut-join g h.cut; pen = λ s. folded-append penned s g.parts h.cut.parts ∙ h.pen (fold penned s g.parts) }

ends-reset : Ends (colouring (0 ∷ []))
unfolding cut-colouring cut-csi
ends-reset = record { cut = cut-colouring (0 ∷ []) (omega arith, tt); pen = λ s. steered-colouring s (0 ∷ []) (omega arith) (omega arith, tt) }

-- the bytes of each call

whole-none : Whole []
unfolding cut-none
whole-none = record { cut = cut-none; pen = refl }

whole-letter : (c : ℕ) → scalar c ≡ true → eqb c 27 ≡ false → Whole (encode c)
whole-letter c sound other = record { cut = record { utf8 = IsUtf8-encode c sound; parts = letter c ∷ []; gives = gives-letter c sound other }; pen = refl }

whole-csi : (ms : List ℕ) (last : ℕ) → Inner ms → 64 ≤ last → last ≤ 126 → eqb last 109 ≡ false → Whole (csi ms last)
unfolding cut-csi
whole-csi ms last i low high other = record { cut = cut-csi ms last i low high; pen = cond-false (is_colour (csi ms last)) _ plain (no-colour-csi ms last other) }

whole-move : (n last : ℕ) → n < 2 ^ 16 → 64 ≤ last → last ≤ 126 → eqb last 109 ≡ false → Whole (moving n last)
whole-move n last small low high other =
    cond_both (eqb n 0) [] (csi (decimal n) last) Whole (λ _. whole-none) (λ _. whole-csi (decimal n) last (inner-parameters (decimal n) (parameters-decimal n (omega arith))) low high other)

whole_run : (u : Run) → OneLine u.text → Typed (write u) → Whole (sent (write u))
whole_run u line typed =
    let style = cut-join (cut-coloured 30 u.style.fg typed.0) (cut-join (cut-coloured 40 u.style.bg typed.1) (cut-join (cut-flagged 1 u.style.att.bold (omega arith)) (cut-flagged 3 u.style.att.italic (omega arith)))) in
    let text : Cut u.text = record { utf8 = line.taken.utf8; parts = pieces u.text; gives = gives-text u.text line.taken } in
    let run = ends_join style (ends_join text ends-reset) in
    record { cut = run.cut; pen = run.pen plain }

whole-call : (call : Call) → Sound call → Typed call → Whole (sent call)
unfolding encode
whole-call (write u) sound typed = whole_run u sound typed
whole-call return sound typed = whole-letter 13 refl refl
whole-call feed sound typed = whole-letter 10 refl refl
whole-call clear_line sound typed = whole-csi (50 ∷ []) 75 ((omega arith, omega arith), tt) (omega arith) (omega arith) refl
whole-call clear_until_new_line sound typed = whole-csi [] 75 tt (omega arith) (omega arith) refl
whole-call hide sound typed = whole-csi (63 ∷ 50 ∷ 53 ∷ []) 108 ((omega arith, omega arith), ((omega arith, omega arith), ((omega arith, omega arith), tt))) (omega arith) (omega arith) refl
whole-call show sound typed = whole-csi (63 ∷ 50 ∷ 53 ∷ []) 104 ((omega arith, omega arith), ((omega arith, omega arith), ((omega arith, omega arith), tt))) (omega arith) (omega arith) refl
whole-call (up n) sound typed = whole-move n 65 typed (omega arith) (omega arith) refl
whole-call (down n) sound typed = whole-move n 66 typed (omega arith) (omega arith) refl
whole-call (left n) sound typed = whole-move n 68 typed (omega arith) (omega arith) refl
whole-call (right n) sound typed = whole-move n 67 typed (omega arith) (omega arith) refl
whole-call flush sound typed = whole-none

-- what the theorem says of the test

pub grounded-none : grounded [] ≡ true
grounded-none = grounded-from [] whole-none

pub grounded-text : (bs : List ℕ) → grounded bs ≡ true → IsUtf8 bs
grounded-text bs h = (whole_from bs h).cut.utf8

pub grounded-more : (call : Call) (bs : List ℕ) → Sound call → Typed call → grounded bs ≡ true → grounded (bs ++ sent call) ≡ true
grounded-more call bs sound typed h = grounded-from (bs ++ sent call) (whole_join (whole_from bs h) (whole-call call sound typed))

-- and of what a call's bytes add

steps-pen : (cells : ℕ → ℕ) (w : ℕ) (d : Desk) (ps : List Part) → (fold (step cells w) d ps).pen ≡ fold penned d.pen ps
steps-pen cells w d [] = refl
steps-pen cells w d (letter c ∷ ps) = steps-pen cells w (step cells w d (letter c)) ps
steps-pen cells w d (sequence bs ∷ ps) = steps-pen cells w (step cells w d (sequence bs)) ps

grounded-takes : (cells : ℕ → ℕ) (w : ℕ) (bs : List ℕ) → grounded bs ≡ true → Takes cells w start bs (desk (view_of cells w bs) plain)
grounded-takes cells w bs h =
    let whole = whole_from bs h in
    let ps = whole.cut.parts in
    let same = sym (cut-pieces bs whole.cut) in
    let pen = steps-pen cells w start ps ∙ whole.pen in
    takes-as cells w start (fold (step cells w) start ps) (desk (view_of cells w bs) plain) bs (takes-parts cells w start bs ps whole.cut.gives)
    (λ i. desk (fold (step cells w) start (same i)).view (pen i))

-- bytes that lead from the start to a view show it
view-from : (cells : ℕ → ℕ) (w : ℕ) (bs : List ℕ) (v : View) (s : StyleSheet) → Takes cells w start bs (desk v s) → view_of cells w bs ≡ v
unfolding chars
view-from cells w bs v s t = ap (view_of cells w) (sym (append-nil bs)) ∙ ap (λ d. d.view) (t [])

pub grounded-does : (cells : ℕ → ℕ) (call : Call) (bs : List ℕ) (p : Page) → Sound call → Typed call → grounded bs ≡ true → Narrow cells call p → Shows cells bs p → Shows cells (bs ++ sent call) (effect cells call p)
grounded-does cells call bs p sound typed h narrow shows =
    let w = p.width in
    let here = takes-as cells w start _ (desk (viewed p) plain) bs (grounded-takes cells w bs h) (ap (λ v. desk v plain) (sym shows)) in
    sym (view-from cells w (bs ++ sent call) (viewed (effect cells call p)) plain (takes-join cells w start (desk (viewed p) plain) _ bs (sent call) here (takes-call cells p call sound typed narrow)))
