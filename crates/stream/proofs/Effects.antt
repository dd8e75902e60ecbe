-- The bytes of each call read as its effect.
use Rattle.std.proofs.Common.{◌≡◌, ℕ, ◌+◌, ◌^◌, ◌<◌, ◌≤◌, max, Bool, true, false, cond, eqb, List, [], ◌∷◌, ◌++◌, length, get_or, Some, None, decimal, fold, Option, sym, refl, ap, ◌∙◌, subst, inl, inr, append_assoc, append-nil, arith}
use lib.Utf8.{encode}
use Rattle.std.specs.List.{AllByRecursion}
use Rattle.std.proofs.lemmas.Bool.{cases_eq, ne_eqb, cond-false}
use Rattle.style.specs.declared.color.Color.{Color}
use Rattle.style.specs.declared.style.StyleSheet.{StyleSheet}
use Rattle.style.specs.Styles.{plain}
use Rattle.ansi.specs.Pieces.{Part, sequence, letter, pieces}
use Rattle.pen.specs.Sequences.{csi, parameters, between}
use Rattle.pen.specs.Pens.{after, numbers}
use Rattle.pen.proofs.Sequences.{colours_told}
use Rattle.layout.specs.Frames.{Run}
use Rattle.layout.proofs.Seams.{accepted-fine}
use Rattle.terminal.specs.Pages.{Page, at, ink}
use Rattle.terminal.specs.Calls.{Call, write, return, feed, clear_line, clear_until_new_line, hide, show, up, down, left, right, flush, meaning, effect}
use Rattle.terminal.specs.Faults.{OneLine, Sound, Narrow}
use Rattle.stream.specs.Bytes.{spelt, colouring, setting, coloured, flagged, styling, moving, sent, Octets, Typed}
use Rattle.stream.specs.Controls.{first_number, ordered, asked}
use Rattle.stream.specs.Reader.{View, viewed, performed, Desk, desk, heeded, step, reading}
use Rattle.stream.specs.Grounded.{penned}
use Rattle.stream.proofs.Numbers.{reads-decimal, parameters-decimal, parameters-spelt}
use Rattle.stream.proofs.Sequences.{Gives, gives-csi, gives-letter, inner-parameters, between-csi, final-csi, control-csi, no-colour-csi}
use Rattle.stream.proofs.Texts.{gives-text}
use Rattle.stream.proofs.Styles.{wider, steered-colouring, sets-fore, sets-back, sets-some}
use Rattle.stream.proofs.Runs.{drawn, colour-asks, run-drawn}

pub folded-append : {A B : Type 0} (f : B → A → B) (a : B) (xs ys : List A) → fold f a (xs ++ ys) ≡ fold f (fold f a xs) ys
folded-append f a [] ys = refl
folded-append f a (x ∷ xs) ys = folded-append f (f a x) xs ys

-- what a sequence with numbers between its ends asks for
asked-csi : (ms : List ℕ) (last : ℕ) → parameters ms ≡ true → asked (csi ms last) ≡ ordered (first_number ms) last
asked-csi ms last h = simp (control-csi ms last, between-csi ms last, final-csi ms last, h)

-- both attributes over a pen that has none
flags-set : (f b : Option Color) (bold italic : Bool) → cond italic (after (cond bold (after (record { fg = f; bg = b; att = plain.att }) (1 ∷ [])) (record { fg = f; bg = b; att = plain.att })) (3 ∷ [])) (cond bold (after (record { fg = f; bg = b; att = plain.att }) (1 ∷ [])) (record { fg = f; bg = b; att = plain.att })) ≡ record { fg = f; bg = b; att = record { italic = italic; bold = bold } }
flags-set f b true true = refl
flags-set f b true false = refl
flags-set f b false true = refl
flags-set f b false false = refl

module _ (cells : ℕ → ℕ) (w : ℕ) where
  -- the bytes lead from one desk to another, whatever follows them
  abbrev pub Takes : Desk → List ℕ → Desk → Type 0
  Takes d bs e = (more : List ℕ) → reading cells w d (bs ++ more) ≡ reading cells w e more

  takes_none : (d : Desk) → Takes d [] d
  takes_none d more = refl

  pub takes-join : (d e f : Desk) (a b : List ℕ) → Takes d a e → Takes e b f → Takes d (a ++ b) f
  takes-join d e f a b g h more = ap (reading cells w d) (append_assoc a b more) ∙ g (b ++ more) ∙ h more

  pub takes-as : (d e f : Desk) (bs : List ℕ) → Takes d bs e → e ≡ f → Takes d bs f
  takes-as d e f bs g same more = g more ∙ ap (λ x. reading cells w x more) same

  pub takes-parts : (d : Desk) (bs : List ℕ) (ps : List Part) → Gives bs ps → Takes d bs (fold (step cells w) d ps)
  takes-parts d bs ps g more = ap (fold (step cells w) d) (g more) ∙ folded-append (step cells w) d ps (pieces more)

  -- a sequence of numbers that ends in another byte than m asks for a call, or for none, and leaves the pen
  takes-ordered : (v : View) (s : StyleSheet) (ms : List ℕ) (last : ℕ) → parameters ms ≡ true → 64 ≤ last → last ≤ 126 → eqb last 109 ≡ false → Takes (desk v s) (csi ms last) (desk (heeded cells w (ordered (first_number ms) last) v) s)
  takes-ordered v s ms last h low high other =
      let colour = no-colour-csi ms last other in
      takes-as (desk v s) (step cells w (desk v s) (sequence (csi ms last))) _ (csi ms last)
      (takes-parts (desk v s) (csi ms last) (sequence (csi ms last) ∷ []) (gives-csi ms last (inner-parameters ms h) low high))
      (λ i. desk (heeded cells w (asked-csi ms last h i) v) (cond (colour i) (after s (numbers (between (csi ms last)))) s))

  -- a colour sequence steers the pen by its numbers
  takes-colouring : (v : View) (s : StyleSheet) (ns : List ℕ) → 0 < length ns → AllByRecursion (λ m. m < 2 ^ 64) ns → Takes (desk v s) (colouring ns) (desk v (after s ns))
  takes-colouring v s ns some small =
      let told = colours_told.complete (spelt ns) (colouring ns) (refl, parameters-spelt ns small) in
      takes-as (desk v s) (step cells w (desk v s) (sequence (colouring ns))) _ (colouring ns)
      (takes-parts (desk v s) (colouring ns) (sequence (colouring ns) ∷ []) (gives-csi (spelt ns) 109 (inner-parameters (spelt ns) (parameters-spelt ns small)) (omega arith) (omega arith)))
      (λ i. desk (heeded cells w (colour-asks (colouring ns) told.0 i) v) (steered-colouring s ns some small i))

  module _ (v : View) where
    takes-fore : (o : Option Color) (s : StyleSheet) → Octets 30 o → s.fg ≡ None → Takes (desk v s) (coloured 30 o) (desk v (record { fg = o; bg = s.bg; att = s.att }))
    takes-fore None s h none = takes-as (desk v s) (desk v s) _ [] (takes_none (desk v s)) (λ i. desk v (record { fg = none i; bg = s.bg; att = s.att }))
    takes-fore (Some c) s h none = takes-as (desk v s) _ _ (colouring (setting 30 c)) (takes-colouring v s (setting 30 c) (sets-some 30 c) (wider (setting 30 c) h)) (ap (desk v) (sets-fore s c h))

    takes_back : (o : Option Color) (s : StyleSheet) → Octets 40 o → s.bg ≡ None → Takes (desk v s) (coloured 40 o) (desk v (record { fg = s.fg; bg = o; att = s.att }))
    takes_back None s h none = takes-as (desk v s) (desk v s) _ [] (takes_none (desk v s)) (λ i. desk v (record { fg = s.fg; bg = none i; att = s.att }))
    takes_back (Some c) s h none = takes-as (desk v s) _ _ (colouring (setting 40 c)) (takes-colouring v s (setting 40 c) (sets-some 40 c) (wider (setting 40 c) h)) (ap (desk v) (sets-back s c h))

    -- a number alone, or nothing
    takes-flag : (n : ℕ) (on : Bool) (s : StyleSheet) → n < 2 ^ 64 → Takes (desk v s) (flagged n on) (desk v (cond on (after s (n ∷ [])) s))
    takes-flag n true s h = takes-colouring v s (n ∷ []) (omega arith) (h, tt)
    takes-flag n false s h = takes_none (desk v s)

    -- a style that is sent over a plain pen is the pen then
    takes-style : (s : StyleSheet) → Octets 30 s.fg → Octets 40 s.bg → Takes (desk v plain) (styling s) (desk v s)
    takes-style s f b =
        let s1 : StyleSheet = record { fg = s.fg; bg = None; att = plain.att } in
        let s2 : StyleSheet = record { fg = s.fg; bg = s.bg; att = plain.att } in
        let s3 = cond s.att.bold (after s2 (1 ∷ [])) s2 in
        let all = flags-set s.fg s.bg s.att.bold s.att.italic in
        takes-join (desk v plain) (desk v s1) (desk v s) (coloured 30 s.fg) _ (takes-fore s.fg plain f refl)
        (takes-join (desk v s1) (desk v s2) (desk v s) (coloured 40 s.bg) _ (takes_back s.bg s1 b refl)
        (takes-join (desk v s2) (desk v s3) (desk v s) (flagged 1 s.att.bold) _ (takes-flag 1 s.att.bold s2 (omega arith))
        (takes-as (desk v s3) _ (desk v s) (flagged 3 s.att.italic) (takes-flag 3 s.att.italic s3 (omega arith)) (ap (desk v) all))))

    -- a run: its style, its text, and a plain pen again
    takes_run : (u : Run) → OneLine u.text → Typed (write u) → v.cursor.col + length (ink cells u) ≤ w → Takes (desk v plain) (sent (write u)) (desk (performed (meaning cells w (write u)) v) plain)
    takes_run u line typed fits =
        let ps = pieces u.text in
        let d : Desk = desk (drawn (ink cells u) v) (fold penned u.style ps) in
        takes-join (desk v plain) (desk v u.style) (desk (drawn (ink cells u) v) plain) (styling u.style) _ (takes-style u.style typed.0 typed.1)
        (takes-join (desk v u.style) d (desk (drawn (ink cells u) v) plain) u.text _
        (takes-as (desk v u.style) (fold (step cells w) (desk v u.style) ps) d u.text (takes-parts (desk v u.style) u.text ps (gives-text u.text line.taken)) (run-drawn cells w ps v u.style (accepted-fine u.text line.taken) line.unbroken fits))
        (takes-colouring (drawn (ink cells u) v) (fold penned u.style ps) (0 ∷ []) (omega arith) (omega arith, tt)))

    -- a move by a count; count 0 leaves all as it is
    takes-move : (last : ℕ) (call : ℕ → Call) → 64 ≤ last → last ≤ 126 → eqb last 109 ≡ false → ((n : ℕ) → ordered n last ≡ Some (call (max 1 n))) → performed (meaning cells w (call 0)) v ≡ v → (n : ℕ) → n < 2 ^ 16 → Takes (desk v plain) (moving n last) (desk (performed (meaning cells w (call n)) v) plain)
    takes-move last call low high other asks none n small =
        elim (cases_eq n 0) [
          | inl z ↦ subst (λ m. Takes (desk v plain) (moving m last) (desk (performed (meaning cells w (call m)) v) plain)) (sym z) (takes-as (desk v plain) (desk v plain) _ [] (takes_none (desk v plain)) (ap (λ u. desk u plain) (sym none)))
          | inr some ↦
              let bytes = sym (cond-false (eqb n 0) [] (csi (decimal n) last) (ne_eqb n 0 some)) in
              let first = ap first_number (sym (append-nil (decimal n))) ∙ ap (λ l. get_or l 0 0) (reads-decimal n (omega arith) []) in
              let far : max 1 n ≡ n = omega arith in
              let call-n = ap (λ m. ordered m last) first ∙ asks n ∙ ap (λ m. Some (call m)) far in
              subst (λ bs. Takes (desk v plain) bs (desk (performed (meaning cells w (call n)) v) plain)) bytes
              (takes-as (desk v plain) _ _ (csi (decimal n) last) (takes-ordered v plain (decimal n) last (parameters-decimal n (omega arith)) low high other) (ap (λ o. desk (heeded cells w o v) plain) call-n))
        ]

-- the bytes of a call lead from a page to the page after it
pub takes-call : (cells : ℕ → ℕ) (p : Page) (call : Call) → Sound call → Typed call → Narrow cells call p → Takes cells p.width (desk (viewed p) plain) (sent call) (desk (viewed (effect cells call p)) plain)
unfolding encode
takes-call cells p (write u) sound typed narrow = takes_run cells p.width (viewed p) u sound typed narrow
takes-call cells p return sound typed narrow = takes-parts cells p.width (desk (viewed p) plain) (13 ∷ []) (letter 13 ∷ []) (gives-letter 13 refl refl)
takes-call cells p feed sound typed narrow = takes-parts cells p.width (desk (viewed p) plain) (10 ∷ []) (letter 10 ∷ []) (gives-letter 10 refl refl)
takes-call cells p clear_line sound typed narrow = takes-parts cells p.width (desk (viewed p) plain) (csi (50 ∷ []) 75) (sequence (csi (50 ∷ []) 75) ∷ []) (gives-csi (50 ∷ []) 75 ((omega arith, omega arith), tt) (omega arith) (omega arith))
takes-call cells p clear_until_new_line sound typed narrow = takes-parts cells p.width (desk (viewed p) plain) (csi [] 75) (sequence (csi [] 75) ∷ []) (gives-csi [] 75 tt (omega arith) (omega arith))
takes-call cells p hide sound typed narrow = takes-parts cells p.width (desk (viewed p) plain) (csi (63 ∷ 50 ∷ 53 ∷ []) 108) (sequence (csi (63 ∷ 50 ∷ 53 ∷ []) 108) ∷ []) (gives-csi (63 ∷ 50 ∷ 53 ∷ []) 108 ((omega arith, omega arith), ((omega arith, omega arith), ((omega arith, omega arith), tt))) (omega arith) (omega arith))
takes-call cells p show sound typed narrow = takes-parts cells p.width (desk (viewed p) plain) (csi (63 ∷ 50 ∷ 53 ∷ []) 104) (sequence (csi (63 ∷ 50 ∷ 53 ∷ []) 104) ∷ []) (gives-csi (63 ∷ 50 ∷ 53 ∷ []) 104 ((omega arith, omega arith), ((omega arith, omega arith), ((omega arith, omega arith), tt))) (omega arith) (omega arith))
takes-call cells p (up n) sound typed narrow = takes-move cells p.width (viewed p) 65 up (omega arith) (omega arith) refl (λ n. refl) (ap (λ l. record { cells = p.cells; cursor = at l p.cursor.col; shown = p.shown }) (omega arith)) n typed
takes-call cells p (down n) sound typed narrow = takes-move cells p.width (viewed p) 66 down (omega arith) (omega arith) refl (λ n. refl) (ap (λ l. record { cells = p.cells; cursor = at l p.cursor.col; shown = p.shown }) (omega arith)) n typed
takes-call cells p (left n) sound typed narrow = takes-move cells p.width (viewed p) 68 left (omega arith) (omega arith) refl (λ n. refl) refl n typed
takes-call cells p (right n) sound typed narrow = takes-move cells p.width (viewed p) 67 right (omega arith) (omega arith) refl (λ n. refl) refl n typed
takes-call cells p flush sound typed narrow = takes_none cells p.width (desk (viewed p) plain)
