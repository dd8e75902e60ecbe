-- The pieces that the scan gives obey the law.
use Rattle.std.proofs.Common.{◌≡◌, ℕ, ◌<◌, Bool, true, false, cond, eqb, List, [], ◌∷◌, ◌++◌, length, take, drop, IsUtf8, sym, refl, ap, ◌∙◌, subst, inl, inr, append_assoc, append-nil, arith, length-append, take-append-drop}
use lib.Seq.{take-append-le}
use lib.Utf8.{encode, encodes}
use Rattle.std.specs.Str.{chars}
use Rattle.std.proofs.lemmas.Str.{encodes-chars}
use Rattle.std.proofs.lemmas.Bool.{eqb-true, eqb-false}
use Rattle.ansi.specs.Machine.{State, InEscape, Move, stop, to, move, run}
use Rattle.ansi.specs.Pieces.{sequence, letter, ground, inside, onward, closed, scan, pieces}
use Rattle.ansi.specs.Law.{Lawful}

-- what follows a way of the machine
abbrev then : Move → List ℕ → Move
then stop cs = stop
then (to t) cs = run t cs

run-append : (s : State) (a b : List ℕ) → run s (a ++ b) ≡ then (run s a) b
run-append s [] b = refl
run-append s (c ∷ a) b = elim (move s c) as (λ m. elim m [ stop ↦ stop | to t ↦ run t (a ++ b) ] ≡ then (elim m [ stop ↦ stop | to t ↦ run t a ]) b) [ stop ↦ refl | to t ↦ run-append t a b ]

stop≢to : (s : State) → stop ≡ to s → ⊥
stop≢to s e = cc

-- a machine that is in a state was on the ground nowhere before
unstopped : (s : State) (cs : List ℕ) → run InEscape cs ≡ to s → (k : ℕ) → run InEscape (take k cs) ≡ stop → ⊥
unstopped s cs e k h =
    stop≢to s (sym (ap (λ m. then m (drop k cs)) h) ∙ sym (run-append InEscape (take k cs) (drop k cs)) ∙ ap (run InEscape) (take-append-drop k cs) ∙ e)

-- one character more
run-push : (s : State) (cs : List ℕ) (c : ℕ) (t : State) → run s cs ≡ to t → run s (cs ++ (c ∷ [])) ≡ elim (move t c) [ stop ↦ stop | to v ↦ to v ]
run-push s cs c t e = run-append s cs (c ∷ []) ∙ ap (λ m. then m (c ∷ [])) e

encodes-push : (cs : List ℕ) (c : ℕ) → encodes (cs ++ (c ∷ [])) ≡ encodes cs ++ encode c
encodes-push [] c = append-nil (encode c)
encodes-push (d ∷ cs) c = ap (λ l. encode d ++ l) (encodes-push cs c) ∙ sym (append_assoc (encode d) (encodes cs) (encode c))

abbrev Ground : List ℕ → Type 0
Ground cs = Lawful (encodes cs) (scan ground cs)

-- inside a sequence of which the characters pre were read
abbrev Inside : List ℕ → Type 0
Inside cs = (s : State) (pre : List ℕ) → run InEscape pre ≡ to s → Lawful (27 ∷ (encodes pre ++ encodes cs)) (scan (inside s (27 ∷ encodes pre)) cs)

ground-more : (c : ℕ) (cs : List ℕ) → Ground cs → Inside cs → (b : Bool) → eqb c 27 ≡ b → Lawful (encode c ++ encodes cs) (cond b [] (letter c ∷ []) ++ scan (cond b (inside InEscape (27 ∷ [])) ground) cs)
unfolding encode
ground-more c cs g i true e =
    let same : encode 27 ≡ encode c = ap encode (sym (eqb-true c 27 e)) in
    subst (λ l. Lawful (l ++ encodes cs) (scan (inside InEscape (27 ∷ [])) cs)) same (i InEscape [] refl)
ground-more c cs g i false e = (eqb-false c 27 e, (encodes cs, (refl, g)))

-- the character c ends the sequence, or goes on in t
inside-stop : (c : ℕ) (cs : List ℕ) → Ground cs → (s : State) (pre : List ℕ) → run InEscape pre ≡ to s → move s c ≡ stop → Lawful (27 ∷ (encodes pre ++ (encode c ++ encodes cs))) (sequence (27 ∷ (encodes pre ++ encode c)) ∷ scan ground cs)
inside-stop c cs g s pre e m =
    let stops : run InEscape (pre ++ (c ∷ [])) ≡ stop = run-push InEscape pre c s e ∙ ap (λ v. elim v [ stop ↦ stop | to v ↦ to v ]) m in
    let before : (k : ℕ) → k < length (pre ++ (c ∷ [])) → run InEscape (take k (pre ++ (c ∷ []))) ≡ stop → ⊥ =
    λ k h z. unstopped s pre e k (ap (run InEscape) (sym (take-append-le k pre (c ∷ []) (let n = length-append pre (c ∷ []) in omega arith))) ∙ z)
    in
    (pre ++ (c ∷ []), (encodes cs, (ap (λ l. 27 ∷ l) (sym (encodes-push pre c)), (ap (λ l. 27 ∷ l) (sym (append_assoc (encodes pre) (encode c) (encodes cs))), (record { reaches = inl stops; before = before }, g)))))

inside_on : (c : ℕ) (cs : List ℕ) → Inside cs → (s : State) (pre : List ℕ) → run InEscape pre ≡ to s → (t : State) → move s c ≡ to t → Lawful (27 ∷ (encodes pre ++ (encode c ++ encodes cs))) (scan (inside t (27 ∷ (encodes pre ++ encode c))) cs)
inside_on c cs i s pre e t m =
    let there = run-push InEscape pre c s e ∙ ap (λ v. elim v [ stop ↦ stop | to v ↦ to v ]) m in
    let seen = encodes-push pre c in
    let text = ap (λ l. l ++ encodes cs) seen ∙ append_assoc (encodes pre) (encode c) (encodes cs) in
    subst (λ l. Lawful (27 ∷ l) (scan (inside t (27 ∷ (encodes pre ++ encode c))) cs)) text
    (subst (λ l. Lawful (27 ∷ (encodes (pre ++ (c ∷ [])) ++ encodes cs)) (scan (inside t (27 ∷ l)) cs)) seen (i t (pre ++ (c ∷ [])) there))

inside-more : (c : ℕ) (cs : List ℕ) → Ground cs → Inside cs → (s : State) (pre : List ℕ) → run InEscape pre ≡ to s → (m : Move) → move s c ≡ m → Lawful (27 ∷ (encodes pre ++ (encode c ++ encodes cs))) (closed m (27 ∷ (encodes pre ++ encode c)) ++ scan (onward m (27 ∷ (encodes pre ++ encode c))) cs)
inside-more c cs g i s pre e stop m = inside-stop c cs g s pre e m
inside-more c cs g i s pre e (to t) m = inside_on c cs i s pre e t m

inside-end : (s : State) (pre : List ℕ) → run InEscape pre ≡ to s → Lawful (27 ∷ (encodes pre ++ [])) (sequence (27 ∷ encodes pre) ∷ [])
inside-end s pre e = (pre, ([], (refl, (refl, (record { reaches = inr refl; before = λ k h z. unstopped s pre e k z }, refl)))))

both_ways : (cs : List ℕ) → Ground cs × Inside cs
both_ways [] = (refl, λ s pre e. inside-end s pre e)
both_ways (c ∷ cs) =
    let h = both_ways cs in
    (ground-more c cs h.0 h.1 (eqb c 27) refl, λ s pre e. inside-more c cs h.0 h.1 s pre e (move s c) refl)

pub lawful : (bs : List ℕ) → IsUtf8 bs → Lawful bs (pieces bs)
lawful bs u = subst (λ l. Lawful l (pieces bs)) (encodes-chars bs u) (both_ways (chars bs)).0
