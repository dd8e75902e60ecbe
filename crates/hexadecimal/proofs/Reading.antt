-- Digits that are read pair by pair.
use Rattle.std.proofs.Common.{◌≡◌, ℕ, ◌/◌, ◌%◌, ◌<◌, ◌*◌, List, [], ◌∷◌, ◌++◌, length, get_or, IfOk, Some, None, Ok, Err, codes, Option, Result, sym, refl, ap, ◌∙◌, subst, inl, inr, append_assoc, append-nil, length-append, arith, MatchOption}
use Rattle.hexadecimal.proofs.Writing.{digits_append}
use Rattle.hexadecimal.specs.Hex.{digit_of, digits_of, Bytes, Spells, Reads, OneAnswer, ReadsBack}
use Rattle.std.proofs.ByRecursion.{All-push}
use Rattle.std.proofs.lemmas.Bool.Decides.{nat_tests}
use Rattle.std.specs.Option.{option_map}

-- what follows the digits of some bytes is the digits of the others
rest-spelt : (vs rest bs : List ℕ) → Bytes bs → digits_of vs ++ rest ≡ digits_of bs → (cs : List ℕ) × Bytes cs × (digits_of cs ≡ rest)
rest-spelt [] rest bs h e = (bs, h, sym e)
rest-spelt (v ∷ vs) rest [] h e = absurd (cc)
rest-spelt (v ∷ vs) rest (b ∷ bs) h e = rest-spelt vs rest bs h.1 (cc)

-- digits come in pairs
even : (cs : List ℕ) → length (digits_of cs) ≡ 2 * length cs
even [] = refl
even (c ∷ cs) = let more = even cs in omega arith

pub all_read : (vs rest text : List ℕ) → digits_of vs ++ rest ≡ text → length rest < 2 → length text % 2 ≡ 0 → digits_of vs ≡ text
all_read vs [] text so_far short pairs = sym (append-nil (digits_of vs)) ∙ so_far
all_read vs (x ∷ rest) text so_far short pairs = absurd (omega (arith, even vs, ap length so_far, length-append (digits_of vs) (x ∷ rest)))

-- the next pair is a byte
pub read_more : (vs pair rest text : List ℕ) → Bytes vs → digits_of vs ++ (pair ++ rest) ≡ text → (b : ℕ) (ws : List ℕ) → ws ≡ vs ++ b ∷ []
    → (b < 256) × (digit_of (b / 16) ≡ get_or pair 0 0) × (digit_of (b % 16) ≡ get_or pair 1 0) → length pair ≡ 2
    → Bytes ws × (digits_of ws ++ rest ≡ text)
read_more vs [] rest text bytes so_far b ws e is two = absurd (omega arith)
read_more vs (x ∷ []) rest text bytes so_far b ws e is two = absurd (omega arith)
read_more vs (x ∷ y ∷ z ∷ pair) rest text bytes so_far b ws e is two = absurd (omega arith)
read_more vs (x ∷ y ∷ []) rest text bytes so_far b ws e is two =
    let pushed = digits_append vs (b ∷ []) in
    let joined = append_assoc (digits_of vs) (digits_of (b ∷ [])) rest in
    (subst Bytes (sym e) (All-push (λ n. n < 256) vs b bytes is.0), cc)

pub odd-read : (text : List ℕ) → length text % 2 ≡ 1 → (bs : List ℕ) → Bytes bs → digits_of bs ≡ text → ⊥
odd-read text odd bs h e = omega (arith, even bs, ap length e)

pair_read : (pair rest cs : List ℕ) → Bytes cs → digits_of cs ≡ pair ++ rest → length pair ≡ 2
    → (b : ℕ) × (b < 256) × (digit_of (b / 16) ≡ get_or pair 0 0) × (digit_of (b % 16) ≡ get_or pair 1 0)
pair_read [] rest cs h s two = absurd (omega arith)
pair_read (x ∷ []) rest cs h s two = absurd (omega arith)
pair_read (x ∷ y ∷ z ∷ pair) rest cs h s two = absurd (omega arith)
pair_read (x ∷ y ∷ []) rest [] h s two = absurd (omega (arith, ap length s))
pair_read (x ∷ y ∷ []) rest (c ∷ cs) h s two = (c, h.0, ap (λ (l : List ℕ). get_or l 0 0) s, ap (λ (l : List ℕ). get_or l 1 0) s)

-- the next pair is no byte
pub refused-read : (vs pair rest text : List ℕ) → digits_of vs ++ (pair ++ rest) ≡ text → length pair ≡ 2
    → ((b : ℕ) → b < 256 → digit_of (b / 16) ≡ get_or pair 0 0 → digit_of (b % 16) ≡ get_or pair 1 0 → ⊥)
    → (bs : List ℕ) → Bytes bs → digits_of bs ≡ text → ⊥
refused-read vs pair rest text so_far two never bs h e =
    let x = rest-spelt vs (pair ++ rest) bs h (so_far ∙ sym e) in
    let p = pair_read pair rest x.0 x.1 x.2 two in
    never p.0 p.1 p.2 p.3

digit-one : (m n : ℕ) → m < 16 → n < 16 → digit_of m ≡ digit_of n → m ≡ n
digit-one m n p q e = grind (arith, nat_tests)

byte_one : (a b : ℕ) → a < 256 → b < 256 → digit_of (a / 16) ≡ digit_of (b / 16) → digit_of (a % 16) ≡ digit_of (b % 16) → a ≡ b
byte_one a b p q upper lower =
    let u = digit-one (a / 16) (b / 16) (omega arith) (omega arith) upper in
    let l = digit-one (a % 16) (b % 16) (omega arith) (omega arith) lower in
    omega arith

digits-one : (bs cs : List ℕ) → Bytes bs → Bytes cs → digits_of bs ≡ digits_of cs → bs ≡ cs
digits-one [] [] p q e = refl
digits-one [] (c ∷ cs) p q e = absurd (omega (arith, ap length e))
digits-one (b ∷ bs) [] p q e = absurd (omega (arith, ap length e))
digits-one (b ∷ bs) (c ∷ cs) p q e =
    let heads = byte_one b c p.0 q.0 (cc) (cc) in
    let tails = digits-one bs cs p.1 q.1 (cc) in
    cc

not-dash : (bs text : List ℕ) → digits_of bs ≡ text → text ≡ codes "-" → ⊥
not-dash bs text e d = omega (arith, even bs, ap length (e ∙ d))

spells_one : (text bs cs : List ℕ) → Bytes bs → Bytes cs → Spells text bs → Spells text cs → bs ≡ cs
spells_one text bs cs p q (inl d) (inl e) = digits-one bs cs p q (d ∙ sym e)
spells_one text bs cs p q (inl d) (inr e) = absurd (not-dash bs text d e.1)
spells_one text bs cs p q (inr d) (inl e) = absurd (not-dash cs text e d.1)
spells_one text bs cs p q (inr d) (inr e) = d.0 ∙ sym e.0

pub one_answer : OneAnswer
one_answer text None None p q = refl
one_answer text None (Some c) p q = absurd (p c q.0 q.1)
one_answer text (Some b) None p q = absurd (q b p.0 p.1)
one_answer text (Some b) (Some c) p q = ap Some (spells_one text b c p.0 q.0 p.1 q.1)

pub reads-back : ReadsBack
reads-back [] h = (h, inr (refl, refl))
reads-back (b ∷ bs) h = (h, inl refl)

pub dash-read : (text bs : List ℕ) → text ≡ codes "-" → bs ≡ [] → Reads text (Some bs)
dash-read text bs d e = (subst Bytes (sym e) tt, inr (e, d))

-- a text that is not the dash is read by its digits
pub by_digits : {V E : Type 0} (items : V → List ℕ) (text : List ℕ) → (text ≡ codes "-" → ⊥) → (r : Result (Option V) E)
    → IfOk r (λ o. MatchOption o ((bs : List ℕ) → Bytes bs → digits_of bs ≡ text → ⊥) (λ v. Bytes (items v) × (digits_of (items v) ≡ text)))
    → IfOk r (λ o. Reads text (option_map items o))
by_digits items text other (Ok None) h = λ bs p s. elim s [ inl e ↦ h bs p e | inr e ↦ other e.1 ]
by_digits items text other (Ok (Some v)) h = (h.0, inl h.1)
by_digits items text other (Err e) h = tt
