use Rattle.std.proofs.Common.{◌≡◌, ℕ, ◌+◌, List, ◌∷◌, ◌++◌, length, drop, IsUtf8, sym, ap, ◌∙◌, subst, zero-le, zero-add, arith, length-append, rules}
use lib.Utf8.{encode}
use Rattle.std.specs.Char.{len_utf8}
use Rattle.std.specs.Str.{IsCharBoundary, chars}
use Rattle.std.proofs.lemmas.List.{nil_from_length}
use Rattle.std.proofs.lemmas.Str.{chars-nil, chars_past_char, drop_past_char, IsCharBoundary-past_char, length-encode, len_utf8_bounds}
use Rattle.ansi.specs.Places.{Ended, Begins}
use Rattle.ansi.proofs.matcher.first.Goals as goal

ended : (text : List ℕ) → length text ≡ 0 → Ended text 0
ended text short = record { chars = ap chars (nil_from_length text short) ∙ chars-nil; long = short }

begins : (text rest : List ℕ) (c : ℕ) → IsUtf8 text → text ≡ encode c ++ rest → Begins text c rest
begins text rest c u e =
    let cut = subst (IsCharBoundary text) (zero-add (len_utf8 c)) (IsCharBoundary-past_char text rest 0 c zero-le u e) in
    let behind = sym (drop_past_char text rest 0 c e) ∙ ap (λ n. drop n text) (zero-add (len_utf8 c)) in
    let size = ap length e ∙ length-append (encode c) rest ∙ ap (λ n. n + length rest) (length-encode c) in
    let some = (len_utf8_bounds c).0 in
    record { after = behind; shorter = omega arith; chars = chars_past_char _ _ _ u e ∙ ap (λ l. c ∷ chars l) behind; long = cut.0; cut = cut }

pub returns-in_err-c : goal.returns-in_err-c
returns-in_err-c c =
    let none : Ended c.args.text.now 0 = ended _ (ap length (sym c.chars-chars.ensures.rest) ∙ c.in_err-c.ensures.steps.0.0) in
    search rules

pub returns : goal.returns
returns c =
    let text : IsUtf8 c.args.text.now = search rules in
    begins _ _ _ text (cc c.in_ok-c.ensures.steps.0)
