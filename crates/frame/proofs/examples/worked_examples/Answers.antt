use Rattle.std.proofs.Common.{◌≡◌, ℕ, List, [], ◌∷◌, ◌⊎◌, Some, Ok, Err, Result, MatchResult, IsUtf8, sym, refl, ◌∙◌, inl, inr, arith}
use Rattle.std.specs.Borrow.{Bor}
use Rattle.std.specs.Result.{result_err}
use lib.Utf8.{encode}
use Rattle.std.specs.Str.{chars}
use Rattle.std.proofs.lemmas.Str.Ascii.{IsAscii-nil, IsAscii-cons}
use Rattle.std.proofs.lemmas.Str.{IsUtf8-from_ascii}
use Rattle.ansi.specs.Pieces.{pieces}
use Rattle.ansi.specs.Refusals.{NotText}
use Rattle.ansi.specs.declared.refusal.Refusal.{Refusal}
use Rattle.ansi.specs.declared.refusal.Refusal.TheVariants.{NoColour}
use Rattle.pen.specs.Checks.{first_offence, Accepted}
use Rattle.style.specs.Bytes.{style_bytes}
use Rattle.layout.specs.Writing.{put_all}
use Rattle.frame.specs.Examples.{Worked}
use Rattle.frame.proofs.examples.worked_examples.Goals as goal

worked : Worked
unfolding chars encode put_all style_bytes
worked = record { coloured = refl; title = refl; alone = refl; refused = refl; one = refl; two = refl; wide = refl; line = refl; bold_line = refl; lines = refl; bold_lines = refl; mark = refl; far = refl; accent = refl; points = refl }

refusal : (r : Result (Bor (List ℕ)) Refusal) → MatchResult r (λ s. (s.now ≡ 27 ∷ []) × Accepted (27 ∷ [])) (λ e. NotText (27 ∷ []) e ⊎ (IsUtf8 (27 ∷ []) × (first_offence 0 (pieces (27 ∷ [])) ≡ Some e))) → result_err r ≡ Some (NoColour 0)
refusal (Ok s) h = sym h.1.clean ∙ worked.refused
refusal (Err e) (inl h) = absurd (h.bad (IsUtf8-from_ascii (27 ∷ []) (IsAscii-cons 27 [] (omega arith) IsAscii-nil)))
refusal (Err e) (inr h) = sym h.1 ∙ worked.refused

pub returns : goal.returns
returns c = record { value = c.err.ensures.value ∙ refusal _ c.check_text.ensures; law = worked }
