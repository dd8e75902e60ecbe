use Rattle.std.proofs.Common.{◌≡◌, ◌+◌, ◌-◌, ◌^◌, min, sum_by, arith, rules}
use Rattle.std.specs.Str.{chars}
use Rattle.std.proofs.iter.TextItems.{spells}
use Rattle.std.proofs.lemmas.Fn.{fold_over}
use Rattle.std.proofs.lemmas.List.Sums.{sum_by_push}
use Rattle.std.proofs.lemmas.Str.{Chars-gives, encodes-chars}
use Rattle.width.proofs.rule.text_width.Goals as goal

pub returns : goal.returns
returns g c =
    fold_over spells (λ c. c) _ (λ ys a. a ≡ min (sum_by g.R.WidthRule.cells ys) (2 ^ 64 - 1)) _
    (λ ys a x b f' h called.
    let e = sum_by_push g.R.WidthRule.cells ys x in
    let t : (b ≡ min (a + g.R.WidthRule.cells x) (2 ^ 64 - 1)) = search rules in (omega (arith, e), search rules))
    c.chars.result (chars c.args.text.now) 0 _ (Chars-gives _ c.chars.result (search (rules, encodes-chars))) (search rules) c.fold.ensures.ran
