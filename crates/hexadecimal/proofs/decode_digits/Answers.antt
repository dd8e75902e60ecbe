use Rattle.std.proofs.Common.{◌++◌, ap, sym, ◌∙◌, vec_items, rules}
use Rattle.hexadecimal.specs.Hex.{digits_of}
use Rattle.hexadecimal.proofs.Reading.{all_read, odd-read, refused-read, read_more}
use Rattle.hexadecimal.proofs.decode_digits.Goals as goal

pub returns-then-not-is_empty : goal.returns-then-not-is_empty
returns-then-not-is_empty c = odd-read _ (search rules)

pub returns-in_default : goal.returns-in_default
returns-in_default c =
    let bytes = vec_items c.loop-pair.bytes in
    let next = c.in-Some.ensures.steps.1 in
    let so_far = ap (λ l. digits_of bytes ++ l) (sym next.0) ∙ c.loop-pair.invariant.1 in
    refused-read bytes c.in-Some.pair.now _ _ so_far (next.1 ∙ c.loop-pair.invariant.2) c.in_default.ensures

pub loop-pair-preserved : goal.loop-pair-preserved
loop-pair-preserved c =
    let bytes = vec_items c.loop-pair.bytes in
    let next = c.in-Some.ensures.steps.1 in
    let so_far = ap (λ l. digits_of bytes ++ l) (sym next.0) ∙ c.loop-pair.invariant.1 in
    let more = read_more bytes c.in-Some.pair.now _ _ c.loop-pair.invariant.0 so_far c.in-Some-from_digits.byte (vec_items c.push.new.self) c.in_ok-push.ensures.items c.in-Some-from_digits.ensures (next.1 ∙ c.loop-pair.invariant.2) in
    (more.0, more.1, c.in-Some.ensures.steps.0 ∙ c.loop-pair.invariant.2)

pub returns : goal.returns
returns c = (c.loop-pair.invariant.0, all_read _ _ _ c.loop-pair.invariant.1 (search rules) (search rules))
