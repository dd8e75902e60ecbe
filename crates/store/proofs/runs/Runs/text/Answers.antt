use Rattle.std.proofs.Common.{◌∙◌}
use Rattle.store.proofs.Joining.{ends_joined}
use Rattle.store.proofs.runs.Runs.text.Goals as goal

pub range-requires-clause-start_le_end : goal.range-requires-clause-start_le_end
range-requires-clause-start_le_end c =
    let s = c.args.self.now in
    let first = c.in-Some-Some.ensures.item.3 in
    let last = c.in-Some-Some.ensures'.item.3 in
    (ends_joined s.bytes.now s.spans.now s.within s.joins _ _ first.0 first.1 last.1).0

pub returns : goal.returns
returns c =
    let s = c.args.self.now in
    let first = c.in-Some-Some.ensures.item.3 in
    let last = c.in-Some-Some.ensures'.item.3 in
    c.range.ensures.value ∙ (ends_joined s.bytes.now s.spans.now s.within s.joins _ _ first.0 first.1 last.1).1
