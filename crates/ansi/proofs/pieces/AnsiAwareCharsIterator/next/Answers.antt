use Rattle.std.proofs.Common.{IsUtf8, rules}
use Rattle.ansi.proofs.Takes.{takes_escape, takes_letter}
use Rattle.ansi.proofs.pieces.AnsiAwareCharsIterator.next.Goals as goal

pub returns-clause-steps : goal.returns-clause-steps
returns-clause-steps c =
    let s = c.args.self.now in
    let text : IsUtf8 s.input.now = search rules in
    takes_escape s _ text (search rules) _ c.in_ok-c.rest.now (search rules) (search rules) (search rules) (search rules)

pub returns-then-c-ne27-clause-steps : goal.returns-then-c-ne27-clause-steps
returns-then-c-ne27-clause-steps c =
    let s = c.args.self.now in
    let text : IsUtf8 s.input.now = search rules in
    takes_letter s _ text (search rules) _ (search rules) (search rules)
