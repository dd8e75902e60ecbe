use Rattle.std.proofs.Common.{ℕ, IsUtf8, length, ap, arith, length-drop, rules}
use Rattle.ansi.proofs.Takes.{letters_behind}
use Rattle.ansi.proofs.pieces.AnsiStrippedCharsIterator.next.Goals as goal

pub loop-c-preserved : goal.loop-c-preserved
loop-c-preserved c =
    let text : IsUtf8 c.loop-c.self.input.now = search rules in
    let same = letters_behind c.loop-c.self.input.now c.in-Some.rest.now text (search rules) in
    (search rules, omega (arith, length-drop {A = ℕ}, ap length c.behind_sequence-self.ensures, c.in-Some.ensures.shorter))
