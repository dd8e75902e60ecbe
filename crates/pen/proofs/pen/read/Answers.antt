use Rattle.std.proofs.Common.{sym, ap, ◌∙◌, rules}
use Rattle.std.proofs.lemmas.List.{drop_all}
use Rattle.pen.specs.declared.pen.Expect.TheVariants.{Code}
use Rattle.pen.specs.Pens.{pen}
use Rattle.pen.specs.Sequences.{parameters}
use Rattle.pen.proofs.Steers.{next_byte, read_from, reads-numbers}
use Rattle.pen.proofs.pen.read.Goals as goal
use Rattle.pen.proofs.pen.read.Goals.{then-b-eq59, else-b-eq59}

pub overflow_sub-b : goal.overflow_sub-b
overflow_sub-b c =
    let e = next_byte c.args.bytes.now c.loop-b.b-index c.loop-b-test.true in
    let left = ap parameters (sym e) ∙ c.loop-b.invariant.1 in
    search rules

pub loop-b-preserved : goal.loop-b-preserved
loop-b-preserved c =
    let e = next_byte c.args.bytes.now c.loop-b.b-index c.loop-b-test.true in
    let left = ap parameters (sym e) ∙ c.loop-b.invariant.1 in
    let reads = ap (read_from c.loop-b.pen c.loop-b.n) (sym e) ∙ c.loop-b.invariant.0 in
    elim c.if-b-eq59.branch [
      | then-b-eq59 w ↦ (search rules, search rules)
      | else-b-eq59 w ↦ (search rules, search rules)
    ]

pub returns : goal.returns
returns c =
    let none = drop_all c.loop-b.b-index c.args.bytes.now c.loop-b-test.false in
    let end = ap (read_from c.loop-b.pen c.loop-b.n) (sym none) ∙ c.loop-b.invariant.0 in
    let all = reads-numbers c.args.bytes.now (pen c.args.style Code) 0 in
    search rules
