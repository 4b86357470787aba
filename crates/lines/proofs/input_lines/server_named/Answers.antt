use Rattle.std.proofs.Common.{◌≡◌, true, false, sym, ◌∙◌, arith}
use Rattle.lines.proofs.Naming.{none_so_far, names_none}
use Rattle.lines.proofs.input_lines.server_named.Goals as goal

pub loop-j-preserved : goal.loop-j-preserved
loop-j-preserved c =
    none_so_far c.in_ok-named.named.now c.loop-j.j c.loop-j.invariant
    (λ same. absurd (let no_more : true ≡ false = sym (c.is_number.ensures.1 same) ∙ c.if-is_number.false in cc))

pub returns : goal.returns
returns c =
    names_none c.args.line.now c.args.word.now c.in_ok-named.named.now c.args.count c.in_ok-named.ensures
    (λ k below. c.loop-j.invariant k (omega (arith, below, c.loop-j-test.false)))
