use Rattle.lines.proofs.Naming.{word_and_space}
use Rattle.lines.proofs.input_lines.rest_after_word.Goals as goal

pub returns : goal.returns
returns c =
    word_and_space c.args.line.now c.args.word.now c.in_ok-after.after.now c.rest_after-2.result c.in_ok-after.ensures
    c.rest_after-2.ensures
