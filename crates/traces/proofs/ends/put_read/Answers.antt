use Rattle.std.proofs.lemmas.Result.{on_ok_weaker}
use Rattle.traces.proofs.Growing.{five_more}
use Rattle.traces.specs.Ends.{read_line}
use Rattle.traces.proofs.ends.put_read.Goals as goal

pub returns : goal.returns
unfolding read_line
returns c =
    on_ok_weaker c.put.result
    (five_more _ _ _ _ _ _ _ _ _ _ _ c.in_ok-labelled.ensures c.in_ok-numbered.ensures
    c.in_ok-put_key.ensures c.in_ok-labelled-2.ensures)
    c.put.ensures
