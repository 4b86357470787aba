use Rattle.std.proofs.lemmas.Result.{on_ok_weaker}
use Rattle.traces.proofs.Growing.{three_more}
use Rattle.traces.proofs.ends.put_numbers.Goals as goal

pub returns : goal.returns
returns c =
    on_ok_weaker c.labelled-3.result
    (three_more _ _ _ _ _ _ _ c.in_ok-labelled.ensures c.in_ok-labelled-2.ensures) c.labelled-3.ensures
