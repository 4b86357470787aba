use Rattle.std.proofs.lemmas.Result.{on_ok_weaker}
use Rattle.traces.proofs.Growing.{three_more}
use Rattle.traces.proofs.ends.put_known.Goals as goal

pub returns : goal.returns
returns c =
    on_ok_weaker c.put-2.result
    (three_more _ _ _ _ _ _ _ c.in_ok-put.ensures c.in_ok-put_view.ensures) c.put-2.ensures
