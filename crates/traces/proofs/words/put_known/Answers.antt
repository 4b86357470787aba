use Rattle.std.proofs.lemmas.Result.{on_ok_weaker}
use Rattle.traces.proofs.Growing.{two_more}
use Rattle.traces.proofs.words.put_known.Goals as goal

pub returns : goal.returns
returns c =
    on_ok_weaker c.put_view.result (two_more _ _ _ _ _ c.in_ok-put.ensures) c.put_view.ensures
