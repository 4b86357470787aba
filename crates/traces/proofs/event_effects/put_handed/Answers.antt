use Rattle.std.proofs.lemmas.Result.{on_ok_weaker}
use Rattle.traces.proofs.Growing.{four_more}
use Rattle.traces.proofs.event_effects.put_handed.Goals as goal

pub returns : goal.returns
returns c =
    on_ok_weaker c.put_sent.result
    (four_more _ _ _ _ _ _ _ _ _ c.in_ok-put.ensures c.in_ok-put_reply.ensures c.in_ok-put-2.ensures)
    c.put_sent.ensures
