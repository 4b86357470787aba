use Rattle.std.proofs.lemmas.Result.{on_ok_weaker}
use Rattle.traces.proofs.Growing.{five_more}
use Rattle.traces.proofs.event_effects.put_places.Goals as goal

pub returns : goal.returns
returns c =
    on_ok_weaker c.put-2.result
    (five_more _ _ _ _ _ _ _ _ _ _ _ c.in_ok-put.ensures c.in_ok-put_view.ensures
    c.in_ok-put_ends.ensures c.in_ok-put_neighbours.ensures)
    c.put-2.ensures
