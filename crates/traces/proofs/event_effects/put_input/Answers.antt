use Rattle.std.proofs.lemmas.Result.{on_ok_weaker}
use Rattle.traces.proofs.Growing.{two_more, three_more}
use Rattle.traces.proofs.event_effects.put_input.Goals as goal

pub returns-in_ok-put-in-Call : goal.returns-in_ok-put-in-Call
returns-in_ok-put-in-Call c =
    rw c.in-Call.is
    (on_ok_weaker c.put_call.result
    (three_more _ _ _ _ _ _ _ c.in_ok-numbered-in-Call.ensures c.in_ok-put-in-Call.ensures) c.put_call.ensures)

pub returns-in_ok-server-in-Gone : goal.returns-in_ok-server-in-Gone
returns-in_ok-server-in-Gone c =
    rw c.in-Gone.is
    (on_ok_weaker c.put-in-Gone.result (two_more _ _ _ _ _ c.in_ok-server-in-Gone.ensures) c.put-in-Gone.ensures)
