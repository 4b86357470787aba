use Rattle.std.proofs.lemmas.Result.{on_ok_weaker}
use Rattle.traces.proofs.Growing.{five_more}
use Rattle.traces.specs.Ends.{message_line}
use Rattle.traces.proofs.ends.put_link_message.Goals as goal

pub returns : goal.returns
unfolding message_line
returns c =
    on_ok_weaker c.put-2.result
    (five_more _ _ _ _ _ _ _ _ _ _ _ c.in_ok-numbered.ensures c.in_ok-numbered-2.ensures
    c.in_ok-put.ensures c.in_ok-put_message.ensures)
    c.put-2.ensures
