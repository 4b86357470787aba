use Rattle.std.proofs.lemmas.Result.{on_ok_weaker}
use Rattle.traces.proofs.Growing.{three_more}
use Rattle.traces.specs.Ends.{end_text}
use Rattle.traces.proofs.ends.put_end.Goals as goal

pub returns : goal.returns
unfolding end_text
returns c =
    on_ok_weaker c.put_links.result
    (three_more _ _ _ _ _ _ _ c.in_ok-put.ensures c.in_ok-put_servers.ensures) c.put_links.ensures
