use Rattle.std.proofs.lemmas.Result.{on_ok_weaker}
use Rattle.traces.proofs.Growing.{three_more}
use Rattle.traces.specs.EventEffects.{appended_line}
use Rattle.traces.proofs.event_effects.put_appended.Goals as goal

pub returns : goal.returns
unfolding appended_line
returns c =
    on_ok_weaker c.put-2.result
    (three_more _ _ _ _ _ _ _ c.in_ok-put.ensures c.in_ok-put_entry.ensures) c.put-2.ensures
