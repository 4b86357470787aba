use Rattle.std.proofs.Common.{rules, arith}
use Rattle.std.proofs.lemmas.Iterator.{YieldsList-from_map, YieldsList-from_range}
use Rattle.std.proofs.lemmas.Iterator.Adapters.{items_from_extend}
use Rattle.std.proofs.lemmas.Result.{on_ok_weaker}
use Rattle.world.specs.declared.events.Event.TheVariants.{Work}
use Rattle.schedules.proofs.settling.push_works.Goals as goal

-- a work is added for each connection
pub returns : goal.returns
returns c =
    on_ok_weaker c.extend.result (λ h. h.0)
    (items_from_extend c.extend.result c.extend.ensures.ran
    (YieldsList-from_map _ Work
    (YieldsList-from_range 0 _ c.args.connections c.map.ensures.source (omega arith)) c.map.ensures.closure
    (λ x r q k. search rules)))
