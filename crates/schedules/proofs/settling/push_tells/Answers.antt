use Rattle.std.proofs.Common.{rules}
use Rattle.std.proofs.lemmas.Iterator.{YieldsList-from_map, YieldsList-from_slice}
use Rattle.std.proofs.lemmas.Iterator.Adapters.{items_from_extend}
use Rattle.std.proofs.lemmas.Result.{on_ok_weaker}
use Rattle.world.specs.declared.events.Event.TheVariants.{Tell}
use Rattle.schedules.proofs.settling.push_tells.Goals as goal

-- a tell is added for each pair
pub returns : goal.returns
returns c =
    on_ok_weaker c.extend.result (λ h. h.0)
    (items_from_extend c.extend.result c.extend.ensures.ran
    (YieldsList-from_map _ (λ p. Tell p.0 p.1) (YieldsList-from_slice c.args.pairs.now cc) c.map.ensures.closure
    (λ x r q k. search rules)))
