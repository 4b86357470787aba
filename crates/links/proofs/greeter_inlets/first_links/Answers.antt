-- Each inlet makes a link.
use Rattle.std.proofs.Common.{rules}
use Rattle.std.proofs.lemmas.Iterator.{YieldsList-from_map, items_from_collect}
use Rattle.std.proofs.lemmas.Iterator.Adapters.{YieldsList-from_vec}
use Rattle.links.specs.IncomingLinks.{first_of}
use Rattle.links.proofs.greeter_inlets.first_links.Goals as goal

pub returns : goal.returns
returns c =
    items_from_collect c.collect.result c.collect.ensures.ran
    (YieldsList-from_map _ first_of
    (YieldsList-from_vec c.args.inlets.items (search rules) (search rules))
    c.map.ensures.closure
    (λ x r q k. search rules))
