use Rattle.std.proofs.Common.{◌≡◌, ◌∙◌, ap, rules}
use Rattle.craq_cluster.specs.Wiring.{openings}
use Rattle.craq_cluster.proofs.Standing.{own_more, starts_more}
use Rattle.craq_cluster.proofs.Wired.{leads_more}
use Rattle.craq_cluster.proofs.server_parts.all_servers.Goals as goal

pub loop-id-preserved : goal.loop-id-preserved
loop-id-preserved g c =
    record {
      count = search rules;
      workers = starts_more c.loop-id.id c.args.count c.loop-id.servers.items c.push.new.self.items
          c.in_ok-server.server c.in_ok-node.node c.loop-id.invariant.workers c.in_ok-node.ensures.which
          c.in_ok-server.ensures.worker
          c.in_ok-push.ensures.items;
      pools = own_more c.loop-id.servers.items c.push.new.self.items c.in_ok-server.server c.loop-id.invariant.pools
          c.in_ok-server.ensures.pools c.in_ok-push.ensures.items;
      inlets = leads_more c.loop-id.servers.items c.push.new.self.items c.in_ok-server.server
          c.loop-id.invariant.inlets
          c.in_ok-server.ensures.inlets c.in_ok-push.ensures.items;
    }

pub returns-clause-workers : goal.returns-clause-workers
returns-clause-workers g c =
    let all : c.loop-id.id ≡ c.args.count = search rules in
    c.loop-id.invariant.workers ∙ ap (λ n. openings n c.args.count) all
