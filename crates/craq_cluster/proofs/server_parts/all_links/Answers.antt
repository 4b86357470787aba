use Rattle.std.proofs.Common.{◌≡◌, ◌∙◌, ap, length, length-append, arith, rules}
use Rattle.craq_cluster.proofs.Wired.{all_more, senders_more}
use Rattle.craq_cluster.proofs.server_parts.all_links.Goals as goal

pub loop-id-preserved : goal.loop-id-preserved
loop-id-preserved g c =
    let as_many : length c.in_ok-links.links.items ≡ length c.loop-id.servers.items = search rules in
    let size : length c.loop-id.servers.items ≡ length c.args.servers.now.items = search rules in
    record {
      count = omega (arith, simp length-append at (ap length c.in_ok-push.ensures.items));
      servers = search rules;
      cores = c.links_of.ensures.cores ∙ c.loop-id.invariant.cores;
      senders = senders_more c.loop-id.id c.loop-id.all.items c.push.new.self.items c.new.result
          c.loop-id.invariant.senders c.new.ensures.id c.in_ok-push.ensures.items;
      dealt = all_more c.loop-id.id c.args.servers.now.items c.loop-id.servers.items c.links_of.new.servers.items
          c.loop-id.all.items c.push.new.self.items c.in_ok-links.links.items c.new.result c.loop-id.invariant.dealt
          c.in_ok-links.ensures.dealt c.loop-id.invariant.count as_many size c.new.ensures.links
          c.in_ok-push.ensures.items;
    }
