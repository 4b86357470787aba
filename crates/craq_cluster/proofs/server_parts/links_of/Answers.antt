use Rattle.std.proofs.Common.{◌<◌, ap, length, length-append, slice_set, refl, arith, rules}
use Rattle.craq_cluster.proofs.Standing.{cores_kept}
use Rattle.craq_cluster.proofs.Wired.{links_more}
use Rattle.craq_cluster.proofs.server_parts.links_of.Goals as goal

pub loop-j-preserved : goal.loop-j-preserved
loop-j-preserved g c =
    let now = c.loop-j.servers.items in
    let within : c.loop-j.j < length c.loop-j.servers.items = search rules in
    record {
      count = omega (arith, simp length-append at (ap length c.in_ok-push.ensures.items));
      servers = c.loop-j.invariant.servers;
      cores = cores_kept c.loop-j.j c.args.servers.now.items now (slice_set now c.loop-j.j c.link_to.new.server)
          c.index_mut.result.now c.link_to.new.server c.loop-j.invariant.cores c.index_mut.ensures.value
          c.link_to.ensures.core refl;
      dealt = links_more c.args.id c.loop-j.j c.args.servers.now.items now
          (slice_set now c.loop-j.j c.link_to.new.server) c.loop-j.links.items c.push.new.self.items
          c.index_mut.result.now c.link_to.new.server c.link_to.result c.loop-j.invariant.dealt c.loop-j.invariant.count
          within c.index_mut.ensures.value c.link_to.ensures.taken c.link_to.ensures.own c.link_to.ensures.whole refl
          c.in_ok-push.ensures.items;
    }

pub returns-in_err-push-clause-cores : goal.returns-in_err-push-clause-cores
returns-in_err-push-clause-cores g c =
    let now = c.loop-j.servers.items in
    cores_kept c.loop-j.j c.args.servers.now.items now (slice_set now c.loop-j.j c.link_to.new.server)
    c.index_mut.result.now c.link_to.new.server c.loop-j.invariant.cores c.index_mut.ensures.value
    c.link_to.ensures.core refl
