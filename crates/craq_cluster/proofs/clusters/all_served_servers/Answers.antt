use Rattle.std.proofs.Common.{◌≡◌, ◌∙◌, ◌++◌, ◌∷◌, [], ap, arith, length, rules}
use Rattle.std.specs.Vec.Iter.{into_iter_items}
use Rattle.craq_cluster.specs.declared.server_parts.ServerParts.{ServerParts}
use Rattle.craq_cluster.specs.Wiring.{controls_of, pools_in, pools_of}
use Rattle.craq_cluster.proofs.Standing.{served_servers_pushed, taken_all, taken_more}
use Rattle.craq_cluster.proofs.clusters.all_served_servers.Goals as goal

pub loop-parts-preserved : goal.loop-parts-preserved
loop-parts-preserved c =
    let pushed : c.push-in-loop-parts.new.self.items ≡ c.loop-parts.served_servers.items
    ++ c.loose_served_server.result ∷ [] =
    search rules in
    record {
      controls = taken_more (λ (s : ServerParts). s.control) (controls_of c.args.all_server_parts.items)
          c.loop-parts.controls.items
          c.push.new.self.items (into_iter_items c.loop-parts.parts-iterator) (into_iter_items c.next.new.self)
          c.in-Some.parts c.loop-parts.invariant.controls c.in-Some.ensures.steps.0 c.in_ok-push.ensures.items;
      pools = taken_more (λ (s : ServerParts). s.pools.items) (pools_of c.args.all_server_parts.items)
          (pools_in c.loop-parts.served_servers.items)
          (pools_in c.push-in-loop-parts.new.self.items) (into_iter_items c.loop-parts.parts-iterator)
          (into_iter_items c.next.new.self) c.in-Some.parts c.loop-parts.invariant.pools c.in-Some.ensures.steps.0
          (served_servers_pushed c.loop-parts.served_servers.items c.push-in-loop-parts.new.self.items
          c.loose_served_server.result pushed
          ∙ ap (λ ps. pools_in c.loop-parts.served_servers.items ++ ps ∷ []) c.loose_served_server.ensures);
    }

pub returns-clause-controls : goal.returns-clause-controls
returns-clause-controls c =
    let none : length (into_iter_items c.loop-parts.parts-iterator) ≡ 0 = omega (arith, c.in-None.ensures.steps.0) in
    taken_all (λ (s : ServerParts). s.control) (controls_of c.args.all_server_parts.items) c.loop-parts.controls.items
    (into_iter_items c.loop-parts.parts-iterator) c.loop-parts.invariant.controls none

pub returns-clause-pools : goal.returns-clause-pools
returns-clause-pools c =
    let none : length (into_iter_items c.loop-parts.parts-iterator) ≡ 0 = omega (arith, c.in-None.ensures.steps.0) in
    taken_all (λ (s : ServerParts). s.pools.items) (pools_of c.args.all_server_parts.items)
    (pools_in c.loop-parts.served_servers.items)
    (into_iter_items c.loop-parts.parts-iterator) c.loop-parts.invariant.pools none
