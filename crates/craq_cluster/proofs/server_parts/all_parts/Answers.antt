use Rattle.std.proofs.Common.{◌≡◌, ◌+◌, ◌++◌, ◌∷◌, [], ap, sym, ◌∙◌, length, vec_len, arith, rules}
use Rattle.std.specs.Vec.Iter.{into_iter_items}
use Rattle.craq_cluster.specs.Wiring.{numbers}
use Rattle.craq_cluster.proofs.Standing.{sender_here, senders_first, senders_next, worker_here, workers_first}
use Rattle.craq_cluster.proofs.Standing.{workers_next}
use Rattle.craq_cluster.proofs.Wired.{numbers_next, parts_all, parts_more, parts_none}
use Rattle.craq_cluster.proofs.server_parts.all_parts.Goals as goal

pub loop-server-init : goal.loop-server-init
loop-server-init g c =
    let same : into_iter_items c.into_iter-server-iterator.result ≡ c.args.servers.items =
    c.into_iter-server-iterator.ensures.into_iter_gives.0 in
    record {
      count = search rules;
      scheduler = c.new-scheduler.ensures ∙ sym (ap numbers c.new-all_server_parts.ensures.len);
      workers = workers_first (vec_len c.args.servers) (vec_len c.new-all_server_parts.result) c.args.servers.items
          (into_iter_items c.into_iter-server-iterator.result) c.requires.workers same
          c.new-all_server_parts.ensures.len;
      links = senders_first (vec_len c.args.links) (vec_len c.new-all_server_parts.result) c.args.links.items
          (into_iter_items c.into_iter-left.result) c.requires.links c.into_iter-left.ensures.rest
          c.new-all_server_parts.ensures.len;
      all_server_parts = parts_none c.args.servers.items (into_iter_items c.into_iter-server-iterator.result)
          c.new-all_server_parts.result.items same c.new-all_server_parts.ensures.items;
    }

pub add_linked-requires : goal.add_linked-requires
add_linked-requires g c =
    let place : c.len.result ≡ vec_len c.loop-server.all_server_parts = search rules in
    record {
      worker = worker_here (vec_len c.loop-server.all_server_parts) c.len.result
          (into_iter_items c.loop-server.server-iterator)
          (into_iter_items c.next.new.self) c.in-Some.server c.loop-server.invariant.workers
          c.in-Some.ensures.steps.0 place;
      links = sender_here (vec_len c.loop-server.all_server_parts) c.len.result (into_iter_items c.loop-server.left)
          (into_iter_items c.next-own.new.self) c.next-own.result c.loop-server.invariant.links c.next-own.ensures.items
          place;
    }

pub loop-server-preserved : goal.loop-server-preserved
loop-server-preserved g c =
    let place : c.len.result ≡ vec_len c.loop-server.all_server_parts = search rules in
    let more : vec_len c.push.new.self ≡ vec_len c.loop-server.all_server_parts + 1 = search rules in
    record {
      count = search rules;
      scheduler = c.in_ok-parts.ensures.scheduler
          ∙ (ap (λ ns. ns ++ c.len.result ∷ []) c.loop-server.invariant.scheduler
          ∙ (ap (λ n. numbers (vec_len c.loop-server.all_server_parts) ++ n ∷ []) place
          ∙ (sym (numbers_next (vec_len c.loop-server.all_server_parts)) ∙ ap numbers (sym more))));
      workers = workers_next (vec_len c.loop-server.all_server_parts) (vec_len c.push.new.self)
          (into_iter_items c.loop-server.server-iterator) (into_iter_items c.next.new.self) c.in-Some.server
          c.loop-server.invariant.workers c.in-Some.ensures.steps.0 more;
      links = senders_next (vec_len c.loop-server.all_server_parts) (vec_len c.push.new.self)
          (into_iter_items c.loop-server.left)
          (into_iter_items c.next-own.new.self) c.next-own.result c.loop-server.invariant.links c.next-own.ensures.items
          c.in_ok-parts.ensures.links more;
      all_server_parts = parts_more c.args.servers.items (into_iter_items c.loop-server.server-iterator)
          (into_iter_items c.next.new.self) c.in-Some.server c.loop-server.all_server_parts.items c.push.new.self.items
          c.in_ok-parts.parts c.loop-server.invariant.all_server_parts c.in-Some.ensures.steps.0
          c.in_ok-parts.ensures.parts
          c.in_ok-push.ensures.items;
    }

pub returns-clause-all_server_parts : goal.returns-clause-all_server_parts
returns-clause-all_server_parts g c =
    let none : length (into_iter_items c.loop-server.server-iterator) ≡ 0 = omega (arith, c.in-None.ensures.steps.0) in
    parts_all c.args.servers.items (into_iter_items c.loop-server.server-iterator) c.loop-server.all_server_parts.items
    c.loop-server.invariant.all_server_parts none

pub returns-clause-scheduler : goal.returns-clause-scheduler
returns-clause-scheduler g c =
    let all : vec_len c.loop-server.all_server_parts ≡ vec_len c.args.servers =
    omega (arith, c.in-None.ensures.steps.0) in
    c.loop-server.invariant.scheduler ∙ ap numbers all
