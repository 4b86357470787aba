use Rattle.std.proofs.Common.{◌≡◌, ◌∙◌, ◌∷◌, ◌++◌, arith, rules}
use Rattle.std.specs.Vec.Iter.{into_iter_items}
use Rattle.io_threads.specs.Pools.{handles_senders, pools_senders}
use Rattle.io_threads.proofs.Dealt.{all_made, as_left, as_more, may_be_given, may_be_made, next_sender, none_left}
use Rattle.io_threads.proofs.Dealt.{none_made, seat_replied, stand_replied, was_given, was_made}
use Rattle.io_threads.proofs.pools.deal.Goals as goal

pub loop-thread_handle-init : goal.loop-thread_handle-init
loop-thread_handle-init c =
    let same : into_iter_items c.into_iter-thread_handle-iterator.result ≡ c.args.thread_handles.items = search rules in
    record {
      server = λ o are.
          none_made o c.args.thread_handles.items (into_iter_items c.into_iter-thread_handle-iterator.result)
          c.args.others.items
          c.new-pools.result.items same c.new-pools.ensures.items are;
      count = search rules;
      senders = λ i. pools_senders (c.new-pools.ensures.items i) ++ handles_senders (same i);
    }

pub add_pool-requires : goal.add_pool-requires
add_pool-requires c =
    let o = c.requires.server.0 in
    let are = as_left o (into_iter_items c.loop-thread_handle.thread_handle-iterator)
    (c.in-Some.thread_handle ∷ into_iter_items c.next.new.self) c.args.others.items c.loop-thread_handle.pools.items
    c.in-Some.ensures.steps.0 (c.loop-thread_handle.invariant.server o c.requires.server.1) in
    record {
      server = may_be_made o c.in-Some.thread_handle (into_iter_items c.next.new.self) c.args.others.items
          c.loop-thread_handle.pools.items are;
      replied = stand_replied o c.in-Some.thread_handle (into_iter_items c.next.new.self) c.args.others.items
          c.loop-thread_handle.pools.items are;
    }

pub loop-thread_handle-preserved : goal.loop-thread_handle-preserved
loop-thread_handle-preserved c =
    record {
      server = λ o given.
          was_made o c.in-Some.thread_handle (into_iter_items c.next.new.self) c.args.others.items
          c.loop-thread_handle.pools.items
          (as_left o (into_iter_items c.loop-thread_handle.thread_handle-iterator)
          (c.in-Some.thread_handle ∷ into_iter_items c.next.new.self) c.args.others.items
          c.loop-thread_handle.pools.items
          c.in-Some.ensures.steps.0 (c.loop-thread_handle.invariant.server o given)) _ c.add_pool.ensures.server;
      count = search rules;
      senders = next_sender c.in-Some.thread_handle (into_iter_items c.next.new.self) c.loop-thread_handle.pools.items _
          (into_iter_items c.loop-thread_handle.thread_handle-iterator) c.args.thread_handles.items
          c.in-Some.ensures.steps.0 c.in_ok-add_pool.ensures.senders c.loop-thread_handle.invariant.senders;
    }

pub loop-seat-init : goal.loop-seat-init
loop-seat-init c =
    let same : into_iter_items c.into_iter-seat-iterator.result ≡ c.args.others.items = search rules in
    record {
      server = λ o given.
          all_made o (into_iter_items c.loop-thread_handle.thread_handle-iterator) c.args.others.items
          (into_iter_items c.into_iter-seat-iterator.result) c.loop-thread_handle.pools.items
          (c.loop-thread_handle.invariant.server o given) same;
      count = omega (arith, c.in-None.ensures.steps.0, c.loop-thread_handle.invariant.count);
      senders = none_left c.loop-thread_handle.pools.items
          (into_iter_items c.loop-thread_handle.thread_handle-iterator) c.args.thread_handles.items
          (omega (arith, c.in-None.ensures.steps.0)) c.loop-thread_handle.invariant.senders;
    }

pub give-requires : goal.give-requires
give-requires c =
    let o = c.requires.server.0 in
    let are = as_more o (into_iter_items c.loop-seat.seat-iterator)
    (c.in-Some-seat.seat ∷ into_iter_items c.next-in-loop-seat.new.self) c.loop-seat.pools.items
    c.in-Some-seat.ensures.steps.0 (c.loop-seat.invariant.server o c.requires.server.1) in
    record {
      server = may_be_given o c.in-Some-seat.seat (into_iter_items c.next-in-loop-seat.new.self)
          c.loop-seat.pools.items are;
      replied = seat_replied o c.in-Some-seat.seat (into_iter_items c.next-in-loop-seat.new.self)
          c.loop-seat.pools.items are;
    }

pub loop-seat-preserved : goal.loop-seat-preserved
loop-seat-preserved c =
    record {
      server = λ o given.
          was_given o c.in-Some-seat.seat (into_iter_items c.next-in-loop-seat.new.self) c.loop-seat.pools.items
          (as_more o (into_iter_items c.loop-seat.seat-iterator)
          (c.in-Some-seat.seat ∷ into_iter_items c.next-in-loop-seat.new.self) c.loop-seat.pools.items
          c.in-Some-seat.ensures.steps.0 (c.loop-seat.invariant.server o given)) _ c.give.ensures.server;
      count = search rules;
      senders = c.give.ensures.senders ∙ c.loop-seat.invariant.senders;
    }

pub returns-clause-server : goal.returns-clause-server
returns-clause-server c = λ o given. (c.loop-seat.invariant.server o given).pools
