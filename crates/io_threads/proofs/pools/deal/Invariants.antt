use Rattle.std.proofs.Common.{◌≡◌, ◌+◌, ◌++◌, [], length, vec_len}
use Rattle.std.specs.Vec.Iter.{into_iter_items}
use Rattle.faces.specs.Histories.{Instance}
use Rattle.io_threads.specs.Pools.{AreOf, handles_senders, pools_senders}
use Rattle.io_threads.proofs.pools.deal.Given as goal

-- the thread handles that are left, the seats, and the pools, are of the server that the thread handles and the seats
-- are of; each thread handle that isn't left has its pool
abbrev pub invariant-loop-thread_handle : goal.invariant-loop-thread_handle
invariant-loop-thread_handle l = record {
  server : (o : Instance) → AreOf o l.fn.thread_handles.items l.fn.others.items []
      → AreOf o (into_iter_items l.thread_handle-iterator) l.fn.others.items l.pools.items;
  count : vec_len l.pools + length (into_iter_items l.thread_handle-iterator) ≡ vec_len l.fn.thread_handles;
  senders : pools_senders l.pools.items ++ handles_senders (into_iter_items l.thread_handle-iterator)
      ≡ handles_senders l.fn.thread_handles.items;
}

-- the same of the seats that are left
abbrev pub invariant-loop-seat : goal.invariant-loop-seat
invariant-loop-seat l = record {
  server : (o : Instance) → AreOf o l.fn.thread_handles.items l.fn.others.items []
      → AreOf o [] (into_iter_items l.seat-iterator) l.pools.items;
  count : vec_len l.pools ≡ vec_len l.fn.thread_handles;
  senders : pools_senders l.pools.items ≡ handles_senders l.fn.thread_handles.items;
}
