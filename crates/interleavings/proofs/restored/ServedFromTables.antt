-- Connections of a chain that begins with a table: the one order of their calls, and what they are written.
use Rattle.std.proofs.Common.{◌≡◌, ℕ, ◌+◌, ◌*◌, ◌^◌, ◌<◌, ◌≤◌, List, ◌∷◌, true, length, map, refl, arith}
use Rattle.table.specs.Plain.{PlainTable}
use Rattle.table.specs.declared.operations.Reply.{Reply}
use Rattle.node.specs.Servers.{most}
use Rattle.interleavings.specs.Moves.{Move, moved_from, done}
use Rattle.interleavings.specs.Asked.{AreAsked}
use Rattle.interleavings.specs.Quiet.{IsQuiet}
use Rattle.interleavings.specs.Restored.{IsReached, restored_chain}
use Rattle.interleavings.specs.Connections.{waits, may_have}
use Rattle.interleavings.specs.ServingMoves.{ServingChain, ServingMove, served_at, served_from}
use Rattle.interleavings.specs.Served.{IsServed, ServedCall, NoneUnanswered, AllHaveAll}
use Rattle.interleavings.specs.ServedFrom.{restored_serving, IsOneOrderFrom, IsServedInTurnFrom, LeavesWhatIsServed}
use Rattle.interleavings.proofs.restored.Laws.{order_from, none_forgotten_from}
use Rattle.interleavings.proofs.served.Steps.{IsInOrder}
use Rattle.interleavings.proofs.served.Along.{opening_order}
use Rattle.interleavings.proofs.served.Kinds.{first_fits_from}
use Rattle.interleavings.proofs.served.OrderFromStart as from_start
use Rattle.interleavings.proofs.served.OrderFromStart.{named}

fewer : (n a b c : ℕ) → a ≤ b → n + b < c → n + a < c
fewer n a b c l k = omega (arith, l, k)

module _ (count : ℕ) (homes : List ℕ) (t : PlainTable) (moves : List ServingMove) where
  abbrev first : ServingChain
  first = restored_serving count homes t

  opened : IsInOrder (restored_serving count homes t)
  opened =
      let o = opening_order count homes in
      record {
        connected = o.connected;
        seats = λ c. (let s = o.seats c in
            record { all_calls = s.all_calls; later = s.later; placed = s.placed; open_one = s.open_one });
      }

  abbrev run : List Move
  run = from_start.run first opened moves

  -- each connection got what its bytes ask for
  pub each_is_served_from : (c n : ℕ) → IsServed ((served_from done (restored_serving count homes t) moves).connections
      c n)
  each_is_served_from c n = from_start.each_is_served first opened moves c n

  -- its servers make a run of moves
  pub is_run_from : (ms : List Move) × AreAsked ms
      × ((served_from done (restored_serving count homes t) moves).chain ≡ moved_from (restored_chain count homes t) ms)
  is_run_from = (run, from_start.run_asked first opened moves, from_start.same_chain first opened moves)

  -- there is one order, in turn, which leaves what is held
  pub one_order_from : 1 ≤ count
      → count ≤ 16
      → IsReached t
      → t.count < most
      → (h : List ServedCall) × IsOneOrderFrom t (restored_serving count homes t) moves h
      × IsServedInTurnFrom (restored_serving count homes t) moves h
      × LeavesWhatIsServed t (served_from done (restored_serving count homes t) moves) h
  one_order_from some few r numbers =
      let o = order_from count homes t run some few r numbers (from_start.run_asked first opened moves) in
      let h = map (named (served_from done first moves)) o.0 in
      let one = from_start.is_one_order first opened moves t o.0 o.1 in (
        h,
        one,
        record {
          in_turn = λ x y j p s.
              from_start.in_turn_there first opened moves t o.0 o.1
              (λ a b. (first.chain.seats a).home ≡ (first.chain.seats b).home)
              (λ k j a b published unpublished one_server update later_update at.
              o.2.in_turn a b j (record {
                k = k;
                published = published;
                not_published = unpublished;
                one_server = one_server;
                update = update;
                later_update = later_update;
              }) at)
              p.k j x y p.published p.not_published p.one_server p.update p.later_update s;
          own = from_start.own_in_turn first opened moves (λ c n. refl) t h one;
        },
        from_start.leaves_same first opened moves t o.0 o.1 o.3,
      )

  -- no call is unanswered in a quiet chain
  pub none_unanswered_from : 1 ≤ count
      → count ≤ 16
      → IsReached t
      → t.count * 128 + length moves < 2 ^ 62
      → IsQuiet (served_from done (restored_serving count homes t) moves).chain
      → NoneUnanswered (served_from done (restored_serving count homes t) moves)
  none_unanswered_from some few r short quiet =
      from_start.none_unanswered first opened moves
      (none_forgotten_from count homes t run some few r
      (fewer (t.count * 128) (length run) (length moves) (2 ^ 62) (from_start.run_short first opened moves) short)
      (from_start.run_asked first opened moves)) quiet

  -- so a connection at which nothing is left to do has all
  pub all_have_all_from : 1 ≤ count
      → count ≤ 16
      → IsReached t
      → t.count * 128 + length moves < 2 ^ 62
      → IsQuiet (served_from done (restored_serving count homes t) moves).chain
      → AllHaveAll (served_from done (restored_serving count homes t) moves)
  all_have_all_from some few r short quiet =
      from_start.all_have_all first opened moves (none_unanswered_from some few r short quiet)

  -- what stands first in a seat's queue fits its call
  pub first_fits_there : 1 ≤ count
      → count ≤ 16
      → IsReached t
      → t.count < most
      → (c : ℕ) (reply : Reply) (more : List Reply)
      → ((served_from done (restored_serving count homes t) moves).chain.seats c).queued ≡ reply ∷ more
      → waits (served_at (served_from done (restored_serving count homes t) moves) c) ≡ true
      → may_have (served_at (served_from done (restored_serving count homes t) moves) c).session.asked reply ≡ true
  first_fits_there some few r numbers c reply more queued wait =
      first_fits_from first opened t
      (λ ms asked. (let o = order_from count homes t ms some few r numbers asked in (o.0, o.1)))
      moves c reply more queued wait
