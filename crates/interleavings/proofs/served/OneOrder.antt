-- There is one order of all connections' calls: that of the seats' calls, each by the name of its connection.
use Rattle.std.proofs.Common.{◌≡◌, ℕ, ◌^◌, ◌<◌, ◌≤◌, true, List, [], length, map, refl, arith, sym, ◌∙◌, subst}
use Rattle.std.specs.Prelude.{slice_get, IsSome}
use Rattle.table.specs.Plain.{opening as empty_table}
use Rattle.interleavings.specs.Moves.{Move, moved, done}
use Rattle.interleavings.specs.Asked.{AreAsked}
use Rattle.interleavings.specs.Chains.{Chain}
use Rattle.interleavings.specs.Pools.{HasNothingLeft}
use Rattle.interleavings.specs.Quiet.{goes_on, IsQuiet}
use Rattle.interleavings.specs.ServingMoves.{ServingChain, ServingMove, served, opening_serving}
use Rattle.interleavings.specs.Served.{IsServed, ServedCall, IsOneOrder, IsServedInTurn, NoneUnanswered, AllHaveAll}
use Rattle.interleavings.specs.Served.{CallName, call_made, reply_got, IsRested, HasAll}
use Rattle.interleavings.specs.ServedFrom.{IsOneOrderFrom}
use Rattle.interleavings.proofs.relation.Following.{linearizable}
use Rattle.interleavings.proofs.runs.Simulating.{simulates}
use Rattle.interleavings.proofs.quiet.Answering.{none_forgotten, none_forgotten_there}
use Rattle.interleavings.proofs.served.Steps.{IsInOrder}
use Rattle.interleavings.proofs.served.Along.{opening_order}
use Rattle.interleavings.proofs.served.Names.{ordinal_of}
use Rattle.interleavings.proofs.served.OrderFromStart as from_start
use Rattle.interleavings.proofs.served.OrderFromStart.{named, from_opening}

fewer : (a b c : ℕ) → a ≤ b → b < c → a < c
fewer a b c l k = omega (arith, l, k)

module _ (count : ℕ) (homes : List ℕ) (moves : List ServingMove) where
  abbrev first : ServingChain
  first = opening_serving count homes

  opened : IsInOrder (opening_serving count homes)
  opened = opening_order count homes

  abbrev run : List Move
  run = from_start.run first opened moves

  -- each connection got what its bytes ask for
  pub each_is_served : (c n : ℕ) → IsServed ((served done count homes moves).connections c n)
  each_is_served c n = from_start.each_is_served first opened moves c n

  -- an order from the opening chain and the empty table on
  as_opened : (h : List ServedCall)
      → IsOneOrderFrom empty_table (opening_serving count homes) moves h
      → IsOneOrder done count homes moves h
  as_opened h one = record {
    legal = one.legal;
    made = one.made;
    once = one.once;
    answered = one.answered;
    in_time = λ x y j p s.
        one.in_time x y j (record { k = p.k; answered = p.answered; not_made = p.not_made }) s;
  }

  -- so there is one, in turn,
  pub one_order : count ≤ 16
      → (h : List ServedCall) × IsOneOrder done count homes moves h
      × IsServedInTurn done (λ c. c) count homes moves h
  one_order few =
      let o = linearizable count homes (simulates count homes few) run few (from_start.run_asked first opened moves) in
      let lin = from_opening count homes run o.0 o.1 in
      let h = map (named (served done count homes moves)) o.0 in
      let one = from_start.is_one_order first opened moves empty_table o.0 lin in (
        h,
        as_opened h one,
        record {
          in_turn = λ x y j p s.
              from_start.in_turn_there first opened moves empty_table o.0 lin
              (λ a b. slice_get homes a ≡ slice_get homes b)
              (λ k j a b published unpublished one_server update later_update at.
              o.2.in_turn a b j (record {
                k = k;
                published = published;
                not_published = unpublished;
                one_server = one_server;
                update = update;
                later_update = later_update;
              }) at)
              p.k j x y p.published p.not_published (p.here ∙ sym p.there) p.update p.later_update s;
          own = from_start.own_in_turn first opened moves (λ c n. refl) empty_table h one;
        },
      )

  -- and no call is unanswered in a quiet chain
  pub none_unanswered : count ≤ 16
      → length moves < 2 ^ 62
      → IsQuiet (served done count homes moves).chain
      → NoneUnanswered (served done count homes moves)
  none_unanswered few short quiet =
      from_start.none_unanswered first opened moves
      (none_forgotten count homes run few
      (fewer (length run) (length moves) (2 ^ 62) (from_start.run_short first opened moves) short)
      (from_start.run_asked first opened moves)) quiet

  -- so a connection at which nothing is left to do has all
  pub all_have_all : count ≤ 16
      → length moves < 2 ^ 62
      → IsQuiet (served done count homes moves).chain
      → AllHaveAll (served done count homes moves)
  all_have_all few short quiet = from_start.all_have_all first opened moves (none_unanswered few short quiet)

  -- a call has its reply if nothing is left to do but for seats' queues, and that of its seat is empty;
  pub answered_there : count ≤ 16
      → length moves < 2 ^ 62
      → HasNothingLeft (served done count homes moves).chain
      → (x : CallName)
      → goes_on (served done count homes moves).chain ((served done count homes moves).chain.seats x.seat).home ≡ true
      → ((served done count homes moves).chain.seats x.seat).queued ≡ []
      → IsSome (call_made (served done count homes moves) x)
      → IsSome (reply_got (served done count homes moves) x)
  answered_there few short left x on empty made =
      let same = from_start.same_chain first opened moves in
      from_start.has_its_reply first opened moves x
      (none_forgotten_there count homes run few
      (fewer (length run) (length moves) (2 ^ 62) (from_start.run_short first opened moves) short)
      (from_start.run_asked first opened moves) (subst HasNothingLeft same left)
      (ordinal_of (served done count homes moves) x)
      (subst (λ l. goes_on l (l.seats x.seat).home ≡ true) same on)
      (subst (λ (l : Chain). (l.seats x.seat).queued ≡ []) same empty))
      made

  -- and a connection at which nothing is left to do has all if its next call has its reply, should it be made
  pub has_all_there : (c n : ℕ)
      → (IsSome (call_made (served done count homes moves)
      (record { seat = c; number = n; ordinal = length ((served done count homes moves).connections c n).replies }))
      → IsSome (reply_got (served done count homes moves)
      (record { seat = c; number = n; ordinal = length ((served done count homes moves).connections c n).replies })))
      → IsRested ((served done count homes moves).connections c n)
      → HasAll ((served done count homes moves).connections c n)
  has_all_there c n none rested = from_start.has_all_there first opened moves c n none rested

  -- and its servers make a run of moves
  pub is_run : (ms : List Move) × AreAsked ms × ((served done count homes moves).chain ≡ moved count homes ms)
  is_run = (run, from_start.run_asked first opened moves, from_start.same_chain first opened moves)
