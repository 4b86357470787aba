-- Beside a leased run of a chain that serves: the run in which each server stops when it is called gone. Its order
-- explains each reply that was made up before.
use Rattle.std.proofs.Common.{◌≡◌, ℕ, zero, suc, ◌≤◌, Bool, true, false, cond, List, [], ◌∷◌, ◌++◌, length, take}
use Rattle.std.proofs.Common.{Option, None, Some, refl, arith, ap, sym, ◌∙◌, subst, append-nil, append_assoc, inl, inr}
use Rattle.std.specs.Prelude.{◌+◌, is_some, nat_lt, ◌&&◌, slice_get}
use Rattle.std.proofs.lemmas.Bool.{cases_eq, both_ways, and_parts}
use Rattle.std.proofs.lemmas.List.{take_all}
use Rattle.table.specs.declared.operations.Call.{Call}
use Rattle.table.specs.declared.operations.Reply.{Reply}
use Rattle.proto.specs.Turns.{Outcome, Replied, Refused, is_store}
use Rattle.proto.specs.Streams.{turns, outcome_texts, to_come}
use Rattle.proto.proofs.RunLaws.{any_cutting}
use Rattle.proto.proofs.RunTexts.{output_is_texts}
use Rattle.proto.proofs.WriteLaws.{fewer_outcomes_begin}
use Rattle.node.proofs.Lists.{get_front}
use Rattle.world.proofs.lists.Standing.{some_of}
use Rattle.world.proofs.order.Since.{is_some as has_some}
use Rattle.interleavings.specs.Chains.{with_at, opening_chain}
use Rattle.interleavings.specs.Moves.{Move, Stops, Sends, Receives, Looks, is_free, done}
use Rattle.interleavings.specs.Quiet.{goes_on}
use Rattle.interleavings.specs.Connections.{Connection, made, answered, refused, waits, may_have}
use Rattle.interleavings.specs.ServingMoves.{ServingChain, ServingMove, Reads, Begins, Asks, Peeks, Refuses, Answers}
use Rattle.interleavings.specs.ServingMoves.{Writes, Ends, Runs, opening_serving, served_at, with_served, with_move}
use Rattle.interleavings.specs.ServingMoves.{refusing, asking, peeked, peeking, answering, key_due, look_reply}
use Rattle.interleavings.specs.ServingMoves.{is_of_seat, served_by, served_from, served}
use Rattle.interleavings.specs.Served.{CallName, ServedCall, call_made, reply_got, replies_of}
use Rattle.interleavings.specs.Served.{IsOneOrder, ComesBefore, IsServedInTurn}
use Rattle.interleavings.specs.OtherMoves.{Doing}
use Rattle.interleavings.specs.LeasedMoves.{LeasedChain, Does, Calls, with_leases, counted, home_of}
use Rattle.interleavings.specs.LeasedOrders.{IsBegunBy}
use Rattle.interleavings.specs.LeasedServing.{LeasedServing, LeasedServingMove, Serves, CallsGone}
use Rattle.interleavings.specs.LeasedServing.{may_be_gone, leased_serving_by, opening_leased_serving}
use Rattle.interleavings.specs.LeasedServing.{leased_serving_from, leased_serving, put_by, made_up, IsLeasedServing}
use Rattle.interleavings.specs.LeasedServing.{server_of, kept_serving, kept_serving_from, serving_as_stopped}
use Rattle.interleavings.specs.LeasedServing.{IsUngone, ComesBeforeGone, IsOrderBeforeGone, IsWrittenBeforeGone}
use Rattle.interleavings.proofs.lists.ChangedFunctions.{at_same, at_other}
use Rattle.interleavings.proofs.relation.Transfer.{take_front}
use Rattle.interleavings.proofs.rows.Going.{GoesOn, goes}
use Rattle.interleavings.proofs.served.Along.{served_from-append, opening_order, order_along}
use Rattle.interleavings.proofs.served.Connected.{IsConnected, run_with}
use Rattle.interleavings.proofs.served.OneOrder.{one_order}
use Rattle.std.proofs.lemmas.Option.{same_Some, get_or_from_slice_get}
use Rattle.interleavings.specs.Chains.{RunningServer, Seat, calls_from, queue}
use Rattle.interleavings.specs.OtherMoves.{is_published_from}
use Rattle.interleavings.specs.Served.{calls_before, id_at_seat, is_call_published, PublishedFirst}
use Rattle.interleavings.specs.LeasedServing.{PublishedFirstUngone}
use Rattle.interleavings.proofs.served.Along.{grows_from}
use Rattle.interleavings.proofs.served.Steps.{Grows}
use Rattle.interleavings.proofs.leased.SeatGrowth.{seat_same, begun_same}
use Rattle.interleavings.proofs.leased.BesideMoves.{calls_gone}
use Rattle.interleavings.proofs.leased.LaterChains.{Later, later_same, later_then, later_by}
use Rattle.interleavings.proofs.leased.StoppedRuns.{opening_owns}
use Rattle.interleavings.proofs.leased.WrittenOrders.{get_later, none_of}
use Rattle.interleavings.proofs.leased.ServingBeside.{R, seat_counts, one_serving, both_serving}

-- ---- what only grows

-- its running chain
abbrev pub as_leased : LeasedServing → LeasedChain
as_leased s =
    record { chain = s.serving.chain; called = s.called; arrived = s.arrived; written = λ c. 0 }

-- with another serving chain
abbrev with_serving : LeasedServing → ServingChain → LeasedChain
with_serving s u = record { chain = u.chain; called = s.called; arrived = s.arrived; written = λ c. 0 }

module _ (s : LeasedServing) where
  abbrev W : Doing
  W = with_leases s.called

  abbrev first : LeasedChain
  first = with_serving s s.serving

  by_test : (b : Bool) (u : ServingChain) → Later first (with_serving s u)
      → Later first (with_serving s (cond b u s.serving))
  by_test true u g = g
  by_test false u g = later_same first

  later_asks : (c : ℕ) (due : Option Call) → Later first (with_serving s (asking W s.serving c due))
  later_asks c None = later_same first
  later_asks c (Some call) =
      by_test (is_free (s.serving.chain.seats c))
      (with_move W s.serving (Sends c call) c (made call (served_at s.serving c)))
      (later_by first (Does (Sends c call)))

  later_peeked : (c : ℕ) (key : List ℕ) (o : Option Reply) → Later first (with_serving s (peeked W s.serving c key o))
  later_peeked c key None = later_same first
  later_peeked c key (Some reply) = later_by first (Does (Looks c key))

  later_peeks : (c : ℕ) (o : Option (List ℕ)) → Later first (with_serving s (peeking W s.serving c o))
  later_peeks c None = later_same first
  later_peeks c (Some key) = later_peeked c key (look_reply s.serving.chain c key)

  later_refuses : (c : ℕ) (due : Option Call) → Later first (with_serving s (refusing s.serving c due))
  later_refuses c None = later_same first
  later_refuses c (Some call) =
      by_test (is_store call.op) (with_served s.serving c (refused (served_at s.serving c))) (later_same first)

  later_answers : (c : ℕ) (queued : List Reply) → Later first (with_serving s (answering W s.serving c queued))
  later_answers c [] = later_same first
  later_answers c (reply ∷ more) =
      by_test (waits (served_at s.serving c) && may_have (served_at s.serving c).session.asked reply)
      (with_move W s.serving (Receives c) c (answered reply (served_at s.serving c)))
      (later_by first (Does (Receives c)))

  later_runs : (m : Move)
      → Later first (record {
        chain = (served_by W s.serving (Runs m)).chain;
        called = s.called;
        arrived = counted s.arrived s.serving.chain m;
        written = λ c. 0;
      })
  later_runs m = by (is_of_seat m) refl
    where
      by : (b : Bool)
          → is_of_seat m ≡ b
          → Later first (record {
            chain = (cond b s.serving (record s.serving { chain = W s.serving.chain m })).chain;
            called = s.called;
            arrived = counted s.arrived s.serving.chain m;
            written = λ c. 0;
          })
      by true is =
          subst (λ a.
          Later first (record { chain = s.serving.chain; called = s.called; arrived = a; written = λ c. 0 }))
          (sym (seat_counts s.arrived s.serving.chain m is)) (later_same first)
      by false is = later_by first (Does m)

  later_serves : (m : ServingMove) → Later first (as_leased (leased_serving_by s (Serves m)))
  later_serves (Reads c piece) = later_same first
  later_serves (Begins c) = later_same first
  later_serves (Asks c) = later_asks c (served_at s.serving c).due
  later_serves (Peeks c) = later_peeks c (key_due (served_at s.serving c).due)
  later_serves (Refuses c) = later_refuses c (served_at s.serving c).due
  later_serves (Answers c) = later_answers c (s.serving.chain.seats c).queued
  later_serves (Writes c n) = later_same first
  later_serves (Ends c) = later_same first
  later_serves (Runs m) = later_runs m

later_serving : (s : LeasedServing) (m : LeasedServingMove) → Later (as_leased s) (as_leased (leased_serving_by s m))
later_serving s (Serves m) = later_serves s m
later_serving s (CallsGone i) = by (may_be_gone s i) (later_by (as_leased s) (Calls i))
  where
    by : (b : Bool)
        → Later (as_leased s) (cond b (record (as_leased s) { called = with_at s.called i true }) (as_leased s))
        → Later (as_leased s) (as_leased (cond b (record s { called = with_at s.called i true }) s))
    by true g = g
    by false g = g

later_serving_from : (ms : List LeasedServingMove) (s : LeasedServing)
    → Later (as_leased s) (as_leased (leased_serving_from s ms))
later_serving_from [] s = later_same (as_leased s)
later_serving_from (m ∷ ms) s =
    later_then (as_leased s) (as_leased (leased_serving_by s m))
    (as_leased (leased_serving_from (leased_serving_by s m) ms)) (later_serving s m)
    (later_serving_from ms (leased_serving_by s m))

-- ---- beside each other

module _ (home : ℕ → ℕ) (most_arrived : ℕ → ℕ → ℕ) where
  abbrev S : LeasedServing → ServingChain → Type 0
  S s d = R home most_arrived (λ c. 0) s.called s.arrived s.serving d

  abbrev after : LeasedServing → ℕ → List LeasedServingMove → LeasedServing
  after s k ms = leased_serving_from s (take k ms)

  -- What is still to come of a run: of each server that wasn't called gone there is a moment before it is, at which it
  -- has put all messages that are to arrive.
  record Coming (s : LeasedServing) (ms : List LeasedServingMove) : Type 0 where
    messages : (i j : ℕ)
        → s.called i ≡ false
        → (k : ℕ) × ((after s k ms).called i ≡ false) × (most_arrived i j ≤ put_by (after s k ms) i j)
    arrived : (i j : ℕ) → (leased_serving_from s ms).arrived i j ≤ most_arrived i j

  not_before : (s t : LeasedServing) (i : ℕ)
      → Later (as_leased s) (as_leased t)
      → t.called i ≡ false
      → s.called i ≡ false
  not_before s t i later going = by (s.called i) refl
    where
      by : (b : Bool) → s.called i ≡ b → s.called i ≡ false
      by true is = absurd (both_ways (t.called i) going (later.called i is))
      by false is = is

  module _ (s : LeasedServing) (m : LeasedServingMove) (ms : List LeasedServingMove) (t : Coming s (m ∷ ms)) where
    abbrev next : LeasedServing
    next = leased_serving_by s m

    put_grows : (i j : ℕ) → put_by s i j ≤ put_by next i j
    put_grows i j = (later_serving s m).put i j

    called_stays : (k i : ℕ) → next.called i ≡ true → (after next k ms).called i ≡ true
    called_stays k i gone = (later_serving_from (take k ms) next).called i gone

    arrived_grows : (i j : ℕ) → next.arrived i j ≤ (leased_serving_from next ms).arrived i j
    arrived_grows i j = (later_serving_from ms next).arrived i j

    next_messages : (i j : ℕ)
        → next.called i ≡ false
        → (k : ℕ)
        → (after s k (m ∷ ms)).called i ≡ false
        → most_arrived i j ≤ put_by (after s k (m ∷ ms)) i j
        → (k : ℕ) × ((after next k ms).called i ≡ false) × (most_arrived i j ≤ put_by (after next k ms) i j)
    next_messages i j going zero e most =
        let g = put_grows i j in
        (0, going, omega (arith, g, most))
    next_messages i j going (suc k) e most = (k, e, most)

    coming_next : Coming next ms
    coming_next = record {
      messages = λ i j going.
          let it = t.messages i j (not_before s next i (later_serving s m) going) in
          next_messages i j going it.0 it.1 it.2;
      arrived = t.arrived;
    }

    now_messages : (i j : ℕ)
        → next.called i ≡ true
        → (k : ℕ)
        → (after s k (m ∷ ms)).called i ≡ false
        → most_arrived i j ≤ put_by (after s k (m ∷ ms)) i j
        → most_arrived i j ≤ put_by s i j
    now_messages i j gone zero e most = most
    now_messages i j gone (suc k) e most = absurd (both_ways _ e (called_stays k i gone))

    within : (i j : ℕ) → next.arrived i j ≤ most_arrived i j
    within i j =
        let a = arrived_grows i j in
        let b = t.arrived i j in
        omega (arith, a, b)

  serves_step : (s : LeasedServing) (d : ServingChain) (m : ServingMove) (ms : List LeasedServingMove)
      → S s d
      → Coming s (Serves m ∷ ms)
      → S (leased_serving_by s (Serves m)) (served_from done d (kept_serving home s (Serves m)))
  serves_step s d m ms h t = by (s.called (server_of home m)) refl
    where
      by : (b : Bool)
          → s.called (server_of home m) ≡ b
          → S (leased_serving_by s (Serves m)) (served_from done d (cond b [] (m ∷ [])))
      by true is = one_serving home most_arrived (λ c. 0) s.called s.arrived s.serving d h m is
      by false is =
          both_serving home most_arrived (λ c. 0) s.called s.arrived s.serving d h m is (within s (Serves m) ms t)

  calls_step : (s : LeasedServing) (d : ServingChain) (i : ℕ) (ms : List LeasedServingMove)
      → S s d
      → Coming s (CallsGone i ∷ ms)
      → S (leased_serving_by s (CallsGone i)) (served_from done d (kept_serving home s (CallsGone i)))
  calls_step s d i ms h t = by (may_be_gone s i) refl
    where
      gone_then : may_be_gone s i ≡ true → (leased_serving_by s (CallsGone i)).called i ≡ true
      gone_then is =
          ap (λ b. (cond b (record s { called = with_at s.called i true }) s).called i) is
          ∙ at_same s.called i true

      earlier : (c : ℕ) → with_at s.called i true (home c) ≡ false → s.called (home c) ≡ false
      earlier c going = elim (cases_eq (home c) i) [
        | inl same ↦ absurd (both_ways (with_at s.called i true i) (ap (with_at s.called i true) (sym same) ∙ going)
            (at_same s.called i true))
        | inr other ↦ sym (at_other s.called i true (home c) other) ∙ going
      ]

      by : (b : Bool)
          → may_be_gone s i ≡ b
          → S (cond b (record s { called = with_at s.called i true }) s)
          (served_from done d (cond b (Runs (Stops i) ∷ []) []))
      by true is =
          let there = and_parts (nat_lt i s.serving.chain.count) _ (and_parts (goes_on s.serving.chain i) _ is).0 in
          record {
            chains = calls_gone home most_arrived (λ c. 0) s.called s.arrived s.serving.chain d.chain h.chains i there.0
                (λ c same going. omega arith)
                (λ j going.
                let it = t.messages i j going in
                now_messages s (CallsGone i) ms t i j (gone_then is) it.0 it.1 it.2);
            connections = record {
              ended = λ c going. h.connections.ended c (earlier c going);
              same = λ c n going. h.connections.same c n (earlier c going);
              calls = h.connections.calls;
            };
          }
      by false is = h

  step : (s : LeasedServing) (d : ServingChain) (m : LeasedServingMove) (ms : List LeasedServingMove)
      → S s d
      → Coming s (m ∷ ms)
      → S (leased_serving_by s m) (served_from done d (kept_serving home s m))
  step s d (Serves m) ms h t = serves_step s d m ms h t
  step s d (CallsGone i) ms h t = calls_step s d i ms h t

  beside_along : (k : ℕ) (ms : List LeasedServingMove) (s : LeasedServing) (d : ServingChain)
      → S s d
      → Coming s ms
      → S (after s k ms) (served_from done d (kept_serving_from home s (take k ms)))
  beside_along zero ms s d h t = h
  beside_along (suc k) [] s d h t = h
  beside_along (suc k) (m ∷ ms) s d h t =
      let n = leased_serving_by s m in
      subst (S (after n k ms))
      (sym (served_from-append d (kept_serving home s m) (kept_serving_from home n (take k ms))))
      (beside_along k ms n (served_from done d (kept_serving home s m)) (step s d m ms h t) (coming_next s m ms t))

  -- what is left of some first moves begins what is left of all
  kept_begins : (k : ℕ) (ms : List LeasedServingMove) (s : LeasedServing)
      → IsBegunBy (kept_serving_from home s ms) (kept_serving_from home s (take k ms))
  kept_begins zero ms s = record { more = kept_serving_from home s ms; all = refl }
  kept_begins (suc k) [] s = record { more = []; all = refl }
  kept_begins (suc k) (m ∷ ms) s =
      let b = kept_begins k ms (leased_serving_by s m) in
      record {
        more = b.more;
        all = ap (λ us. kept_serving home s m ++ us) b.all
            ∙ sym (append_assoc (kept_serving home s m) (kept_serving_from home (leased_serving_by s m) (take k ms))
            b.more);
      }

-- ---- one connection

-- what its session has made up begins the texts of its turns
texts_made_up : (k : Connection)
    → IsConnected k
    → (rest : List ℕ) × (outcome_texts (turns k.read) k.outcomes ≡ made_up k ++ rest)
texts_made_up k t =
    let f = fewer_outcomes_begin t.given (to_come k.session) k.outcomes [] in (
      f.0,
      ap (λ ts. outcome_texts ts k.outcomes) (sym (any_cutting (run_with k t.given) t.is))
          ∙ ap (λ os. outcome_texts (t.given ++ to_come k.session) os) (sym (append-nil k.outcomes))
          ∙ f.1
          ∙ ap (λ bytes. bytes ++ f.0) (sym (output_is_texts (run_with k t.given) t.is)),
    )

replies_joined : (os ps : List Outcome) → replies_of (os ++ ps) ≡ replies_of os ++ replies_of ps
replies_joined [] ps = refl
replies_joined (Replied reply ∷ os) ps = ap (λ rs. reply ∷ rs) (replies_joined os ps)
replies_joined (Refused ∷ os) ps = replies_joined os ps

-- ---- the order

module _ (count : ℕ) (homes : List ℕ) (moves : List LeasedServingMove)
    (leases : IsLeasedServing count homes moves) where
  abbrev home : ℕ → ℕ
  home = home_of count homes

  abbrev most : ℕ → ℕ → ℕ
  most i j = put_by (leased_serving count homes (take (leases.messages i j).0 moves)) i j

  abbrev opened : LeasedServing
  opened = opening_leased_serving count homes

  abbrev stops : List ServingMove
  stops = serving_as_stopped count homes moves

  abbrev run_at : ℕ → ServingChain
  run_at k = (leased_serving count homes (take k moves)).serving

  abbrev stops_at : ℕ → List ServingMove
  stops_at k = serving_as_stopped count homes (take k moves)

  abbrev stopped_at : ℕ → ServingChain
  stopped_at k = served done count homes (stops_at k)

  opening_beside : S home most opened (opening_serving count homes)
  opening_beside = record {
    chains = record {
      count = refl;
      of_chain = λ i gone. absurd cc;
      servers = record {
        same = λ i going. refl;
        stopped = λ i gone. absurd cc;
        own = opening_owns home count homes;
      };
      seats = record {
        sits = λ c. refl;
        same = λ c going. refl;
        grown = λ c. seat_same ((opening_chain count homes).seats c);
        room = λ c gone. absurd cc;
      };
      channels = record {
        longer = λ i j to. record { late = []; all = refl; none = λ e. refl };
        room = λ i j to gone. absurd cc;
      };
    };
    connections = record {
      ended = λ c going. refl;
      same = λ c n going. refl;
      calls = λ c n. begun_same [];
    };
  }

  coming : Coming home most opened moves
  coming = record {
    messages = λ i j going. ((leases.messages i j).0, (leases.messages i j).1, omega arith);
    arrived = λ i j. (leases.messages i j).2;
  }

  -- after some first k moves
  beside_at : (k : ℕ) → S home most (leased_serving count homes (take k moves)) (stopped_at k)
  beside_at k = beside_along home most k moves opened (opening_serving count homes) opening_beside coming

  there_at : (k c n : ℕ)
      → (leased_serving count homes (take k moves)).called (home c) ≡ false
      → (stopped_at k).connections c n ≡ (run_at k).connections c n
  there_at k c n going = (beside_at k).connections.same c n going

  come_far : (k : ℕ) → take (length (stops_at k)) stops ≡ stops_at k
  come_far k =
      let b = kept_begins home most k moves opened in
      ap (take (length (stops_at k))) b.all ∙ take_front (stops_at k) b.more

  -- a reply of a connection stays
  replies_stay : (k : ℕ) (x : CallName) (reply : Reply)
      → reply_got (stopped_at k) x ≡ Some reply
      → reply_got (served done count homes stops) x ≡ Some reply
  replies_stay k x reply e =
      let g = goes done count homes stops (length (stops_at k)) x.seat x.number in
      let was : GoesOn ((stopped_at k).connections x.seat x.number)
      ((served done count homes stops).connections x.seat x.number) =
      subst (λ ms. GoesOn ((served done count homes ms).connections x.seat x.number)
      ((served done count homes stops).connections x.seat x.number)) (come_far k) g in
      let before = order_along (stops_at k) (opening_serving count homes) (opening_order count homes) in
      let replies : ((served done count homes stops).connections x.seat x.number).replies
      ≡ ((stopped_at k).connections x.seat x.number).replies ++ replies_of was.outcomes.0 =
      was.connected.got ∙ ap replies_of was.outcomes.1
      ∙ replies_joined ((stopped_at k).connections x.seat x.number).outcomes was.outcomes.0
      ∙ ap (λ rs. rs ++ replies_of was.outcomes.0) (sym (before.connected x.seat x.number).got) in
      ap (λ rs. slice_get rs x.ordinal) replies
      ∙ get_front ((stopped_at k).connections x.seat x.number).replies (replies_of was.outcomes.0) x.ordinal reply e

  got_there : (k : ℕ) (x : CallName) (reply : Reply)
      → IsUngone count homes moves k x
      → reply_got (run_at k) x ≡ Some reply
      → reply_got (stopped_at k) x ≡ Some reply
  got_there k x reply going e =
      ap (λ (u : Connection). slice_get u.replies x.ordinal) (there_at k x.seat x.number going) ∙ e

  made_later : (k : ℕ) (x : CallName) (call : Call)
      → call_made (stopped_at k) x ≡ Some call
      → call_made (run_at k) x ≡ Some call
  made_later k x call e =
      get_later ((stopped_at k).connections x.seat x.number).calls ((run_at k).connections x.seat x.number).calls
      x.ordinal call ((beside_at k).connections.calls x.seat x.number) e

  precedes : (x y : CallName) → ComesBeforeGone count homes moves x y → ComesBefore done count homes stops x y
  precedes x y p =
      let a = some_of (reply_got (run_at p.k) x) p.answered in
      let far = come_far p.k in
      record {
        k = length (stops_at p.k);
        answered = has_some _ a.0 (ap (λ ms. reply_got (served done count homes ms) x) far
            ∙ got_there p.k x a.0 p.ungone a.1);
        not_made = ap (λ ms. call_made (served done count homes ms) y) far
            ∙ none_of (call_made (stopped_at p.k) y) (call_made (run_at p.k) y) (made_later p.k y) p.not_made;
      }

  whole : take (length moves) moves ≡ moves
  whole = take_all (length moves) moves (omega arith)

  made_last : (x : CallName) (call : Call)
      → call_made (served done count homes stops) x ≡ Some call
      → call_made (leased_serving count homes moves).serving x ≡ Some call
  made_last x call =
      subst (λ ms. call_made (served done count homes (serving_as_stopped count homes ms)) x ≡ Some call
      → call_made (leased_serving count homes ms).serving x ≡ Some call) whole (made_later (length moves) x call)

  -- while a server isn't called gone, the same of its calls are published
  calls_before_same : (k c n : ℕ)
      → (leased_serving count homes (take k moves)).called (home c) ≡ false
      → calls_before (stopped_at k) c n ≡ calls_before (run_at k) c n
  calls_before_same k c zero going = refl
  calls_before_same k c (suc n) going =
      ap (λ a. a + length ((stopped_at k).connections c n).calls) (calls_before_same k c n going)
      ∙ ap (λ (u : Connection). calls_before (run_at k) c n + length u.calls) (there_at k c n going)

  published_there : (k : ℕ) (x : CallName)
      → IsUngone count homes moves k x
      → is_call_published (λ c. c) (stopped_at k) x ≡ is_call_published (λ c. c) (run_at k) x
  published_there k x going =
      let b = (beside_at k).chains in
      let l = (stopped_at k).chain in
      let o = calls_before (run_at k) x.seat x.number + x.ordinal in
      ap (λ (u : Connection). is_some (slice_get u.calls x.ordinal)
      && is_published_from (λ c. c) l (id_at_seat (stopped_at k) x)) (there_at k x.seat x.number going)
      ∙ ap (λ n. is_some (call_made (run_at k) x)
      && is_published_from (λ c. c) l (record { connection = x.seat; ordinal = n + x.ordinal }))
      (calls_before_same k x.seat x.number going)
      ∙ ap (λ (u : Seat). is_some (call_made (run_at k) x)
      && nat_lt (o + length (calls_from x.seat (queue (l.servers u.home)))) (length u.calls))
      (b.seats.same x.seat going)
      ∙ ap (λ (v : RunningServer). is_some (call_made (run_at k) x)
      && nat_lt (o + length (calls_from x.seat (queue v))) (length ((run_at k).chain.seats x.seat).calls))
      (b.servers.same ((run_at k).chain.seats x.seat).home
      (ap (leased_serving count homes (take k moves)).called (b.seats.sits x.seat) ∙ going))

  -- a call that is made stays so
  made_on : (k : ℕ) (x : CallName) (call : Call)
      → call_made (stopped_at k) x ≡ Some call
      → call_made (served done count homes stops) x ≡ Some call
  made_on k x call e =
      let g = grows_from (length (stops_at k)) stops (opening_serving count homes) (opening_order count homes) in
      let was : Grows (stopped_at k) (served done count homes stops) =
      subst (λ ms. Grows (served done count homes ms) (served done count homes stops)) (come_far k) g in
      was.calls x.seat x.number x.ordinal call e

  published_first : (x y : CallName) (call : Call)
      → PublishedFirstUngone count homes moves x y
      → call_made (served done count homes stops) y ≡ Some call
      → PublishedFirst done (λ c. c) count homes stops x y
  published_first x y call p made_y =
      let far = come_far p.k in
      let same_home : home y.seat ≡ home x.seat =
      get_or_from_slice_get homes y.seat p.server count p.there
      ∙ sym (get_or_from_slice_get homes x.seat p.server count p.here) in
      let going = ap (leased_serving count homes (take p.k moves)).called same_home ∙ p.ungone in
      let there = published_there p.k x p.ungone ∙ p.published in
      let f = some_of (call_made (stopped_at p.k) x) (and_parts (is_some (call_made (stopped_at p.k) x)) _ there).0 in
      let on = made_on p.k x f.0 f.1 in
      let one : f.0 ≡ p.update.0 = same_Some f.0 p.update.0 (sym (made_last x f.0 on) ∙ p.update.1) in
      let two : call ≡ p.later_update.0 =
      same_Some call p.later_update.0 (sym (made_last y call made_y) ∙ p.later_update.1) in
      record {
        k = length (stops_at p.k);
        published = ap (λ ms. is_call_published (λ c. c) (served done count homes ms) x) far ∙ there;
        not_published = ap (λ ms. is_call_published (λ c. c) (served done count homes ms) y) far
            ∙ published_there p.k y going ∙ p.not_published;
        server = p.server;
        of_chain = p.of_chain;
        here = p.here;
        there = p.there;
        update = (f.0, on, rw one p.update.2);
        later_update = (call, made_y, rw two p.later_update.2);
      }

  before_gone : (h : List ServedCall)
      → IsOneOrder done count homes stops h
      → IsServedInTurn done (λ c. c) count homes stops h
      → IsOrderBeforeGone count homes moves h
  before_gone h one turn = record {
    legal = one.legal;
    made = λ i e here. made_last e.id e.call (one.made i e here);
    once = one.once;
    answered = λ x reply k going e. one.answered x reply (replies_stay k x reply (got_there k x reply going e));
    in_time = λ x y j p s. one.in_time x y j (precedes x y p) s;
    in_turn = λ x y j p s.
        let made_y = subst (λ z. call_made (served done count homes stops) z ≡ Some s.entry.call) s.named
        (one.made j s.entry s.here) in
        turn.in_turn x y j (published_first x y s.entry.call p made_y) s;
    own = turn.own;
  }

  -- there is one,
  pub order_before_gone : count ≤ 16 → (h : List ServedCall) × IsOrderBeforeGone count homes moves h
  order_before_gone few =
      let o = one_order count homes stops few in
      (o.0, before_gone o.0 o.1 o.2)

  -- and what is written to a connection are the texts of its replies
  pub written_before_gone : (c n : ℕ) → IsWrittenBeforeGone count homes moves c n
  written_before_gone c n =
      let b = leases.bytes c n in
      let before = order_along (stops_at b.0) (opening_serving count homes) (opening_order count homes) in
      let t = subst IsConnected (there_at b.0 c n b.1) (before.connected c n) in
      let f = texts_made_up ((run_at b.0).connections c n) t in
      record {
        k = b.0;
        ungone = b.1;
        written = (
          b.2.more ++ f.0,
          f.1 ∙ ap (λ bytes. bytes ++ f.0) b.2.all
              ∙ append_assoc ((leased_serving count homes moves).serving.connections c n).written b.2.more f.0,
        );
      }
