-- An order of the calls of the run in which servers stop when they are called gone explains all that clients were
-- written in the run in which they go on.
use Rattle.std.proofs.Common.{◌≡◌, ℕ, zero, suc, ◌+◌, ◌<◌, ◌≤◌, Bool, true, false, List, [], ◌∷◌, length, take}
use Rattle.std.proofs.Common.{Option, None, Some, refl, arith, ap, sym, ◌∙◌, subst}
use Rattle.std.specs.Prelude.{nat_lt, slice_get, slice_index_or}
use Rattle.std.proofs.lemmas.Bool.{ltb-true}
use Rattle.std.proofs.lemmas.List.{take_all}
use Rattle.std.proofs.lemmas.Option.{same_Some}
use Rattle.table.specs.declared.operations.Call.{Call}
use Rattle.table.specs.declared.operations.Reply.{Reply}
use Rattle.node.proofs.BegunLists.{found_below}
use Rattle.node.proofs.Lists.{get_front}
use Rattle.world.specs.Calls.{CallId}
use Rattle.world.specs.Orders.{OrderedCall}
use Rattle.world.proofs.lists.Standing.{some_of}
use Rattle.world.proofs.order.Since.{is_some}
use Rattle.interleavings.specs.Chains.{RunningServer, Seat, Chain, opening_chain, calls_from, queue}
use Rattle.interleavings.specs.Moves.{Move, moved_from, moved}
use Rattle.interleavings.specs.Orders.{begun_call, reply_to, waiting_calls, is_published, Precedes}
use Rattle.interleavings.specs.Orders.{PublishedBefore, IsLinearization, IsInTurn}
use Rattle.interleavings.specs.LeasedMoves.{LeasedMove, opening_leased, leased, AreAskedLeased, home_of, reply_written}
use Rattle.interleavings.specs.LeasedOrders.{IsLeased, as_stopped, IsBegunBy, PrecedesWritten}
use Rattle.interleavings.specs.LeasedOrders.{IsOrderOfWritten, PublishedBeforeGone, IsInTurnWritten}
use Rattle.interleavings.proofs.lists.TwoParts.{moved_from-append}
use Rattle.interleavings.proofs.relation.Following.{linearizable}
use Rattle.interleavings.proofs.relation.Transfer.{take_front}
use Rattle.interleavings.proofs.runs.Simulating.{simulates}
use Rattle.interleavings.proofs.leased.SeatGrowth.{AllGrow, moved_grows}
use Rattle.interleavings.proofs.leased.StoppedRuns.{beside_at, written_at, asked_still, kept_begins}

-- ---- lists

-- what stands in the front of a list stands in it
taken_get : {X : Type 0} (n : ℕ) (xs : List X) (p : ℕ) (x : X)
    → slice_get (take n xs) p ≡ Some x
    → slice_get xs p ≡ Some x
taken_get zero xs p x e = absurd cc
taken_get (suc n) [] p x e = e
taken_get (suc n) (y ∷ xs) zero x e = e
taken_get (suc n) (y ∷ xs) (suc p) x e = taken_get n xs p x e

-- and below its end
taken_below : {X : Type 0} (n : ℕ) (xs : List X) (p : ℕ) (x : X) → slice_get (take n xs) p ≡ Some x → p < n
taken_below zero xs p x e = absurd cc
taken_below (suc n) [] p x e = absurd cc
taken_below (suc n) (y ∷ xs) zero x e = omega arith
taken_below (suc n) (y ∷ xs) (suc p) x e = (let l = taken_below n xs p x e in omega (arith, l))

-- so, if the list begins another that has that many
taken_begun : {X : Type 0} (xs ys : List X) (p : ℕ) (x : X)
    → IsBegunBy ys xs
    → slice_get ys p ≡ Some x
    → p < length xs
    → slice_get xs p ≡ Some x
taken_begun xs ys p x b e l =
    let f = found_below xs p l in
    let there : slice_get ys p ≡ Some f.0 = ap (λ us. slice_get us p) b.all ∙ get_front xs b.more p f.0 f.1 in
    let same : f.0 ≡ x = same_Some f.0 x (sym there ∙ e) in
    f.1 ∙ ap (λ y. Some y) same

-- what stands in a list stands in one that it begins
pub get_later : {X : Type 0} (xs ys : List X) (p : ℕ) (x : X)
    → IsBegunBy ys xs
    → slice_get xs p ≡ Some x
    → slice_get ys p ≡ Some x
get_later xs ys p x b e = ap (λ us. slice_get us p) b.all ∙ get_front xs b.more p x e

-- what has nothing later has nothing before
pub none_of : {X : Type 0} (o p : Option X) → ((x : X) → o ≡ Some x → p ≡ Some x) → p ≡ None → o ≡ None
none_of None p f h = refl
none_of (Some x) p f h = absurd (let no : Some x ≡ None = sym (f x refl) ∙ h in cc)

-- the home that a list has at a place
home_in : ℕ → Option ℕ → ℕ
home_in n None = n
home_in n (Some i) = i

home_is : (xs : List ℕ) (k n : ℕ) → slice_index_or xs k n ≡ home_in n (slice_get xs k)
unfolding home_in
home_is [] k n = refl
home_is (x ∷ xs) zero n = refl
home_is (x ∷ xs) (suc k) n = home_is xs k n

module _ (count : ℕ) (homes : List ℕ) (moves : List LeasedMove) (leases : IsLeased count homes moves) where
  abbrev stops : List Move
  stops = as_stopped count homes moves

  abbrev run_at : ℕ → Chain
  run_at k = (leased count homes (take k moves)).chain

  abbrev stopped_at : ℕ → Chain
  stopped_at k = moved count homes (as_stopped count homes (take k moves))

  -- ---- the whole run

  abbrev all : ℕ
  all = length moves

  whole : take all moves ≡ moves
  whole = take_all all moves (omega arith)

  grown_last : AllGrow (moved count homes stops) (leased count homes moves).chain
  grown_last =
      subst (λ ms. AllGrow (moved count homes (as_stopped count homes ms)) (leased count homes ms).chain) whole
      (beside_at count homes moves leases all).seats.grown

  begun_last : (x : CallId) (call : Call)
      → begun_call (moved count homes stops) x ≡ Some call
      → begun_call (leased count homes moves).chain x ≡ Some call
  begun_last x call e =
      get_later ((moved count homes stops).seats x.connection).calls
      ((leased count homes moves).chain.seats x.connection).calls x.ordinal call (grown_last x.connection).calls e

  written_last : (c : ℕ) → (leased count homes moves).written c ≤ length ((moved count homes stops).seats c).got
  written_last c =
      subst (λ ms.
      (leased count homes ms).written c ≤ length ((moved count homes (as_stopped count homes ms)).seats c).got)
      whole (written_at count homes moves leases all c)

  -- a reply that a client was written is one of that run
  reply_there : (x : CallId) (reply : Reply)
      → reply_written (leased count homes moves) x ≡ Some reply
      → reply_to (moved count homes stops) x ≡ Some reply
  reply_there x reply e =
      let n = (leased count homes moves).written x.connection in
      let got = ((leased count homes moves).chain.seats x.connection).got in
      let l = taken_below n got x.ordinal reply e in
      let w = written_last x.connection in
      taken_begun ((moved count homes stops).seats x.connection).got got x.ordinal reply
      (grown_last x.connection).got (taken_get n got x.ordinal reply e) (omega (arith, l, w))

  -- ---- after some first k moves

  -- that run has then come as far
  come_far : (k : ℕ)
      → take (length (as_stopped count homes (take k moves))) stops ≡ as_stopped count homes (take k moves)
  come_far k =
      let b = kept_begins (home_of count homes) k moves (opening_leased count homes) in
      ap (take (length (as_stopped count homes (take k moves)))) b.all
      ∙ take_front (as_stopped count homes (take k moves)) b.more

  -- how far it comes from there on
  begun_on : (k : ℕ) (x : CallId) (call : Call)
      → begun_call (stopped_at k) x ≡ Some call
      → begun_call (moved count homes stops) x ≡ Some call
  begun_on k x call e =
      let b = kept_begins (home_of count homes) k moves (opening_leased count homes) in
      let later : moved count homes stops ≡ moved_from (stopped_at k) b.more =
      ap (moved_from (opening_chain count homes)) b.all
      ∙ moved_from-append (opening_chain count homes) (as_stopped count homes (take k moves)) b.more in
      ap (λ l. begun_call l x) later
      ∙ get_later ((stopped_at k).seats x.connection).calls
      ((moved_from (stopped_at k) b.more).seats x.connection).calls x.ordinal call
      (moved_grows b.more (stopped_at k) x.connection).calls e

  -- if its client is written the reply in the end, the call has it there too
  answered_there : (k : ℕ) (x : CallId) (reply last : Reply)
      → reply_to (run_at k) x ≡ Some reply
      → reply_written (leased count homes moves) x ≡ Some last
      → reply_to (stopped_at k) x ≡ Some reply
  answered_there k x reply last e w =
      by ((leased count homes (take k moves)).called (home_of count homes x.connection)) refl
    where
      by : (b : Bool)
          → (leased count homes (take k moves)).called (home_of count homes x.connection) ≡ b
          → reply_to (stopped_at k) x ≡ Some reply
      by true is =
          let room = (beside_at count homes moves leases k).seats.room x.connection is in
          let most = (leases.replies x.connection).2 in
          let l = taken_below ((leased count homes moves).written x.connection)
          ((leased count homes moves).chain.seats x.connection).got x.ordinal last w in
          taken_begun ((stopped_at k).seats x.connection).got ((run_at k).seats x.connection).got x.ordinal reply
          ((beside_at count homes moves leases k).seats.grown x.connection).got e (omega (arith, room, most, l))
      by false is =
          ap (λ (s : Seat). slice_get s.got x.ordinal)
          ((beside_at count homes moves leases k).seats.same x.connection is) ∙ e

  not_begun_there : (k : ℕ) (y : CallId)
      → begun_call (run_at k) y ≡ None
      → begun_call (stopped_at k) y ≡ None
  not_begun_there k y e =
      none_of (begun_call (stopped_at k) y) (begun_call (run_at k) y)
      (λ call there. get_later ((stopped_at k).seats y.connection).calls ((run_at k).seats y.connection).calls
      y.ordinal call ((beside_at count homes moves leases k).seats.grown y.connection).calls there) e

  precedes : (x y : CallId) → PrecedesWritten count homes moves x y → Precedes count homes stops x y
  precedes x y p =
      let last = some_of (reply_written (leased count homes moves) x) p.written in
      let a = some_of (reply_to (run_at p.k) x) p.answered in
      let far = come_far p.k in
      record {
        k = length (as_stopped count homes (take p.k moves));
        answered = is_some _ a.0 (ap (λ ms. reply_to (moved count homes ms) x) far
            ∙ answered_there p.k x a.0 last.0 a.1 last.1);
        not_begun = ap (λ ms. begun_call (moved count homes ms) y) far ∙ not_begun_there p.k y p.not_begun;
      }

  -- ---- orders

  pub order_of_written : (h : List OrderedCall)
      → IsLinearization count homes stops h
      → IsOrderOfWritten count homes moves h
  order_of_written h lin = record {
    legal = lin.legal;
    begun = λ i e here. begun_last e.id e.call (lin.begun i e here);
    once = lin.once;
    answered = λ x reply w. lin.answered x reply (reply_there x reply w);
    in_time = λ x y j p s. lin.in_time x y j (precedes x y p) s;
  }

  -- while a server isn't called gone, the same of its calls are published
  published_there : (k : ℕ) (x : CallId)
      → (leased count homes (take k moves)).called (home_of count homes x.connection) ≡ false
      → is_published (stopped_at k) x ≡ is_published (run_at k) x
  published_there k x going =
      let b = beside_at count homes moves leases k in
      let i = home_of count homes x.connection in
      ap (λ (s : Seat). nat_lt (x.ordinal + length (calls_from x.connection (queue ((stopped_at k).servers s.home))))
      (length s.calls)) (b.seats.same x.connection going)
      ∙ ap (λ (u : RunningServer). nat_lt (x.ordinal + length (calls_from x.connection (queue u)))
      (length ((run_at k).seats x.connection).calls))
      (b.servers.same ((run_at k).seats x.connection).home
      (ap (leased count homes (take k moves)).called (b.seats.sits x.connection) ∙ going))

  published_begun : (l : Chain) (x : CallId) → is_published l x ≡ true → x.ordinal < length (l.seats x.connection).calls
  published_begun l x e =
      let n = length (l.seats x.connection).calls in
      let less = ltb-true (x.ordinal + length (waiting_calls l x.connection)) n e in
      omega (arith, less)

  published_before : (x y : CallId) (call : Call)
      → PublishedBeforeGone count homes moves x y
      → begun_call (moved count homes stops) y ≡ Some call
      → PublishedBefore count homes stops x y
  published_before x y call p begun =
      let far = come_far p.k in
      let same_home : home_of count homes y.connection ≡ home_of count homes x.connection =
      home_is homes y.connection count ∙ ap (home_in count) (sym p.one_server)
      ∙ sym (home_is homes x.connection count) in
      let going = ap (leased count homes (take p.k moves)).called same_home ∙ p.not_gone in
      let there : is_published (stopped_at p.k) x ≡ true = published_there p.k x p.not_gone ∙ p.published in
      let f = found_below ((stopped_at p.k).seats x.connection).calls x.ordinal
      (published_begun (stopped_at p.k) x there) in
      let on = begun_on p.k x f.0 f.1 in
      let one : f.0 ≡ p.update.0 = same_Some f.0 p.update.0 (sym (begun_last x f.0 on) ∙ p.update.1) in
      let two : call ≡ p.later_update.0 =
      same_Some call p.later_update.0 (sym (begun_last y call begun) ∙ p.later_update.1) in
      record {
        k = length (as_stopped count homes (take p.k moves));
        published = ap (λ ms. is_published (moved count homes ms) x) far ∙ there;
        not_published = ap (λ ms. is_published (moved count homes ms) y) far ∙ published_there p.k y going
            ∙ p.not_published;
        one_server = p.one_server;
        update = (f.0, on, rw one p.update.2);
        later_update = (call, begun, rw two p.later_update.2);
      }

  pub turn_of_written : (h : List OrderedCall)
      → IsLinearization count homes stops h
      → IsInTurn count homes stops h
      → IsInTurnWritten count homes moves h
  turn_of_written h lin turn = record {
    in_turn = λ x y j p s.
        let begun = subst (λ z. begun_call (moved count homes stops) z ≡ Some s.entry.call) s.same
        (lin.begun j s.entry s.here) in
        turn.in_turn x y j (published_before x y s.entry.call p begun) s;
  }

  -- so there is one
  pub one_written : count ≤ 16
      → AreAskedLeased moves
      → (h : List OrderedCall) × IsOrderOfWritten count homes moves h × IsInTurnWritten count homes moves h
  one_written few asked =
      let o = linearizable count homes (simulates count homes few) stops few
      (asked_still (home_of count homes) moves (opening_leased count homes) asked) in
      (o.0, order_of_written o.0 o.1, turn_of_written o.0 o.1 o.2)
