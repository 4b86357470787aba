-- What is proved of a chain that serves, of one whose connections' calls take free ports.
use Rattle.std.proofs.Common.{◌≡◌, ℕ, ◌^◌, ◌<◌, ◌≤◌, true, List, ◌∷◌, length, take, Some}
use Rattle.std.proofs.Common.{arith, ap, sym, ◌∙◌, subst, inl, inr}
use Rattle.std.specs.Prelude.{◌&&◌, is_some, slice_get, IsSome}
use Rattle.std.proofs.lemmas.Bool.{cases_Bool, ltb-false}
use Rattle.std.proofs.lemmas.Option.{get_or_from_slice_get, slice_get_within}
use Rattle.table.specs.declared.operations.Reply.{Reply}
use Rattle.world.proofs.lists.Standing.{get_within, some_of}
use Rattle.interleavings.specs.Chains.{Seat}
use Rattle.interleavings.specs.Moves.{done}
use Rattle.interleavings.specs.FreePorts.{PortChoice}
use Rattle.interleavings.specs.Connections.{Connection, waits, may_have}
use Rattle.interleavings.specs.ServingMoves.{ServingChain, ServingMove, served_at, opening_serving, served}
use Rattle.interleavings.specs.Served.{IsServed, IsRested, HasAll, CallName, call_made, reply_got, ServedCall}
use Rattle.interleavings.specs.Served.{ComesBefore}
use Rattle.interleavings.specs.Served.{IsOneOrder, id_at_seat, is_call_published, PublishedFirst}
use Rattle.interleavings.specs.Pools.{opening_pooled, PooledMove, pooled, ComesBeforePooled, IsOneOrderPooled}
use Rattle.interleavings.specs.Pools.{is_call_published_at}
use Rattle.interleavings.specs.Pools.{PublishedFirstPooled, IsServedInTurnPooled, IsServingQuiet, NoneOpen}
use Rattle.interleavings.specs.Pools.{ServedHaveAll}
use Rattle.interleavings.specs.Served.{IsServedInTurn}
use Rattle.interleavings.proofs.ports.FreePortRuns.{published_same, nothing_there, on_there}
use Rattle.interleavings.proofs.served.Kinds.{first_fits}
use Rattle.interleavings.proofs.served.OneOrder.{each_is_served, one_order, answered_there, has_all_there}
use Rattle.interleavings.proofs.served.PooledRuns.{Behind, followed}

module _ (n : ℕ) (homes : List ℕ) (ports : PortChoice) (moves : List PooledMove) where
  abbrev last : ServingChain
  last = pooled n homes ports moves

  abbrev there : Behind n homes ports (opening_pooled n homes) (opening_serving n homes) moves
  there = followed n homes ports moves

  abbrev others : List ServingMove
  others = there.moves

  abbrev twin : ServingChain
  twin = served done n homes others

  made_same : (x : CallName) → call_made twin x ≡ call_made last x
  made_same x = ap (λ (f : ℕ → ℕ → Connection). slice_get (f x.seat x.number).calls x.ordinal) there.ends.connections

  got_same : (x : CallName) → reply_got twin x ≡ reply_got last x
  got_same x = ap (λ (f : ℕ → ℕ → Connection). slice_get (f x.seat x.number).replies x.ordinal) there.ends.connections

  before_too : (x y : CallName) → ComesBeforePooled ports n homes moves x y → ComesBefore done n homes others x y
  before_too x y p =
      let same = (there.stands p.k).same.connections in
      record {
        k = p.k;
        answered = subst (λ (f : ℕ → ℕ → Connection). IsSome (slice_get (f x.seat x.number).replies x.ordinal))
            (sym same)
            p.answered;
        not_made = ap (λ (f : ℕ → ℕ → Connection). slice_get (f y.seat y.number).calls y.ordinal) same ∙ p.not_made;
      }

  pub order_too : (h : List ServedCall) → IsOneOrder done n homes others h → IsOneOrderPooled ports n homes moves h
  order_too h o = record {
    legal = o.legal;
    made = λ i e here. sym (made_same e.id) ∙ o.made i e here;
    once = o.once;
    answered = λ x reply got. o.answered x reply (got_same x ∙ got);
    in_time = λ x y j p s. o.in_time x y j (before_too x y p) s;
  }

  published_then : (k : ℕ) (x : CallName) (i : ℕ)
      → slice_get homes x.seat ≡ Some i
      → i < n
      → is_call_published (λ c. c) (served done n homes (take k others)) x
      ≡ is_call_published_at ports (pooled n homes ports (take k moves)) x
  published_then k x i here within =
      let a = (there.stands k).same in
      let s = pooled n homes ports (take k moves) in
      let u = served done n homes (take k others) in
      let home : i ≡ (s.chain.seats x.seat).home =
      sym (get_or_from_slice_get homes x.seat i n here) ∙ sym (a.chains.same.sits x.seat) in
      ap (λ (f : ℕ → ℕ → Connection). is_call_published (λ c. c) (record u { connections = f }) x) a.connections
      ∙ ap (λ b. is_some (call_made s x) && b)
      (published_same n homes ports s.chain u.chain a.chains (id_at_seat s x) (subst (λ j. j < n) home within))

  first_too : (x y : CallName)
      → PublishedFirstPooled ports n homes moves x y
      → PublishedFirst done (λ c. c) n homes others x y
  first_too x y p = record {
    k = p.k;
    published = published_then p.k x p.server p.here p.of_chain ∙ p.published;
    not_published = published_then p.k y p.server p.there p.of_chain ∙ p.not_published;
    server = p.server;
    of_chain = p.of_chain;
    here = p.here;
    there = p.there;
    update = (p.update.0, made_same x ∙ p.update.1, p.update.2);
    later_update = (p.later_update.0, made_same y ∙ p.later_update.1, p.later_update.2);
  }

  pub turn_too : (h : List ServedCall)
      → IsServedInTurn done (λ c. c) n homes others h
      → IsServedInTurnPooled ports n homes moves h
  turn_too h o = record { in_turn = λ x y j p s. o.in_turn x y j (first_too x y p) s; own = o.own }

  -- there is one order, in turn,
  pub one_order_pooled : n ≤ 16
      → (h : List ServedCall) × IsOneOrderPooled ports n homes moves h × IsServedInTurnPooled ports n homes moves h
  one_order_pooled few =
      let o = one_order n homes others few in (
        o.0,
        order_too o.0 o.1,
        turn_too o.0 o.2,
      )

  -- some run of the other chain shows the same connections, after each move,
  pub shows_same : (ms : List ServingMove) × (length ms ≡ length moves)
      × ((k : ℕ)
      → (served done n homes (take k ms)).connections ≡ (pooled n homes ports (take k moves)).connections)
  shows_same = (others, there.long, λ k. (there.stands k).same.connections)

  -- each connection got what its bytes ask for,
  pub each_served : (c k : ℕ) → IsServed ((pooled n homes ports moves).connections c k)
  each_served c k = subst (λ f. IsServed (f c k)) there.ends.connections (each_is_served n homes others c k)

  abbrev served_then : ℕ → (ℕ → ℕ) → (ℕ → ℕ → Connection) → Connection
  served_then c e f = f c (e c)

  same_connection : (c : ℕ) → served_at twin c ≡ served_at last c
  same_connection c =
      ap (λ e. served_then c e twin.connections) there.ends.ended
      ∙ ap (λ f. served_then c last.ended f) there.ends.connections

  -- what stands first in a queue is a reply that the connection which waits for it can have,
  pub first_fits_pooled : n ≤ 16
      → (c : ℕ) (reply : Reply) (more : List Reply)
      → ((pooled n homes ports moves).chain.seats c).queued ≡ reply ∷ more
      → waits (served_at (pooled n homes ports moves) c) ≡ true
      → may_have (served_at (pooled n homes ports moves) c).session.asked reply ≡ true
  first_fits_pooled few c reply more queued wait =
      ap (λ (k : Connection). may_have k.session.asked reply) (sym (same_connection c))
      ∙ first_fits n homes others few c reply more
      (ap (λ (ss : ℕ → Seat). (ss c).queued) there.ends.chains.same.seats ∙ queued)
      (ap waits (same_connection c) ∙ wait)

  -- ---- if nothing is left to do

  module _ (few : n ≤ 16) (short : length moves < 2 ^ 62) (quiet : IsServingQuiet (pooled n homes ports moves)) where
    -- a call of a connection that hasn't ended has its reply,
    pub none_open : NoneOpen (pooled n homes ports moves)
    none_open x now on made = elim (cases_Bool (waits (served_at last x.seat))) [
      | inl wait ↦
          subst IsSome (got_same x)
          (answered_there n homes others few (subst (λ k. k < 2 ^ 62) (sym there.long) short)
          (nothing_there n homes ports last.chain twin.chain there.ends.chains quiet.chain) x
          (on_there n homes ports last.chain twin.chain there.ends.chains x.seat on)
          (ap (λ (ss : ℕ → Seat). (ss x.seat).queued) there.ends.chains.same.seats ∙ quiet.queues x.seat on wait)
          (subst IsSome (sym (made_same x)) made))
      | inr idle ↦
          let k = last.connections x.seat x.number in
          let all : length k.calls ≤ length k.replies =
          ltb-false (length k.replies) (length k.calls)
          (ap (λ m. waits (last.connections x.seat m)) now ∙ idle) in
          let m = some_of (call_made last x) made in
          let inside = slice_get_within k.calls x.ordinal m.0 m.1 in
          get_within k.replies x.ordinal (omega (arith, inside, all))
    ]

    -- and so a connection at which nothing is left to do has all
    pub served_have_all : ServedHaveAll (pooled n homes ports moves)
    served_have_all c on rested =
        let same = same_connection c in
        subst HasAll same
        (has_all_there n homes others c (twin.ended c)
        (λ made. subst IsSome (sym (got_same (name (twin.ended c) (length (served_at twin c).replies))))
        (none_open (name (twin.ended c) (length (served_at twin c).replies))
        (ap (λ (e : ℕ → ℕ). e c) there.ends.ended) on
        (subst IsSome (made_same (name (twin.ended c) (length (served_at twin c).replies))) made)))
        (subst IsRested (sym same) rested))
      where
        name : ℕ → ℕ → CallName
        name b q = record { seat = c; number = b; ordinal = q }
