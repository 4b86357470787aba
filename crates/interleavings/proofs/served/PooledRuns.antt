-- A chain that serves connections whose calls take free ports, and the one with the seats' numbers as ports, which
-- serves the same connections.
use Rattle.std.proofs.Common.{◌≡◌, ◌≢◌, ℕ, zero, suc, ◌+◌, Bool, true, false, cond, List, [], ◌∷◌, ◌++◌}
use Rattle.std.proofs.Common.{length, take, Option, None, Some, refl, arith, ap, sym, ◌∙◌, subst, inl, inr}
use Rattle.std.proofs.Common.{length-append}
use Rattle.std.specs.Prelude.{◌&&◌, not, ◌==◌}
use Rattle.std.proofs.lemmas.Bool.{cases_eq, cases_Bool, both_ways, and_parts, le-ltb, ltb-true, ltb-false}
use Rattle.std.proofs.lemmas.Bool.{ne_eqb, not-true}
use Rattle.table.specs.Items.{Item}
use Rattle.table.specs.declared.operations.Call.{Call}
use Rattle.table.specs.declared.operations.Reply.{Reply}
use Rattle.table.specs.declared.operations.Reply.TheVariants.{Value}
use Rattle.node.specs.declared.looks.Look.{Look}
use Rattle.node.specs.declared.looks.Look.TheVariants.{Clean, Dirty}
use Rattle.node.specs.declared.messages.Peer.{Peer}
use Rattle.node.specs.Faces.{face_of, look_at}
use Rattle.proto.specs.Turns.{is_store}
use Rattle.interleavings.specs.Chains.{Seat, Chain, with_at, with_seat, messages_to, replies_to}
use Rattle.interleavings.specs.Moves.{Move, Sends, Takes, Publishes, Puts, Arrives, Replies, Receives, Looks, Stops}
use Rattle.interleavings.specs.Moves.{Notices, is_free, read_of, brought, received, looked, put, arrived, has_stopped}
use Rattle.interleavings.specs.Moves.{done}
use Rattle.interleavings.specs.OwnPorts.{reply_put_from}
use Rattle.interleavings.specs.FreePorts.{PortChoice, port_now, awaits_reply, has_port, is_free_port, with_free_ports}
use Rattle.interleavings.specs.Connections.{Connection, made, answered, refused, waits, may_have}
use Rattle.interleavings.specs.ServingMoves.{ServingChain, ServingMove, Reads, Begins, Asks, Peeks, Refuses, Answers}
use Rattle.interleavings.specs.ServingMoves.{Writes, Ends, Runs, served_at, with_served, refusing, key_due, look_reply}
use Rattle.interleavings.specs.ServingMoves.{is_of_seat, opening_serving, with_move, asking, peeked, peeking, answering}
use Rattle.interleavings.specs.ServingMoves.{served_by, served_from}
use Rattle.interleavings.specs.Pools.{PooledServing, PooledMove, Serves, Collects, holds_port, none_holds, may_ask}
use Rattle.interleavings.specs.Pools.{serving_by, collecting, pooled_by, pooled_from, opening_pooled}
use Rattle.interleavings.proofs.lists.ChangedFunctions.{at_other, at_same}
use Rattle.interleavings.proofs.ports.FreePortMoves.{Alike, follows, sends_alike, receives_alike, looks_alike}
use Rattle.interleavings.proofs.ports.FreePortRuns.{opening_alike}
use Rattle.interleavings.proofs.served.OwnPortServing.{look_alike}
use Rattle.std.proofs.Common.{◌<◌}
use Rattle.std.specs.Prelude.{slice_get, is_some}
use Rattle.std.proofs.lemmas.Bool.{cases_lt}
use Rattle.std.proofs.lemmas.Option.{same_Some}
use Rattle.interleavings.specs.Chains.{RunningServer, Sender, OfSeat, OfServer, OfNotices, with_running, first_of}
use Rattle.interleavings.specs.Moves.{taking, took}
use Rattle.interleavings.proofs.lists.ChangedFunctions.{at_self}
use Rattle.interleavings.proofs.ports.OwnPortMoves.{takes_same}
use Rattle.interleavings.proofs.ports.PortHolders.{holds_server}
use Rattle.interleavings.proofs.ports.RenamedServers.{sender_at}
use Rattle.interleavings.proofs.ports.StandingPorts.{taking_standing}

-- ---- whose reply was put awaits none from then on, until the seat sends once more

-- a seat's queue that grows by one
still_put : (s : Seat) (reply : Reply)
    → awaits_reply s ≡ false
    → awaits_reply (record s { queued = s.queued ++ reply ∷ [] }) ≡ false
still_put s reply e =
    let least = ltb-false (length s.got + length s.queued) (length s.calls) e in
    le-ltb (length s.got + length (s.queued ++ reply ∷ [])) (length s.calls)
    (omega (arith, least, length-append s.queued (reply ∷ [])))

module _ (homes : List ℕ) (ports : PortChoice) (l : Chain) (d : ℕ) (before : awaits_reply (l.seats d) ≡ false) where
  other_seat : (c : ℕ) (s : Seat)
      → (d ≡ c → awaits_reply s ≡ false)
      → awaits_reply (with_at l.seats c s d) ≡ false
  other_seat c s own = elim (cases_eq d c) [
    | inl same ↦ ap awaits_reply (ap (with_at l.seats c s) same ∙ at_same l.seats c s) ∙ own same
    | inr other ↦ ap awaits_reply (at_other l.seats c s d other) ∙ before
  ]

  either : (b : Bool) (x y : Chain)
      → awaits_reply (x.seats d) ≡ false
      → awaits_reply (y.seats d) ≡ false
      → awaits_reply ((cond b x y).seats d) ≡ false
  either true x y e f = e
  either false x y e f = f

  put_still : (i j : ℕ) (ms : List Peer) → awaits_reply ((put l i j ms).seats d) ≡ false
  put_still i j [] = before
  put_still i j (m ∷ ms) = before

  arrived_still : (i j : ℕ) (ms : List Peer) → awaits_reply ((arrived l i j ms).seats d) ≡ false
  arrived_still i j [] = before
  arrived_still i j (m ∷ ms) = before

  replied_still : (p i c : ℕ) (rs : List Reply)
      → awaits_reply ((reply_put_from p l i c (l.seats c) rs).seats d) ≡ false
  replied_still p i c [] = before
  replied_still p i c (reply ∷ more) =
      other_seat c (record (l.seats c) { queued = (l.seats c).queued ++ reply ∷ [] })
      (λ same. still_put (l.seats c) reply (subst (λ x. awaits_reply (l.seats x) ≡ false) same before))

  -- moves of servers, channels and queues,
  servers_still : (m : Move) → is_of_seat m ≡ false → awaits_reply ((with_free_ports homes ports l m).seats d) ≡ false
  servers_still (Sends c call) e = absurd (let no : true ≡ false = e in cc)
  servers_still (Takes i sender) e = before
  servers_still (Publishes i) e = before
  servers_still (Puts i j) e =
      either (l.servers i).stopped l (put l i j (messages_to j (l.servers i).outbox)) before
      (put_still i j (messages_to j (l.servers i).outbox))
  servers_still (Arrives i j) e = arrived_still i j (l.channels i j)
  servers_still (Replies i c) e =
      let p = port_now ports l c in
      let x = reply_put_from p l i c (l.seats c) (replies_to p (l.servers i).outbox) in
      either (awaits_reply (l.seats c)) (cond ((l.seats c).home == i && not (l.servers i).stopped) x l) l
      (either ((l.seats c).home == i && not (l.servers i).stopped) x l
      (replied_still p i c (replies_to p (l.servers i).outbox)) before) before
  servers_still (Receives c) e = absurd (let no : true ≡ false = e in cc)
  servers_still (Looks c key) e = absurd (let no : true ≡ false = e in cc)
  servers_still (Stops i) e = before
  servers_still (Notices i j) e = either (has_stopped l j) (brought l i _) l before before

  -- a call of another seat,
  sends_still : (c : ℕ) (call : Call)
      → d ≢ c
      → awaits_reply ((with_free_ports homes ports l (Sends c call)).seats d) ≡ false
  sends_still c call other =
      let s : Seat = record (l.seats c) { calls = (l.seats c).calls ++ call ∷ [] } in
      let x = brought (with_seat l c s) (l.seats c).home _ in
      either (is_free_port ports l (l.seats c).home (port_now ports l c) (length homes)) (cond (is_free
      (l.seats c)) x l) l
      (either (is_free (l.seats c)) x l (ap awaits_reply (at_other l.seats c s d other) ∙ before) before) before

  -- a reply that is taken,
  receives_still : (c : ℕ) → awaits_reply ((with_free_ports homes ports l (Receives c)).seats d) ≡ false
  receives_still c = by (l.seats c).queued refl
    where
      by : (rs : List Reply) → (l.seats c).queued ≡ rs → awaits_reply ((received l c (l.seats c) rs).seats d) ≡ false
      by [] e = before
      by (reply ∷ more) e =
          let k = l.seats c in
          let s : Seat = record k { got = k.got ++ reply ∷ []; queued = more } in
          other_seat c s (λ same.
          let least = ltb-false (length k.got + length k.queued) (length k.calls)
          (subst (λ x. awaits_reply (l.seats x) ≡ false) same before) in
          let one = length-append k.got (reply ∷ []) in
          let all = ap (λ rs. length rs) e in
          le-ltb (length s.got + length s.queued) (length s.calls) (omega (arith, least, one, all)))

  -- and a look
  looks_still : (c : ℕ) (key : List ℕ) → awaits_reply ((with_free_ports homes ports l (Looks c key)).seats d) ≡ false
  looks_still c key =
      let k = l.seats c in
      let look = look_at (face_of (l.servers k.home).node) key in
      either (is_free k && not (l.servers k.home).stopped) (looked l c k key look) l (by look) before
    where
      by : (look : Look Item) → awaits_reply ((looked l c (l.seats c) key look).seats d) ≡ false
      by Dirty = before
      by (Clean item) =
          let k = l.seats c in
          let s : Seat = record k { calls = k.calls ++ read_of key ∷ []; got = k.got ++ Value item ∷ [] } in
          let calls = length-append k.calls (read_of key ∷ []) in
          let got = length-append k.got (Value item ∷ []) in
          other_seat c s (λ same.
          let least = ltb-false (length k.got + length k.queued) (length k.calls)
          (subst (λ x. awaits_reply (l.seats x) ≡ false) same before) in
          le-ltb (length s.got + length s.queued) (length s.calls) (omega (arith, least, calls, got)))

-- the move of the chain
abbrev inner : ServingMove → Move
inner (Runs m) = m
inner m = Receives 0

-- at which server it takes a call, and of which seat
abbrev taken_at : ServingMove → ℕ
taken_at (Runs (Takes j y)) = j
taken_at m = 0

abbrev taken_of : ServingMove → ℕ
taken_of (Runs (Takes j (OfSeat c))) = c
taken_of m = 0

inside_of : (m : Move) (i c : ℕ) → Runs m ≡ Runs (Takes i (OfSeat c)) → m ≡ Takes i (OfSeat c)
inside_of m i c e = ap inner e

-- ---- the two chains

-- no seat holds the port that awaits a reply there, if none holds it at all
pub none_awaits : (ports : PortChoice) (s : PooledServing) (i p m : ℕ)
    → ((c : ℕ) → s.collected c ≡ true → awaits_reply (s.serving.chain.seats c) ≡ false)
    → none_holds ports s i p m ≡ true
    → is_free_port ports s.serving.chain i p m ≡ true
none_awaits ports s i p zero quiet none = refl
none_awaits ports s i p (suc m) quiet none =
    let both = and_parts (not (holds_port ports s i p m)) (none_holds ports s i p m) none in
    let later = none_awaits ports s i p m quiet both.1 in
    elim (cases_Bool (has_port ports s.serving.chain i p m)) [
      | inl has ↦ absurd (both_ways _ (not-true (holds_port ports s i p m) both.0) (held has))
      | inr has_not ↦ rw (has_not, later) refl
    ]
  where
    held : has_port ports s.serving.chain i p m ≡ true → holds_port ports s i p m ≡ true
    held has =
        let l = s.serving.chain in
        let both = and_parts ((l.seats m).home == i && awaits_reply (l.seats m)) (port_now ports l m == p) has in
        let first = and_parts ((l.seats m).home == i) (awaits_reply (l.seats m)) both.0 in
        let waited = ltb-true (length (l.seats m).got + length (l.seats m).queued) (length (l.seats m).calls) first.1 in
        let busy : is_free (l.seats m) ≡ false =
        ne_eqb (length (l.seats m).calls) (length (l.seats m).got) (λ e. omega (arith, waited, e)) in
        let kept : s.collected m ≡ false = elim (cases_Bool (s.collected m)) [
          | inl taken ↦ absurd (both_ways _ (quiet m taken) first.1)
          | inr kept ↦ kept
        ] in
        rw (first.0, busy, kept, both.1) refl

module _ (n : ℕ) (homes : List ℕ) (ports : PortChoice) where
  abbrev own : Chain → Move → Chain
  own = with_free_ports homes ports

  -- Both serve the same connections, and their chains do the same; and the reply to a call that counts as collected was
  -- put.
  pub record SamePooled (s : PooledServing) (u : ServingChain) : Type 0 where
    pub chains : Alike n homes ports s.serving.chain u.chain
    pub ended : u.ended ≡ s.serving.ended
    pub connections : u.connections ≡ s.serving.connections
    pub put : (c : ℕ) → s.collected c ≡ true → awaits_reply (s.serving.chain.seats c) ≡ false

  -- Some move makes of u what stands for s; and it takes a call of a seat only if the move m takes one from a port that
  -- has this seat's number as its name.
  pub record Goes (names : ℕ → ℕ → ℕ) (m : PooledMove) (s : PooledServing) (u : ServingChain) : Type 0 where
    pub move : ServingMove
    pub takes : (i c : ℕ)
        → move ≡ Runs (Takes i (OfSeat c))
        → (i < n) × ((p : ℕ) × (m ≡ Serves (Runs (Takes i (OfSeat p)))) × (names i p ≡ c))
    pub same : SamePooled s (served_by done u move)

  module _ (s : PooledServing) (g : Chain) (a : Alike n homes ports s.serving.chain g)
      (put : (c : ℕ) → s.collected c ≡ true → awaits_reply (s.serving.chain.seats c) ≡ false) where
    abbrev l : Chain
    l = s.serving.chain

    abbrev other : ServingChain
    other = record s.serving { chain = g }

    abbrev with_serving : ServingChain → PooledServing
    with_serving v = record s { serving = v }

    still : SamePooled s other
    still = record { chains = a; ended = refl; connections = refl; put = put }

    -- a move that takes no call
    takes_none : (m : PooledMove) (o : ServingMove)
        → ((i c : ℕ) → o ≡ Runs (Takes i (OfSeat c)) → ⊥)
        → (i c : ℕ)
        → o ≡ Runs (Takes i (OfSeat c))
        → (i < n) × ((p : ℕ) × (m ≡ Serves (Runs (Takes i (OfSeat p)))) × (a.names i p ≡ c))
    takes_none m o none i c e = absurd (none i c e)

    nothing : (m : PooledMove) → Goes a.names m s other
    nothing m = record {
      move = Runs (Receives 0);
      takes = takes_none m (Runs (Receives 0))
          (λ i c e. (let no : Runs (Receives 0) ≡ Runs (Takes i (OfSeat c)) = e in absurd cc));
      same = still;
    }

    either_same : (b : Bool) (x y : ServingChain) (u v : ServingChain)
        → SamePooled (with_serving x) u
        → SamePooled (with_serving y) v
        → SamePooled (with_serving (cond b x y)) (cond b u v)
    either_same true x y u v e f = e
    either_same false x y u v e f = f

    -- the connection that a seat serves changes
    serves : (c : ℕ) (k : Connection) → SamePooled (with_serving (with_served s.serving c k)) (with_served other c k)
    serves c k = record { chains = a; ended = refl; connections = refl; put = put }

    -- a call is sent, or none is to be made
    abbrev asked : ServingChain → ℕ → PooledServing
    asked v c = record s { serving = v; collected = with_at s.collected c false }

    kept_else : (c d : ℕ) → with_at s.collected c false d ≡ true → (d ≢ c) × (s.collected d ≡ true)
    kept_else c d e = elim (cases_eq d c) [
      | inl same ↦ absurd (both_ways _ (ap (with_at s.collected c false) same ∙ at_same s.collected c false) e)
      | inr apart ↦ (apart, sym (at_other s.collected c false d apart) ∙ e)
    ]

    unasked : (c : ℕ) → SamePooled (asked s.serving c) other
    unasked c = record {
      chains = a;
      ended = refl;
      connections = refl;
      put = λ d e. put d (kept_else c d e).1;
    }

    asks_same : (c : ℕ) → may_ask homes ports s c ≡ true
        → (due : Option Call)
        → SamePooled (asked (asking own s.serving c due) c) (asking done other c due)
    asks_same c may None = unasked c
    asks_same c may (Some call) =
        subst (λ (ss : ℕ → Seat).
        SamePooled (asked (cond (is_free (l.seats c)) (with_move own s.serving (Sends c call) c k) s.serving) c)
        (cond (is_free (ss c)) (with_move done other (Sends c call) c k) other)) (sym a.same.seats)
        (by (is_free (l.seats c)) refl)
      where
        k : Connection
        k = made call (served_at s.serving c)

        by : (f : Bool)
            → is_free (s.serving.chain.seats c) ≡ f
            → SamePooled
            (asked (cond f (with_move own s.serving (Sends c call) c (made call (served_at s.serving c))) s.serving) c)
            (cond f (with_move done other (Sends c call) c (made call (served_at s.serving c))) other)
        by true e = record {
          chains = sends_alike n homes ports a.names s.serving.chain g a.same a.holds c call e
              (none_awaits ports s (s.serving.chain.seats c).home (port_now ports s.serving.chain c) (length homes) put
              may);
          ended = refl;
          connections = refl;
          put = λ d kept.
              let e = kept_else c d kept in sends_still homes ports s.serving.chain d (put d e.1) c call e.0;
        }
        by false e = unasked c

    asks : (c : ℕ) → Goes a.names (Serves (Asks c)) (serving_by homes ports s (Asks c)) other
    asks c = by (may_ask homes ports s c) refl
      where
        by : (b : Bool)
            → may_ask homes ports s c ≡ b
            → Goes a.names (Serves (Asks c)) (cond b (asked (asking own s.serving c (served_at s.serving c).due) c) s)
            other
        by true e = record {
          move = Asks c;
          takes = takes_none (Serves (Asks c)) (Asks c) (λ i d e. (let no : Asks c ≡ Runs (Takes i
              (OfSeat d)) = e in absurd cc));
          same = asks_same c e (served_at s.serving c).due;
        }
        by false e = nothing (Serves (Asks c))

    peeked_same : (c : ℕ) (key : List ℕ) (reply : Option Reply)
        → SamePooled (with_serving (peeked own s.serving c key reply)) (peeked done other c key reply)
    peeked_same c key None = still
    peeked_same c key (Some reply) = record {
      chains = looks_alike n homes ports a.names l g a.same a.holds c key;
      ended = refl;
      connections = refl;
      put = λ d e. looks_still homes ports l d (put d e) c key;
    }

    peeks_same : (c : ℕ) (key : Option (List ℕ))
        → SamePooled (with_serving (peeking own s.serving c key)) (peeking done other c key)
    peeks_same c None = still
    peeks_same c (Some key) =
        subst (λ r. SamePooled (with_serving (peeked own s.serving c key (look_reply l c key)))
        (peeked done other c key r))
        (sym (look_alike n homes l g a.same c key)) (peeked_same c key (look_reply l c key))

    refuses_same : (c : ℕ) (due : Option Call)
        → SamePooled (with_serving (refusing s.serving c due)) (refusing other c due)
    refuses_same c None = still
    refuses_same c (Some call) =
        let k = refused (served_at s.serving c) in
        either_same (is_store call.op) (with_served s.serving c k) s.serving (with_served other c k) other (serves c k)
        still

    answers_same : (c : ℕ) (queued : List Reply)
        → SamePooled (with_serving (answering own s.serving c queued)) (answering done other c queued)
    answers_same c [] = still
    answers_same c (reply ∷ more) =
        let k = answered reply (served_at s.serving c) in
        either_same (waits (served_at s.serving c) && may_have (served_at s.serving c).session.asked reply)
        (with_move own s.serving (Receives c) c k) s.serving (with_move done other (Receives c) c k) other
        (record {
          chains = receives_alike n homes ports a.names l g a.same a.holds c;
          ended = refl;
          connections = refl;
          put = λ d e. receives_still homes ports l d (put d e) c;
        }) still

    -- an input is taken, from a server of the chain
    takes : (i : ℕ) (x : Sender)
        → Goes a.names (Serves (Runs (Takes i x))) (with_serving (served_by own s.serving (Runs (Takes i x)))) other
    takes i x = elim (cases_lt i n) [
      | inl inside ↦ record {
        move = Runs (Takes i (sender_at (a.names i) x));
        takes = taken inside x;
        same = record {
          chains = record {
            names = a.names;
            same = takes_same n homes l g a.same a.holds.apart i x;
            holds = holds_server n ports a.names l a.holds i (taking (l.servers i) x)
                (λ p. (let same = taking_standing p (l.servers i) x in omega (arith, same)));
          };
          ended = refl;
          connections = refl;
          put = put;
        };
      }
      | inr out ↦
          let t = l.servers i in
          let same : with_running l i (taking t x) ≡ l =
          ap (λ b. with_running l i
          (cond b t (cond (is_some t.unpublished) t (took t x (first_of x t.inbox))))) (a.same.over i out)
          ∙ ap (λ (ss : ℕ → RunningServer). record l { servers = ss }) (at_self l.servers i) in
          subst (λ (k : Chain). Goes a.names (Serves (Runs (Takes i x))) (with_serving (record s.serving { chain = k }))
          other) (sym same) (nothing (Serves (Runs (Takes i x))))
    ]
      where
        taken : i < n
            → (x : Sender) (j c : ℕ)
            → Runs (Takes i (sender_at (a.names i) x)) ≡ Runs (Takes j (OfSeat c))
            → (j < n) × ((p : ℕ) × (Serves (Runs (Takes i x)) ≡ Serves (Runs (Takes j (OfSeat p)))) × (a.names j p ≡ c))
        taken inside (OfSeat p) j c e =
            let at : i ≡ j = ap taken_at e in (
              subst (λ k. k < n) at inside,
              (p, ap (λ k. Serves (Runs (Takes k (OfSeat p)))) at, ap (λ k. a.names k p) (sym at) ∙ ap taken_of e),
            )
        taken inside (OfServer q) j c e =
            (let no : Runs (Takes i (OfServer q)) ≡ Runs (Takes j (OfSeat c)) = e in absurd cc)
        taken inside OfNotices j c e =
            (let no : Runs (Takes i OfNotices) ≡ Runs (Takes j (OfSeat c)) = e in absurd cc)

    run : (m : Move)
        → ((j : ℕ) (x : Sender) → m ≡ Takes j x → ⊥)
        → Goes a.names (Serves (Runs m)) (with_serving (served_by own s.serving (Runs m))) other
    run m not_taken = by (is_of_seat m) refl
      where
        by : (b : Bool)
            → is_of_seat m ≡ b
            → Goes a.names (Serves (Runs m))
            (with_serving (cond b s.serving (record s.serving { chain = own s.serving.chain m }))) other
        by true e = nothing (Serves (Runs m))
        by false e =
            let f = follows n homes ports a.names s.serving.chain g a.same a.holds m in
            record {
              move = Runs f.move;
              takes = λ i c q. absurd (let t = f.takes i c (inside_of f.move i c q) in not_taken t.0 t.1 t.2);
              same = subst (λ b. SamePooled (with_serving (record s.serving { chain = own s.serving.chain m }))
                  (cond b other (record other { chain = done g f.move }))) (sym (f.servers e))
                  (record {
                    chains = record { names = f.names; same = f.same; holds = f.holds };
                    ended = refl;
                    connections = refl;
                    put = λ d kept. servers_still homes ports s.serving.chain d (put d kept) m e;
                  });
            }

    runs : (m : Move) → Goes a.names (Serves (Runs m)) (with_serving (served_by own s.serving (Runs m))) other
    runs (Takes i x) = takes i x
    runs (Sends c call) = run (Sends c call) (λ j x e. (let no : Sends c call ≡ Takes j x = e in absurd cc))
    runs (Publishes i) = run (Publishes i) (λ j x e. (let no : Publishes i ≡ Takes j x = e in absurd cc))
    runs (Puts i k) = run (Puts i k) (λ j x e. (let no : Puts i k ≡ Takes j x = e in absurd cc))
    runs (Arrives i k) = run (Arrives i k) (λ j x e. (let no : Arrives i k ≡ Takes j x = e in absurd cc))
    runs (Replies i c) = run (Replies i c) (λ j x e. (let no : Replies i c ≡ Takes j x = e in absurd cc))
    runs (Receives c) = run (Receives c) (λ j x e. (let no : Receives c ≡ Takes j x = e in absurd cc))
    runs (Looks c key) = run (Looks c key) (λ j x e. (let no : Looks c key ≡ Takes j x = e in absurd cc))
    runs (Stops i) = run (Stops i) (λ j x e. (let no : Stops i ≡ Takes j x = e in absurd cc))
    runs (Notices i k) = run (Notices i k) (λ j x e. (let no : Notices i k ≡ Takes j x = e in absurd cc))

    serving_goes : (m : ServingMove) → Goes a.names (Serves m) (serving_by homes ports s m) other
    serving_goes (Reads c piece) = record {
      move = Reads c piece;
      takes = takes_none (Serves (Reads c piece)) (Reads c piece) (λ i d e. (let no : Reads c piece ≡ Runs (Takes i
          (OfSeat d)) = e in absurd cc));
      same = serves c _;
    }
    serving_goes (Begins c) = record {
      move = Begins c;
      takes = takes_none (Serves (Begins c)) (Begins c) (λ i d e. (let no : Begins c ≡ Runs (Takes i
          (OfSeat d)) = e in absurd cc));
      same = serves c _;
    }
    serving_goes (Asks c) = asks c
    serving_goes (Peeks c) = record {
      move = Peeks c;
      takes = takes_none (Serves (Peeks c)) (Peeks c) (λ i d e. (let no : Peeks c ≡ Runs (Takes i
          (OfSeat d)) = e in absurd cc));
      same = peeks_same c (key_due (served_at s.serving c).due);
    }
    serving_goes (Refuses c) = record {
      move = Refuses c;
      takes = takes_none (Serves (Refuses c)) (Refuses c) (λ i d e. (let no : Refuses c ≡ Runs (Takes i
          (OfSeat d)) = e in absurd cc));
      same = refuses_same c (served_at s.serving c).due;
    }
    serving_goes (Answers c) = record {
      move = Answers c;
      takes = takes_none (Serves (Answers c)) (Answers c) (λ i d e. (let no : Answers c ≡ Runs (Takes i
          (OfSeat d)) = e in absurd cc));
      same = subst (λ (ss : ℕ → Seat).
          SamePooled (with_serving (answering own s.serving c (l.seats c).queued))
          (answering done other c (ss c).queued)) (sym a.same.seats) (answers_same c (l.seats c).queued);
    }
    serving_goes (Writes c k) = record {
      move = Writes c k;
      takes = takes_none (Serves (Writes c k)) (Writes c k) (λ i d e. (let no : Writes c k ≡ Runs (Takes i
          (OfSeat d)) = e in absurd cc));
      same = serves c _;
    }
    serving_goes (Ends c) = record {
      move = Ends c;
      takes = takes_none (Serves (Ends c)) (Ends c) (λ i d e. (let no : Ends c ≡ Runs (Takes i
          (OfSeat d)) = e in absurd cc));
      same = record { chains = a; ended = refl; connections = refl; put = put };
    }
    serving_goes (Runs m) = runs m

    -- a reply is collected: it was put, and one call of its seat is open at most
    collects : (c : ℕ) (rs : List Reply) → (l.seats c).queued ≡ rs → Goes a.names (Collects c) (collecting s c rs) other
    collects c [] e = nothing (Collects c)
    collects c (reply ∷ more) e = by (waits (served_at s.serving c))
      where
        none : awaits_reply (s.serving.chain.seats c) ≡ false
        none =
            let most = (a.holds.counts c).1 in
            let all = ap (λ (rs : List Reply). length rs) e in
            le-ltb _ _ (omega (arith, most, all))

        by : (b : Bool)
            → Goes a.names (Collects c) (cond b s (record s { collected = with_at s.collected c true })) other
        by true = nothing (Collects c)
        by false = record {
          move = Runs (Receives 0);
          takes = takes_none (Collects c) (Runs (Receives 0)) (λ i d e. (let no : Runs (Receives 0) ≡ Runs (Takes i
              (OfSeat d)) = e in absurd cc));
          same = record {
            chains = a;
            ended = refl;
            connections = refl;
            put = λ d kept. elim (cases_eq d c) [
              | inl same ↦ ap (λ x. awaits_reply (s.serving.chain.seats x)) same ∙ none
              | inr apart ↦ put d (sym (at_other s.collected c true d apart) ∙ kept)
            ];
          };
        }

    goes : (m : PooledMove) → Goes a.names m (pooled_by homes ports s m) other
    goes (Serves m) = serving_goes m
    goes (Collects c) = collects c (l.seats c).queued refl

  -- ---- runs

  is_other : (s : PooledServing) (u : ServingChain) → SamePooled s u → record s.serving { chain = u.chain } ≡ u
  is_other s u h =
      ap (λ (e : ℕ → ℕ). record { chain = u.chain; ended = e; connections = s.serving.connections }) (sym h.ended)
      ∙ ap (λ f. record { chain = u.chain; ended = u.ended; connections = f }) (sym h.connections)

  -- each move has one
  pub goes_on : (m : PooledMove) (s : PooledServing) (u : ServingChain) (h : SamePooled s u)
      → Goes h.chains.names m (pooled_by homes ports s m) u
  goes_on m s u h =
      subst (Goes h.chains.names m (pooled_by homes ports s m)) (is_other s u h) (goes s u.chain h.chains h.put m)

  -- after the first k of these moves and of those; and the next one of those takes a call of a seat only if the next
  -- one of these takes it from the port that has its name
  pub record Stands (ms : List PooledMove) (os : List ServingMove) (k : ℕ) (s : PooledServing) (u : ServingChain) :
      Type 0 where
    pub same : SamePooled (pooled_from homes ports s (take k ms)) (served_from done u (take k os))
    pub takes : (i c : ℕ)
        → slice_get os k ≡ Some (Runs (Takes i (OfSeat c)))
        → (i < n)
        × ((p : ℕ) × (slice_get ms k ≡ Some (Serves (Runs (Takes i (OfSeat p))))) × (same.chains.names i p ≡ c))

  -- moves with the seats' numbers as ports, as many, that make what stands for the chain after each of these
  pub record Behind (s : PooledServing) (u : ServingChain) (ms : List PooledMove) : Type 0 where
    pub moves : List ServingMove
    pub long : length moves ≡ length ms
    pub stands : (k : ℕ) → Stands ms moves k s u
    pub ends : SamePooled (pooled_from homes ports s ms) (served_from done u moves)

  behind : (ms : List PooledMove) (s : PooledServing) (u : ServingChain) → SamePooled s u → Behind s u ms
  behind [] s u h = record { moves = []; long = refl; stands = none_left; ends = h }
    where
      none_left : (k : ℕ) → Stands [] [] k s u
      none_left zero = record {
        same = h;
        takes = λ i c e. (let no : None ≡ Some (Runs (Takes i
            (OfSeat c))) = e in absurd cc);
      }
      none_left (suc k) =
          record { same = h; takes = λ i c e. (let no : None ≡ Some (Runs (Takes i (OfSeat c))) = e in absurd cc) }
  behind (m ∷ ms) s u h =
      let f = goes_on m s u h in
      let b = behind ms (pooled_by homes ports s m) (served_by done u f.move) f.same in
      record {
        moves = f.move ∷ b.moves;
        long = ap suc b.long;
        stands = first_then f.move b.moves f.takes b.stands;
        ends = b.ends;
      }
    where
      first_then : (o : ServingMove) (os : List ServingMove)
          → ((i c : ℕ)
          → o ≡ Runs (Takes i (OfSeat c))
          → (i < n) × ((p : ℕ) × (m ≡ Serves (Runs (Takes i (OfSeat p)))) × (h.chains.names i p ≡ c)))
          → ((k : ℕ) → Stands ms os k (pooled_by homes ports s m) (served_by done u o))
          → (k : ℕ)
          → Stands (m ∷ ms) (o ∷ os) k s u
      first_then o os taken stands zero = record {
        same = h;
        takes = λ i c e.
            let t = taken i c (same_Some _ _ e) in (t.0, (t.1.0, ap (λ (q : PooledMove). Some q) t.1.1, t.1.2));
      }
      first_then o os taken stands (suc k) = record { same = (stands k).same; takes = (stands k).takes }

  -- both are so at the start
  pub opening_same : SamePooled (opening_pooled n homes) (opening_serving n homes)
  opening_same = record {
    chains = opening_alike n homes ports;
    ended = refl;
    connections = refl;
    put = λ c e. absurd (let no : false ≡ true = e in cc);
  }

  -- the moves of a run
  pub followed : (moves : List PooledMove) → Behind (opening_pooled n homes) (opening_serving n homes) moves
  followed moves = behind moves (opening_pooled n homes) (opening_serving n homes) opening_same
