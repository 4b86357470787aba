-- A chain that serves, whose servers number their own seats, and the one with the seats' numbers as ports, which serves
-- the same connections.
use Rattle.std.proofs.Common.{◌≡◌, ℕ, ◌<◌, ◌≤◌, Bool, true, false, cond, List, [], ◌∷◌, map, take, Option, None, Some}
use Rattle.std.proofs.Common.{refl, arith, ap, sym, ◌∙◌, subst}
use Rattle.std.specs.Prelude.{◌&&◌, not, is_some, slice_get, slice_index_or, ◌==◌, IsSome}
use Rattle.std.proofs.lemmas.Bool.{and_parts, cond_both, not-true}
use Rattle.std.proofs.lemmas.List.{take-map}
use Rattle.std.proofs.lemmas.Option.{get_or_from_slice_get}
use Rattle.table.specs.declared.operations.Call.{Call}
use Rattle.table.specs.declared.operations.Reply.{Reply}
use Rattle.node.specs.Faces.{face_of, look_at}
use Rattle.proto.specs.Turns.{is_store}
use Rattle.interleavings.specs.Chains.{RunningServer, Seat, Chain, OfNotices}
use Rattle.interleavings.specs.Moves.{Move, Sends, Takes, Publishes, Puts, Arrives, Replies, Receives, Looks, Stops}
use Rattle.interleavings.specs.Moves.{Notices, is_free, done}
use Rattle.interleavings.specs.OwnPorts.{own_port, with_own_ports}
use Rattle.interleavings.specs.Connections.{Connection, made, answered, refused, waits, may_have}
use Rattle.interleavings.specs.ServingMoves.{ServingChain, ServingMove, Reads, Begins, Asks, Peeks, Refuses, Answers}
use Rattle.interleavings.specs.ServingMoves.{Writes, Ends, Runs, served_at, with_served, refusing, key_due, reply_by}
use Rattle.interleavings.specs.ServingMoves.{look_reply, is_of_seat, opening_serving, with_move, asking, peeked}
use Rattle.interleavings.specs.ServingMoves.{peeking, answering, served_by, served_from, served}
use Rattle.interleavings.specs.Served.{IsServed, CallName, call_made, reply_got, ServedCall, ComesBefore, IsOneOrder}
use Rattle.interleavings.specs.Served.{id_at_seat, is_call_published, PublishedFirst, IsServedInTurn}
use Rattle.interleavings.proofs.ports.OwnPortMoves.{named, sends_same, receives_same, looks_same}
use Rattle.interleavings.proofs.ports.OwnPortRuns.{moves_same}
use Rattle.interleavings.proofs.ports.OwnPortTurns.{published_same}
use Rattle.interleavings.proofs.ports.RenamedChains.{Same, SameUnder, of_chain, same_opening}
use Rattle.interleavings.proofs.served.OneOrder.{each_is_served, one_order}

module _ (n : ℕ) (homes : List ℕ) {names : ℕ → ℕ → ℕ} (l g : Chain) (h : SameUnder n homes names l g) where
  -- a look shows the same under any names of ports
  pub look_alike : (c : ℕ) (key : List ℕ) → look_reply g c key ≡ look_reply l c key
  look_alike c key =
      let i = (l.seats c).home in
      subst (λ (ss : ℕ → Seat).
      cond (is_free (ss c) && not (g.servers (ss c).home).stopped)
      (reply_by (look_at (face_of (g.servers (ss c).home).node) key)) None
      ≡ look_reply l c key) (sym h.seats)
      (subst (λ b.
      cond (is_free (l.seats c) && not b) (reply_by (look_at (face_of (g.servers i).node) key)) None
      ≡ look_reply l c key) (sym (h.stopped i)) (by_guard (is_free (l.seats c) && not (l.servers i).stopped) refl))
    where
      by_guard : (b : Bool)
          → (is_free (l.seats c) && not (l.servers (l.seats c).home).stopped) ≡ b
          → cond b (reply_by (look_at (face_of (g.servers (l.seats c).home).node) key)) None
          ≡ cond b (reply_by (look_at (face_of (l.servers (l.seats c).home).node) key)) None
      by_guard true e =
          let within = of_chain n homes l g h (l.seats c).home
          (not-true _ (and_parts (is_free (l.seats c)) _ e).1) in
          ap (λ (u : RunningServer). reply_by (look_at (face_of u.node) key)) (h.servers (l.seats c).home within)
      by_guard false e = refl

module _ (n : ℕ) (homes : List ℕ) where
  -- Both serve the same connections, and their chains do the same.
  record SameServing (s u : ServingChain) : Type 0 where
    chains : Same n homes s.chain u.chain
    ended : u.ended ≡ s.ended
    connections : u.connections ≡ s.connections

  abbrev own : Chain → Move → Chain
  own = with_own_ports homes

  -- a move of the one, as a move of the other
  abbrev pub as_other : ServingMove → ServingMove
  as_other (Runs m) = Runs (named n homes m)
  as_other m = m

  either : (b : Bool) (s t u v : ServingChain)
      → SameServing s u
      → SameServing t v
      → SameServing (cond b s t) (cond b u v)
  either true s t u v a b = a
  either false s t u v a b = b

  seats_alike : (m : Move) → is_of_seat (named n homes m) ≡ is_of_seat m
  seats_alike (Sends c call) = refl
  seats_alike (Takes i sender) = refl
  seats_alike (Publishes i) = refl
  seats_alike (Puts i j) = refl
  seats_alike (Arrives i j) = refl
  seats_alike (Replies i c) =
      cond_both (slice_index_or homes c n == i) (Replies i c) (Takes n OfNotices) (λ m. is_of_seat m ≡ false)
      (λ t. refl) (λ f. refl)
  seats_alike (Receives c) = refl
  seats_alike (Looks c key) = refl
  seats_alike (Stops i) = refl
  seats_alike (Notices i j) = refl

  module _ (s : ServingChain) (g : Chain) (h : Same n homes s.chain g) where
    abbrev other : ServingChain
    other = record s { chain = g }

    asks_alike : (c : ℕ) (due : Option Call) → SameServing (asking own s c due) (asking done other c due)
    asks_alike c None = record { chains = h; ended = refl; connections = refl }
    asks_alike c (Some call) =
        let k = made call (served_at s c) in
        subst (λ (ss : ℕ → Seat).
        SameServing (cond (is_free (s.chain.seats c)) (with_move own s (Sends c call) c k) s)
        (cond (is_free (ss c)) (with_move done other (Sends c call) c k) other)) (sym h.seats)
        (either (is_free (s.chain.seats c)) (with_move own s (Sends c call) c k) s
        (with_move done other (Sends c call) c k) other
        (record { chains = sends_same n homes s.chain g h c call; ended = refl; connections = refl })
        (record { chains = h; ended = refl; connections = refl }))

    peeked_alike : (c : ℕ) (key : List ℕ) (reply : Option Reply)
        → SameServing (peeked own s c key reply) (peeked done other c key reply)
    peeked_alike c key None = record { chains = h; ended = refl; connections = refl }
    peeked_alike c key (Some reply) =
        record { chains = looks_same n homes s.chain g h c key; ended = refl; connections = refl }

    peeks_alike : (c : ℕ) (key : Option (List ℕ)) → SameServing (peeking own s c key) (peeking done other c key)
    peeks_alike c None = record { chains = h; ended = refl; connections = refl }
    peeks_alike c (Some key) =
        subst (λ r. SameServing (peeked own s c key (look_reply s.chain c key)) (peeked done other c key r))
        (sym (look_alike n homes s.chain g h c key)) (peeked_alike c key (look_reply s.chain c key))

    refuses_alike : (c : ℕ) (due : Option Call) → SameServing (refusing s c due) (refusing other c due)
    refuses_alike c None = record { chains = h; ended = refl; connections = refl }
    refuses_alike c (Some call) =
        let k = refused (served_at s c) in
        either (is_store call.op) (with_served s c k) s (with_served other c k) other
        (record { chains = h; ended = refl; connections = refl })
        (record { chains = h; ended = refl; connections = refl })

    answers_alike : (c : ℕ) (queued : List Reply)
        → SameServing (answering own s c queued) (answering done other c queued)
    answers_alike c [] = record { chains = h; ended = refl; connections = refl }
    answers_alike c (reply ∷ more) =
        let k = answered reply (served_at s c) in
        either (waits (served_at s c) && may_have (served_at s c).session.asked reply)
        (with_move own s (Receives c) c k) s (with_move done other (Receives c) c k) other
        (record { chains = receives_same n homes s.chain g h c; ended = refl; connections = refl })
        (record { chains = h; ended = refl; connections = refl })

    runs_alike : (m : Move) → SameServing (served_by own s (Runs m)) (served_by done other (Runs (named n homes m)))
    runs_alike m =
        subst (λ b.
        SameServing (cond (is_of_seat m) s (record s { chain = own s.chain m }))
        (cond b other (record s { chain = done g (named n homes m) }))) (sym (seats_alike m))
        (either (is_of_seat m) s (record s { chain = own s.chain m }) other
        (record s { chain = done g (named n homes m) }) (record { chains = h; ended = refl; connections = refl })
        (record { chains = moves_same n homes m s.chain g h; ended = refl; connections = refl }))

    move_alike : (m : ServingMove) → SameServing (served_by own s m) (served_by done other (as_other m))
    move_alike (Reads c piece) = record { chains = h; ended = refl; connections = refl }
    move_alike (Begins c) = record { chains = h; ended = refl; connections = refl }
    move_alike (Asks c) = asks_alike c (served_at s c).due
    move_alike (Peeks c) = peeks_alike c (key_due (served_at s c).due)
    move_alike (Refuses c) = refuses_alike c (served_at s c).due
    move_alike (Answers c) =
        subst (λ (ss : ℕ → Seat).
        SameServing (answering own s c (s.chain.seats c).queued) (answering done other c (ss c).queued)) (sym h.seats)
        (answers_alike c (s.chain.seats c).queued)
    move_alike (Writes c k) = record { chains = h; ended = refl; connections = refl }
    move_alike (Ends c) = record { chains = h; ended = refl; connections = refl }
    move_alike (Runs m) = runs_alike m

  same_from : (ms : List ServingMove) (s u : ServingChain)
      → SameServing s u
      → SameServing (served_from own s ms) (served_from done u (map as_other ms))
  same_from [] s u h = h
  same_from (m ∷ ms) s u h =
      same_from ms (served_by own s m) (served_by done u (as_other m))
      (subst (λ v. SameServing (served_by own s m) (served_by done v (as_other m))) (is_other s u h)
      (move_alike s u.chain h.chains m))
    where
      is_other : (s u : ServingChain) → SameServing s u → record s { chain = u.chain } ≡ u
      is_other s u h =
          ap (λ (e : ℕ → ℕ). record { chain = u.chain; ended = e; connections = s.connections }) (sym h.ended)
          ∙ ap (λ f. record { chain = u.chain; ended = u.ended; connections = f }) (sym h.connections)

  -- after a run
  alike : (ms : List ServingMove) → SameServing (served own n homes ms) (served done n homes (map as_other ms))
  alike ms =
      same_from ms (opening_serving n homes) (opening_serving n homes)
      (record { chains = same_opening n homes; ended = refl; connections = refl })

  same_served : (ms : List ServingMove)
      → (served done n homes (map as_other ms)).connections ≡ (served own n homes ms).connections
  same_served ms = (alike ms).connections

  made_same : (ms : List ServingMove) (x : CallName)
      → call_made (served done n homes (map as_other ms)) x ≡ call_made (served own n homes ms) x
  made_same ms x =
      ap (λ (f : ℕ → ℕ → Connection).
      slice_get (f x.seat x.number).calls x.ordinal) (same_served ms)

  -- the replies are the same
  pub got_same : (ms : List ServingMove) (x : CallName)
      → reply_got (served done n homes (map as_other ms)) x ≡ reply_got (served own n homes ms) x
  got_same ms x =
      ap (λ (f : ℕ → ℕ → Connection).
      slice_get (f x.seat x.number).replies x.ordinal) (same_served ms)

  -- which calls of connections are published is the same too
  pub published_alike : (ms : List ServingMove) (x : CallName) (i : ℕ)
      → slice_get homes x.seat ≡ Some i
      → i < n
      → is_call_published (λ c. c) (served done n homes (map as_other ms)) x
      ≡ is_call_published (own_port n homes) (served own n homes ms) x
  published_alike ms x i here within =
      let s = served own n homes ms in
      let u = served done n homes (map as_other ms) in
      let h = (alike ms).chains in
      let home : i ≡ (s.chain.seats x.seat).home =
      sym (get_or_from_slice_get homes x.seat i n here) ∙ sym (h.sits x.seat) in
      ap (λ (f : ℕ → ℕ → Connection). is_call_published (λ c. c) (record u { connections = f }) x) (same_served ms)
      ∙ ap (λ b. is_some (call_made s x) && b)
      (published_same n homes s.chain u.chain h (id_at_seat s x) (omega (arith, within, home)))

  module _ (moves : List ServingMove) where
    abbrev others : List ServingMove
    others = map as_other moves

    front : (k : ℕ) → take k others ≡ map as_other (take k moves)
    front k = take-map as_other k moves

    before_too : (x y : CallName) → ComesBefore own n homes moves x y → ComesBefore done n homes others x y
    before_too x y p = record {
      k = p.k;
      answered = subst (λ o. IsSome o)
          (sym (got_same (take p.k moves) x) ∙ ap (λ ms. reply_got (served done n homes ms) x) (sym (front p.k)))
          p.answered;
      not_made = ap (λ ms. call_made (served done n homes ms) y) (front p.k) ∙ made_same (take p.k moves) y
          ∙ p.not_made;
    }

    order_too : (h : List ServedCall) → IsOneOrder done n homes others h → IsOneOrder own n homes moves h
    order_too h o = record {
      legal = o.legal;
      made = λ i e here. sym (made_same moves e.id) ∙ o.made i e here;
      once = o.once;
      answered = λ x reply got. o.answered x reply (got_same moves x ∙ got);
      in_time = λ x y j p s. o.in_time x y j (before_too x y p) s;
    }

    published_then : (k : ℕ) (x : CallName) (i : ℕ)
        → slice_get homes x.seat ≡ Some i
        → i < n
        → is_call_published (λ c. c) (served done n homes (take k others)) x
        ≡ is_call_published (own_port n homes) (served own n homes (take k moves)) x
    published_then k x i here within =
        ap (λ ms. is_call_published (λ c. c) (served done n homes ms) x) (front k)
        ∙ published_alike (take k moves) x i here within

    first_too : (x y : CallName)
        → PublishedFirst own (own_port n homes) n homes moves x y
        → PublishedFirst done (λ c. c) n homes others x y
    first_too x y p = record {
      k = p.k;
      published = published_then p.k x p.server p.here p.of_chain ∙ p.published;
      not_published = published_then p.k y p.server p.there p.of_chain ∙ p.not_published;
      server = p.server;
      of_chain = p.of_chain;
      here = p.here;
      there = p.there;
      update = (p.update.0, made_same moves x ∙ p.update.1, p.update.2);
      later_update = (p.later_update.0, made_same moves y ∙ p.later_update.1, p.later_update.2);
    }

    -- so there is one order, in turn,
    pub own_order : n ≤ 16
        → (h : List ServedCall) × IsOneOrder (with_own_ports homes) n homes moves h
        × IsServedInTurn (with_own_ports homes) (own_port n homes) n homes moves h
    own_order few =
        let o = one_order n homes others few in (
          o.0,
          order_too o.0 o.1,
          record { in_turn = λ x y j p s. o.2.in_turn x y j (first_too x y p) s; own = o.2.own },
        )

    -- and each connection got what its bytes ask for
    pub own_served : (c k : ℕ) → IsServed ((served (with_own_ports homes) n homes moves).connections c k)
    own_served c k = subst (λ f. IsServed (f c k)) (same_served moves) (each_is_served n homes others c k)
