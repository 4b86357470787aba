-- A chain that serves, in which servers have stopped, beside one in which they go on: what each move leaves of both.
use Rattle.std.proofs.Common.{◌≡◌, ℕ, suc, ◌≤◌, Bool, true, false, cond, List, [], ◌∷◌, Option, None, Some}
use Rattle.std.proofs.Common.{refl, ap, sym, ◌∙◌, subst, inl, inr}
use Rattle.std.specs.Prelude.{not, ◌&&◌, is_some}
use Rattle.std.proofs.lemmas.Bool.{cases_eq, both_ways}
use Rattle.table.specs.declared.operations.Call.{Call}
use Rattle.table.specs.declared.operations.Reply.{Reply}
use Rattle.node.specs.Faces.{face_of, look_at}
use Rattle.proto.specs.Sessions.{next_of}
use Rattle.proto.specs.Turns.{is_store, call_of}
use Rattle.interleavings.specs.Chains.{RunningServer, Seat, Chain, with_at}
use Rattle.interleavings.specs.Moves.{Move, Sends, Takes, Publishes, Puts, Arrives, Replies, Receives, Looks, Stops}
use Rattle.interleavings.specs.Moves.{Notices, is_free, read_of, done}
use Rattle.interleavings.specs.Connections.{Connection, heard, begun, made, answered, refused, wrote, waits, may_have}
use Rattle.interleavings.specs.ServingMoves.{ServingChain, ServingMove, Reads, Begins, Asks, Peeks, Refuses, Answers}
use Rattle.interleavings.specs.ServingMoves.{Writes, Ends, Runs, served_at, with_served, refusing, key_due, reply_by}
use Rattle.interleavings.specs.ServingMoves.{look_reply, is_of_seat, with_move, asking, peeked, peeking, answering}
use Rattle.interleavings.specs.ServingMoves.{served_by}
use Rattle.interleavings.specs.OtherMoves.{Doing}
use Rattle.interleavings.specs.LeasedMoves.{with_leases, counted}
use Rattle.interleavings.specs.LeasedOrders.{mover, IsBegunBy}
use Rattle.interleavings.specs.LeasedServing.{counted_serving, server_of}
use Rattle.interleavings.proofs.lists.ChangedFunctions.{at_same, at_other}
use Rattle.interleavings.proofs.leased.SeatGrowth.{begun_same, begun_more, begun_then}
use Rattle.interleavings.proofs.leased.Beside.{Beside, pair_same, pair_other, pair_cases}
use Rattle.interleavings.proofs.leased.BesideMoves.{one_does, both_do}

-- Connections: those at servers that weren't called gone are the same; of the others the calls are the first of those
-- in the first chain.
pub record ConnectionsBeside (home : ℕ → ℕ) (called : ℕ → Bool) (s d : ServingChain) : Type 0 where
  pub ended : (c : ℕ) → called (home c) ≡ false → d.ended c ≡ s.ended c
  pub same : (c n : ℕ) → called (home c) ≡ false → d.connections c n ≡ s.connections c n
  pub calls : (c n : ℕ) → IsBegunBy (s.connections c n).calls (d.connections c n).calls

-- a move of a seat doesn't count arrivals
pub seat_counts : (arrived : ℕ → ℕ → ℕ) (l : Chain) (m : Move) → is_of_seat m ≡ true → counted arrived l m ≡ arrived
seat_counts arrived l (Sends c call) e = refl
seat_counts arrived l (Takes i sender) e = refl
seat_counts arrived l (Publishes i) e = refl
seat_counts arrived l (Puts i j) e = refl
seat_counts arrived l (Arrives i j) e = absurd (let no : false ≡ true = e in cc)
seat_counts arrived l (Replies i c) e = refl
seat_counts arrived l (Receives c) e = refl
seat_counts arrived l (Looks c key) e = refl
seat_counts arrived l (Stops i) e = refl
seat_counts arrived l (Notices i j) e = refl

begun_calls : (k : Connection) → (begun k).calls ≡ k.calls
begun_calls k = by (is_some k.session.asked)
  where
    by : (b : Bool)
        → (cond b k (record k { session = (next_of k.session).1; due = call_of (next_of k.session).0 })).calls
        ≡ k.calls
    by true = refl
    by false = refl

-- lists that are the same begin each other
begun_of : {X : Type 0} (xs ys : List X) → xs ≡ ys → IsBegunBy xs ys
begun_of xs ys e = subst (λ us. IsBegunBy us ys) (sym e) (begun_same ys)

module _ (home : ℕ → ℕ) (most_arrived : ℕ → ℕ → ℕ) (most_got : ℕ → ℕ) (called : ℕ → Bool) where
  -- The serving chain d is beside s.
  pub record R (arrived : ℕ → ℕ → ℕ) (s d : ServingChain) : Type 0 where
    pub chains : Beside home most_arrived most_got called arrived s.chain d.chain
    pub connections : ConnectionsBeside home called s d

  abbrev W : Doing
  W = with_leases called

  module _ (arrived : ℕ → ℕ → ℕ) (s d : ServingChain) (h : R arrived s d) where
    -- ---- parts change

    -- the chains, and not the connections
    chains_change : (after : ℕ → ℕ → ℕ) (l k : Chain)
        → Beside home most_arrived most_got called after l k
        → R after (record s { chain = l }) (record d { chain = k })
    chains_change after l k g = record {
      chains = g;
      connections = record {
        ended = h.connections.ended;
        same = h.connections.same;
        calls = h.connections.calls;
      };
    }

    -- the connection of a seat whose server was called gone
    one_serves : (c : ℕ) (k : Connection) (l : Chain)
        → called (home c) ≡ true
        → Beside home most_arrived most_got called arrived l d.chain
        → IsBegunBy k.calls (served_at s c).calls
        → R arrived (with_served (record s { chain = l }) c k) d
    one_serves c k l gone g b = record {
      chains = g;
      connections = record {
        ended = h.connections.ended;
        same = λ p q going. h.connections.same p q going
            ∙ sym (pair_other s.connections c (s.ended c) k p q
            (λ e f. both_ways (called (home c)) (ap (λ x. called (home x)) (sym e) ∙ going) gone));
        calls = λ p q. elim (pair_cases p q c (s.ended c)) [
          | inl same ↦ rw same.0 (rw same.1 (
              subst (λ (u : Connection). IsBegunBy u.calls (d.connections c (s.ended c)).calls)
              (sym (pair_same s.connections c (s.ended c) k))
              (begun_then k.calls (served_at s c).calls (d.connections c (s.ended c)).calls b
              (h.connections.calls c (s.ended c)))))
          | inr other ↦ subst (λ (u : Connection). IsBegunBy u.calls (d.connections p q).calls)
              (sym (pair_other s.connections c (s.ended c) k p q other)) (h.connections.calls p q)
        ];
      };
    }

    -- the connections of a seat whose server wasn't
    both_serve : (c : ℕ) (k : Connection) (l e : Chain)
        → called (home c) ≡ false
        → Beside home most_arrived most_got called arrived l e
        → R arrived (with_served (record s { chain = l }) c k) (with_served (record d { chain = e }) c k)
    both_serve c k l e going g = record {
      chains = g;
      connections = record {
        ended = h.connections.ended;
        same = λ p q going_p. elim (pair_cases p q c (s.ended c)) [
          | inl same ↦ rw same.0 (rw same.1 (there ∙ sym (pair_same s.connections c (s.ended c) k)))
          | inr other ↦ pair_other d.connections c (d.ended c) k p q (λ x y. other x (y ∙ place))
              ∙ h.connections.same p q going_p ∙ sym (pair_other s.connections c (s.ended c) k p q other)
        ];
        calls = λ p q. elim (pair_cases p q c (s.ended c)) [
          | inl same ↦ rw same.0 (rw same.1 (
              begun_of _ _ (ap (λ (u : Connection). u.calls) (pair_same s.connections c (s.ended c) k ∙ sym there))))
          | inr other ↦
              subst
              (λ (u : Connection). IsBegunBy u.calls
              (with_at d.connections c (with_at (d.connections c) (d.ended c) k) p q).calls)
              (sym (pair_other s.connections c (s.ended c) k p q other))
              (subst (λ (u : Connection). IsBegunBy (s.connections p q).calls u.calls)
              (sym (pair_other d.connections c (d.ended c) k p q (λ x y. other x (y ∙ place))))
              (h.connections.calls p q))
        ];
      };
    }
      where
        place : d.ended c ≡ s.ended c
        place = h.connections.ended c going

        there : with_at d.connections c (with_at (d.connections c) (d.ended c) k) c (s.ended c) ≡ k
        there =
            ap (λ n. with_at d.connections c (with_at (d.connections c) (d.ended c) k) c n) (sym place)
            ∙ pair_same d.connections c (d.ended c) k

    one_by_test : (b : Bool) (x : ServingChain) → R arrived x d → R arrived (cond b x s) d
    one_by_test true x g = g
    one_by_test false x g = h

    both_by_test : (b : Bool) (x y : ServingChain) → R arrived x y → R arrived (cond b x s) (cond b y d)
    both_by_test true x y g = g
    both_by_test false x y g = h

    -- ---- moves of a server that was called gone

    module _ (c : ℕ) (gone : called (home c) ≡ true) where
      here : Connection
      here = served_at s c

      one_session : (k : Connection) → k.calls ≡ (served_at s c).calls → R arrived (with_served s c k) d
      one_session k e = one_serves c k s.chain gone h.chains (begun_of k.calls (served_at s c).calls e)

      one_asks : (due : Option Call) → R arrived (asking W s c due) d
      one_asks None = h
      one_asks (Some call) =
          one_by_test (is_free (s.chain.seats c)) (with_move W s (Sends c call) c (made call (served_at s c)))
          (one_serves c (made call (served_at s c)) (W s.chain (Sends c call)) gone
          (one_does home most_arrived most_got called arrived s.chain d.chain h.chains (Sends c call) gone)
          (begun_more (served_at s c).calls (call ∷ [])))

      one_peeked : (key : List ℕ) (o : Option Reply) → R arrived (peeked W s c key o) d
      one_peeked key None = h
      one_peeked key (Some reply) =
          one_serves c (answered reply (made (read_of key) (served_at s c))) (W s.chain (Looks c key)) gone
          (one_does home most_arrived most_got called arrived s.chain d.chain h.chains (Looks c key) gone)
          (begun_more (served_at s c).calls (read_of key ∷ []))

      one_peeks : (o : Option (List ℕ)) → R arrived (peeking W s c o) d
      one_peeks None = h
      one_peeks (Some key) = one_peeked key (look_reply s.chain c key)

      one_refuses : (due : Option Call) → R arrived (refusing s c due) d
      one_refuses None = h
      one_refuses (Some call) =
          one_by_test (is_store call.op) (with_served s c (refused (served_at s c)))
          (one_session (refused (served_at s c)) refl)

      one_answers : (queued : List Reply) → R arrived (answering W s c queued) d
      one_answers [] = h
      one_answers (reply ∷ more) =
          one_by_test (waits (served_at s c) && may_have (served_at s c).session.asked reply)
          (with_move W s (Receives c) c (answered reply (served_at s c)))
          (one_serves c (answered reply (served_at s c)) (W s.chain (Receives c)) gone
          (one_does home most_arrived most_got called arrived s.chain d.chain h.chains (Receives c) gone)
          (begun_same (served_at s c).calls))

      one_ends : R arrived (record s { ended = with_at s.ended c (suc (s.ended c)) }) d
      one_ends = record {
        chains = h.chains;
        connections = record {
          ended = λ p going. h.connections.ended p going
              ∙ sym (at_other s.ended c (suc (s.ended c)) p
              (λ e. both_ways (called (home c)) (ap (λ x. called (home x)) (sym e) ∙ going) gone));
          same = h.connections.same;
          calls = h.connections.calls;
        };
      }

    one_runs : (m : Move)
        → called (mover home m) ≡ true
        → R (counted arrived s.chain m) (served_by W s (Runs m)) d
    one_runs m gone = by (is_of_seat m) refl
      where
        by : (b : Bool)
            → is_of_seat m ≡ b
            → R (counted arrived s.chain m) (cond b s (record s { chain = W s.chain m })) d
        by true is = subst (λ a. R a s d) (sym (seat_counts arrived s.chain m is)) h
        by false is = chains_change (counted arrived s.chain m) (W s.chain m) d.chain
            (one_does home most_arrived most_got called arrived s.chain d.chain h.chains m gone)

    pub one_serving : (m : ServingMove)
        → called (server_of home m) ≡ true
        → R (counted_serving arrived s.chain m) (served_by W s m) d
    one_serving (Reads c piece) gone = one_session c gone (heard piece (served_at s c)) refl
    one_serving (Begins c) gone = one_session c gone (begun (served_at s c)) (begun_calls (served_at s c))
    one_serving (Asks c) gone = one_asks c gone (served_at s c).due
    one_serving (Peeks c) gone = one_peeks c gone (key_due (served_at s c).due)
    one_serving (Refuses c) gone = one_refuses c gone (served_at s c).due
    one_serving (Answers c) gone = one_answers c gone (s.chain.seats c).queued
    one_serving (Writes c n) gone = one_session c gone (wrote n (served_at s c)) refl
    one_serving (Ends c) gone = one_ends c gone
    one_serving (Runs m) gone = one_runs m gone

    -- ---- moves of one that wasn't

    module _ (within : (i j : ℕ) → arrived i j ≤ most_arrived i j) (c : ℕ) (going : called (home c) ≡ false) where
      served_there : served_at d c ≡ served_at s c
      served_there =
          ap (d.connections c) (h.connections.ended c going) ∙ h.connections.same c (s.ended c) going

      seat_there : d.chain.seats c ≡ s.chain.seats c
      seat_there = h.chains.seats.same c going

      both_session : (f : Connection → Connection)
          → R arrived (with_served s c (f (served_at s c))) (with_served d c (f (served_at d c)))
      both_session f =
          subst (λ k. R arrived (with_served s c (f (served_at s c))) (with_served d c (f k))) (sym served_there)
          (both_serve c (f (served_at s c)) s.chain d.chain going h.chains)

      -- a move of the seat is one in both chains
      both_move : (m : Move)
          → called (mover home m) ≡ false
          → counted arrived s.chain m ≡ arrived
          → Beside home most_arrived most_got called arrived (W s.chain m) (done d.chain m)
      both_move m still e =
          subst (λ a. Beside home most_arrived most_got called a (W s.chain m) (done d.chain m)) e
          (both_do home most_arrived most_got called arrived s.chain d.chain h.chains m still
          (λ i j. subst (λ (a : ℕ → ℕ → ℕ). a i j ≤ most_arrived i j) (sym e) (within i j)))

      both_ask : (due : Option Call) → R arrived (asking W s c due) (asking done d c due)
      both_ask None = h
      both_ask (Some call) =
          subst (λ (u : Seat).
          R arrived
          (cond (is_free (s.chain.seats c)) (with_move W s (Sends c call) c (made call (served_at s c))) s)
          (cond (is_free u) (with_move done d (Sends c call) c (made call (served_at d c))) d))
          (sym seat_there)
          (both_by_test (is_free (s.chain.seats c)) (with_move W s (Sends c call) c (made call (served_at s c)))
          (with_move done d (Sends c call) c (made call (served_at d c)))
          (subst (λ k. R arrived (with_move W s (Sends c call) c (made call (served_at s c)))
          (with_move done d (Sends c call) c (made call k))) (sym served_there)
          (both_serve c (made call (served_at s c)) (W s.chain (Sends c call)) (done d.chain (Sends c call)) going
          (both_move (Sends c call) going refl))))

      both_peeked : (key : List ℕ) (o : Option Reply) → R arrived (peeked W s c key o) (peeked done d c key o)
      both_peeked key None = h
      both_peeked key (Some reply) =
          subst (λ k. R arrived (with_move W s (Looks c key) c (answered reply (made (read_of key) (served_at s c))))
          (with_move done d (Looks c key) c (answered reply (made (read_of key) k)))) (sym served_there)
          (both_serve c (answered reply (made (read_of key) (served_at s c))) (W s.chain (Looks c key))
          (done d.chain (Looks c key)) going (both_move (Looks c key) going refl))

      same_look : (key : List ℕ) → look_reply d.chain c key ≡ look_reply s.chain c key
      same_look key =
          ap (λ (u : Seat). cond (is_free u && not (d.chain.servers u.home).stopped)
          (reply_by (look_at (face_of (d.chain.servers u.home).node) key)) None) seat_there
          ∙ ap (λ (v : RunningServer). cond (is_free (s.chain.seats c) && not v.stopped)
          (reply_by (look_at (face_of v.node) key)) None)
          (h.chains.servers.same (s.chain.seats c).home (ap called (h.chains.seats.sits c) ∙ going))

      both_peek : (o : Option (List ℕ)) → R arrived (peeking W s c o) (peeking done d c o)
      both_peek None = h
      both_peek (Some key) =
          subst (λ o. R arrived (peeked W s c key (look_reply s.chain c key)) (peeked done d c key o))
          (sym (same_look key)) (both_peeked key (look_reply s.chain c key))

      both_refuse : (due : Option Call) → R arrived (refusing s c due) (refusing d c due)
      both_refuse None = h
      both_refuse (Some call) =
          both_by_test (is_store call.op) (with_served s c (refused (served_at s c)))
          (with_served d c (refused (served_at d c))) (both_session refused)

      both_answer : (queued : List Reply) → R arrived (answering W s c queued) (answering done d c queued)
      both_answer [] = h
      both_answer (reply ∷ more) =
          let k = served_at s c in
          subst (λ (u : Connection).
          R arrived
          (cond (waits k && may_have k.session.asked reply) (with_move W s (Receives c) c (answered reply k)) s)
          (cond (waits u && may_have u.session.asked reply) (with_move done d (Receives c) c (answered reply u)) d))
          (sym served_there)
          (both_by_test (waits k && may_have k.session.asked reply) (with_move W s (Receives c) c (answered reply k))
          (with_move done d (Receives c) c (answered reply k))
          (both_serve c (answered reply k) (W s.chain (Receives c)) (done d.chain (Receives c)) going
          (both_move (Receives c) going refl)))

      both_end : R arrived (record s { ended = with_at s.ended c (suc (s.ended c)) })
          (record d { ended = with_at d.ended c (suc (d.ended c)) })
      both_end = record {
        chains = h.chains;
        connections = record {
          ended = λ p going_p. elim (cases_eq p c) [
            | inl same ↦ rw same (at_same d.ended c (suc (d.ended c)) ∙ ap (λ n. suc n) (h.connections.ended c going)
                ∙ sym (at_same s.ended c (suc (s.ended c))))
            | inr other ↦ at_other d.ended c (suc (d.ended c)) p other ∙ h.connections.ended p going_p
                ∙ sym (at_other s.ended c (suc (s.ended c)) p other)
          ];
          same = h.connections.same;
          calls = h.connections.calls;
        };
      }

    both_run : (m : Move)
        → called (mover home m) ≡ false
        → ((i j : ℕ) → counted arrived s.chain m i j ≤ most_arrived i j)
        → R (counted arrived s.chain m) (served_by W s (Runs m)) (served_by done d (Runs m))
    both_run m going within = by (is_of_seat m) refl
      where
        by : (b : Bool)
            → is_of_seat m ≡ b
            → R (counted arrived s.chain m) (cond b s (record s { chain = W s.chain m }))
            (cond b d (record d { chain = done d.chain m }))
        by true is = subst (λ a. R a s d) (sym (seat_counts arrived s.chain m is)) h
        by false is = chains_change (counted arrived s.chain m) (W s.chain m) (done d.chain m)
            (both_do home most_arrived most_got called arrived s.chain d.chain h.chains m going within)

    pub both_serving : (m : ServingMove)
        → called (server_of home m) ≡ false
        → ((i j : ℕ) → counted_serving arrived s.chain m i j ≤ most_arrived i j)
        → R (counted_serving arrived s.chain m) (served_by W s m) (served_by done d m)
    both_serving (Reads c piece) going within = both_session within c going (heard piece)
    both_serving (Begins c) going within = both_session within c going begun
    both_serving (Asks c) going within =
        subst (λ (k : Connection). R arrived (asking W s c (served_at s c).due) (asking done d c k.due))
        (sym (served_there within c going)) (both_ask within c going (served_at s c).due)
    both_serving (Peeks c) going within =
        subst (λ (k : Connection).
        R arrived (peeking W s c (key_due (served_at s c).due)) (peeking done d c (key_due k.due)))
        (sym (served_there within c going)) (both_peek within c going (key_due (served_at s c).due))
    both_serving (Refuses c) going within =
        subst (λ (k : Connection). R arrived (refusing s c (served_at s c).due) (refusing d c k.due))
        (sym (served_there within c going)) (both_refuse within c going (served_at s c).due)
    both_serving (Answers c) going within =
        subst (λ (u : Seat). R arrived (answering W s c (s.chain.seats c).queued) (answering done d c u.queued))
        (sym (seat_there within c going)) (both_answer within c going (s.chain.seats c).queued)
    both_serving (Writes c n) going within = both_session within c going (wrote n)
    both_serving (Ends c) going within = both_end within c going
    both_serving (Runs m) going within = both_run m going within
