-- Each move with free ports is one with the seats' numbers as ports.
use Rattle.std.proofs.Common.{◌≡◌, ℕ, ◌+◌, ◌<◌, Bool, true, false, cond, List, [], ◌∷◌, ◌++◌, length}
use Rattle.std.proofs.Common.{refl, arith, ap, sym, ◌∙◌, subst, length-append}
use Rattle.std.specs.Prelude.{not, ◌==◌, ◌&&◌}
use Rattle.std.proofs.lemmas.Bool.{le-ltb, eqb-true}
use Rattle.std.proofs.lemmas.Option.{slice_get_within}
use Rattle.table.specs.Items.{Item}
use Rattle.table.specs.declared.operations.Call.{Call}
use Rattle.table.specs.declared.operations.Reply.{Reply}
use Rattle.table.specs.declared.operations.Reply.TheVariants.{Value}
use Rattle.node.specs.declared.looks.Look.{Look}
use Rattle.node.specs.declared.looks.Look.TheVariants.{Clean, Dirty}
use Rattle.node.specs.declared.messages.Input.TheVariants.{Call as Called, From, Gone}
use Rattle.node.specs.declared.messages.Peer.{Peer}
use Rattle.node.specs.Faces.{face_of, look_at}
use Rattle.interleavings.specs.Asked.{IsAskedBy}
use Rattle.interleavings.specs.Chains.{RunningServer, Seat, Chain, with_running, with_channel, with_seat, messages_to}
use Rattle.interleavings.specs.Chains.{without_message, replies_to, OfNotices}
use Rattle.interleavings.specs.Moves.{Move, Sends, Takes, Publishes, Puts, Arrives, Replies, Receives, Looks, Stops}
use Rattle.interleavings.specs.Moves.{Notices, is_free, read_of, brought, sent, received, looked, looking, taking}
use Rattle.interleavings.specs.Moves.{publishing, put, arrived, has_stopped, done}
use Rattle.interleavings.specs.OwnPorts.{reply_put_from}
use Rattle.interleavings.specs.ServingMoves.{is_of_seat}
use Rattle.interleavings.specs.Chains.{Sender, OfSeat}
use Rattle.interleavings.specs.FreePorts.{PortChoice, port_now, awaits_reply, is_free_port, with_free_ports}
use Rattle.interleavings.proofs.ports.FreePortReplies.{holds_replied}
use Rattle.interleavings.proofs.ports.FreePortSends.{renaming, after_send, same_after, holds_after}
use Rattle.interleavings.proofs.ports.OwnPortMoves.{receives_same, looks_same, takes_same, publishes_same, puts_same}
use Rattle.interleavings.proofs.ports.OwnPortMoves.{arrives_same, stops_same, notices_same}
use Rattle.interleavings.proofs.ports.OwnPortReplies.{replies_by, nothing_taken}
use Rattle.interleavings.proofs.ports.PortHolders.{Holds, holds_server, holds_channel, holds_brought, holds_seat}
use Rattle.interleavings.proofs.ports.PortHolders.{free_waits_not}
use Rattle.interleavings.proofs.ports.RenamedChains.{SameUnder, seat_there}
use Rattle.interleavings.proofs.ports.RenamedServers.{sender_at}
use Rattle.interleavings.proofs.ports.StandingPorts.{taking_standing, publishing_standing, message_standing}

module _ (n : ℕ) (homes : List ℕ) (ports : PortChoice) where
  -- some move makes of g what stands, with some names, for the chain l; and it asks no other calls than the move m
  pub record Follows (m : Move) (l g : Chain) : Type 0 where
    pub move : Move
    pub names : ℕ → ℕ → ℕ
    pub same : SameUnder n homes names l (done g move)
    pub holds : Holds n ports names l
    pub asked : IsAskedBy m → IsAskedBy move
    pub servers : is_of_seat m ≡ false → is_of_seat move ≡ false
    pub takes : (i c : ℕ) → move ≡ Takes i (OfSeat c) → (j : ℕ) × (sender : Sender) × (m ≡ Takes j sender)

  -- the chain g is l with some names of ports, which lead to the seats that have them
  pub record Alike (l g : Chain) : Type 0 where
    pub names : ℕ → ℕ → ℕ
    pub same : SameUnder n homes names l g
    pub holds : Holds n ports names l

  module _ (names : ℕ → ℕ → ℕ) (l g : Chain) (s : SameUnder n homes names l g) (h : Holds n ports names l) where
    -- ---- ports stay with whom they are

    either : (b : Bool) (x y : Chain) → Holds n ports names x → Holds n ports names y → Holds n ports names (cond b x y)
    either true x y a b = a
    either false x y a b = b

    put_holds : (i j : ℕ) (ms : List Peer) → Holds n ports names (put l i j ms)
    put_holds i j [] = h
    put_holds i j (m ∷ ms) =
        let t : RunningServer = record (l.servers i) { outbox = without_message j (l.servers i).outbox } in
        let k = holds_server n ports names l h i t
        (λ p. (let same = message_standing p (l.servers i) j in omega (arith, same))) in
        holds_channel n ports names (with_running l i t) k i j (l.channels i j ++ m ∷ [])

    arrived_holds : (i j : ℕ) (ms : List Peer) → Holds n ports names (arrived l i j ms)
    arrived_holds i j [] = h
    arrived_holds i j (m ∷ ms) =
        holds_brought n ports names (with_channel l i j ms) (holds_channel n ports names l h i j ms) j (From i m)
        (λ p. refl)

    -- a seat that takes a reply had no port any more
    received_holds : (c : ℕ) (rs : List Reply) → (l.seats c).queued ≡ rs → Holds n ports names (received l c
        (l.seats c) rs)
    received_holds c [] e = h
    received_holds c (reply ∷ more) e =
        let k = l.seats c in
        let t : Seat = record k { got = k.got ++ reply ∷ []; queued = more } in
        let one = length-append k.got (reply ∷ []) in
        let all = ap (λ rs. length rs) e in
        let few = h.counts c in
        let least = few.0 in
        let most = few.1 in
        holds_seat n ports names l h c t
        (le-ltb (length k.got + length k.queued) (length k.calls) (omega (arith, all, most)))
        (le-ltb (length t.got + length t.queued) (length t.calls) (omega (arith, one, all, most)))
        (omega (arith, one, all, least), omega (arith, one, most))

    -- and so has one that looks
    looked_holds : (c : ℕ) (key : List ℕ) (look : Look Item)
        → is_free (l.seats c) ≡ true
        → Holds n ports names (looked l c (l.seats c) key look)
    looked_holds c key Dirty free = h
    looked_holds c key (Clean item) free =
        let k = l.seats c in
        let t : Seat = record k { calls = k.calls ++ read_of key ∷ []; got = k.got ++ Value item ∷ [] } in
        let more_calls = length-append k.calls (read_of key ∷ []) in
        let more_got = length-append k.got (Value item ∷ []) in
        let same : length k.calls ≡ length k.got = eqb-true _ _ free in
        let least = (h.counts c).0 in
        holds_seat n ports names l h c t (free_waits_not k free)
        (le-ltb (length t.got + length t.queued) (length t.calls) (omega (arith, more_calls, more_got, same)))
        (omega (arith, more_calls, more_got, least), omega (arith, more_calls, more_got, same))

    looks_holds : (c : ℕ) (key : List ℕ) → Holds n ports names (looking l c key (l.seats c))
    looks_holds c key = by (is_free (l.seats c)) (not (l.servers (l.seats c).home).stopped) refl
      where
        by : (f b : Bool)
            → is_free (l.seats c) ≡ f
            → Holds n ports names
            (cond (f && b) (looked l c (l.seats c) key (look_at (face_of (l.servers (l.seats c).home).node) key)) l)
        by true true e = looked_holds c key (look_at (face_of (l.servers (l.seats c).home).node) key) e
        by true false e = h
        by false b e = h

    -- ---- each move

    -- nothing happens
    pub follows_nothing : (m : Move) → Follows m l g
    follows_nothing m = record {
      move = Takes n OfNotices;
      takes = λ a b e. (let no : Takes n OfNotices ≡ Takes a (OfSeat b) = e in absurd cc);
      names = names;
      same = subst (λ k. SameUnder n homes names l k) (sym (nothing_taken n homes l g s)) s;
      holds = h;
      asked = λ a. tt;
      servers = λ e. refl;
    }

    within_seats : (d : ℕ) → (l.seats d).home < n → d < length homes
    within_seats d inside = slice_get_within homes d (l.seats d).home (seat_there n homes l g s d inside)

    -- a call that is sent
    sent_alike : (c : ℕ) (call : Call)
        → is_free (l.seats c) ≡ true
        → is_free_port ports l (l.seats c).home (port_now ports l c) (length homes) ≡ true
        → Alike
        (brought (with_seat l c (record (l.seats c) { calls = (l.seats c).calls ++ call ∷ [] })) (l.seats c).home
        (Called (port_now ports l c) call)) (done g (Sends c call))
    sent_alike c call free unused = record {
      names = renaming n homes ports names l h c call within_seats free unused;
      same = subst (SameUnder n homes (renaming n homes ports names l h c call within_seats free unused)
          (after_send n homes ports names l h c call within_seats free unused)) (sym sends)
          (same_after n homes ports names l h c call within_seats free unused g s);
      holds = holds_after n homes ports names l h c call within_seats free unused;
    }
      where
        sends : done g (Sends c call)
            ≡ brought (with_seat g c (record (l.seats c) { calls = (l.seats c).calls ++ call ∷ [] })) (l.seats c).home
            (Called c call)
        sends = ap (λ (ss : ℕ → Seat). sent g c call (ss c)) s.seats
            ∙ ap (λ b. cond b
            (brought (with_seat g c (record (l.seats c) { calls = (l.seats c).calls ++ call ∷ [] })) (l.seats c).home
            (Called c call)) g) free

    sent_follows : (c : ℕ) (call : Call)
        → is_free (l.seats c) ≡ true
        → is_free_port ports l (l.seats c).home (port_now ports l c) (length homes) ≡ true
        → Follows (Sends c call)
        (brought (with_seat l c (record (l.seats c) { calls = (l.seats c).calls ++ call ∷ [] })) (l.seats c).home
        (Called (port_now ports l c) call)) g
    sent_follows c call free unused =
        let a = sent_alike c call free unused in
        record {
          move = Sends c call;
          takes = λ i b e. (let no : Sends c call ≡ Takes i (OfSeat b) = e in absurd cc);
          names = a.names;
          same = a.same;
          holds = a.holds;
          asked = λ u. u;
          servers = λ e. e;
        }

    pub sends_follow : (c : ℕ) (call : Call) → Follows (Sends c call) (with_free_ports homes ports l (Sends c call)) g
    sends_follow c call =
        by (is_free_port ports l (l.seats c).home (port_now ports l c) (length homes)) (is_free (l.seats c)) refl refl
      where
        by : (b f : Bool)
            → is_free_port ports l (l.seats c).home (port_now ports l c) (length homes) ≡ b
            → is_free (l.seats c) ≡ f
            → Follows (Sends c call)
            (cond b
            (cond f
            (brought (with_seat l c (record (l.seats c) { calls = (l.seats c).calls ++ call ∷ [] })) (l.seats c).home
            (Called (port_now ports l c) call)) l) l) g
        by false f e a = follows_nothing (Sends c call)
        by true false e a = follows_nothing (Sends c call)
        by true true e a = sent_follows c call a e

    -- a reply that is put
    replied_holds : (i c : ℕ) (stopped : Bool) (rs : List Reply)
        → (l.seats c).home ≡ i
        → awaits_reply (l.seats c) ≡ true
        → replies_to (port_now ports l c) (l.servers i).outbox ≡ rs
        → Holds n ports names (cond (not stopped) (reply_put_from (port_now ports l c) l i c (l.seats c) rs) l)
    replied_holds i c true rs home awaits e = h
    replied_holds i c false [] home awaits e = h
    replied_holds i c false (reply ∷ more) home awaits e = holds_replied n ports names l h i c reply more home awaits e

    replies_follow : (i c : ℕ) → Follows (Replies i c) (with_free_ports homes ports l (Replies i c)) g
    replies_follow i c = by (awaits_reply (l.seats c)) ((l.seats c).home == i) refl refl
      where
        port : ℕ
        port = port_now ports l c

        by : (b at : Bool)
            → awaits_reply (l.seats c) ≡ b
            → ((l.seats c).home == i) ≡ at
            → Follows (Replies i c)
            (cond b
            (cond (at && not (l.servers i).stopped)
            (reply_put_from (port_now ports l c) l i c (l.seats c)
            (replies_to (port_now ports l c) (l.servers i).outbox)) l) l) g
        by false at e f = follows_nothing (Replies i c)
        by true false e f = follows_nothing (Replies i c)
        by true true e f =
            let home : (l.seats c).home ≡ i = eqb-true _ _ f in
            record {
              move = Replies i c;
              takes = λ j b e. (let no : Replies i c ≡ Takes j (OfSeat b) = e in absurd cc);
              names = names;
              same = replies_by n homes l g s h.apart i c (port_now ports l c)
                  (λ within. subst (λ k. names k (port_now ports l c) ≡ c) home
                  (h.named c (subst (λ k. k < n) (sym home) within) e));
              holds = replied_holds i c (l.servers i).stopped (replies_to (port_now ports l c) (l.servers i).outbox)
                  home e refl;
              asked = λ a. tt;
              servers = λ e. refl;
            }

    -- a call that is sent from a free port is sent there too; and so it is with a reply that is taken, and a look
    pub sends_alike : (c : ℕ) (call : Call)
        → is_free (l.seats c) ≡ true
        → is_free_port ports l (l.seats c).home (port_now ports l c) (length homes) ≡ true
        → Alike (with_free_ports homes ports l (Sends c call)) (done g (Sends c call))
    sends_alike c call free unused =
        by (is_free_port ports l (l.seats c).home (port_now ports l c) (length homes)) (is_free (l.seats c)) unused free
      where
        by : (b f : Bool)
            → b ≡ true
            → f ≡ true
            → Alike
            (cond b
            (cond f
            (brought (with_seat l c (record (l.seats c) { calls = (l.seats c).calls ++ call ∷ [] })) (l.seats c).home
            (Called (port_now ports l c) call)) l) l) (done g (Sends c call))
        by false f e a = absurd (let no : false ≡ true = e in cc)
        by true false e a = absurd (let no : false ≡ true = a in cc)
        by true true e a = sent_alike c call free unused

    pub receives_alike : (c : ℕ) → Alike (with_free_ports homes ports l (Receives c)) (done g (Receives c))
    receives_alike c =
        record {
          names = names;
          same = receives_same n homes l g s c;
          holds = received_holds c (l.seats c).queued refl;
        }

    pub looks_alike : (c : ℕ) (key : List ℕ)
        → Alike (with_free_ports homes ports l (Looks c key)) (done g (Looks c key))
    looks_alike c key = record { names = names; same = looks_same n homes l g s c key; holds = looks_holds c key }

    -- each move is followed
    pub follows : (m : Move) → Follows m (with_free_ports homes ports l m) g
    follows (Sends c call) = sends_follow c call
    follows (Takes i sender) = record {
      move = Takes i (sender_at (names i) sender);
      takes = λ a b e. (i, sender, refl);
      names = names;
      same = takes_same n homes l g s h.apart i sender;
      holds = holds_server n ports names l h i (taking (l.servers i) sender)
          (λ p. (let same = taking_standing p (l.servers i) sender in omega (arith, same)));
      asked = λ a. tt;
      servers = λ e. refl;
    }
    follows (Publishes i) = record {
      move = Publishes i;
      takes = λ a b e. (let no : Publishes i ≡ Takes a (OfSeat b) = e in absurd cc);
      names = names;
      same = publishes_same n homes l g s i;
      holds = holds_server n ports names l h i (publishing (l.servers i)) (λ p. publishing_standing p (l.servers i));
      asked = λ a. tt;
      servers = λ e. refl;
    }
    follows (Puts i j) = record {
      move = Puts i j;
      takes = λ a b e. (let no : Puts i j ≡ Takes a (OfSeat b) = e in absurd cc);
      names = names;
      same = puts_same n homes l g s i j;
      holds = either (l.servers i).stopped l (put l i j (messages_to j (l.servers i).outbox)) h
          (put_holds i j (messages_to j (l.servers i).outbox));
      asked = λ a. tt;
      servers = λ e. refl;
    }
    follows (Arrives i j) = record {
      move = Arrives i j;
      takes = λ a b e. (let no : Arrives i j ≡ Takes a (OfSeat b) = e in absurd cc);
      names = names;
      same = arrives_same n homes l g s i j;
      holds = arrived_holds i j (l.channels i j);
      asked = λ a. tt;
      servers = λ e. refl;
    }
    follows (Replies i c) = replies_follow i c
    follows (Receives c) = record {
      move = Receives c;
      takes = λ a b e. (let no : Receives c ≡ Takes a (OfSeat b) = e in absurd cc);
      names = names;
      same = receives_same n homes l g s c;
      holds = received_holds c (l.seats c).queued refl;
      asked = λ a. tt;
      servers = λ e. e;
    }
    follows (Looks c key) = record {
      move = Looks c key;
      takes = λ a b e. (let no : Looks c key ≡ Takes a (OfSeat b) = e in absurd cc);
      names = names;
      same = looks_same n homes l g s c key;
      holds = looks_holds c key;
      asked = λ a. a;
      servers = λ e. e;
    }
    follows (Stops i) = record {
      move = Stops i;
      takes = λ a b e. (let no : Stops i ≡ Takes a (OfSeat b) = e in absurd cc);
      names = names;
      same = stops_same n homes l g s i;
      holds = holds_server n ports names l h i (record (l.servers i) { stopped = true }) (λ p. omega arith);
      asked = λ a. tt;
      servers = λ e. refl;
    }
    follows (Notices i j) = record {
      move = Notices i j;
      takes = λ a b e. (let no : Notices i j ≡ Takes a (OfSeat b) = e in absurd cc);
      names = names;
      same = notices_same n homes l g s i j;
      holds = either (has_stopped l j) (brought l i (Gone j)) l (holds_brought n ports names l h i (Gone j)
          (λ p. refl)) h;
      asked = λ a. tt;
      servers = λ e. refl;
    }
