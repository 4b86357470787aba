-- What each move keeps of each connection, whatever it does with the running chain: a connection's session goes on, and
-- its calls and its outcomes only grow.
use Rattle.std.proofs.Common.{◌≡◌, ℕ, zero, suc, ◌≤◌, Bool, true, false, cond, List, [], ◌∷◌, ◌++◌, length, take}
use Rattle.std.proofs.Common.{Option, None, Some, refl, arith, ap, sym, ◌∙◌, subst, append-nil, append_assoc}
use Rattle.std.proofs.Common.{length-append}
use Rattle.std.specs.Prelude.{◌&&◌, is_some}
use Rattle.std.proofs.lemmas.Bool.{cond_both, lt-ltb, and_parts}
use Rattle.std.proofs.lemmas.List.{take-take}
use Rattle.table.specs.declared.operations.Call.{Call}
use Rattle.table.specs.declared.operations.Reply.{Reply}
use Rattle.proto.specs.Turns.{Outcome, Replied, Refused, call_of, is_store}
use Rattle.proto.specs.Sessions.{next_of}
use Rattle.interleavings.specs.Moves.{Sends, Receives, is_free, read_of}
use Rattle.interleavings.specs.OtherMoves.{Doing}
use Rattle.interleavings.specs.Connections.{Connection, heard, begun, made, answered, refused, wrote, waits, may_have}
use Rattle.interleavings.specs.ServingMoves.{ServingChain, ServingMove, Reads, Begins, Asks, Peeks, Refuses, Answers}
use Rattle.interleavings.specs.ServingMoves.{Writes, Ends, Runs, served_at, with_served, with_move, refusing, asking}
use Rattle.interleavings.specs.ServingMoves.{key_due, look_reply, peeked, peeking, answering, is_of_seat}
use Rattle.interleavings.specs.ServingMoves.{opening_serving, served_by, served_from, served}
use Rattle.interleavings.specs.Served.{IsServed}
use Rattle.interleavings.proofs.served.Connected.{IsConnected, connected_opening, connected_heard, connected_begun}
use Rattle.interleavings.proofs.served.Connected.{connected_made, connected_answered, connected_wrote, is_served}
use Rattle.interleavings.proofs.served.Forms.{due_form}
use Rattle.interleavings.proofs.served.Refusing.{connected_refused}
use Rattle.interleavings.proofs.served.ChainMoves.{look_shows_value}
use Rattle.interleavings.proofs.served.Steps.{for_each}
use Rattle.interleavings.proofs.served.EachMove.{due_read, shown_may, even}

-- the connection k has become m
pub record GoesOn (k m : Connection) : Type 0 where
  pub connected : IsConnected m
  pub calls : length k.calls ≤ length m.calls
  pub outcomes : (later : List Outcome) × (m.outcomes ≡ k.outcomes ++ later)

-- all sessions are run
abbrev pub AreConnected : ServingChain → Type 0
AreConnected s = (c n : ℕ) → IsConnected (s.connections c n)

-- all connections go on
abbrev pub AllGoOn : ServingChain → ServingChain → Type 0
AllGoOn s t = (c n : ℕ) → GoesOn (s.connections c n) (t.connections c n)

-- the calls and the outcomes stay
same : (k m : Connection) → IsConnected m → m.calls ≡ k.calls → m.outcomes ≡ k.outcomes → GoesOn k m
same k m t calls outcomes = record {
  connected = t;
  calls = let n = ap (λ cs. length cs) calls in omega (arith, n);
  outcomes = ([], outcomes ∙ sym (append-nil k.outcomes));
}

stays : (k : Connection) → IsConnected k → GoesOn k k
stays k t = same k k t refl refl

-- one after the other
goes_further : (k l m : Connection) → GoesOn k l → GoesOn l m → GoesOn k m
goes_further k l m g h = record {
  connected = h.connected;
  calls = let a = g.calls in let b = h.calls in omega (arith, a, b);
  outcomes = (
    g.outcomes.0 ++ h.outcomes.0,
    h.outcomes.1 ∙ ap (λ os. os ++ h.outcomes.0) g.outcomes.1
        ∙ append_assoc k.outcomes g.outcomes.0 h.outcomes.0,
  );
}

-- ---- one connection

goes_begun : (k : Connection) → IsConnected k → GoesOn k (begun k)
goes_begun k t = by (is_some k.session.asked) (connected_begun k t)
  where
    m : Connection
    m = record k { session = (next_of k.session).1; due = call_of (next_of k.session).0 }

    by : (b : Bool) → IsConnected (cond b k m) → GoesOn k (cond b k m)
    by true u = stays k u
    by false u = same k m u refl refl

goes_made : (call : Call) (k : Connection) → k.due ≡ Some call → IsConnected k → GoesOn k (made call k)
goes_made call k e t = record {
  connected = connected_made call k e t;
  calls = let n = length-append k.calls (call ∷ []) in omega (arith, n);
  outcomes = ([], sym (append-nil k.outcomes));
}

goes_answered : (reply : Reply) (k : Connection)
    → waits k ≡ true
    → may_have k.session.asked reply ≡ true
    → IsConnected k
    → GoesOn k (answered reply k)
goes_answered reply k wait may t = record {
  connected = connected_answered reply k wait may t;
  calls = omega arith;
  outcomes = (Replied reply ∷ [], refl);
}

goes_refused : (call : Call) (k : Connection)
    → k.due ≡ Some call
    → is_store call.op ≡ true
    → IsConnected k
    → GoesOn k (refused k)
goes_refused call k e store t = record {
  connected = connected_refused call k e store t;
  calls = omega arith;
  outcomes = (Refused ∷ [], refl);
}

-- ---- moves

module _ (does : Doing) (s : ServingChain) (h : AreConnected s) where
  none_changes : AllGoOn s s
  none_changes c n = stays (s.connections c n) (h c n)

  one_changes : (c : ℕ) (k : Connection) → GoesOn (served_at s c) k → AllGoOn s (with_served s c k)
  one_changes c k g = for_each (λ d n m. GoesOn (s.connections d n) m) s c k none_changes g

  asks_go : (c : ℕ) (due : Option Call) → (served_at s c).due ≡ due → AllGoOn s (asking does s c due)
  asks_go c None e = none_changes
  asks_go c (Some call) e =
      cond_both (is_free (s.chain.seats c)) (with_move does s (Sends c call) c (made call (served_at s c))) s
      (λ t. AllGoOn s t)
      (λ free. one_changes c (made call (served_at s c)) (goes_made call (served_at s c) e (h c (s.ended c))))
      (λ busy. none_changes)

  peeked_goes : (c : ℕ) (key : List ℕ) (o : Option Reply)
      → (served_at s c).due ≡ Some (read_of key)
      → look_reply s.chain c key ≡ o
      → AllGoOn s (peeked does s c key o)
  peeked_goes c key None e r = none_changes
  peeked_goes c key (Some reply) e r =
      let k = served_at s c in
      let t = h c (s.ended c) in
      let m = made (read_of key) k in
      let n = length-append k.calls (read_of key ∷ []) in
      let f = due_form k t (read_of key) e in
      let g = goes_made (read_of key) k e t in
      let level = even k (read_of key) t e in
      one_changes c (answered reply m)
      (goes_further k m (answered reply m) g
      (goes_answered reply m (lt-ltb (length m.replies) (length m.calls) (omega (arith, n, level)))
      (shown_may k.session.asked f.form reply f.asked f.fits (look_shows_value s.chain c key reply r)) g.connected))

  peeks_go : (c : ℕ) (o : Option (List ℕ)) → key_due (served_at s c).due ≡ o → AllGoOn s (peeking does s c o)
  peeks_go c None e = none_changes
  peeks_go c (Some key) e = peeked_goes c key (look_reply s.chain c key) (due_read (served_at s c).due key e) refl

  refuses_go : (c : ℕ) (due : Option Call) → (served_at s c).due ≡ due → AllGoOn s (refusing s c due)
  refuses_go c None e = none_changes
  refuses_go c (Some call) e =
      cond_both (is_store call.op) (with_served s c (refused (served_at s c))) s (λ t. AllGoOn s t)
      (λ store. one_changes c (refused (served_at s c)) (goes_refused call (served_at s c) e store (h c (s.ended c))))
      (λ other. none_changes)

  answers_go : (c : ℕ) (queued : List Reply) → AllGoOn s (answering does s c queued)
  answers_go c [] = none_changes
  answers_go c (reply ∷ more) =
      let k = served_at s c in
      cond_both (waits k && may_have k.session.asked reply) (with_move does s (Receives c) c (answered reply k)) s
      (λ t. AllGoOn s t)
      (λ both.
      (let b = and_parts (waits k) (may_have k.session.asked reply) both in
      one_changes c (answered reply k) (goes_answered reply k b.0 b.1 (h c (s.ended c)))))
      (λ not_both. none_changes)

  -- each move
  each_goes : (m : ServingMove) → AllGoOn s (served_by does s m)
  each_goes (Reads c piece) =
      let k = served_at s c in
      one_changes c (heard piece k) (same k (heard piece k) (connected_heard piece k (h c (s.ended c))) refl refl)
  each_goes (Begins c) = one_changes c (begun (served_at s c)) (goes_begun (served_at s c) (h c (s.ended c)))
  each_goes (Asks c) = asks_go c (served_at s c).due refl
  each_goes (Peeks c) = peeks_go c (key_due (served_at s c).due) refl
  each_goes (Refuses c) = refuses_go c (served_at s c).due refl
  each_goes (Answers c) = answers_go c (s.chain.seats c).queued
  each_goes (Writes c n) =
      let k = served_at s c in
      one_changes c (wrote n k) (same k (wrote n k) (connected_wrote n k (h c (s.ended c))) refl refl)
  each_goes (Ends c) = none_changes
  each_goes (Runs m) =
      cond_both (is_of_seat m) s (record s { chain = does s.chain m }) (λ t. AllGoOn s t) (λ seat. none_changes)
      (λ other. none_changes)

-- ---- runs

module _ (does : Doing) where
  all_go : (ms : List ServingMove) (s : ServingChain) → AreConnected s → AllGoOn s (served_from does s ms)
  all_go [] s h = none_changes does s h
  all_go (m ∷ ms) s h =
      let one = each_goes does s h m in
      let rest = all_go ms (served_by does s m) (λ c n. (one c n).connected) in
      λ c n.
      goes_further (s.connections c n) ((served_by does s m).connections c n)
      ((served_from does (served_by does s m) ms).connections c n) (one c n) (rest c n)

  -- from the first k moves on to the end
  goes_from : (k : ℕ) (ms : List ServingMove) (s : ServingChain)
      → AreConnected s
      → AllGoOn (served_from does s (take k ms)) (served_from does s ms)
  goes_from zero ms s h = all_go ms s h
  goes_from (suc k) [] s h = none_changes does s h
  goes_from (suc k) (m ∷ ms) s h =
      let one = each_goes does s h m in
      goes_from k ms (served_by does s m) (λ c n. (one c n).connected)

  module _ (count : ℕ) (homes : List ℕ) (moves : List ServingMove) where
    -- from the first k moves to the end
    pub goes : (k c n : ℕ)
        → GoesOn ((served does count homes (take k moves)).connections c n)
        ((served does count homes moves).connections c n)
    goes k c n = goes_from k moves (opening_serving count homes) (λ d e. connected_opening) c n

    -- from the first j moves to the first k
    pub goes_between : (j k c n : ℕ)
        → j ≤ k
        → GoesOn ((served does count homes (take j moves)).connections c n)
        ((served does count homes (take k moves)).connections c n)
    goes_between j k c n l =
        subst
        (λ ms. GoesOn ((served does count homes ms).connections c n)
        ((served does count homes (take k moves)).connections c n)) (take-take j k moves l)
        (goes_from j (take k moves) (opening_serving count homes) (λ d e. connected_opening) c n)

    -- each connection got what its bytes ask for, whatever moves do with the chain
    pub served_by_any : (c n : ℕ) → IsServed ((served does count homes moves).connections c n)
    served_by_any c n = is_served ((served does count homes moves).connections c n) (goes 0 c n).connected
