-- Each move of a chain that serves is such a step.
use Rattle.std.proofs.Common.{◌≡◌, ℕ, suc, ◌+◌, ◌<◌, ◌≤◌, Bool, true, false, cond, List, [], ◌∷◌, ◌++◌, length}
use Rattle.std.proofs.Common.{Option, None, Some, refl, arith, ap, sym, inl, inr, subst, length-append}
use Rattle.std.specs.Prelude.{◌&&◌, is_some}
use Rattle.std.proofs.lemmas.Bool.{cases_eq, ltb-true, lt-ltb, eqb-true}
use Rattle.std.proofs.lemmas.Option.{same_Some}
use Rattle.table.specs.Operations.{is_value}
use Rattle.table.specs.declared.operations.Call.{Call}
use Rattle.table.specs.declared.operations.Op.{Op}
use Rattle.table.specs.declared.operations.Op.TheVariants.{Read, Set, Add, Replace, Append, Prepend, Cas, Incr, Decr}
use Rattle.table.specs.declared.operations.Op.TheVariants.{Delete, Flush}
use Rattle.table.specs.declared.operations.Target.{Target}
use Rattle.table.specs.declared.operations.Target.TheVariants.{One, All}
use Rattle.table.specs.declared.operations.Reply.{Reply}
use Rattle.node.proofs.Lists.{get_front}
use Rattle.proto.specs.declared.texts.Form.{Form}
use Rattle.proto.specs.Turns.{is_store, call_of}
use Rattle.proto.specs.Sessions.{next_of, shows}
use Rattle.proto.specs.Runs.{open_calls}
use Rattle.interleavings.specs.Chains.{with_at}
use Rattle.interleavings.specs.Moves.{Move, Sends, Takes, Publishes, Puts, Arrives, Replies, Receives, Looks, Stops}
use Rattle.interleavings.specs.Moves.{Notices, is_free, read_of, done}
use Rattle.interleavings.specs.Asked.{IsAskedBy}
use Rattle.interleavings.specs.Connections.{Connection, heard, begun, made, answered, refused, wrote, waits}
use Rattle.interleavings.specs.Connections.{may_have}
use Rattle.interleavings.specs.ServingMoves.{ServingChain, ServingMove, Reads, Begins, Asks, Peeks, Refuses, Answers}
use Rattle.interleavings.specs.ServingMoves.{Writes, Ends, Runs, served_at, with_served, with_move, refusing, asking}
use Rattle.interleavings.specs.ServingMoves.{key_read, key_due, look_reply, peeked, peeking, answering, is_of_seat}
use Rattle.interleavings.specs.ServingMoves.{served_by}
use Rattle.interleavings.proofs.lists.ChangedFunctions.{at_same, at_other, at_self}
use Rattle.interleavings.proofs.served.Connected.{as_list, IsConnected, connected_heard, connected_begun}
use Rattle.interleavings.proofs.served.Connected.{connected_made, connected_answered, connected_wrote, counted}
use Rattle.interleavings.proofs.served.Connected.{is_served}
use Rattle.interleavings.proofs.served.AskedTurns.{due_asked}
use Rattle.interleavings.proofs.served.Forms.{due_form}
use Rattle.interleavings.proofs.served.Refusing.{connected_refused}
use Rattle.interleavings.proofs.served.InTurn.{InTurn, turn_asked, turn_peeked, turn_answered, turn_ended}
use Rattle.interleavings.proofs.served.ChainMoves.{sends_seats, looks_seats, receives_seats, look_shows_value}
use Rattle.interleavings.proofs.served.ChainMoves.{others_same}
use Rattle.interleavings.proofs.served.Steps.{calls_at, replies_at, IsInOrder, makes_none, IsStep, stays, session_step}
use Rattle.interleavings.proofs.served.Steps.{seat_step}

-- ---- the session alone

begun_same : {X : Type 0} (view : Connection → X) (b : Bool) (k m : Connection)
    → view m ≡ view k
    → view (cond b k m) ≡ view k
begun_same view true k m e = refl
begun_same view false k m e = e

reads_step : (s : ServingChain) (c : ℕ) (piece : List ℕ) → IsInOrder s → IsStep s (served_by done s (Reads c piece))
reads_step s c piece h =
    session_step s c (heard piece (served_at s c)) h
    (connected_heard piece (served_at s c) (h.connected c (s.ended c))) refl refl

begins_step : (s : ServingChain) (c : ℕ) → IsInOrder s → IsStep s (served_by done s (Begins c))
begins_step s c h =
    let k = served_at s c in
    let m = record k { session = (next_of k.session).1; due = call_of (next_of k.session).0 } in
    session_step s c (begun k) h (connected_begun k (h.connected c (s.ended c)))
    (begun_same (λ (x : Connection). x.calls) (is_some k.session.asked) k m refl)
    (begun_same (λ (x : Connection). x.replies) (is_some k.session.asked) k m refl)

writes_step : (s : ServingChain) (c n : ℕ) → IsInOrder s → IsStep s (served_by done s (Writes c n))
writes_step s c n h =
    session_step s c (wrote n (served_at s c)) h (connected_wrote n (served_at s c) (h.connected c (s.ended c))) refl
    refl

-- ---- the next connection

ends_step : (s : ServingChain) (c : ℕ) → IsInOrder s → IsStep s (served_by done s (Ends c))
ends_step s c h = record {
  moves = [];
  chain = refl;
  short = omega arith;
  asked = tt;
  order = record {
    connected = h.connected;
    seats = λ d. elim (cases_eq d c) [
      | inl same ↦ subst
          (λ i. InTurn (s.chain.seats i).calls (s.chain.seats i).got (calls_at s i) (replies_at s i)
          (with_at s.ended c (suc (s.ended c)) i)) (sym same)
          (subst (InTurn (s.chain.seats c).calls (s.chain.seats c).got (calls_at s c) (replies_at s c))
          (sym (at_same s.ended c (suc (s.ended c))))
          (turn_ended (s.chain.seats c).calls (s.chain.seats c).got (calls_at s c) (replies_at s c) (s.ended c)
          (h.seats c)))
      | inr other ↦ subst (InTurn (s.chain.seats d).calls (s.chain.seats d).got (calls_at s d) (replies_at s d))
          (sym (at_other s.ended c (suc (s.ended c)) d other)) (h.seats d)
    ];
  };
  grows = record {
    ended = λ d. elim (cases_eq d c) [
      | inl same ↦ subst (λ i. s.ended i ≤ with_at s.ended c (suc (s.ended c)) i) (sym same)
          (subst (λ n. s.ended c ≤ n) (sym (at_same s.ended c (suc (s.ended c)))) (omega arith))
      | inr other ↦ subst (λ n. s.ended d ≤ n) (sym (at_other s.ended c (suc (s.ended c)) d other)) (omega arith)
    ];
    over = λ d n l. refl;
    calls = λ d n q call e. e;
  };
  makes = makes_none s;
}

-- ---- moves of the chain

asked_others : (m : Move) → is_of_seat m ≡ false → IsAskedBy m
asked_others (Sends c call) e = absurd (let no : true ≡ false = e in cc)
asked_others (Takes i sender) e = tt
asked_others (Publishes i) e = tt
asked_others (Puts i j) e = tt
asked_others (Arrives i j) e = tt
asked_others (Replies i c) e = tt
asked_others (Receives c) e = tt
asked_others (Looks c key) e = absurd (let no : true ≡ false = e in cc)
asked_others (Stops i) e = tt
asked_others (Notices i j) e = tt

runs_step : (s : ServingChain) (m : Move) → IsInOrder s → IsStep s (served_by done s (Runs m))
runs_step s m h = by_seat (is_of_seat m) refl
  where
    by_seat : (b : Bool) → is_of_seat m ≡ b → IsStep s (cond b s (record s { chain = done s.chain m }))
    by_seat true e = stays s h
    by_seat false e = record {
      moves = m ∷ [];
      chain = refl;
      short = omega arith;
      asked = (asked_others m e, tt);
      order = record {
        connected = h.connected;
        seats = λ d. let o = others_same s.chain m d e in rw (o.calls, o.got) (h.seats d);
      };
      grows = record {
        ended = λ d. omega arith;
        over = λ d n l. refl;
        calls = λ d n q call g. g;
      };
      makes = makes_none s;
    }

-- ---- calls

open_below : (o : Option Form) → open_calls o ≤ 1
open_below None = omega arith
open_below (Some form) = omega arith

-- if a call is to be made, all others have their replies
pub even : (k : Connection) (call : Call) → IsConnected k → k.due ≡ Some call → length k.replies ≡ length k.calls
even k call t e =
    let n : length k.replies + open_calls k.session.asked ≡ length k.calls + 1 =
    subst (λ d. length k.replies + open_calls k.session.asked ≡ length k.calls + length (as_list d)) e (counted k t) in
    let o = open_below k.session.asked in
    let f = t.few in
    omega (arith, n, o, f)

-- so the call that is made comes after as many replies
one_more : (k : Connection) (call : Call)
    → length k.replies ≡ length k.calls
    → (q : ℕ)
    → length k.calls ≤ q
    → q < length (k.calls ++ call ∷ [])
    → length k.replies ≡ q
one_more k call same q past within =
    let n = length-append k.calls (call ∷ []) in
    omega (arith, same, past, within, n)

asks_step : (s : ServingChain) (c : ℕ) → IsInOrder s → IsStep s (served_by done s (Asks c))
asks_step s c h = by_due (served_at s c).due refl
  where
    t : IsConnected (served_at s c)
    t = h.connected c (s.ended c)

    by_free : (call : Call) (b : Bool)
        → (served_at s c).due ≡ Some call
        → is_free (s.chain.seats c) ≡ b
        → IsStep s (cond b (with_move done s (Sends c call) c (made call (served_at s c))) s)
    by_free call false e free = stays s h
    by_free call true e free =
        let seat = s.chain.seats c in
        seat_step s c (made call (served_at s c)) (Sends c call) (record seat { calls = seat.calls ++ call ∷ [] }) h
        (connected_made call (served_at s c) e t) (due_asked (served_at s c) t call e)
        (sends_seats s.chain c call free)
        (λ q other g. get_front (served_at s c).calls (call ∷ []) q other g)
        (one_more (served_at s c) call (even (served_at s c) call t e))
        (subst (λ (rs : ℕ → List Reply). InTurn (seat.calls ++ call ∷ []) seat.got
        (with_at (calls_at s c) (s.ended c) (calls_at s c (s.ended c) ++ call ∷ [])) rs (s.ended c))
        (sym (at_self (replies_at s c) (s.ended c)))
        (turn_asked seat.calls seat.got (calls_at s c) (replies_at s c) (s.ended c) (h.seats c) call
        (eqb-true (length seat.calls) (length seat.got) free) (even (served_at s c) call t e)))

    by_due : (due : Option Call) → (served_at s c).due ≡ due → IsStep s (asking done s c due)
    by_due None e = stays s h
    by_due (Some call) e = by_free call (is_free (s.chain.seats c)) e refl

-- a call that reads a key
key_is : (target : Target) (op : Op) (key : List ℕ)
    → key_read target op ≡ Some key
    → record { target = target; op = op } ≡ read_of key
key_is All op key e = absurd (let no : None ≡ Some key = e in cc)
key_is (One k) Read key e = ap read_of (same_Some k key e)
key_is (One k) (Set flags block) key e = absurd (let no : None ≡ Some key = e in cc)
key_is (One k) (Add flags block) key e = absurd (let no : None ≡ Some key = e in cc)
key_is (One k) (Replace flags block) key e = absurd (let no : None ≡ Some key = e in cc)
key_is (One k) (Append block) key e = absurd (let no : None ≡ Some key = e in cc)
key_is (One k) (Prepend block) key e = absurd (let no : None ≡ Some key = e in cc)
key_is (One k) (Cas flags block unique) key e = absurd (let no : None ≡ Some key = e in cc)
key_is (One k) (Incr amount) key e = absurd (let no : None ≡ Some key = e in cc)
key_is (One k) (Decr amount) key e = absurd (let no : None ≡ Some key = e in cc)
key_is (One k) Delete key e = absurd (let no : None ≡ Some key = e in cc)
key_is (One k) Flush key e = absurd (let no : None ≡ Some key = e in cc)

-- so it is if that call is due
pub due_read : (due : Option Call) (key : List ℕ) → key_due due ≡ Some key → due ≡ Some (read_of key)
due_read None key e = absurd (let no : None ≡ Some key = e in cc)
due_read (Some call) key e = ap (λ x. Some x) (key_is call.target call.op key e)

-- an item, or none, can be the answer to a read
pub shown_may : (asked : Option Form) (form : Form) (reply : Reply)
    → asked ≡ Some form
    → shows form ≡ true
    → is_value reply ≡ true
    → may_have asked reply ≡ true
shown_may asked form reply e s v = rw (e, s, v) refl

peeks_step : (s : ServingChain) (c : ℕ) → IsInOrder s → IsStep s (served_by done s (Peeks c))
peeks_step s c h = by_key (key_due (served_at s c).due) refl
  where
    t : IsConnected (served_at s c)
    t = h.connected c (s.ended c)

    by_reply : (key : List ℕ) (o : Option Reply)
        → (served_at s c).due ≡ Some (read_of key)
        → look_reply s.chain c key ≡ o
        → IsStep s (peeked done s c key o)
    by_reply key None e r = stays s h
    by_reply key (Some reply) e r =
        let seat = s.chain.seats c in
        let k = made (read_of key) (served_at s c) in
        let l = looks_seats s.chain c key reply r in
        let same = even (served_at s c) (read_of key) t e in
        let n = length-append (served_at s c).calls (read_of key ∷ []) in
        let f = due_form (served_at s c) t (read_of key) e in
        seat_step s c (answered reply k) (Looks c key)
        (record seat { calls = seat.calls ++ read_of key ∷ []; got = seat.got ++ reply ∷ [] }) h
        (connected_answered reply k (lt-ltb (length k.replies) (length k.calls) (omega (arith, n, same)))
        (shown_may (served_at s c).session.asked f.form reply f.asked f.fits (look_shows_value s.chain c key reply r))
        (connected_made (read_of key) (served_at s c) e t)) (due_asked (served_at s c) t (read_of key) e) l.1
        (λ q other g. get_front (served_at s c).calls (read_of key ∷ []) q other g)
        (one_more (served_at s c) (read_of key) same)
        (turn_peeked seat.calls seat.got (calls_at s c) (replies_at s c) (s.ended c) (h.seats c) (read_of key) reply
        (eqb-true (length seat.calls) (length seat.got) l.0) same)

    by_key : (o : Option (List ℕ)) → key_due (served_at s c).due ≡ o → IsStep s (peeking done s c o)
    by_key None e = stays s h
    by_key (Some key) e = by_reply key (look_reply s.chain c key) (due_read (served_at s c).due key e) refl

refuses_step : (s : ServingChain) (c : ℕ) → IsInOrder s → IsStep s (served_by done s (Refuses c))
refuses_step s c h = by_due (served_at s c).due refl
  where
    by_store : (call : Call) (b : Bool)
        → (served_at s c).due ≡ Some call
        → is_store call.op ≡ b
        → IsStep s (cond b (with_served s c (refused (served_at s c))) s)
    by_store call false e store = stays s h
    by_store call true e store =
        session_step s c (refused (served_at s c)) h
        (connected_refused call (served_at s c) e store (h.connected c (s.ended c))) refl refl

    by_due : (due : Option Call) → (served_at s c).due ≡ due → IsStep s (refusing s c due)
    by_due None e = stays s h
    by_due (Some call) e = by_store call (is_store call.op) e refl

answers_step : (s : ServingChain) (c : ℕ) → IsInOrder s → IsStep s (served_by done s (Answers c))
answers_step s c h = by_mail (s.chain.seats c).queued refl
  where
    t : IsConnected (served_at s c)
    t = h.connected c (s.ended c)

    by_guard : (reply : Reply) (more : List Reply) (a b : Bool)
        → (s.chain.seats c).queued ≡ reply ∷ more
        → waits (served_at s c) ≡ a
        → may_have (served_at s c).session.asked reply ≡ b
        → IsStep s (cond (a && b) (with_move done s (Receives c) c (answered reply (served_at s c))) s)
    by_guard reply more false b e w may = stays s h
    by_guard reply more true false e w may = stays s h
    by_guard reply more true true e w may =
        let seat = s.chain.seats c in
        let k = served_at s c in
        seat_step s c (answered reply k) (Receives c) (record seat { got = seat.got ++ reply ∷ []; queued = more }) h
        (connected_answered reply k w may t) tt (receives_seats s.chain c reply more e) (λ q other g. g)
        (λ q past within. absurd (omega (arith, past, within)))
        (subst (λ (cs : ℕ → List Call). InTurn seat.calls (seat.got ++ reply ∷ []) cs
        (with_at (replies_at s c) (s.ended c) (replies_at s c (s.ended c) ++ reply ∷ [])) (s.ended c))
        (sym (at_self (calls_at s c) (s.ended c)))
        (turn_answered seat.calls seat.got (calls_at s c) (replies_at s c) (s.ended c) (h.seats c) reply
        (ltb-true (length k.replies) (length k.calls) w) (is_served k t).one_open))

    by_mail : (queued : List Reply) → (s.chain.seats c).queued ≡ queued → IsStep s (answering done s c queued)
    by_mail [] e = stays s h
    by_mail (reply ∷ more) e =
        by_guard reply more (waits (served_at s c)) (may_have (served_at s c).session.asked reply) e refl refl

-- each move
pub step : (s : ServingChain) (m : ServingMove) → IsInOrder s → IsStep s (served_by done s m)
step s (Reads c piece) h = reads_step s c piece h
step s (Begins c) h = begins_step s c h
step s (Asks c) h = asks_step s c h
step s (Peeks c) h = peeks_step s c h
step s (Refuses c) h = refuses_step s c h
step s (Answers c) h = answers_step s c h
step s (Writes c n) h = writes_step s c n h
step s (Ends c) h = ends_step s c h
step s (Runs m) h = runs_step s m h
