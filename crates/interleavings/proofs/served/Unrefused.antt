-- In a run in which no call is refused, each call comes to its reply.
use Rattle.std.proofs.Common.{◌≡◌, ℕ, Bool, true, false, cond, List, [], ◌∷◌, ◌++◌, map, Option, None, Some, refl}
use Rattle.std.proofs.Common.{ap, ◌∙◌}
use Rattle.std.specs.Prelude.{◌&&◌, is_some}
use Rattle.table.specs.declared.operations.Call.{Call}
use Rattle.table.specs.declared.operations.Reply.{Reply}
use Rattle.proto.specs.Turns.{Replied, call_of}
use Rattle.proto.specs.Sessions.{next_of}
use Rattle.interleavings.specs.Moves.{Sends, Receives, is_free, read_of}
use Rattle.interleavings.specs.OtherMoves.{Doing}
use Rattle.interleavings.specs.Connections.{Connection, heard, begun, made, answered, wrote, waits, may_have}
use Rattle.interleavings.specs.ServingMoves.{ServingChain, ServingMove, Reads, Begins, Asks, Peeks, Refuses, Answers}
use Rattle.interleavings.specs.ServingMoves.{Writes, Ends, Runs, served_at, with_served, with_move, asking, key_due}
use Rattle.interleavings.specs.ServingMoves.{look_reply, peeked, peeking, answering, is_of_seat, is_refusal}
use Rattle.interleavings.specs.ServingMoves.{opening_serving, served_by, served_from, served}
use Rattle.interleavings.specs.Served.{NoneRefused}
use Rattle.interleavings.proofs.served.Steps.{for_each}

-- all outcomes of a connection are its replies
abbrev IsReplied : Connection → Type 0
IsReplied k = k.outcomes ≡ map Replied k.replies

-- so it is of all connections
abbrev AreReplied : ServingChain → Type 0
AreReplied s = (c n : ℕ) → IsReplied (s.connections c n)

-- a reply more
replied_more : (rs : List Reply) (r : Reply) → map Replied rs ++ Replied r ∷ [] ≡ map Replied (rs ++ r ∷ [])
replied_more [] r = refl
replied_more (s ∷ rs) r = ap (λ os. Replied s ∷ os) (replied_more rs r)

answered_replied : (k : Connection) (reply : Reply) → IsReplied k → IsReplied (answered reply k)
answered_replied k reply h = ap (λ os. os ++ Replied reply ∷ []) h ∙ replied_more k.replies reply

-- of what a test chooses
either : {X : Type 0} (P : X → Type 0) (b : Bool) (x y : X) → P x → P y → P (cond b x y)
either P true x y h i = h
either P false x y h i = i

begun_replied : (k : Connection) → IsReplied k → IsReplied (begun k)
begun_replied k h =
    either IsReplied (is_some k.session.asked) k
    (record k { session = (next_of k.session).1; due = call_of (next_of k.session).0 }) h h

-- one connection changes
changed : (s : ServingChain) (c : ℕ) (k : Connection) → AreReplied s → IsReplied k → AreReplied (with_served s c k)
changed s c k all one = for_each (λ d n m. IsReplied m) s c k all one

module _ (does : Doing) where
  asks_replied : (s : ServingChain) (c : ℕ) (due : Option Call) → AreReplied s → AreReplied (asking does s c due)
  asks_replied s c None all = all
  asks_replied s c (Some call) all =
      let k = served_at s c in
      either AreReplied (is_free (s.chain.seats c)) (with_move does s (Sends c call) c (made call k)) s
      (changed s c (made call k) all (all c (s.ended c))) all

  peeked_replied : (s : ServingChain) (c : ℕ) (key : List ℕ) (reply : Option Reply)
      → AreReplied s
      → AreReplied (peeked does s c key reply)
  peeked_replied s c key None all = all
  peeked_replied s c key (Some reply) all =
      let k = made (read_of key) (served_at s c) in
      changed s c (answered reply k) all (answered_replied k reply (all c (s.ended c)))

  peeks_replied : (s : ServingChain) (c : ℕ) (key : Option (List ℕ))
      → AreReplied s
      → AreReplied (peeking does s c key)
  peeks_replied s c None all = all
  peeks_replied s c (Some key) all = peeked_replied s c key (look_reply s.chain c key) all

  answers_replied : (s : ServingChain) (c : ℕ) (queued : List Reply)
      → AreReplied s
      → AreReplied (answering does s c queued)
  answers_replied s c [] all = all
  answers_replied s c (reply ∷ more) all =
      let k = served_at s c in
      either AreReplied (waits k && may_have k.session.asked reply)
      (with_move does s (Receives c) c (answered reply k)) s
      (changed s c (answered reply k) all (answered_replied k reply (all c (s.ended c)))) all

  move_replied : (s : ServingChain) (m : ServingMove)
      → is_refusal m ≡ false
      → AreReplied s
      → AreReplied (served_by does s m)
  move_replied s (Reads c piece) e all = changed s c (heard piece (served_at s c)) all (all c (s.ended c))
  move_replied s (Begins c) e all =
      changed s c (begun (served_at s c)) all (begun_replied (served_at s c) (all c (s.ended c)))
  move_replied s (Asks c) e all = asks_replied s c (served_at s c).due all
  move_replied s (Peeks c) e all = peeks_replied s c (key_due (served_at s c).due) all
  move_replied s (Refuses c) e all = absurd (let no : true ≡ false = e in cc)
  move_replied s (Answers c) e all = answers_replied s c (s.chain.seats c).queued all
  move_replied s (Writes c n) e all = changed s c (wrote n (served_at s c)) all (all c (s.ended c))
  move_replied s (Ends c) e all = all
  move_replied s (Runs m) e all = either AreReplied (is_of_seat m) s (record s { chain = does s.chain m }) all all

  from_replied : (ms : List ServingMove) (s : ServingChain)
      → NoneRefused ms
      → AreReplied s
      → AreReplied (served_from does s ms)
  from_replied [] s none all = all
  from_replied (m ∷ ms) s none all =
      from_replied ms (served_by does s m) none.1 (move_replied s m none.0 all)

  -- after a run
  pub all_replied : (count : ℕ) (homes : List ℕ) (moves : List ServingMove)
      → NoneRefused moves
      → (c n : ℕ)
      → ((served does count homes moves).connections c n).outcomes
      ≡ map Replied ((served does count homes moves).connections c n).replies
  all_replied count homes moves none =
      from_replied moves (opening_serving count homes) none (λ c n. refl)
