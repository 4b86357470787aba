-- What only grows along a run of a leased chain: who was called gone, what has arrived, was put and was written, and
-- what seats hold.
use Rattle.std.proofs.Common.{◌≡◌, ℕ, zero, suc, ◌+◌, ◌≤◌, Bool, true, false, cond, List, [], ◌∷◌, ◌++◌, length, take}
use Rattle.std.proofs.Common.{refl, arith, ap, ◌∙◌, length-append, inl, inr}
use Rattle.std.specs.Prelude.{nat_lt, not, ◌&&◌}
use Rattle.std.proofs.lemmas.Bool.{cases_eq}
use Rattle.table.specs.Items.{Item}
use Rattle.table.specs.declared.operations.Reply.{Reply}
use Rattle.node.specs.declared.looks.Look.{Look}
use Rattle.node.specs.declared.looks.Look.TheVariants.{Clean, Dirty}
use Rattle.node.specs.declared.messages.Peer.{Peer}
use Rattle.node.specs.Faces.{face_of, look_at}
use Rattle.interleavings.specs.Chains.{Seat, Chain, with_at, messages_to, replies_to}
use Rattle.interleavings.specs.Moves.{Move, Sends, Takes, Publishes, Puts, Arrives, Replies, Receives, Looks, Stops}
use Rattle.interleavings.specs.Moves.{Notices, is_free, looked, put, received, reply_put}
use Rattle.interleavings.specs.Moves as moves
use Rattle.interleavings.specs.LeasedMoves.{LeasedChain, LeasedMove, Does, Calls, Writes, with_leases, first_alone}
use Rattle.interleavings.specs.LeasedMoves.{counted, may_be_called, leased_by, leased_from, put_for}
use Rattle.interleavings.proofs.lists.ChangedFunctions.{at_same, at_other}
use Rattle.interleavings.proofs.leased.SeatGrowth.{AllGrow, seat_same, seat_then, leased_grows}
use Rattle.interleavings.proofs.leased.Beside.{pair_same, pair_other, pair_cases}

-- The leased chain t is one that s has become.
pub record Later (s t : LeasedChain) : Type 0 where
  pub called : (i : ℕ) → s.called i ≡ true → t.called i ≡ true
  pub arrived : (i j : ℕ) → s.arrived i j ≤ t.arrived i j
  pub written : (c : ℕ) → s.written c ≤ t.written c
  pub put : (i j : ℕ) → put_for s i j ≤ put_for t i j
  pub seats : AllGrow s.chain t.chain

pub later_same : (s : LeasedChain) → Later s s
later_same s = record {
  called = λ i e. e;
  arrived = λ i j. omega arith;
  written = λ c. omega arith;
  put = λ i j. omega arith;
  seats = λ c. seat_same (s.chain.seats c);
}

pub later_then : (s t u : LeasedChain) → Later s t → Later t u → Later s u
later_then s t u a b = record {
  called = λ i e. b.called i (a.called i e);
  arrived = λ i j. (let x = a.arrived i j in let y = b.arrived i j in omega (arith, x, y));
  written = λ c. (let x = a.written c in let y = b.written c in omega (arith, x, y));
  put = λ i j. (let x = a.put i j in let y = b.put i j in omega (arith, x, y));
  seats = λ c. seat_then (s.chain.seats c) (t.chain.seats c) (u.chain.seats c) (a.seats c) (b.seats c);
}

-- ---- one move of the running chain

counted_more : (arrived : ℕ → ℕ → ℕ) (l : Chain) (m : Move) (p q : ℕ) → arrived p q ≤ counted arrived l m p q
counted_more arrived l (Sends c call) p q = omega arith
counted_more arrived l (Takes i sender) p q = omega arith
counted_more arrived l (Publishes i) p q = omega arith
counted_more arrived l (Puts i j) p q = omega arith
counted_more arrived l (Arrives i j) p q = elim (pair_cases p q i j) [
  | inl same ↦ rw same.0 (rw same.1 (
      let a = pair_same arrived i j (arrived i j + first_alone (l.channels i j)) in
      omega (arith, a)))
  | inr other ↦
      let a = pair_other arrived i j (arrived i j + first_alone (l.channels i j)) p q other in
      omega (arith, a)
]
counted_more arrived l (Replies i c) p q = omega arith
counted_more arrived l (Receives c) p q = omega arith
counted_more arrived l (Looks c key) p q = omega arith
counted_more arrived l (Stops i) p q = omega arith
counted_more arrived l (Notices i j) p q = omega arith

module _ (arrived : ℕ → ℕ → ℕ) (l : Chain) where
  -- at least as many messages were put in the chain k, of which so many have arrived
  abbrev MorePut : (ℕ → ℕ → ℕ) → Chain → Type 0
  MorePut after k = (p q : ℕ) → arrived p q + length (l.channels p q) ≤ after p q + length (k.channels p q)

  same_put : MorePut arrived l
  same_put p q = omega arith

  by_test : (b : Bool) (k : Chain) → MorePut arrived k → MorePut arrived (cond b k l)
  by_test true k g = g
  by_test false k g = same_put

  by_other_test : (b : Bool) (k : Chain) → MorePut arrived k → MorePut arrived (cond b l k)
  by_other_test true k g = same_put
  by_other_test false k g = g

  one_put : (i j : ℕ) (ms : List Peer) → MorePut arrived (put l i j ms)
  one_put i j [] = same_put
  one_put i j (m ∷ ms) = λ p q. elim (pair_cases p q i j) [
    | inl same ↦ rw same.0 (rw same.1 (
        let a : length (with_at l.channels i (with_at (l.channels i) j (l.channels i j ++ m ∷ [])) i j)
        ≡ length (l.channels i j ++ m ∷ []) =
        ap (λ us. length us) (pair_same l.channels i j (l.channels i j ++ m ∷ [])) in
        let n = length-append (l.channels i j) (m ∷ []) in
        omega (arith, a, n)))
    | inr other ↦
        let a : length (with_at l.channels i (with_at (l.channels i) j (l.channels i j ++ m ∷ [])) p q)
        ≡ length (l.channels p q) =
        ap (λ us. length us) (pair_other l.channels i j (l.channels i j ++ m ∷ []) p q other) in
        omega (arith, a)
  ]

  one_arrived : (i j : ℕ) (ms : List Peer)
      → l.channels i j ≡ ms
      → MorePut (with_at arrived i (with_at (arrived i) j (arrived i j + first_alone ms))) (moves.arrived l i j ms)
  one_arrived i j [] e = λ p q. elim (pair_cases p q i j) [
    | inl same ↦ rw same.0 (rw same.1 (
        let a = pair_same arrived i j (arrived i j + 0) in
        omega (arith, a)))
    | inr other ↦
        let a = pair_other arrived i j (arrived i j + 0) p q other in
        omega (arith, a)
  ]
  one_arrived i j (m ∷ ms) e = λ p q. elim (pair_cases p q i j) [
    | inl same ↦ rw same.0 (rw same.1 (
        let a = pair_same arrived i j (arrived i j + 1) in
        let b : length (with_at l.channels i (with_at (l.channels i) j ms) i j) ≡ length ms =
        ap (λ us. length us) (pair_same l.channels i j ms) in
        let n : length (l.channels i j) ≡ suc (length ms) = ap (λ us. length us) e in
        omega (arith, a, b, n)))
    | inr other ↦
        let a = pair_other arrived i j (arrived i j + 1) p q other in
        let b : length (with_at l.channels i (with_at (l.channels i) j ms) p q) ≡ length (l.channels p q) =
        ap (λ us. length us) (pair_other l.channels i j ms p q other) in
        omega (arith, a, b)
  ]

  one_received : (c : ℕ) (s : Seat) (rs : List Reply)
      → MorePut arrived (received l c s rs)
  one_received c s [] = same_put
  one_received c s (reply ∷ more) = same_put

  one_looked : (c : ℕ) (s : Seat) (key : List ℕ)
      (look : Look Item)
      → MorePut arrived (looked l c s key look)
  one_looked c s key (Clean item) = same_put
  one_looked c s key Dirty = same_put

  one_replied : (i c : ℕ) (s : Seat) (rs : List Reply)
      → MorePut arrived (reply_put l i c s rs)
  one_replied i c s [] = same_put
  one_replied i c s (reply ∷ more) = same_put

  more_put : (called : ℕ → Bool) (m : Move) → MorePut (counted arrived l m) (with_leases called l m)
  more_put called (Sends c call) = by_test (is_free (l.seats c)) _ same_put
  more_put called (Takes i sender) = same_put
  more_put called (Publishes i) = same_put
  more_put called (Puts i j) =
      by_other_test (l.servers i).stopped _ (one_put i j (messages_to j (l.servers i).outbox))
  more_put called (Arrives i j) = one_arrived i j (l.channels i j) refl
  more_put called (Replies i c) =
      by_other_test (l.servers i).stopped _ (one_replied i c (l.seats c) (replies_to c (l.servers i).outbox))
  more_put called (Receives c) = one_received c (l.seats c) (l.seats c).queued
  more_put called (Looks c key) =
      let s = l.seats c in
      let shown = look_at (face_of (l.servers s.home).node) key in
      by_test (is_free s && not (l.servers s.home).stopped) (looked l c s key shown) (one_looked c s key shown)
  more_put called (Stops i) = same_put
  more_put called (Notices i j) = by_test _ _ same_put

-- ---- one move, and a run

pub later_by : (s : LeasedChain) (m : LeasedMove) → Later s (leased_by s m)
later_by s (Does m) = record {
  called = λ i e. e;
  arrived = counted_more s.arrived s.chain m;
  written = λ c. omega arith;
  put = more_put s.arrived s.chain s.called m;
  seats = leased_grows s.chain s.called m;
}
later_by s (Calls i) = by (may_be_called s i)
  where
    kept : (k : ℕ) → s.called k ≡ true → with_at s.called i true k ≡ true
    kept k e = elim (cases_eq k i) [
      | inl same ↦ rw same (at_same s.called i true)
      | inr other ↦ at_other s.called i true k other ∙ e
    ]

    by : (b : Bool) → Later s (cond b (record s { called = with_at s.called i true }) s)
    by true = record {
      called = kept;
      arrived = λ i j. omega arith;
      written = λ c. omega arith;
      put = λ i j. omega arith;
      seats = λ c. seat_same (s.chain.seats c);
    }
    by false = later_same s
later_by s (Writes c) = by (nat_lt (s.written c) (length (s.chain.seats c).got))
  where
    more : (k : ℕ) → s.written k ≤ with_at s.written c (suc (s.written c)) k
    more k = elim (cases_eq k c) [
      | inl same ↦ rw same (let a = at_same s.written c (suc (s.written c)) in omega (arith, a))
      | inr other ↦ (let a = at_other s.written c (suc (s.written c)) k other in omega (arith, a))
    ]

    by : (b : Bool) → Later s (cond b (record s { written = with_at s.written c (suc (s.written c)) }) s)
    by true = record {
      called = λ i e. e;
      arrived = λ i j. omega arith;
      written = more;
      put = λ i j. omega arith;
      seats = λ c. seat_same (s.chain.seats c);
    }
    by false = later_same s

pub later_from : (ms : List LeasedMove) (s : LeasedChain) → Later s (leased_from s ms)
later_from [] s = later_same s
later_from (m ∷ ms) s =
    later_then s (leased_by s m) (leased_from (leased_by s m) ms) (later_by s m) (later_from ms (leased_by s m))

-- from some first k moves on to the end
pub later_at : (k : ℕ) (ms : List LeasedMove) (s : LeasedChain)
    → Later (leased_from s (take k ms)) (leased_from s ms)
later_at zero ms s = later_from ms s
later_at (suc k) [] s = later_same s
later_at (suc k) (m ∷ ms) s = later_at k ms (leased_by s m)
